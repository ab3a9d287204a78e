use Rattle.std.proofs.Common.{◌≡◌, false, sym, ap, ◌∙◌}
use Rattle.std.proofs.lemmas.Bool.{or_parts}
use Rattle.nona_tree.specs.Seen.{Seen, is_scalar, is_array}
use Rattle.nona_check.proofs.KnownNames.{no_id_in_words}
use Rattle.nona_check.proofs.scope.Scope.declare_array.Goals as goal

pub declare-requires-clause-new : goal.declare-requires-clause-new
declare-requires-clause-new c =
    let name = c.args.name.now in
    let none : is_array name c.args.self.now ≡ false =
    (or_parts (is_scalar name c.args.self.now) (is_array name c.args.self.now) (sym c.is_seen.ensures ∙ c.if-is_seen.false)).1 in
    no_id_in_words name c.self.inside.arrays (ap (λ (seen : Seen). is_array name seen) c.self.view_is ∙ none)
