use Rattle.std.proofs.Common.{sym, ap, ◌∙◌}
use Rattle.nona_tree.specs.Seen.{Seen, array_id}
use Rattle.nona_check.proofs.KnownNames.{id_in_words}
use Rattle.nona_check.proofs.scope.Scope.array.Goals as goal

pub returns : goal.returns
returns c =
    c.find.ensures ∙ sym (id_in_words c.args.name.now c.self.inside.arrays)
    ∙ ap (λ (seen : Seen). array_id c.args.name.now seen) c.self.view_is
