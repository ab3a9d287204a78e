use Rattle.std.proofs.Common.{◌∙◌, ap}
use Rattle.nona_forms.specs.Affine.{among}
use Rattle.nona_affine.specs.Lists.{ids_in}
use Rattle.nona_affine.proofs.Members.{either_then, either_else}
use Rattle.nona_affine.proofs.names.Names.has.Goals as goal

pub returns-then-has : goal.returns-then-has
returns-then-has c =
    either_then c.args.id c.self.inside.ids (ids_in c.self.inside.invariants) c.has.result c.if-has.true c.has.ensures ∙ ap (among c.args.id) c.self.view_is

pub returns-else-has : goal.returns-else-has
returns-else-has c =
    either_else c.args.id c.self.inside.ids (ids_in c.self.inside.invariants) c.has.result c.is_invariant.result c.if-has.false c.has.ensures c.is_invariant.ensures
    ∙ ap (among c.args.id) c.self.view_is
