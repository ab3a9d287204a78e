use Rattle.std.proofs.Common.{◌∙◌, ap}
use Rattle.nona_forms.specs.Affine.{among}
use Rattle.nona_affine.proofs.Members.{missing_then, missing_else}
use Rattle.nona_affine.proofs.names.Invariants.has.Goals as goal

pub returns-then-id-self : goal.returns-then-id-self
returns-then-id-self c =
    missing_then c.self.inside.below c.self.inside.assigned.items c.args.id c.is_found.result c.if-id-self.true (c.is_found.ensures ∙ ap (among c.args.id) c.deref.ensures.value)
    ∙ ap (among c.args.id) c.self.view_is

pub returns-else-id-self : goal.returns-else-id-self
returns-else-id-self c =
    missing_else c.self.inside.below c.self.inside.assigned.items c.args.id c.if-id-self.false ∙ ap (among c.args.id) c.self.view_is
