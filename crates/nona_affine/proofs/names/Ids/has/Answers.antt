use Rattle.std.proofs.Common.{◌∙◌, ap, sym}
use Rattle.nona_forms.specs.Affine.{among}
use Rattle.nona_affine.proofs.Members.{among_reversed, among_is_any}
use Rattle.nona_affine.proofs.names.Ids.has.Goals as goal

pub returns-then-self : goal.returns-then-self
returns-then-self c =
    c.is_found.ensures ∙ ap (among c.args.id) c.deref.ensures.value ∙ among_reversed c.args.id c.self.inside.oldest_first.items ∙ ap (among c.args.id) c.self.view_is

pub returns-else-self : goal.returns-else-self
returns-else-self c =
    c.is_listed.ensures ∙ sym (among_is_any c.args.id c.deref-else-self.result.now) ∙ ap (among c.args.id) c.deref-else-self.ensures.value
    ∙ among_reversed c.args.id c.self.inside.oldest_first.items ∙ ap (among c.args.id) c.self.view_is
