use Rattle.std.proofs.Common.{◌∙◌, sym, ap, length}
use Rattle.nona_affine.proofs.Alike.{length_in}
use Rattle.nona_affine.proofs.tallies.Tally.len.Goals as goal

pub returns : goal.returns
returns c = c.len.ensures.len ∙ sym (length_in c.self.inside.turned c.self.inside.coefficients.entries) ∙ ap (λ f. length f.terms) c.self.view_is
