use Rattle.std.proofs.Common.{◌∙◌, ap}
use Rattle.nona_forms.specs.Affine.{no_terms}
use Rattle.nona_affine.proofs.Scaling.{empty_is}
use Rattle.nona_affine.proofs.tallies.Tally.is_constant_alone.Goals as goal

pub returns : goal.returns
returns c = empty_is c.is_empty.result c.self.inside.turned c.self.inside.coefficients.entries c.is_empty.ensures ∙ ap (λ f. no_terms f.terms) c.self.view_is
