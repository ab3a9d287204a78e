use Rattle.std.proofs.Common.{FitsSigned, w64, rules}
use Rattle.nona_affine.proofs.Pouring.{coefficient_fits}
use Rattle.nona_affine.proofs.Scaling.{scaled_from_pairs}
use Rattle.nona_affine.proofs.sums.scale.Goals as goal

pub returns-clause-entries : goal.returns-clause-entries
returns-clause-entries c =
    scaled_from_pairs _ c.args.factor _
    (λ i v b w f' t within product. let fits : FitsSigned w64 v = coefficient_fits v within in let given : FitsSigned w64 c.args.factor = c.ranges.factor in search rules)
    c.args.sums.now.entries c.retain.new.self.entries c.requires.used.all c.requires.within c.retain.ensures.filtered
