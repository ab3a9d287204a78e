use Rattle.std.proofs.Common.{rules, ◌∙◌, ap, negsuc, ℤ, Some, FitsSigned, w64}
use Rattle.std.proofs.lemmas.Int.{to_z-of_z}
use Rattle.nona_num.specs.declared.range.Range.{Range}
use Rattle.nona_forms.specs.Boxes.{sum_range, times_range}
use Rattle.nona_forms.specs.Verdicts.{range_in}
use Rattle.nona_affine.proofs.pairs.far_range.Goals as goal

pub returns : goal.returns
returns c =
    let fits_first : FitsSigned w64 c.args.first = c.ranges.first in
    let fits_low : FitsSigned w64 c.args.low = c.ranges.low in
    let fits_high : FitsSigned w64 c.args.high = c.ranges.high in
    let fits_other : FitsSigned w64 c.opposite_of.result = search rules in
    let own = simp to_z-of_z at c.small_index_part-own.ensures.range in
    let other = simp to_z-of_z at c.small_index_part-other.ensures.range in
    let fits_second : FitsSigned w64 c.args.second = c.ranges.second in
    let turned = simp to_z-of_z at c.opposite_of.ensures.opposite in
    let rest = sum_range c.args.left (times_range (negsuc 0) c.args.right) in
    c.all_range.ensures
    ∙ ap (λ (r : Range). sum_range (sum_range r c.small_index_part-other.result) rest) own
    ∙ ap (λ (r : Range). sum_range (sum_range (times_range c.args.first (range_in (Some (c.args.low, c.args.high)))) r) rest) (other ∙ ap (λ (z : ℤ). times_range z (range_in (Some (c.args.low, c.args.high)))) turned)
