use Rattle.std.proofs.Common.{rules, ◌∙◌, ap, FitsSigned, w64}
use mir.Syntax.{w128}
use Rattle.std.proofs.lemmas.Int.{to_z-of_z}
use Rattle.nona_num.specs.declared.range.Range.{Range}
use Rattle.nona_forms.specs.Verdicts.{is_outside}
use Rattle.nona_affine.proofs.pairs.is_far.Goals as goal

pub returns-in-Some-right : goal.returns-in-Some-right
returns-in-Some-right c =
    let fits_first : FitsSigned w64 c.args.first = c.ranges.first in
    let fits_second : FitsSigned w64 c.args.second = c.ranges.second in
    let fits_number : FitsSigned w128 c.args.number = c.ranges.number in
    let fits_low : FitsSigned w64 c.in-Some.low = search rules in
    let fits_high : FitsSigned w64 c.in-Some.high = search rules in
    let outside = simp to_z-of_z at c.is_outside.ensures in
    let all = simp to_z-of_z at c.far_range.ensures in
    rw (c.in-Some.is, c.in-Some-left.is, c.in-Some-right.is) (outside ∙ ap (λ (r : Range). is_outside c.args.number r) all)
