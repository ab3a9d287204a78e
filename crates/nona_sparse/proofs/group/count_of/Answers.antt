use Rattle.std.proofs.Common.{◌≡◌, ◌∙◌, ◌%◌, ◌^◌, ap, sym, arith}
use Rattle.std.specs.Int.RustNames.{count_ones}
use Rattle.nona_sparse.proofs.Marking.{counted}
use Rattle.nona_sparse.proofs.group.count_of.Goals as goal

pub returns : goal.returns
returns c =
    let all : c.args.marks % 2 ^ 64 ≡ c.args.marks = omega (arith, c.ranges.marks.fits) in
    ap count_ones (sym all) ∙ counted c.args.marks 64
