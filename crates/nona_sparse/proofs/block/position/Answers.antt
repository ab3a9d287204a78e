use Rattle.std.proofs.Common.{arith}
use Rattle.nona_sparse.specs.Marks.{mark_in}
use Rattle.nona_sparse.proofs.Marking.{position_last}
use Rattle.nona_sparse.proofs.block.position.Goals as goal

pub overflow_sub-result : goal.overflow_sub-result
overflow_sub-result c =
    let last = position_last (mark_in c.args.marks.now) c.args.place c.requires.there c.requires.marked (λ q from. c.requires.end q (omega (arith, from, c.if-place-end.true))) in
    omega (arith, c.requires.count, last)

pub returns-then-place-end : goal.returns-then-place-end
returns-then-place-end c =
    let last = position_last (mark_in c.args.marks.now) c.args.place c.requires.there c.requires.marked (λ q from. c.requires.end q (omega (arith, from, c.if-place-end.true))) in
    omega (arith, c.requires.count, last)
