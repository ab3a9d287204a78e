use Rattle.std.proofs.Common.{arith}
use Rattle.nona_sparse.specs.Marks.{mark_in}
use Rattle.nona_sparse.proofs.Grouping.{in_few, rank_at}
use Rattle.nona_sparse.proofs.Marking.{rank_few}
use Rattle.nona_sparse.proofs.block.rank_in.Goals as goal

pub overflow_add-result : goal.overflow_add-result
overflow_add-result c =
    let marks = c.args.marks.now in
    let place = c.args.place in
    record { fits = omega (arith, c.start_of.ensures, c.rank_of.ensures, rank_at marks place, rank_few (mark_in marks) place (in_few marks), c.requires.there) }

pub returns : goal.returns
returns c = omega (arith, c.start_of.ensures, c.rank_of.ensures, rank_at c.args.marks.now c.args.place)
