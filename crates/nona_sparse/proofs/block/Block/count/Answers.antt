use Rattle.std.proofs.Common.{arith}
use Rattle.nona_sparse.specs.declared.page.TheConstants.{PAGE}
use Rattle.nona_sparse.specs.Marks.{mark_in}
use Rattle.nona_sparse.proofs.Grouping.{in_few}
use Rattle.nona_sparse.proofs.Marking.{rank_few}
use Rattle.nona_sparse.proofs.block.Block.count.Goals as goal

pub returns : goal.returns
returns c =
    let marks = c.self.inside.marks in
    omega (arith, c.len.ensures, c.self.invariant.0.1, rank_few (mark_in marks) PAGE (in_few marks))
