use Rattle.std.proofs.Common.{◌+◌, ◌*◌, arith, sym}
use Rattle.nona_sparse.specs.declared.group.TheConstants.{GROUP}
use Rattle.nona_sparse.specs.Marks.{mark_in}
use Rattle.nona_sparse.proofs.Grouping.{in_few, next_start}
use Rattle.nona_sparse.proofs.Marking.{rank_few, rank_first}
use Rattle.nona_sparse.proofs.block.start_of.Goals as goal

pub groups-init : goal.groups-init
groups-init c = sym (rank_first (mark_in c.args.marks.now))

pub overflow_add-start : goal.overflow_add-start
overflow_add-start c =
    let marks = c.args.marks.now in
    let group = c.groups.before in
    record { fits = omega (arith, c.groups.invariant, c.count_of-start.ensures, next_start marks group, rank_few (mark_in marks) ((group + 1) * GROUP) (in_few marks), c.groups-test.true, c.requires.there) }

pub groups-preserved : goal.groups-preserved
groups-preserved c = omega (arith, c.groups.invariant, c.count_of-start.ensures, next_start c.args.marks.now c.groups.before)
