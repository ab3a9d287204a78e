use Rattle.std.proofs.Common.{◌+◌, ap, arith, sym}
use Rattle.nona_sparse.specs.declared.page.TheConstants.{PAGE}
use Rattle.nona_sparse.specs.Marks.{mark_in}
use Rattle.nona_sparse.proofs.Grouping.{group_is, group_within, in_few, next_start}
use Rattle.nona_sparse.proofs.Marking.{rank_few, rank_first}
use Rattle.nona_sparse.proofs.block.each_is.Goals as goal

pub groups-init : goal.groups-init
groups-init c = record { start = sym (rank_first (mark_in c.args.marks.now)); each = λ q below. absurd (omega (arith, below)) }

pub overflow_add-end : goal.overflow_add-end
overflow_add-end c =
    let marks = c.args.marks.now in
    let group = c.groups.group in
    record { fits = omega (arith, c.groups.invariant.start, c.count_of.ensures, group_within marks group c.groups-test.true, rank_few (mark_in marks) PAGE (in_few marks)) }

pub offset_bounds-values-start : goal.offset_bounds-values-start
offset_bounds-values-start c =
    let marks = c.args.marks.now in
    let group = c.groups.group in
    record { fits = omega (arith, c.groups.invariant.start, group_within marks group c.groups-test.true, rank_few (mark_in marks) PAGE (in_few marks)) }

pub slice_bounds-own-end : goal.slice_bounds-own-end
slice_bounds-own-end c = omega (arith, c.groups.invariant.start, c.count_of.ensures, c.requires.kept.1, group_within c.args.marks.now c.groups.group c.groups-test.true)

pub groups-preserved : goal.groups-preserved
groups-preserved c =
    let i = c.groups.invariant in
    let marks = c.args.marks.now in
    let group = c.groups.group in
    let start = c.groups.start in
    let ends = ap (λ n. start + n) c.count_of.ensures in
    record {
      start = omega (arith, i.start, c.count_of.ensures, next_start marks group);
      each = group_is c.args.differ marks c.args.values.now c.args.cells.now c.args.first group start (start + c.count_of.result) i.start ends i.each
          (c.all_are.ensures c.if-not-all_are.false);
    }

pub returns : goal.returns
returns c = λ is q within. c.groups.invariant.each q (omega (arith, within, c.groups-test.false))
