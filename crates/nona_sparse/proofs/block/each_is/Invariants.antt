use Rattle.std.proofs.Common.{◌≡◌, ◌<◌, ◌+◌, ◌*◌, ℕ}
use Rattle.nona_sparse.specs.declared.group.TheConstants.{GROUP}
use Rattle.nona_sparse.specs.Marks.{mark_in, rank, value_at}
use Rattle.nona_sparse.specs.Sparse.{change_at, if_left}
use Rattle.nona_sparse.proofs.block.each_is.Given as goal

-- each value of the groups so far is another one than the cell, or the same, and those of the others stand behind theirs
abbrev pub invariant-groups : goal.invariant-groups
invariant-groups l = record {
  start : l.start ≡ rank (mark_in l.marks) (l.group * GROUP);
  each : (q : ℕ) → q < l.group * GROUP → change_at l.cells (l.first + q) (value_at (mark_in l.marks) l.values q) ≡ if_left l.differ (value_at (mark_in l.marks) l.values q);
}
