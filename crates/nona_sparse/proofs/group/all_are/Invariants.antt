use Rattle.std.proofs.Common.{◌≡◌, ◌<◌, ◌+◌, ℕ}
use Rattle.std.specs.Int.{bit_at}
use Rattle.nona_sparse.specs.declared.group.TheConstants.{GROUP}
use Rattle.nona_sparse.specs.Marks.{AreBehind, value_at}
use Rattle.nona_sparse.specs.Sparse.{change_at, if_left}
use Rattle.nona_sparse.proofs.group.all_are.Given as goal

-- each value so far is another one than the cell, or the same, and the marks of the others are left
abbrev pub invariant-values : goal.invariant-values
invariant-values l = record {
  left : AreBehind (bit_at l.marks) l.done (bit_at l.rest);
  each : (q : ℕ) → q < GROUP → bit_at l.rest q ≡ 0 → change_at l.cells (l.first + q) (value_at (bit_at l.marks) l.values q) ≡ if_left l.differ (value_at (bit_at l.marks) l.values q);
}
