use Rattle.std.proofs.Common.{◌≡◌, ◌<◌, ◌/◌, ◌%◌, ◌==◌, ℕ, length, if◌then◌else◌, None}
use Rattle.std.specs.Prelude.{All, FitsSigned}
use Rattle.std.specs.Int.{w64, bit_at}
use Rattle.std.specs.Option.{unwrap_or}
use Rattle.nona_sparse.specs.declared.group.TheConstants.{GROUP}
use Rattle.nona_sparse.specs.Marks.{AreBehind, by_mark, value_at}
use Rattle.nona_sparse.specs.Sparse.{cell}
use Rattle.nona_sparse.proofs.group.write_values.Given as goal

-- the values so far are written, and the marks of the others are left
abbrev pub invariant-values : goal.invariant-values
invariant-values l = record {
  left : AreBehind (bit_at l.marks) l.done (bit_at l.rest);
  long : length l.cells ≡ length l.initial.cells;
  cells : (q : ℕ) → q < length l.initial.cells → cell l.cells q
      ≡ unwrap_or (if q / GROUP == l.index then by_mark (bit_at l.rest (q % GROUP)) (value_at (bit_at l.marks) l.values (q % GROUP)) None else None) (cell l.initial.cells q);
  numbers : All (FitsSigned w64) l.initial.cells → All (FitsSigned w64) l.cells;
}
