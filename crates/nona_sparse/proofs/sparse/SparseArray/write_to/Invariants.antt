use Rattle.std.proofs.Common.{◌≡◌, ◌<◌, ◌/◌, ℕ, nat_lt, length, if◌then◌else◌, None}
use Rattle.std.specs.Prelude.{All, FitsSigned}
use Rattle.std.specs.Int.{w64}
use Rattle.std.specs.Option.{unwrap_or}
use Rattle.nona_sparse.specs.Sparse.{at, cell}
use Rattle.nona_sparse.specs.declared.page.TheConstants.{PAGE}
use Rattle.nona_sparse.proofs.sparse.SparseArray.write_to.Given as goal

-- the pages so far are written
abbrev pub invariant-loop-index : goal.invariant-loop-index
invariant-loop-index l = record {
  long : length l.cells ≡ length l.initial.cells;
  cells : (q : ℕ) → q < length l.initial.cells → cell l.cells q
      ≡ unwrap_or (if nat_lt (q / PAGE) l.index then at l.self q else None) (cell l.initial.cells q);
  numbers : All (FitsSigned w64) l.initial.cells → All (FitsSigned w64) l.cells;
}
