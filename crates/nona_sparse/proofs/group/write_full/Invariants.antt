use Rattle.std.proofs.Common.{◌≡◌, ◌<◌, ◌/◌, ◌%◌, ◌==◌, ◌&&◌, ℕ, nat_lt, length, map, Some, if◌then◌else◌, None}
use Rattle.std.specs.Prelude.{All, FitsSigned}
use Rattle.std.specs.Int.{w64}
use Rattle.std.specs.Option.{unwrap_or}
use Rattle.nona_sparse.specs.Sparse.{at_page, cell}
use Rattle.nona_sparse.specs.declared.group.TheConstants.{GROUP}
use Rattle.nona_sparse.proofs.group.write_full.Given as goal

-- the group's places so far are written
abbrev pub invariant-places : goal.invariant-places
invariant-places l = record {
  long : length l.cells ≡ length l.initial.cells;
  cells : (q : ℕ) → q < length l.initial.cells → cell l.cells q
      ≡ unwrap_or (if q / GROUP == l.index && nat_lt (q % GROUP) l.place then at_page (map Some l.values) (q % GROUP) else None) (cell l.initial.cells q);
  numbers : All (FitsSigned w64) l.initial.cells → All (FitsSigned w64) l.cells;
}
