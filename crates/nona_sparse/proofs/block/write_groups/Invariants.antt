use Rattle.std.proofs.Common.{◌≡◌, ◌<◌, ◌*◌, ℕ, length}
use Rattle.std.specs.Prelude.{All, FitsSigned}
use Rattle.std.specs.Int.{w64}
use Rattle.std.specs.Option.{unwrap_or}
use Rattle.nona_sparse.specs.declared.group.TheConstants.{GROUP}
use Rattle.nona_sparse.specs.Marks.{block_of, mark_in, rank}
use Rattle.nona_sparse.specs.Sparse.{at_page, cell}
use Rattle.nona_sparse.proofs.Parts.{of_groups}
use Rattle.nona_sparse.proofs.block.write_groups.Given as goal

-- the groups so far are written, and the values of the others stand behind theirs
abbrev pub invariant-groups : goal.invariant-groups
invariant-groups l = record {
  start : l.start ≡ rank (mark_in l.marks) (l.group * GROUP);
  long : length l.cells ≡ length l.initial.cells;
  cells : (q : ℕ) → q < length l.initial.cells → cell l.cells q
      ≡ unwrap_or (of_groups l.index l.group (at_page (block_of l.marks l.values)) q) (cell l.initial.cells q);
  numbers : All (FitsSigned w64) l.initial.cells → All (FitsSigned w64) l.cells;
}
