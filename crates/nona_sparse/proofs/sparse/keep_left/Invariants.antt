use Rattle.std.proofs.Common.{◌≡◌, ◌/◌, ℕ, nat_lt, length, if◌then◌else◌}
use Rattle.nona_sparse.specs.Sparse.{at, changes}
use Rattle.nona_sparse.specs.declared.page.TheConstants.{PAGE}
use Rattle.nona_sparse.proofs.sparse.keep_left.Given as goal

-- the pages so far have what is left of them, and the others what they had
abbrev pub invariant-loop-index : goal.invariant-loop-index
invariant-loop-index l = record {
  long : length l.pages.items ≡ length l.initial.pages.items;
  left : (q : ℕ) → at l.pages.items q
      ≡ (if nat_lt (q / PAGE) l.index then changes l.cells (at l.initial.pages.items) q else at l.initial.pages.items q);
}
