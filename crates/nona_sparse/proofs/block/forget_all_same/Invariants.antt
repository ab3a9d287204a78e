use Rattle.std.proofs.Common.{◌≡◌, ◌<◌, ◌≤◌, ◌+◌, ℕ}
use Rattle.nona_sparse.specs.declared.page.TheConstants.{PAGE}
use Rattle.nona_sparse.specs.Marks.{AreMarkedIn, block_of, mark_in}
use Rattle.nona_sparse.specs.Sparse.{at_page, change_at}
use Rattle.nona_sparse.proofs.block.forget_all_same.Given as goal

-- the last so many places have what is left of their values, and the others what they had
abbrev pub invariant-places : goal.invariant-places
invariant-places l = record {
  kept : AreMarkedIn l.marks l.values;
  fewer : (q : ℕ) → q < PAGE → mark_in l.initial.marks q ≡ 0 → mark_in l.marks q ≡ 0;
  same : (q : ℕ) → q + l.done < PAGE → at_page (block_of l.marks l.values) q ≡ at_page (block_of l.initial.marks l.initial.values) q;
  left : (q : ℕ) → PAGE ≤ q + l.done → at_page (block_of l.marks l.values) q
      ≡ change_at l.cells (l.first + q) (at_page (block_of l.initial.marks l.initial.values) q);
}
