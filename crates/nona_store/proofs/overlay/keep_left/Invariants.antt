use Rattle.std.proofs.Common.{◌≡◌, ℕ, nat_lt, length, [], if◌then◌else◌, slice_index_or}
use Rattle.nona_sparse.specs.Sparse.{changes}
use Rattle.nona_store.specs.Overlays.{over_of}
use Rattle.nona_store.proofs.overlay.keep_left.Given as goal

-- the sparse arrays so far have what is left of them, and the others what they had
abbrev pub invariant-arrays : goal.invariant-arrays
invariant-arrays l = record {
  long : length l.written.items ≡ length l.initial.written.items;
  left : (id : ℕ) → over_of l.written.items id
      ≡ (if nat_lt id l.id then changes (slice_index_or l.arrays id []) (over_of l.initial.written.items id) else over_of l.initial.written.items id);
}
