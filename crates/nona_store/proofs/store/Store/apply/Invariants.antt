use Rattle.std.proofs.Common.{◌≡◌, ℕ, nat_lt, length, [], if◌then◌else◌, slice_index_or}
use Rattle.nona_sparse.specs.Sparse.{cells_under}
use Rattle.nona_store.specs.Overlays.{over_of}
use Rattle.nona_store.proofs.store.Store.apply.Given as goal

-- the arrays so far have what is written over them, and the others what they had
abbrev pub invariant-arrays : goal.invariant-arrays
invariant-arrays l = record {
  scalars : l.self.scalars ≡ l.initial.self.scalars;
  printed : l.self.printed ≡ l.initial.self.printed;
  many : length l.self.arrays ≡ length l.initial.self.arrays;
  each : (id : ℕ) → slice_index_or l.self.arrays id []
      ≡ (if nat_lt id l.array then cells_under (over_of l.written id) 0 (slice_index_or l.initial.self.arrays id []) else slice_index_or l.initial.self.arrays id []);
}
