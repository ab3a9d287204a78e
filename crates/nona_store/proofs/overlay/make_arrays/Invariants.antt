use Rattle.std.proofs.Common.{◌≡◌, length}
use Rattle.nona_store.specs.Overlays.{over_of}
use Rattle.nona_store.proofs.overlay.make_arrays.Given as goal

abbrev pub invariant-arrays : goal.invariant-arrays
invariant-arrays l = record {
  long : length l.arrays.items ≡ l.counter;
  same : over_of l.arrays.items ≡ over_of l.initial.arrays.items;
}
