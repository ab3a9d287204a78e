use Rattle.std.proofs.Common.{◌≡◌, take}
use Rattle.nona_store.proofs.store.copied_arrays.Given as goal

-- the copies of the arrays so far
abbrev pub invariant-loop-cells : goal.invariant-loop-cells
invariant-loop-cells l = l.copies.items ≡ take l.cells-index l.arrays
