use Rattle.std.proofs.Common.{◌≡◌, take}
use Rattle.nona_tree.specs.Run.{start_arrays}
use Rattle.nona_store.proofs.store.first_arrays.Given as goal

-- the input and the declared arrays so far
abbrev pub invariant-loop-array : goal.invariant-loop-array
invariant-loop-array l = l.arrays.items ≡ start_arrays (take l.array-index l.declared) l.fn.input
