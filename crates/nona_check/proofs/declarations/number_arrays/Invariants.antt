use Rattle.std.proofs.Common.{◌≡◌, ◌+◌, ◌++◌, drop}
use Rattle.nona_tree.specs.Ids.{arrays_ids}
use Rattle.nona_check.proofs.declarations.number_arrays.Given as goal

-- the arrays so far with their ids, and the rest with theirs, are all with theirs
abbrev pub invariant-loop-index : goal.invariant-loop-index
invariant-loop-index l = arrays_ids l.arrays 1 ≡ l.numbered ++ arrays_ids (drop l.index l.arrays) (l.index + 1)
