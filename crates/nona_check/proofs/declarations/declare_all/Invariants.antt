use Rattle.std.proofs.Common.{◌≡◌, ◌+◌, ◌-◌, ◌*◌, ◌≤◌, ◌^◌, length, drop}
use Rattle.nona_tree.specs.Faults.{declarations_faults}
use Rattle.nona_tree.specs.Seen.{declarations, seen_behind_all}
use Rattle.nona_check.specs.First.{first_from}
use Rattle.nona_check.proofs.declarations.declare_all.Given as goal

-- what follows from the declarations that are left follows from all, and each that was declared is one more at most
abbrev pub invariant-loop-array : goal.invariant-loop-array
invariant-loop-array l =
    (first_from l.initial.first (declarations_faults (declarations l.arrays l.vars) l.initial.scope 0)
    ≡ first_from l.first (declarations_faults (declarations (drop l.array l.arrays) (drop l.var l.vars)) l.scope l.cells))
    × (seen_behind_all (declarations l.arrays l.vars) l.initial.scope ≡ seen_behind_all (declarations (drop l.array l.arrays) (drop l.var l.vars)) l.scope)
    × (l.array ≤ length l.arrays)
    × (l.var ≤ length l.vars)
    × (length l.scope.arrays ≤ length l.initial.scope.arrays + l.array)
    × (length l.scope.scalars ≤ length l.initial.scope.scalars + l.var)
    × (l.cells ≤ l.array * 2 ^ 63)

-- the declarations that are left
abbrev pub decreases-loop-array : goal.decreases-loop-array
decreases-loop-array l = (length l.arrays - l.array) + (length l.vars - l.var)
