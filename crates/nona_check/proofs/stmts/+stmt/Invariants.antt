use Rattle.std.proofs.Common.{◌≡◌, ◌+◌, ◌<◌, ◌^◌, ◌++◌, length, drop}
use Rattle.nona_tree.specs.Faults.{all_faults}
use Rattle.nona_tree.specs.Ids.{all_ids}
use Rattle.nona_tree.specs.Smallness.{all_size}
use Rattle.nona_check.specs.After.{seen_after_all}
use Rattle.nona_check.specs.First.{first_from}
use Rattle.nona_check.proofs.stmts.+stmt.Given as goal

-- what follows from the statements that are left, with those so far, follows from all, and their ids fit
abbrev pub invariant-resolve_all-loop-stmt : goal.invariant-resolve_all-loop-stmt
invariant-resolve_all-loop-stmt l =
    (all_ids l.stmts l.initial.scope ≡ l.resolved ++ all_ids (drop l.stmt-index l.stmts) l.scope)
    × (first_from l.initial.first (all_faults l.stmts l.initial.scope) ≡ first_from l.first (all_faults (drop l.stmt-index l.stmts) l.scope))
    × (seen_after_all l.stmts l.initial.scope ≡ seen_after_all (drop l.stmt-index l.stmts) l.scope)
    × (length l.scope.scalars + all_size (drop l.stmt-index l.stmts) < 2 ^ 32)
