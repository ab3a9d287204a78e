use Rattle.std.proofs.Common.{◌≡◌, ◌*◌}
use Rattle.nona_sparse.specs.declared.group.TheConstants.{GROUP}
use Rattle.nona_sparse.specs.Marks.{mark_in, rank}
use Rattle.nona_sparse.proofs.block.start_of.Given as goal

-- the marked places of the groups so far are counted
abbrev pub invariant-groups : goal.invariant-groups
invariant-groups l = l.start ≡ rank (mark_in l.marks) (l.before * GROUP)
