use Rattle.std.proofs.Common.{◌≡◌, take}
use Rattle.nona_tree.proofs.plans.copy_lists.Given as goal

-- the lists so far were copied
abbrev pub invariant-loop-list : goal.invariant-loop-list
invariant-loop-list l = l.copies ≡ take l.list-index l.lists
