use Rattle.std.proofs.Common.{◌≡◌, ◌++◌, take}
use Rattle.nona_forms.specs.References.{assigned_all}
use Rattle.nona_affine.proofs.assigned.+assigned.Given as goal

-- the ids that the statements so far assign are there
abbrev pub invariant-push_all_assigned-loop-s : goal.invariant-push_all_assigned-loop-s
invariant-push_all_assigned-loop-s l = l.ids.items ≡ l.initial.ids.items ++ assigned_all (take l.s-index l.stmts)
