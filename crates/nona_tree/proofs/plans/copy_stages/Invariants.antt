use Rattle.std.proofs.Common.{◌≡◌, take}
use Rattle.nona_tree.proofs.plans.copy_stages.Given as goal

-- the stages so far were copied
abbrev pub invariant-loop-stage : goal.invariant-loop-stage
invariant-loop-stage l = l.copies ≡ take l.stage-index l.stages
