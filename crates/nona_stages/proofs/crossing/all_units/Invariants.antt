use Rattle.std.proofs.Common.{◌≡◌, ◌++◌, drop}
use Rattle.nona_plans.specs.Plans.{units_of}
use Rattle.nona_stages.proofs.crossing.all_units.Given as goal

-- the units so far and those of the other stages are all
abbrev pub invariant-loop-stage : goal.invariant-loop-stage
invariant-loop-stage l = l.units ++ units_of (drop l.stage-index l.stages) ≡ units_of l.stages
