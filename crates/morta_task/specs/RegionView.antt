-- A region, as contracts see it.
use Rattle.nona_tree.specs.declared.plans.Plan.{Plan}
use Rattle.nona_tree.specs.declared.trees.Loop.{Loop}

-- its loop, and the plan of the versions that it has beside `seq`
pub record RegionView : Type 0 where
  pub looped : Loop
  pub plan : Plan
