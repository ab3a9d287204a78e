-- What a replay serves.
use Rattle.nona_tree.specs.declared.plans.Plan.{Plan}
use Rattle.nona_tree.specs.declared.trees.Loop.{Loop}
use Rattle.nona_plans.specs.Plans.{IsLawfulPlan}
use Rattle.morta_task.specs.declared.schemes.Scheme.{Scheme}
use Rattle.morta_task.specs.declared.schemes.Scheme.TheVariants.{Seq, Any, Pipe}

-- a replay runs a loop with this plan in this version: one thread any loop, shared iterations and stages where the plan is
-- lawful
abbrev pub RunsIn : Loop → Plan → Scheme → Type 0
RunsIn l p Seq = Unit {0}
RunsIn l p Any = IsLawfulPlan l p
RunsIn l p Pipe = IsLawfulPlan l p
