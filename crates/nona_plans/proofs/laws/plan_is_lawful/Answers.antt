use Rattle.nona_plans.proofs.PlanLaws.{lawful}
use Rattle.nona_plans.proofs.laws.plan_is_lawful.Goals as goal

pub returns : goal.returns
returns c = lawful
