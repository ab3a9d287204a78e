use Rattle.nona_plans.proofs.Leading.{leads_is_walk}
use Rattle.nona_plans.proofs.laws.leads_where_walk.Goals as goal

pub returns : goal.returns
returns c = leads_is_walk
