use Rattle.nona_plans.proofs.Ready.{some_ready}
use Rattle.nona_plans.proofs.laws.some_component_is_ready.Goals as goal

pub returns : goal.returns
returns c = some_ready
