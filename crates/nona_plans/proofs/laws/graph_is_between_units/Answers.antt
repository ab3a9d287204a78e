use Rattle.nona_plans.proofs.BetweenUnits.{is_graph}
use Rattle.nona_plans.proofs.laws.graph_is_between_units.Goals as goal

pub returns : goal.returns
returns c = is_graph
