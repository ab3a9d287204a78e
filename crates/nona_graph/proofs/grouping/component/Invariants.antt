use Rattle.std.proofs.Common.{◌≡◌, filter}
use Rattle.nona_plans.specs.Walks.{are_together}
use Rattle.nona_plans.specs.Components.{up_to}
use Rattle.nona_graph.proofs.grouping.component.Given as goal

abbrev pub invariant-loop-other : goal.invariant-loop-other
invariant-loop-other l = l.units ≡ filter (are_together l.graph.edges l.graph.units l.unit) (up_to l.other)
