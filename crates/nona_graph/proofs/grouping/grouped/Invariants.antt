use Rattle.std.proofs.Common.{◌≡◌}
use Rattle.nona_plans.specs.Components.{components_to}
use Rattle.nona_graph.proofs.grouping.grouped.Given as goal

abbrev pub invariant-loop-unit : goal.invariant-loop-unit
invariant-loop-unit l = l.components.items ≡ components_to l.graph l.unit
