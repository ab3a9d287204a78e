use Rattle.std.proofs.Common.{◌≡◌, ◌||◌, drop}
use Rattle.nona_plans.specs.Components.{is_held}
use Rattle.nona_graph.proofs.grouping.is_in_some.Given as goal

abbrev pub invariant-loop-component : goal.invariant-loop-component
invariant-loop-component l = is_held l.unit l.components ≡ (l.found || is_held l.unit (drop l.component-index l.components))
