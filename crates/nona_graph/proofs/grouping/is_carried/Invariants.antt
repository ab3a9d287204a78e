use Rattle.std.proofs.Common.{◌≡◌, ◌||◌, drop}
use Rattle.nona_plans.specs.Components.{has_carried}
use Rattle.nona_graph.proofs.grouping.is_carried.Given as goal

abbrev pub invariant-loop-tie : goal.invariant-loop-tie
invariant-loop-tie l = has_carried l.ties l.units ≡ (l.found || has_carried (drop l.tie-index l.ties) l.units)
