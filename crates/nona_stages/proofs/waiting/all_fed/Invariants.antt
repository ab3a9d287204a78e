use Rattle.std.proofs.Common.{◌≡◌, ◌&&◌, ◌++◌, drop}
use Rattle.nona_plans.specs.Stages.{are_fed}
use Rattle.nona_stages.proofs.waiting.all_fed.Given as goal

abbrev pub invariant-loop-edge : goal.invariant-loop-edge
invariant-loop-edge l = are_fed l.edges (l.units ++ l.placed) l.units ≡ (l.fed && are_fed (drop l.edge-index l.edges) (l.units ++ l.placed) l.units)
