use Rattle.std.proofs.Common.{◌≡◌}
use Rattle.nona_plans.specs.Units.{reductions_below}
use Rattle.nona_graph.proofs.reducing.reductions_by.Given as goal

-- the reductions with a lesser id are there
abbrev pub invariant-loop-id : goal.invariant-loop-id
invariant-loop-id l = l.found.items ≡ reductions_below l.looped l.id
