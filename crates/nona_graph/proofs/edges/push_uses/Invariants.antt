use Rattle.std.proofs.Common.{◌≡◌, ◌++◌, map, filter}
use Rattle.nona_plans.specs.Components.{up_to}
use Rattle.nona_plans.specs.Units.{uses}
use Rattle.nona_graph.proofs.edges.push_uses.Given as goal

-- the edges to the first units are there
abbrev pub invariant-loop-unit : goal.invariant-loop-unit
invariant-loop-unit l = l.edges ≡ l.fn.edges ++ map (λ u. (l.local.unit, u)) (filter (uses l.looped l.local) (up_to l.unit))
