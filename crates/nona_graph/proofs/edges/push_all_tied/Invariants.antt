use Rattle.std.proofs.Common.{◌≡◌, ◌++◌, take}
use Rattle.std.specs.List.{flat_map}
use Rattle.nona_plans.specs.Units.{tie_edges}
use Rattle.nona_graph.proofs.edges.push_all_tied.Given as goal

-- the edges of the first ties are there
abbrev pub invariant-loop-tie : goal.invariant-loop-tie
invariant-loop-tie l = l.edges ≡ l.fn.edges ++ flat_map tie_edges (take l.tie-index l.ties)
