use Rattle.std.proofs.Common.{◌≡◌, ◌++◌, take}
use Rattle.std.specs.List.{flat_map}
use Rattle.nona_plans.specs.Units.{local_edges}
use Rattle.nona_graph.proofs.edges.push_locals.Given as goal

-- the edges of the first locals are there
abbrev pub invariant-loop-local : goal.invariant-loop-local
invariant-loop-local l = l.edges ≡ l.fn.edges ++ flat_map (local_edges l.looped) (take l.local-index l.locals)
