use Rattle.std.proofs.Common.{◌≡◌, ◌++◌}
use Rattle.nona_graph.specs.Facts.{ties_up_to}
use Rattle.nona_graph.proofs.tying.push_ties.Given as goal

-- the ties with the first units are there
abbrev pub invariant-loop-v : goal.invariant-loop-v
invariant-loop-v l = l.ties.items ≡ l.fn.ties.items ++ ties_up_to l.looped l.u l.v
