use Rattle.std.proofs.Common.{◌≡◌}
use Rattle.std.specs.List.{flat_map}
use Rattle.nona_plans.specs.Components.{up_to}
use Rattle.nona_graph.specs.Facts.{ties_from}
use Rattle.nona_graph.proofs.tying.ties_by.Given as goal

-- the ties of the first units are there
abbrev pub invariant-loop-u : goal.invariant-loop-u
invariant-loop-u l = l.ties.items ≡ flat_map (ties_from l.looped) (up_to l.u)
