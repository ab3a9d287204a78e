use Rattle.std.proofs.Common.{◌≡◌, map, take}
use Rattle.nona_graph.specs.Facts.{facts_of}
use Rattle.nona_graph.proofs.parts.all_names.Given as goal

-- what the first units name is there
abbrev pub invariant-loop-s : goal.invariant-loop-s
invariant-loop-s l = l.units.items ≡ map facts_of (take l.s-index l.body)
