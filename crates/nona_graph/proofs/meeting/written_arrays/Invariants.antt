use Rattle.std.proofs.Common.{◌≡◌, map, filter, take}
use Rattle.nona_graph.proofs.meeting.written_arrays.Given as goal

-- the arrays that the first accesses write are there
abbrev pub invariant-loop-spot : goal.invariant-loop-spot
invariant-loop-spot l = l.arrays.items ≡ map (λ x. x.array) (filter (λ x. x.write) (take l.spot-index l.spots))
