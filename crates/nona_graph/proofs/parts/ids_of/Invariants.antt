use Rattle.std.proofs.Common.{◌≡◌, map, take}
use Rattle.nona_graph.proofs.parts.ids_of.Given as goal

-- the ids of the first mentions are there
abbrev pub invariant-loop-mention : goal.invariant-loop-mention
invariant-loop-mention l = l.ids.items ≡ map (λ m. m.id) (take l.mention-index l.mentions)
