use Rattle.std.proofs.Common.{◌≡◌, [], length, take}
use Rattle.nona_graph.specs.Uses.{ShowUses}
use Rattle.nona_graph.proofs.reducing.note_all.Given as goal

-- the mentions so far are noted
abbrev pub invariant-loop-mention : goal.invariant-loop-mention
invariant-loop-mention l = record {
  size : length l.uses ≡ length l.fn.uses;
  uses : ShowUses [] l.fn.uses → ShowUses (take l.mention-index l.mentions) l.uses;
}
