use Rattle.nona_units.proofs.Codes.{FitUpTo}
use Rattle.nona_units.proofs.compiled.most_room.Given as goal

-- the room so far is enough for the codes so far
abbrev pub invariant-loop-code : goal.invariant-loop-code
invariant-loop-code l = FitUpTo l.codes l.code-index l.room
