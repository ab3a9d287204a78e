use Rattle.std.proofs.Common.{◌≡◌, pos}
use Rattle.nona_code.proofs.Resting.{rested}
use Rattle.nona_code.proofs.registers.rest_hidden.Given as goal

abbrev pub invariant-loop-k : goal.invariant-loop-k
invariant-loop-k l = l.hidden.items ≡ rested l.k (pos 0) l.initial.hidden.items
