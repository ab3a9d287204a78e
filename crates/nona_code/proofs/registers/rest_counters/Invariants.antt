use Rattle.std.proofs.Common.{◌≡◌}
use Rattle.nona_code.proofs.Resting.{rested}
use Rattle.nona_code.proofs.registers.rest_counters.Given as goal

abbrev pub invariant-loop-k : goal.invariant-loop-k
invariant-loop-k l = l.counters.items ≡ rested l.k 0 l.initial.counters.items
