use Rattle.std.proofs.Common.{◌≡◌, length}
use Rattle.nona_stages.specs.Choices.{come_of}
use Rattle.nona_stages.proofs.placing.stepped.Given as goal

abbrev pub decreases-loop-alloc : goal.decreases-loop-alloc
decreases-loop-alloc l = length l.choice.left

abbrev pub invariant-loop-alloc : goal.invariant-loop-alloc
invariant-loop-alloc l = come_of l.graph l.choice ≡ come_of l.graph l.fn.choice
