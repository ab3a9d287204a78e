use Rattle.net_share.proofs.Gathering.{AreLeftBelow}
use Rattle.net_pipe.specs.Tasks.{share_of}
use Rattle.net_pipe.proofs.settling.keep_changes.Given as goal

-- the tasks so far have only what isn't in the store already, and the others are as they were
abbrev pub invariant-tasks : goal.invariant-tasks
invariant-tasks l = AreLeftBelow share_of l.number l.store l.initial.tasks.items l.tasks.items
