use Rattle.net_share.proofs.Gathering.{AreLeftBehindBelow}
use Rattle.net_share.specs.Tasks.{share_of}
use Rattle.net_share.proofs.settling.keep_changes.Given as goal

-- the first task is as it was, the others so far have only what isn't in the store already, and the rest are as they were
abbrev pub invariant-tasks : goal.invariant-tasks
invariant-tasks l = AreLeftBehindBelow share_of l.number l.store l.initial.tasks.items l.tasks.items
