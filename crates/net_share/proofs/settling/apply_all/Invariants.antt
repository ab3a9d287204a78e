use Rattle.std.proofs.Common.{◌≡◌, drop}
use Rattle.net_share.specs.Gathered.{with_written}
use Rattle.net_share.specs.Tasks.{share_of}
use Rattle.net_share.proofs.settling.apply_all.Given as goal

-- what the tasks that are left have written ends as what all have
abbrev pub invariant-tasks : goal.invariant-tasks
invariant-tasks l = with_written share_of (drop l.task-index l.tasks) l.store ≡ with_written share_of l.tasks l.initial.store
