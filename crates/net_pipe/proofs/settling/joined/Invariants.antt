use Rattle.std.proofs.Common.{◌≡◌, drop}
use Rattle.net_share.specs.Gathered.{joined_with}
use Rattle.net_pipe.specs.Tasks.{share_of}
use Rattle.net_pipe.proofs.settling.joined.Given as goal

-- the number so far, joined with the values of the tasks that are left, is as if all were joined
abbrev pub invariant-tasks : goal.invariant-tasks
invariant-tasks l = joined_with share_of l.id l.fold l.joined (drop l.task-index l.tasks) ≡ joined_with share_of l.id l.fold l.value l.tasks
