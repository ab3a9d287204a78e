use Rattle.std.proofs.Common.{◌≡◌, drop}
use Rattle.net_share.specs.Settled.{settled_cell}
use Rattle.net_pipe.specs.Gathered.{values_of}
use Rattle.net_pipe.proofs.settling.changed.Given as goal

-- the value so far ends with those of the tasks that are left as if all were asked
abbrev pub invariant-tasks : goal.invariant-tasks
invariant-tasks l = settled_cell l.was l.last (values_of l.id (drop l.task-index l.tasks)) ≡ settled_cell l.was l.was (values_of l.id l.tasks)
