use Rattle.std.proofs.Common.{◌≡◌, ◌++◌, drop}
use Rattle.nona_tree.specs.Memory.{Memory}
use Rattle.net_pipe.specs.Gathered.{all_printed}
use Rattle.net_pipe.proofs.settling.print_tasks.Given as goal

-- printing what the tasks that are left have printed ends as printing what all have
abbrev pub invariant-tasks : goal.invariant-tasks
invariant-tasks l =
    let left : Memory = record l.store { printed = l.store.printed ++ all_printed (drop l.task-index l.tasks) } in
    let all : Memory = record l.initial.store { printed = l.initial.store.printed ++ all_printed l.tasks } in
    left ≡ all
