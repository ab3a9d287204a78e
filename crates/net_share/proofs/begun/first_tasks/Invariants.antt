use Rattle.std.proofs.Common.{◌≡◌, ◌≤◌, length, map}
use Rattle.std.specs.Prelude.{All}
use Rattle.net_flow.specs.Begun.{workers_of}
use Rattle.nona_fission.specs.Sharing.{with_units}
use Rattle.net_share.specs.Tasks.{TaskView, HasRoom, task_over}
use Rattle.net_share.proofs.begun.first_tasks.Given as goal

-- the tasks so far
abbrev pub invariant-tasks : goal.invariant-tasks
invariant-tasks l =
    record {
      tasks : map (task_over l.store) l.tasks.items ≡ workers_of (λ s w. with_units l.reductions l.store) 0 l.number;
      room : All (λ (x : TaskView). l.units.room ≤ x.room) l.tasks.items;
      reserved : All (λ (x : TaskView). HasRoom (length l.store.scalars) l.units x.share) l.tasks.items;
    }
