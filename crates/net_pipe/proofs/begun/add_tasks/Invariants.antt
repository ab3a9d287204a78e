use Rattle.std.proofs.Common.{◌≡◌, ◌≤◌, ◌++◌, map}
use Rattle.std.specs.Prelude.{All}
use Rattle.net_flow.specs.Begun.{workers_of}
use Rattle.net_pipe.specs.Begun.{first_values}
use Rattle.net_share.specs.Tasks.{HasRoom}
use Rattle.net_pipe.specs.Tasks.{TaskView, task_over}
use Rattle.net_pipe.proofs.begun.add_tasks.Given as goal

-- the tasks so far
abbrev pub invariant-workers : goal.invariant-workers
invariant-workers l =
    record {
      tasks : map (task_over l.store) l.tasks.items ≡ map (task_over l.store) l.initial.tasks.items ++ workers_of (λ s w. first_values l.store l.reductions) l.stage l.worker;
      room : All (λ (x : TaskView). l.stages.units.now.room ≤ x.room) l.tasks.items;
      reserved : All (λ (x : TaskView). HasRoom l.stages.depth l.stages.units.now x.share) l.tasks.items;
    }
