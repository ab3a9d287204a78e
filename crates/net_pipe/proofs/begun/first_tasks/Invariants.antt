use Rattle.std.proofs.Common.{◌≡◌, ◌≤◌, map}
use Rattle.std.specs.Prelude.{All}
use Rattle.net_flow.specs.Begun.{tasks_of}
use Rattle.net_pipe.specs.Works.{shape_of}
use Rattle.net_pipe.specs.Begun.{first_values}
use Rattle.net_pipe.specs.Staged.{staging_of}
use Rattle.net_share.specs.Tasks.{HasRoom}
use Rattle.net_pipe.specs.Tasks.{TaskView, task_over}
use Rattle.net_pipe.proofs.begun.first_tasks.Given as goal

-- the tasks of the stages so far
abbrev pub invariant-stages : goal.invariant-stages
invariant-stages l =
    record {
      tasks : map (task_over l.store) l.tasks.items ≡ tasks_of (shape_of (staging_of l.stages)) (λ s w. first_values l.store l.reductions) l.stage;
      room : All (λ (x : TaskView). l.stages.units.now.room ≤ x.room) l.tasks.items;
      reserved : All (λ (x : TaskView). HasRoom l.stages.depth l.stages.units.now x.share) l.tasks.items;
    }
