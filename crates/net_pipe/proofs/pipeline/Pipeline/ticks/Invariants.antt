use Rattle.std.proofs.Common.{◌≡◌, drop, map, max}
use Rattle.net_pipe.specs.Kept.{most_moves, net_of}
use Rattle.net_pipe.specs.Tasks.{task_over}
use Rattle.net_pipe.proofs.pipeline.Pipeline.ticks.Given as goal

-- the most moves of all are those so far, or those of the tasks that are left
abbrev pub invariant-tasks : goal.invariant-tasks
invariant-tasks l = max l.most (most_moves (map (task_over l.self.store) (drop l.task-index l.self.tasks.items))) ≡ most_moves (net_of l.self).tasks
