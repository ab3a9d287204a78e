-- The machine of an interval, as it is kept.
use Rattle.std.specs.Prelude.{ℕ, ◌-◌, length}
use Rattle.net_flow.specs.MoveCounts.{pipeline_moves, sharing_moves}
use Rattle.net_flow.specs.Net.{moves_of}
use Rattle.morta_task.specs.Entries.{loop_of}
use Rattle.net_pipe.specs.Entries.{staging_in}
use Rattle.net_pipe.specs.Works.{shape_of}
use Rattle.weave.specs.declared.net.Net.{Net}
use Rattle.weave.specs.declared.net.Net.TheVariants as net
use Rattle.weave.specs.NetView.{NetView, One, Shared, Staged}
use Rattle.weave.specs.OneTask.{IsOneTask, net_of}
use Rattle.weave.specs.SeqState.{moves_left}
use Rattle.weave.specs.SharedTasks.{IsSharedTasks, shared_view}
use Rattle.weave.specs.StagedTasks.{IsStagedTasks, staged_view}

-- the machine, as the definitions see it
abbrev pub view_of : Net → NetView
view_of (net.One task) = One (net_of task)
view_of (net.Shared tasks) = shared_view tasks
view_of (net.Staged tasks) = staged_view tasks

-- what stands of it at each step
abbrev pub IsNet : Net → Type 0
IsNet (net.One task) = IsOneTask task
IsNet (net.Shared tasks) = IsSharedTasks tasks
IsNet (net.Staged tasks) = IsStagedTasks tasks

-- the most moves that are left
abbrev pub left_in : NetView → ℕ
left_in (One net) = moves_left net
left_in (Shared e before workers net) = sharing_moves workers (length e.looped.body) net.limit - moves_of net
left_in (Staged e before workers capacity net) =
    pipeline_moves (shape_of (staging_in (loop_of e) e.plan workers capacity before)) net.limit - moves_of net
