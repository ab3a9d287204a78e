-- A step keeps the number of tasks.
use Rattle.std.proofs.Common.{◌≡◌, ◌<◌, ℕ, ℤ, List, ap, ◌∙◌}
use Rattle.nona_tree.specs.Memory.{Memory}
use Rattle.morta_task.specs.Entries.{loop_of}
use Rattle.net_flow.proofs.StepForm.{rises, rest}
use Rattle.net_pipe.specs.Entries.{pipe_work}
use Rattle.net_pipe.specs.Works.{Values}
use Rattle.net_share.specs.declared.sharing.StepEnd.{StepEnd}
use Rattle.net_share.specs.declared.sharing.StepEnd.TheVariants as step_end
use Rattle.net_share.specs.Entries.{work_in}
use Rattle.weave.specs.NetView.{NetView, One, Shared, Staged, StepSays, tasks_of}

pub tasks_stay : (end : StepEnd) (task : ℕ) (net next : NetView) → task < tasks_of net → StepSays end task net next → tasks_of next ≡ tasks_of net
tasks_stay step_end.Moved task (One net) next there says = ap tasks_of says.2
tasks_stay step_end.Waits task (One net) next there says = ap tasks_of says.2
tasks_stay step_end.Finished task net next there says = ap tasks_of says.1
tasks_stay step_end.Moved task (Shared e before workers net) next there says =
    ap tasks_of says.2 ∙ (rises Memory (Unit {0}) (work_in (loop_of e) before workers) net task there says.0 says.1).1
tasks_stay step_end.Waits task (Shared e before workers net) next there says =
    ap tasks_of says.2 ∙ (rest Memory (Unit {0}) (work_in (loop_of e) before workers) net task says.1).tasks
tasks_stay step_end.Moved task (Staged e before workers capacity net) next there says =
    ap tasks_of says.2 ∙ (rises Values (List ℤ) (pipe_work (loop_of e) e.plan workers capacity before) net task there says.0 says.1).1
tasks_stay step_end.Waits task (Staged e before workers capacity net) next there says =
    ap tasks_of says.2 ∙ (rest Values (List ℤ) (pipe_work (loop_of e) e.plan workers capacity before) net task says.1).tasks
