-- The machine of an interval, in any version.
use Rattle.std.specs.Prelude.{◌≡◌, ℕ, ◌+◌, Bool, true, false, ℤ, List}
use Rattle.nona_tree.specs.Memory.{Memory}
use Rattle.nona_tree.specs.Run.{done}
use Rattle.morta_task.specs.declared.schemes.Scheme.{Scheme}
use Rattle.morta_task.specs.declared.schemes.Scheme.TheVariants.{Seq, Any, Pipe}
use Rattle.morta_task.specs.declared.intervals.Handoff.{Handoff}
use Rattle.morta_task.specs.declared.intervals.Ran.{Ran}
use Rattle.morta_task.specs.Entries.{EntryView, before, loop_of, state_after}
use Rattle.net_flow.specs.Machines.{Machine}
use Rattle.net_flow.specs.Net.{Net, task_at}
use Rattle.net_share.specs.declared.sharing.StepEnd.{StepEnd}
use Rattle.net_share.specs.declared.sharing.StepEnd.TheVariants as step_end
use Rattle.net_share.specs.Entries.{work_in}
use Rattle.net_share.specs.May.{IsAtUnit}
use Rattle.net_pipe.specs.Entries.{pipe_work}
use Rattle.net_pipe.specs.Works.{Values}
use Rattle.weave.specs.SeqNet.{SeqNet, seq_machine, begun_net, ran_of}
use Rattle.weave.specs.Shared.{shared_machine, begun_shared, shared_ran}
use Rattle.weave.specs.Staged.{staged_machine, begun_staged, staged_ran}

-- one task; tasks that share the iterations of an entry behind so many: how many tasks, and their net; or the tasks of its stages: how
-- many workers a parallel stage has, how many messages a link holds, and their net
pub data NetView : Type 0 where
  One : SeqNet → NetView
  Shared : EntryView → ℕ → ℕ → Net Memory (Unit {0}) → NetView
  Staged : EntryView → ℕ → ℕ → ℕ → Net Values (List ℤ) → NetView

-- how many tasks there are
abbrev pub tasks_of : NetView → ℕ
tasks_of (One net) = seq_machine.tasks net
tasks_of (Shared e before workers net) = (shared_machine e before workers).tasks net
tasks_of (Staged e before workers capacity net) = (staged_machine e before workers capacity).tasks net

-- whether a task has finished
abbrev pub finished_in : NetView → ℕ → Bool
finished_in (One net) task = seq_machine.finished net task
finished_in (Shared e before workers net) task = (shared_machine e before workers).finished net task
finished_in (Staged e before workers capacity net) task = (staged_machine e before workers capacity).finished net task

-- whether the next step of a task waits
abbrev pub waits_in : NetView → ℕ → Bool
waits_in (One net) task = seq_machine.waits net task
waits_in (Shared e before workers net) task = (shared_machine e before workers).waits net task
waits_in (Staged e before workers capacity net) task = (staged_machine e before workers capacity).waits net task

-- one step of a task
abbrev pub after_step : NetView → ℕ → NetView
after_step (One net) task = One (seq_machine.step net task)
after_step (Shared e before workers net) task = Shared e before workers ((shared_machine e before workers).step net task)
after_step (Staged e before workers capacity net) task =
    Staged e before workers capacity ((staged_machine e before workers capacity).step net task)

-- with the pause mark
abbrev pub after_pause : NetView → NetView
after_pause (One net) = One (seq_machine.pause net)
after_pause (Shared e before workers net) = Shared e before workers ((shared_machine e before workers).pause net)
after_pause (Staged e before workers capacity net) = Staged e before workers capacity ((staged_machine e before workers capacity).pause net)

-- the machine of an interval
abbrev pub machine : Machine NetView
machine = record {
  tasks = tasks_of;
  finished = finished_in;
  waits = waits_in;
  step = after_step;
  pause = after_pause;
}

-- the machine of an interval in this version, with so many workers and so many messages in a link, that begins at an index with this
-- store, before its first step
abbrev pub BeginsIn : Scheme → ℕ → ℕ → EntryView → ℤ → ℕ → Memory → NetView → Type 0
BeginsIn Seq workers capacity e from limit m net = net ≡ One (begun_net e (before e from) limit m)
BeginsIn Any workers capacity e from limit m net = net ≡ Shared e (before e from) workers (begun_shared e (before e from) limit workers)
BeginsIn Pipe workers capacity e from limit m net =
    net ≡ Staged e (before e from) workers capacity (begun_staged e (before e from) limit workers capacity)

-- what a step of a task says of it: it moved, it waits, or it had finished, and then nothing changed
abbrev pub StepSays : StepEnd → ℕ → NetView → NetView → Type 0
StepSays step_end.Moved task net next =
    (finished_in net task ≡ false) × (waits_in net task ≡ false) × (next ≡ after_step net task)
StepSays step_end.Waits task net next =
    (finished_in net task ≡ false) × (waits_in net task ≡ true) × (next ≡ after_step net task)
StepSays step_end.Finished task net next = (finished_in net task ≡ true) × (next ≡ net)

-- where a step of a task may want memory: before a unit; and under `seq` also before a claim, which declares the index in the store
abbrev pub MayWant : NetView → ℕ → Type 0
MayWant (One net) task = finished_in (One net) task ≡ false
MayWant (Shared e before workers net) task = IsAtUnit (task_at (work_in (loop_of e) before workers) net task).position
MayWant (Staged e before workers capacity net) task =
    IsAtUnit (task_at (pipe_work (loop_of e) e.plan workers capacity before) net task).position

-- what an interval did whose tasks have finished, and what it hands on: the next index, and the store that one thread has there
abbrev pub EndsWith : NetView → Ran → Handoff → Type 0
EndsWith (One net) ran handoff = (ran ≡ ran_of net) × (handoff.next ≡ ran.to) × (handoff.store ≡ net.store)
EndsWith (Shared e before workers net) ran handoff =
    (ran ≡ shared_ran e before net) × (handoff.next ≡ ran.to) × (state_after e (before + net.granted) ≡ done handoff.store)
EndsWith (Staged e before workers capacity net) ran handoff =
    (ran ≡ staged_ran e before net) × (handoff.next ≡ ran.to) × (state_after e (before + net.granted) ≡ done handoff.store)
