-- The machine of an interval under `pipe`: tasks of the stages through which the iterations go.
use Rattle.std.specs.Prelude.{ℕ, ◌+◌, pos, ◌+ℤ◌, ℤ, List, Some}
use Rattle.nona_tree.specs.declared.outcomes.Outcome.TheVariants as outcome
use Rattle.morta_task.specs.declared.intervals.Ran.{Ran}
use Rattle.morta_task.specs.Entries.{EntryView, loop_of}
use Rattle.morta_task.specs.Running.{cut_of}
use Rattle.net_flow.specs.Machines.{Machine}
use Rattle.net_flow.specs.Net.{Net, moves_of, net_machine}
use Rattle.net_pipe.specs.Kept.{most_moves}
use Rattle.net_pipe.specs.Entries.{pipe_net, pipe_work}
use Rattle.net_pipe.specs.Works.{Values}

-- the machine of the tasks of an entry's stages, behind so many of its iterations, where a parallel stage has so many workers and a
-- link holds so many messages
abbrev pub staged_machine : EntryView → ℕ → ℕ → ℕ → Machine (Net Values (List ℤ))
staged_machine e before workers capacity = net_machine (pipe_work (loop_of e) e.plan workers capacity before)

-- before its first step
abbrev pub begun_staged : EntryView → ℕ → ℕ → ℕ → ℕ → Net Values (List ℤ)
begun_staged e before limit workers capacity = pipe_net (loop_of e) e.plan workers capacity before limit

-- what an interval did whose tasks have finished: its steps are all their moves, and its ticks those of the task that moved most
abbrev pub staged_ran : EntryView → ℕ → Net Values (List ℤ) → Ran
staged_ran e before net = record {
  to = e.low +ℤ pos (before + net.granted);
  work = Some (record { steps = moves_of net; waits = net.waits });
  ticks = most_moves net.tasks;
  cut = cut_of outcome.Done net.granted net.limit;
}
