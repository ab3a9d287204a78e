-- The machine of an interval under `any`: tasks that share the iterations.
use Rattle.std.specs.Prelude.{ℕ, ◌+◌, pos, ◌+ℤ◌, Some}
use Rattle.nona_tree.specs.declared.outcomes.Outcome.TheVariants as outcome
use Rattle.nona_tree.specs.Memory.{Memory}
use Rattle.morta_task.specs.declared.intervals.Ran.{Ran}
use Rattle.morta_task.specs.Entries.{EntryView, loop_of}
use Rattle.morta_task.specs.Running.{cut_of}
use Rattle.net_flow.specs.Machines.{Machine}
use Rattle.net_flow.specs.Net.{Net, moves_of, net_machine}
use Rattle.net_share.specs.Entries.{entry_net, work_in}
use Rattle.net_share.specs.Kept.{most_moves}

-- the machine of so many tasks that share the iterations of an entry behind so many
abbrev pub shared_machine : EntryView → ℕ → ℕ → Machine (Net Memory (Unit {0}))
shared_machine e before workers = net_machine (work_in (loop_of e) before workers)

-- before its first step
abbrev pub begun_shared : EntryView → ℕ → ℕ → ℕ → Net Memory (Unit {0})
begun_shared e before limit workers = entry_net (loop_of e) before limit workers

-- what an interval did whose tasks have finished: its steps are all their moves, and its ticks those of the task that moved most
abbrev pub shared_ran : EntryView → ℕ → Net Memory (Unit {0}) → Ran
shared_ran e before net = record {
  to = e.low +ℤ pos (before + net.granted);
  work = Some (record { steps = moves_of net; waits = net.waits });
  ticks = most_moves net.tasks;
  cut = cut_of outcome.Done net.granted net.limit;
}
