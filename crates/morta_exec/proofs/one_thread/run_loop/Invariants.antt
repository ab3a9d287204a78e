use Rattle.std.proofs.Common.{◌≡◌, ◌≤◌}
use Rattle.nona_tree.specs.Run.{done}
use Rattle.morta_task.specs.Entries.{state_after}
use Rattle.morta_exec.proofs.one_thread.run_loop.Given as goal

-- the iterations so far are done, and the frame has room
abbrev pub invariant-iterations : goal.invariant-iterations
invariant-iterations l = record {
  state : state_after l.entry l.k ≡ done l.store;
  room : l.units.room ≤ l.frame.room;
}
