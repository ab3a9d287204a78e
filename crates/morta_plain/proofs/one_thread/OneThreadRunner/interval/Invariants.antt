use Rattle.std.proofs.Common.{◌≡◌, ◌≤◌, ◌+◌}
use Rattle.nona_tree.specs.Run.{done}
use Rattle.morta_task.specs.Entries.{before, state_after}
use Rattle.morta_plain.proofs.one_thread.OneThreadRunner.interval.Given as goal

-- the iterations so far are done, and the frame has room
abbrev pub invariant-iterations : goal.invariant-iterations
invariant-iterations l =
    record {
      state : state_after l.entry (before l.entry l.fn.handoff.next + l.k) ≡ done l.store;
      room : l.units.room ≤ l.frame.room;
    }
