use Rattle.std.proofs.Common.{◌-◌, ◌≤◌, length}
use Rattle.fate_io.specs.Sending.{sent_since}
use Rattle.morta_exec.specs.Began.{began}
use Rattle.morta_exec.specs.Places.{most}
use Rattle.morta_exec.specs.Puts.{HasPut}
use Rattle.morta_exec.specs.Standing.{StandsBefore}
use Rattle.morta_exec.proofs.entry_run.run_entry.Given as goal

-- between two intervals of the entry, or before its first
abbrev pub invariant-loop-pending : goal.invariant-loop-pending
invariant-loop-pending g l = record {
  stands : StandsBefore g.M.Morta.promise (began l.start) l.morta l.entry l.log l.pending;
  put : HasPut (sent_since g.K.Sink.written g.K.Sink.faults l.start.out.value l.out) l.pending.handoff.store.printed;
  few : length l.log.intervals ≤ most;
  more : length l.fn.log.intervals ≤ length l.log.intervals;
}

abbrev pub decreases-loop-pending : goal.decreases-loop-pending
decreases-loop-pending g l = most - length l.log.intervals
