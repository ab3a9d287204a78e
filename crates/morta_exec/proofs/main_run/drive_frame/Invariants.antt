use Rattle.std.proofs.Common.{◌-◌, length}
use Rattle.fate_io.specs.Sending.{sent_since}
use Rattle.morta_exec.specs.Began.{began}
use Rattle.morta_exec.specs.Places.{most}
use Rattle.morta_exec.specs.Puts.{HasPut}
use Rattle.morta_exec.specs.MainRun.{Between}
use Rattle.morta_exec.proofs.main_run.drive_frame.Given as goal

-- between two entries, or before the first
abbrev pub invariant-loop-after : goal.invariant-loop-after
invariant-loop-after g l = record {
  between : Between g.M.Morta.promise (g.F.MainFrame.left l.frame l.start.turns) (began l.start) l.morta l.store l.log;
  put : HasPut (sent_since g.K.Sink.written g.K.Sink.faults l.start.out.value l.out) l.store.printed;
}

abbrev pub decreases-loop-after : goal.decreases-loop-after
decreases-loop-after g l = most - length l.log.intervals
