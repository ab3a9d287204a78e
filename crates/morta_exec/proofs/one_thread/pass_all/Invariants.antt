use Rattle.fate_io.specs.Sending.{sent_since}
use Rattle.morta_exec.specs.Began.{began}
use Rattle.morta_exec.specs.Puts.{HasPut}
use Rattle.morta_exec.specs.Through.{IsThrough}
use Rattle.morta_exec.proofs.one_thread.pass_all.Given as goal

-- between two regions, or before the first
abbrev pub invariant-loop-count : goal.invariant-loop-count
invariant-loop-count g l = record {
  through : IsThrough (g.F.MainFrame.left l.frame l.start.turns) (began l.start) l.store l.count.value;
  put : HasPut (sent_since g.K.Sink.written g.K.Sink.faults l.start.out.value l.out) l.store.printed;
}

abbrev pub decreases-loop-count : goal.decreases-loop-count
decreases-loop-count g l = l.count.value
