use Rattle.std.proofs.Common.{◌≡◌, take}
use Rattle.std.specs.Io.KnownBytes.{Appends}
use Rattle.fate_io.specs.Numbered.{texts_from}
use Rattle.nona_report.specs.Report.{stage_line}
use Rattle.nona_report.proofs.report.send_stages.Given as goal

-- the lines of the stages so far went out
abbrev pub invariant-loop-place : goal.invariant-loop-place
invariant-loop-place g l = record {
  kept : g.K.Sink.faults l.out ≡ g.K.Sink.faults l.fn.out;
  sent : Appends (g.K.Sink.written l.fn.out) (g.K.Sink.written l.out) (texts_from stage_line 1 (take l.place l.stages));
}
