use Rattle.std.proofs.Common.{◌≡◌, ◌≤◌, take}
use Rattle.std.specs.Io.KnownBytes.{Appends}
use Rattle.std.specs.List.{flat_map}
use Rattle.nona_report.specs.Report.{seen_text}
use Rattle.nona_report.proofs.report.send_loops.Given as goal

-- what is seen of the loops so far went out
abbrev pub invariant-loop-one : goal.invariant-loop-one
invariant-loop-one g l = record {
  later : g.K.Sink.faults l.fn.out ≤ g.K.Sink.faults l.out;
  sent : Appends (g.K.Sink.written l.fn.out) (g.K.Sink.written l.out) (flat_map seen_text (take l.one-index l.all));
  kept : g.K.Sink.faults l.out ≡ g.K.Sink.faults l.fn.out;
}
