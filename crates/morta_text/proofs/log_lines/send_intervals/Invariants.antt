use Rattle.std.proofs.Common.{◌≡◌, take}
use Rattle.std.specs.Io.KnownBytes.{Appends}
use Rattle.fate_io.specs.Numbered.{texts_from}
use Rattle.morta_text.specs.Texts.{interval_text}
use Rattle.morta_text.proofs.log_lines.send_intervals.Given as goal

-- the intervals so far went out, with their entries
abbrev pub invariant-loop-place : goal.invariant-loop-place
invariant-loop-place g l = record {
  kept : g.K.Sink.faults l.out ≡ g.K.Sink.faults l.fn.out;
  sent : Appends (g.K.Sink.written l.fn.out) (g.K.Sink.written l.out) (texts_from (interval_text l.log) 0 (take l.place l.intervals));
}
