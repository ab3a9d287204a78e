use Rattle.std.proofs.Common.{◌≤◌, string_bytes, take}
use Rattle.std.specs.Io.KnownBytes.{Appends}
use Rattle.std.specs.List.{flat_map}
use Rattle.parcae.proofs.summary.send_lines.Given as goal

-- the lines so far went out
abbrev pub invariant-loop-line : goal.invariant-loop-line
invariant-loop-line g l = record {
  later : g.K.Sink.faults l.fn.out ≤ g.K.Sink.faults l.out;
  sent : Appends (g.K.Sink.written l.fn.out) (g.K.Sink.written l.out) (flat_map string_bytes (take l.line-index l.lines));
}
