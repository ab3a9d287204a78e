use Rattle.std.proofs.Common.{◌≡◌, ◌≤◌, take}
use Rattle.std.specs.Io.KnownBytes.{Appends}
use Rattle.morta_text.specs.Texts.{number_lines}
use Rattle.morta_text.proofs.number_lines.put_numbers.Given as goal

-- the lines of the numbers so far went out
abbrev pub invariant-loop-number : goal.invariant-loop-number
invariant-loop-number g l = record {
  later : g.K.Sink.faults l.fn.out ≤ g.K.Sink.faults l.out;
  sent : Appends (g.K.Sink.written l.fn.out) (g.K.Sink.written l.out) (number_lines (take l.number-index l.numbers));
  kept : g.K.Sink.faults l.out ≡ g.K.Sink.faults l.fn.out;
}
