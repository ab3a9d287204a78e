use Rattle.std.proofs.Common.{◌≡◌, take}
use Rattle.std.specs.Io.KnownBytes.{Appends}
use Rattle.fate_io.specs.Numbered.{texts_from}
use Rattle.morta_text.specs.Texts.{declared_text}
use Rattle.morta_text.proofs.memory_lines.send_arrays.Given as goal

-- the lines of the arrays so far went out
abbrev pub invariant-loop-number : goal.invariant-loop-number
invariant-loop-number g l = record {
  kept : g.K.Sink.faults l.out ≡ g.K.Sink.faults l.fn.out;
  sent : Appends (g.K.Sink.written l.fn.out) (g.K.Sink.written l.out) (texts_from (declared_text l.store) 1 (take l.number l.arrays));
}
