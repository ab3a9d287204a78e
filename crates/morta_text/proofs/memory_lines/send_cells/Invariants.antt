use Rattle.std.proofs.Common.{◌≡◌, take}
use Rattle.std.specs.Io.KnownBytes.{Appends}
use Rattle.fate_io.specs.Numbered.{texts_from}
use Rattle.morta_text.specs.Texts.{cell_text}
use Rattle.morta_text.proofs.memory_lines.send_cells.Given as goal

-- the lines of the cells so far went out
abbrev pub invariant-loop-place : goal.invariant-loop-place
invariant-loop-place g l = record {
  kept : g.K.Sink.faults l.out ≡ g.K.Sink.faults l.fn.out;
  sent : Appends (g.K.Sink.written l.fn.out) (g.K.Sink.written l.out) (texts_from (cell_text l.name) 0 (take l.place l.cells));
}
