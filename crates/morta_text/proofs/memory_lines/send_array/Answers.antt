use Rattle.std.proofs.Common.{length}
use Rattle.fate_io.proofs.Texts.{sends_both, sends_first}
use Rattle.fate_io.specs.Numbered.{texts_from}
use Rattle.morta_text.specs.Texts.{array_line, cell_text}
use Rattle.morta_text.proofs.memory_lines.send_array.Goals as goal

-- the line of the array went out, and then those of its cells as far as they did
pub returns-in-Ok-clause-sent : goal.returns-in-Ok-clause-sent
returns-in-Ok-clause-sent g c =
    sends_both _ _ _ _ _ _ (array_line c.args.name.now (length c.args.cells.now)) _ c.send_cells.result c.in-Ok.ensures.sent c.in-Ok.ensures.later c.send_cells.ensures.sent

-- the sink broke off at the line of the array
pub returns-in-Err-clause-sent : goal.returns-in-Err-clause-sent
returns-in-Err-clause-sent g c =
    sends_first _ (array_line c.args.name.now (length c.args.cells.now)) (texts_from (cell_text c.args.name.now) 0 c.args.cells.now) c.in-Err.fault c.in-Err.ensures.sent
