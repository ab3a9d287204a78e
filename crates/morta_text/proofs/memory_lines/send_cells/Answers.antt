use Rattle.std.proofs.Common.{arith, pos, rules, get_or, ◌∙◌, of_z, to_z, w64}
use Rattle.std.proofs.lemmas.Result.{err_from_is_err_and}
use Rattle.morta_text.specs.Texts.{cell_text}
use Rattle.fate_io.proofs.Numbered.{numbered_more, numbered_stop}
use Rattle.morta_text.proofs.memory_lines.send_cells.Goals as goal

-- the sink broke off at this cell
pub returns-in_err-send_cell-clause-sent : goal.returns-in_err-send_cell-clause-sent
returns-in_err-send_cell-clause-sent g c =
    let written = g.K.Sink.written in
    let faults = g.K.Sink.faults in
    let told = err_from_is_err_and c.from_residual.result c.from_residual.ensures.1 in
    rw (told.1, told.2) (numbered_stop (cell_text c.args.name.now) 0 c.args.cells.now c.loop-place.place c.loop-place.place
    (to_z w64 (of_z w64 (get_or c.args.cells.now c.loop-place.place (pos 0)))) (pos 0)
    (written c.args.out.now) (written c.loop-place.out) (written c.send_cell.new.out)
    (faults c.args.out.now) (faults c.loop-place.out) (faults c.send_cell.new.out) c.in_err-send_cell.field-0.0 (omega arith) (omega arith) (search rules)
    c.loop-place.invariant.sent (omega arith) c.in_err-send_cell.ensures.sent)

-- one more cell went out
pub loop-place-preserved : goal.loop-place-preserved
loop-place-preserved g c =
    let written = g.K.Sink.written in
    record {
      kept = c.in_ok-send_cell.ensures.kept ∙ c.loop-place.invariant.kept;
      sent = numbered_more (cell_text c.args.name.now) 0 c.args.cells.now c.loop-place.place c.loop-place.place
          (to_z w64 (of_z w64 (get_or c.args.cells.now c.loop-place.place (pos 0)))) (pos 0)
          (written c.args.out.now) (written c.loop-place.out) (written c.send_cell.new.out) (omega arith) (omega arith) (search rules) c.loop-place.invariant.sent c.in_ok-send_cell.ensures.sent;
    }
