use Rattle.std.proofs.Common.{arith, ◌+◌, ◌∙◌}
use Rattle.std.proofs.lemmas.Result.{err_from_is_err_and}
use Rattle.morta_text.specs.Texts.{declared_text}
use Rattle.fate_io.proofs.Numbered.{numbered_more, numbered_stop}
use Rattle.morta_text.proofs.memory_lines.send_arrays.Goals as goal

-- the sink broke off at this array
pub returns-in_err-send_declared-clause-sent : goal.returns-in_err-send_declared-clause-sent
returns-in_err-send_declared-clause-sent g c =
    let written = g.K.Sink.written in
    let faults = g.K.Sink.faults in
    let told = err_from_is_err_and c.from_residual.result c.from_residual.ensures.1 in
    rw (told.1, told.2) (numbered_stop (declared_text c.args.store.now) 1 c.args.arrays.now c.loop-number.number (c.loop-number.number + 1) c.index-arrays-number.result c.index-arrays-number.result
    (written c.args.out.now) (written c.loop-number.out) (written c.send_declared.new.out)
    (faults c.args.out.now) (faults c.loop-number.out) (faults c.send_declared.new.out) c.in_err-send_declared.field-0.0 (omega arith) (omega arith) c.index-arrays-number.is
    c.loop-number.invariant.sent (omega arith) c.in_err-send_declared.ensures.sent)

-- one more array went out
pub loop-number-preserved : goal.loop-number-preserved
loop-number-preserved g c =
    let written = g.K.Sink.written in
    record {
      kept = c.in_ok-send_declared.ensures.kept ∙ c.loop-number.invariant.kept;
      sent = numbered_more (declared_text c.args.store.now) 1 c.args.arrays.now c.loop-number.number (c.loop-number.number + 1) c.index-arrays-number.result c.index-arrays-number.result
          (written c.args.out.now) (written c.loop-number.out) (written c.send_declared.new.out)
          (omega arith) (omega arith) c.index-arrays-number.is c.loop-number.invariant.sent c.in_ok-send_declared.ensures.sent;
    }
