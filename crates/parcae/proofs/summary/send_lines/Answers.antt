use Rattle.std.proofs.Common.{arith, string_bytes}
use Rattle.std.proofs.lemmas.Result.{err_from_is_err_and}
use Rattle.fate_io.proofs.Texts.{sends_stop}
use Rattle.parcae.proofs.summary.send_lines.Goals as goal

-- the sink broke off at this line
pub returns-in_err-send-clause-sent : goal.returns-in_err-send-clause-sent
returns-in_err-send-clause-sent g c =
    let written = g.K.Sink.written in
    let faults = g.K.Sink.faults in
    let told = err_from_is_err_and c.from_residual.result c.from_residual.ensures.1 in
    rw (told.1, told.2) (sends_stop string_bytes c.args.lines.now c.loop-line.line-index c.line-item.result c.line-item.result
    (written c.args.out.now) (written c.loop-line.out) (written c.send.new.out)
    (faults c.args.out.now) (faults c.loop-line.out) (faults c.send.new.out) c.in_err-send.field-0.0
    (omega arith) c.line-item.is c.loop-line.invariant.sent c.loop-line.invariant.later (rw c.as_bytes.ensures.value at c.in_err-send.ensures.sent))
