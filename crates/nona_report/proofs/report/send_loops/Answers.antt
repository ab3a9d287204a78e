use Rattle.std.proofs.Common.{arith}
use Rattle.std.proofs.lemmas.Result.{err_from_is_err_and}
use Rattle.fate_io.proofs.Texts.{sends_stop}
use Rattle.nona_report.specs.Report.{seen_text}
use Rattle.nona_report.proofs.report.send_loops.Goals as goal

-- the sink broke off at what is seen of this loop
pub returns-in_err-send_seen-clause-sent : goal.returns-in_err-send_seen-clause-sent
returns-in_err-send_seen-clause-sent g c =
    let written = g.K.Sink.written in
    let faults = g.K.Sink.faults in
    let told = err_from_is_err_and c.from_residual.result c.from_residual.ensures.1 in
    rw (told.1, told.2) (sends_stop seen_text c.args.all.now c.loop-one.one-index c.one-item.result c.one-item.result
    (written c.args.out.now) (written c.loop-one.out) (written c.send_seen.new.out)
    (faults c.args.out.now) (faults c.loop-one.out) (faults c.send_seen.new.out) c.in_err-send_seen.field-0.0
    (omega arith) c.one-item.is c.loop-one.invariant.sent c.loop-one.invariant.later c.in_err-send_seen.ensures.sent)
