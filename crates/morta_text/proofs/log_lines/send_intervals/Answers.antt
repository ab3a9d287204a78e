use Rattle.std.proofs.Common.{arith, refl, ◌∙◌}
use Rattle.std.proofs.lemmas.Result.{err_from_is_err_and}
use Rattle.morta_text.specs.Texts.{interval_text}
use Rattle.fate_io.proofs.Numbered.{numbered_more, numbered_stop}
use Rattle.morta_text.proofs.log_lines.send_intervals.Goals as goal

-- the sink broke off at this interval
pub returns-in_err-send_interval-clause-sent : goal.returns-in_err-send_interval-clause-sent
returns-in_err-send_interval-clause-sent g c =
    let written = g.K.Sink.written in
    let faults = g.K.Sink.faults in
    let told = err_from_is_err_and c.from_residual.result c.from_residual.ensures.1 in
    rw (told.1, told.2) (rw c.intervals-intervals.ensures at (numbered_stop (interval_text c.args.log.now) 0 c.intervals-intervals.result.now c.loop-place.place c.loop-place.place _ _
    (written c.args.out.now) (written c.loop-place.out) (written c.send_interval.new.out)
    (faults c.args.out.now) (faults c.loop-place.out) (faults c.send_interval.new.out) c.in_err-send_interval.field-0.0 (omega arith) (omega arith) refl
    c.loop-place.invariant.sent (omega arith) c.in_err-send_interval.ensures.sent))

-- one more interval went out
pub loop-place-preserved : goal.loop-place-preserved
loop-place-preserved g c =
    let written = g.K.Sink.written in
    record {
      kept = c.in_ok-send_interval.ensures.kept ∙ c.loop-place.invariant.kept;
      sent = numbered_more (interval_text c.args.log.now) 0 c.intervals-intervals.result.now c.loop-place.place c.loop-place.place _ _
          (written c.args.out.now) (written c.loop-place.out) (written c.send_interval.new.out)
          (omega arith) (omega arith) refl c.loop-place.invariant.sent c.in_ok-send_interval.ensures.sent;
    }
