use Rattle.std.proofs.Common.{arith, ◌+◌, ◌∙◌}
use Rattle.std.proofs.lemmas.Result.{err_from_is_err_and}
use Rattle.fate_io.proofs.Numbered.{numbered_more, numbered_stop}
use Rattle.nona_report.specs.Report.{stage_line}
use Rattle.nona_report.proofs.report.send_stages.Goals as goal

-- the sink broke off at this stage
pub returns-in_err-send_stage-clause-sent : goal.returns-in_err-send_stage-clause-sent
returns-in_err-send_stage-clause-sent g c =
    let written = g.K.Sink.written in
    let faults = g.K.Sink.faults in
    let told = err_from_is_err_and c.from_residual.result c.from_residual.ensures.1 in
    rw (told.1, told.2) (numbered_stop stage_line 1 c.args.stages.now c.loop-place.place (c.loop-place.place + 1) c.index-stages-place.result c.index-stages-place.result
    (written c.args.out.now) (written c.loop-place.out) (written c.send_stage.new.out)
    (faults c.args.out.now) (faults c.loop-place.out) (faults c.send_stage.new.out) c.in_err-send_stage.field-0.0 (omega arith) (omega arith) c.index-stages-place.is
    c.loop-place.invariant.sent (omega arith) c.in_err-send_stage.ensures.sent)

-- the line of one more stage went out
pub loop-place-preserved : goal.loop-place-preserved
loop-place-preserved g c =
    let written = g.K.Sink.written in
    record {
      kept = c.in_ok-send_stage.ensures.kept ∙ c.loop-place.invariant.kept;
      sent = numbered_more stage_line 1 c.args.stages.now c.loop-place.place (c.loop-place.place + 1) c.index-stages-place.result c.index-stages-place.result
          (written c.args.out.now) (written c.loop-place.out) (written c.send_stage.new.out)
          (omega arith) (omega arith) c.index-stages-place.is c.loop-place.invariant.sent c.in_ok-send_stage.ensures.sent;
    }
