use Rattle.std.proofs.Common.{◌∙◌, ap}
use Rattle.parcae.specs.Told.{ran_of, told_of, once_sent}
use Rattle.parcae.proofs.Trying.{ends_tried, ends_tried_short}
use Rattle.parcae.proofs.trials.report_trial.Goals as goal

-- the summary went out with its result
pub returns-in-Ok : goal.returns-in-Ok
returns-in-Ok g c =
    let written = g.K.Sink.written in
    let faults = g.K.Sink.faults in
    let told = rw c.in-Ok.is at c.requires in
    ends_tried c.args.number c.args.driven.log (ran_of c.in-Ok.run') c.summary_of-summary.result
    (written c.args.out.now) (written c.send_summary-sent.new.out) (faults c.args.out.now) (faults c.send_summary-sent.new.out)
    (told_of c.once_sent.result) c.send_summary-sent.result told.log told.whole told.few told.ended c.summary_of-summary.ensures c.send_summary-sent.ensures.sent
    (c.once_sent.ensures ∙ ap (once_sent c.send_summary-sent.result) c.finished.ensures)

-- the replay stopped short
pub returns-in-Err : goal.returns-in-Err
returns-in-Err g c =
    let written = g.K.Sink.written in
    let faults = g.K.Sink.faults in
    let told = rw c.in-Err.is at c.requires in
    ends_tried_short c.args.number c.args.driven.log (written c.args.out.now) (written c.stop_short.new.out) (faults c.args.out.now) (faults c.stop_short.new.out)
    c.in-Err.fault (told_of c.stop_short.result) told.log told.few told.stops c.stop_short.ensures
