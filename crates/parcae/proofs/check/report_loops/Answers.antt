use Rattle.std.proofs.Common.{ap, ◌∙◌, [], arith}
use Rattle.std.proofs.KnownBytes.{Appends-nil}
use Rattle.nona_report.specs.Report.{report_text}
use Rattle.nona_stages.specs.Seen.{seen_of}
use Rattle.parcae.specs.declared.status.Status.TheVariants as status
use Rattle.parcae.specs.Told.{told_of, bare, once_sent}
use Rattle.parcae.specs.Due.{DueOfCheck, check_ran, check_unbegun}
use Rattle.parcae.proofs.Ending.{ends_unbegun, ends_behind}
use Rattle.parcae.proofs.check.report_loops.Goals as goal

-- the report went out with its result
pub returns-in-Ok : goal.returns-in-Ok
returns-in-Ok g c =
    let written = g.K.Sink.written in
    let faults = g.K.Sink.faults in
    let sent = c.send_report-sent.ensures.sent in
    ends_behind (DueOfCheck c.args.program.now)
    (written c.args.out.now) (written c.args.out.now) (written c.send_report-sent.new.out)
    (faults c.args.out.now) (faults c.args.out.now) (faults c.send_report-sent.new.out)
    (bare status.Done) (told_of c.once_sent.result) [] (report_text (seen_of c.args.program.now))
    check_ran (Appends-nil (written c.args.out.now)) (omega arith)
    (c.send_report-sent.result, rw (← c.in-Ok.ensures, ← c.deref.ensures.value) sent, c.once_sent.ensures ∙ ap (once_sent c.send_report-sent.result) c.bare.ensures)

-- memory ran out before the loops were seen
pub returns-in-Err : goal.returns-in-Err
returns-in-Err g c = rw c.bare-in-Err.ensures (ends_unbegun _ (g.K.Sink.written c.args.out.now) (g.K.Sink.faults c.args.out.now) check_unbegun)
