use Rattle.std.proofs.Common.{sym, subst}
use Rattle.fate_io.specs.Sending.{sent_since}
use Rattle.morta_exec.specs.declared.fault.DriveFault.TheVariants.{NoMemory}
use Rattle.morta_exec.specs.Began.{began}
use Rattle.morta_exec.specs.EntryRun.{HasStopped}
use Rattle.morta_exec.proofs.Stopping.{handed_on, stopped_memory}
use Rattle.morta_exec.proofs.Passing.{interval_prints, shown_front, stopped_interval, goes_on_at, added_one}
use Rattle.morta_exec.proofs.entry_run.run_and_show.Goals as goal

pub show-requires : goal.show-requires
show-requires g c =
    let on = interval_prints c.loops_of_entries.ensures c.args.entry.now c.args.pending.handoff c.in_ok-after.after c.args.log.now c.run_interval.new.log c.in_ok-after.interval c.requires.stands.state c.in_ok-after.ensures.ran in
    let front = shown_front _ _ _ c.printed-shown.result.now c.printed-shown.ensures on c.requires.put in
    record { shown = front.0; put = front.1 }

pub returns-in_err-after-clause-stopped : goal.returns-in_err-after-clause-stopped
returns-in_err-after-clause-stopped g c =
    handed_on _ c.from_residual.result _ c.from_residual.ensures.1
    (subst (λ l. HasStopped g.M.Morta.promise (began c.args.start.now) l (sent_since g.K.Sink.written g.K.Sink.faults c.args.start.now.out.value c.args.out.now) NoMemory) (sym c.in_err-after.ensures.err)
    (stopped_memory c.loops_of_entries.ensures g.M.Morta.promise (began c.args.start.now) c.args.morta.now c.args.entry.now c.args.log.now c.args.pending _
    c.requires.entry c.requires.stands c.requires.put c.requires.room))

pub returns-in_err-show-clause-stopped : goal.returns-in_err-show-clause-stopped
returns-in_err-show-clause-stopped g c =
    handed_on _ c.from_residual-in_err-show.result _ c.from_residual-in_err-show.ensures.1
    (stopped_interval c.loops_of_entries.ensures g.M.Morta.promise (began c.args.start.now) c.run_interval.new.morta c.args.entry.now c.args.pending.handoff.next c.args.log.now c.run_interval.new.log c.in_ok-after.after c.in_ok-after.interval _ c.in_err-show.field-0.0
    c.requires.entry c.in_ok-after.ensures.stands c.in_ok-after.ensures.ran c.requires.room c.in_err-show.ensures.sent c.show.ensures.later)

pub returns-clause-goes_on : goal.returns-clause-goes_on
returns-clause-goes_on g c =
    goes_on_at g.M.Morta.promise (began c.args.start.now) c.run_interval.new.morta c.args.entry.now c.args.pending.handoff.next c.args.log.now c.run_interval.new.log c.in_ok-after.after c.in_ok-after.interval c.loop_end-end.result
    c.requires.entry.of_run.named c.in_ok-after.ensures.stands c.in_ok-after.ensures.ran c.loop_end-end.ensures

pub returns-clause-added : goal.returns-clause-added
returns-clause-added g c =
    added_one c.args.entry.now c.args.pending.handoff.next c.args.log.now c.run_interval.new.log c.in_ok-after.after c.in_ok-after.interval c.in_ok-after.ensures.ran
