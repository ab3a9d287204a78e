use Rattle.std.proofs.Common.{◌∙◌, ap, sym, subst}
use Rattle.fate_io.specs.Sending.{sent_since}
use Rattle.nona_tree.specs.Memory.{Memory}
use Rattle.morta_exec.specs.Began.{began, whole_run}
use Rattle.morta_exec.specs.Puts.{HasPut}
use Rattle.morta_exec.proofs.Stopping.{handed_on}
use Rattle.morta_exec.proofs.Coming.{front_put}
use Rattle.morta_exec.proofs.Passing.{shown_front}
use Rattle.morta_exec.proofs.Through.{broken_more, before_prints, loop_prints, behind_prints, region_passed, region_leaves, region_ended}
use Rattle.morta_exec.proofs.one_thread.pass_region.Goals as goal

pub show-requires : goal.show-requires
show-requires g c =
    let e = c.args.arrival.entry in
    let front = shown_front _ _ _ c.printed-shown.result.now (c.printed-shown.ensures ∙ ap (λ (m : Memory). m.printed) c.requires.begins.store)
    (loop_prints e c.in-Ok.ran.0 c.in-Ok.ran.1 c.loops_of_entries.ensures c.requires.at.entered c.in-Ok.ensures) c.requires.put in
    record { shown = front.0; put = front.1 }

pub leave-requires : goal.leave-requires
leave-requires g c =
    record {
      left = region_leaves (g.F.MainFrame.left c.args.frame.now) (began c.args.start.now) c.args.start.now.turns c.args.arrival.entry c.args.count.now.value c.in-Ok.ran.0 c.in-Ok.ran.1
          c.requires.at c.in-Ok.ensures c.in_default.not-Done;
    }

pub returns-in-Done-clause-goes_on : goal.returns-in-Done-clause-goes_on
returns-in-Done-clause-goes_on g c =
    region_passed (g.F.MainFrame.left c.args.frame.now c.args.start.now.turns) (began c.args.start.now) c.args.arrival.entry c.args.count.now.value c.in-Ok.ran.0 c.in-Ok.ran.1
    c.requires.at c.in-Ok.ensures c.in-Done.is

pub returns-clause-goes_on : goal.returns-clause-goes_on
returns-clause-goes_on g c =
    let n = c.args.start.now.turns in
    region_ended (g.F.MainFrame.left c.args.frame.now n) (began c.args.start.now) c.args.arrival.entry c.args.count.now.value c.in-Ok.ran.0 c.leave.new.store c.in-Ok.ran.1
    c.requires.at c.in-Ok.ensures (c.leave.ensures.leaves n c.in-Ok.ran.1 c.requires.at.rest c.in_default.not-Done)

pub returns-clause-put : goal.returns-clause-put
returns-clause-put g c =
    subst (HasPut (sent_since g.K.Sink.written g.K.Sink.faults c.args.start.now.out.value c.show.new.out)) (sym c.leave.ensures.printed) c.in_ok-show.ensures.put

-- memory ran out in the region
pub returns-in-Err-clause-stopped : goal.returns-in-Err-clause-stopped
returns-in-Err-clause-stopped g c =
    front_put (sent_since g.K.Sink.written g.K.Sink.faults c.args.start.now.out.value c.args.out.now) c.args.arrival.entry.store.printed (whole_run (began c.args.start.now)).store.printed
    (before_prints (g.F.MainFrame.left c.args.frame.now c.args.start.now.turns) (began c.args.start.now) c.args.arrival.entry c.args.count.now.value c.loops_of_entries.ensures
    (g.met.F.MainFrame.only_prints c.args.frame.now c.args.start.now.turns) c.requires.at) c.requires.put

-- the sink broke off at its numbers
pub returns-in_err-show-clause-stopped : goal.returns-in_err-show-clause-stopped
returns-in_err-show-clause-stopped g c =
    handed_on _ c.from_residual.result _ c.from_residual.ensures.1
    (broken_more (sent_since g.K.Sink.written g.K.Sink.faults c.args.start.now.out.value c.show.new.out) c.in-Ok.ran.0.printed (whole_run (began c.args.start.now)).store.printed c.in_err-show.field-0.0
    (behind_prints (g.F.MainFrame.left c.args.frame.now c.args.start.now.turns) (began c.args.start.now) c.args.arrival.entry c.args.count.now.value c.in-Ok.ran.0 c.in-Ok.ran.1
    (g.met.F.MainFrame.only_prints c.args.frame.now c.args.start.now.turns) c.requires.at c.in-Ok.ensures)
    c.in_err-show.ensures.sent)
