use Rattle.std.proofs.Common.{subst, refl, rules, FitsSigned, w64}
use Rattle.std.proofs.lemmas.Int.{to_z-of_z}
use Rattle.fate_io.specs.Sending.{sent_since}
use Rattle.nona_code.specs.MainStops.{Stops}
use Rattle.morta_exec.specs.Began.{began, whole_run}
use Rattle.morta_exec.proofs.Stopping.{handed_on}
use Rattle.morta_exec.proofs.Passing.{shown_front}
use Rattle.morta_exec.proofs.Coming.{front_put}
use Rattle.morta_exec.proofs.Onward.{can_enter}
use Rattle.morta_exec.proofs.Through.{broken_more, through_prints, stop_prints, through_ended, through_region}
use Rattle.morta_exec.proofs.one_thread.pass.Goals as goal

pub show-requires : goal.show-requires
show-requires g c =
    let front = shown_front _ _ _ c.printed-shown.result.now c.printed-shown.ensures c.in-Ok.ensures.prints c.requires.put in
    record { shown = front.0; put = front.1 }

pub returns-in-Ended-clause-goes_on : goal.returns-in-Ended-clause-goes_on
returns-in-Ended-clause-goes_on g c =
    let n = c.args.start.now.turns in
    let w = c.requires.through in
    let later = g.F.MainFrame.left c.next.new.self n in
    through_ended (g.F.MainFrame.left c.args.frame.now n) later (began c.args.start.now) c.args.store c.next.new.store c.args.count.now.value c.in-Ended.end
    w (subst (λ s. Stops later w.rest n s c.next.new.store) c.in-Ended.is (c.in-Ok.ensures.stops w.rest w.left_is))

pub arrive-arrival-requires : goal.arrive-arrival-requires
arrive-arrival-requires g c =
    let n = c.args.start.now.turns in
    let w = c.requires.through in
    let later = g.F.MainFrame.left c.next.new.self n in
    let enters = can_enter later (began c.args.start.now) w.rest c.next.new.store c.in-Region.number c.in-Region.low c.in-Region.high w.are_regions
    (subst (λ s. Stops later w.rest n s c.next.new.store) c.in-Region.is (c.in-Ok.ensures.stops w.rest w.left_is)) in
    record { some_turns = c.requires.some_turns; few_turns = c.requires.few_turns; enters = enters }

pub pass_region-requires-clause-at : goal.pass_region-requires-clause-at
pass_region-requires-clause-at g c =
    let n = c.args.start.now.turns in
    let w = c.requires.through in
    let later = g.F.MainFrame.left c.next.new.self n in
    let low : FitsSigned w64 c.in-Region.low = search rules in
    let high : FitsSigned w64 c.in-Region.high = search rules in
    through_region (g.F.MainFrame.left c.args.frame.now n) later (began c.args.start.now) c.args.store c.next.new.store c.args.count.now.value
    c.in-Region.number c.in-Region.low c.in-Region.high _ _
    w (subst (λ s. Stops later w.rest n s c.next.new.store) c.in-Region.is (c.in-Ok.ensures.stops w.rest w.left_is))
    refl (to_z-of_z w64 c.in-Region.low low) (to_z-of_z w64 c.in-Region.high high) c.arrive-arrival.ensures.opened

-- memory ran out in the main statements
pub returns-in-Err-clause-stopped : goal.returns-in-Err-clause-stopped
returns-in-Err-clause-stopped g c =
    front_put (sent_since g.K.Sink.written g.K.Sink.faults c.args.start.now.out.value c.args.out.now) c.args.store.printed (whole_run (began c.args.start.now)).store.printed
    (through_prints (g.F.MainFrame.left c.args.frame.now c.args.start.now.turns) (began c.args.start.now) c.args.store c.args.count.now.value
    (g.met.F.MainFrame.only_prints c.args.frame.now c.args.start.now.turns) c.requires.through) c.requires.put

-- the sink broke off at their numbers
pub returns-in_err-show-clause-stopped : goal.returns-in_err-show-clause-stopped
returns-in_err-show-clause-stopped g c =
    let n = c.args.start.now.turns in
    let w = c.requires.through in
    handed_on _ c.from_residual.result _ c.from_residual.ensures.1
    (broken_more (sent_since g.K.Sink.written g.K.Sink.faults c.args.start.now.out.value c.show.new.out) c.next.new.store.printed (whole_run (began c.args.start.now)).store.printed c.in_err-show.field-0.0
    (stop_prints (g.F.MainFrame.left c.args.frame.now n) (g.F.MainFrame.left c.next.new.self n) (began c.args.start.now) c.args.store c.next.new.store c.args.count.now.value c.in-Ok.stop
    c.printed_grows.ensures.one (g.met.F.MainFrame.only_prints c.next.new.self n) w (c.in-Ok.ensures.stops w.rest w.left_is))
    c.in_err-show.ensures.sent)
