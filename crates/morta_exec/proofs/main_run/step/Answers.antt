use Rattle.std.proofs.Common.{subst, refl, arith, rules, FitsSigned, w64}
use Rattle.std.proofs.lemmas.Int.{to_z-of_z}
use Rattle.nona_code.specs.MainStops.{Stops}
use Rattle.morta_exec.specs.Began.{began}
use Rattle.morta_exec.proofs.Stopping.{handed_on}
use Rattle.morta_exec.proofs.Passing.{shown_front}
use Rattle.morta_exec.proofs.Coming.{stopped_memory_main, stopped_main, run_ended}
use Rattle.morta_exec.proofs.Onward.{region_at, entry_at}
use Rattle.morta_exec.proofs.main_run.step.Goals as goal

pub show-requires : goal.show-requires
show-requires g c =
    let front = shown_front _ _ _ c.printed-shown.result.now c.printed-shown.ensures c.in_ok-stop.ensures.prints c.requires.put in
    record { shown = front.0; put = front.1 }

pub returns-in_err-stop-clause-stopped : goal.returns-in_err-stop-clause-stopped
returns-in_err-stop-clause-stopped g c =
    handed_on _ c.from_residual.result _ c.from_residual.ensures.1
    (stopped_memory_main g.M.Morta.promise (g.F.MainFrame.left c.args.frame.now c.args.start.now.turns) (began c.args.start.now) c.args.morta.now c.args.store c.args.log.now _ c.requires.between c.requires.put)

pub returns-in_err-show-clause-stopped : goal.returns-in_err-show-clause-stopped
returns-in_err-show-clause-stopped g c =
    handed_on _ c.from_residual-in_err-show.result _ c.from_residual-in_err-show.ensures.1
    (stopped_main g.M.Morta.promise (g.F.MainFrame.left c.args.frame.now c.args.start.now.turns) (g.F.MainFrame.left c.next.new.self c.args.start.now.turns) (began c.args.start.now) c.args.morta.now c.args.store c.next.new.store c.args.log.now _ c.in_ok-stop.stop c.in_err-show.field-0.0
    c.printed_grows.ensures.one (g.met.F.MainFrame.only_prints c.next.new.self c.args.start.now.turns) c.requires.between (c.in_ok-stop.ensures.stops c.requires.between.rest c.requires.between.left_is) c.in_err-show.ensures.sent c.show.ensures.later)

pub returns-in-Ended-clause-goes_on : goal.returns-in-Ended-clause-goes_on
returns-in-Ended-clause-goes_on g c =
    let n = c.args.start.now.turns in
    let w = c.requires.between in
    let later = g.F.MainFrame.left c.next.new.self n in
    run_ended g.M.Morta.promise (g.F.MainFrame.left c.args.frame.now n) later (began c.args.start.now) c.args.morta.now c.args.store c.next.new.store c.args.log.now c.in-Ended.end
    w (subst (λ s. Stops later w.rest n s c.next.new.store) c.in-Ended.is (c.in_ok-stop.ensures.stops w.rest w.left_is))

pub next_number-requires : goal.next_number-requires
next_number-requires g c = omega (arith, c.requires.between.stands.few, c.requires.between.behind.few)

pub arrive-arrival-requires : goal.arrive-arrival-requires
arrive-arrival-requires g c =
    let n = c.args.start.now.turns in
    let w = c.requires.between in
    let enters = region_at g.M.Morta.promise (g.F.MainFrame.left c.args.frame.now n) (g.F.MainFrame.left c.next.new.self n) (began c.args.start.now) c.args.morta.now c.args.store c.next.new.store c.args.log.now
    c.in_ok-stop.stop c.in-Region.number c.in-Region.low c.in-Region.high w (c.in_ok-stop.ensures.stops w.rest w.left_is) c.in-Region.is in
    record { some_turns = c.requires.some_turns; few_turns = c.requires.few_turns; enters = enters }

pub run_region-requires-clause-at : goal.run_region-requires-clause-at
run_region-requires-clause-at g c =
    let n = c.args.start.now.turns in
    let w = c.requires.between in
    let low : FitsSigned w64 c.in-Region.low = search rules in
    let high : FitsSigned w64 c.in-Region.high = search rules in
    entry_at g.M.Morta.promise (g.F.MainFrame.left c.args.frame.now n) (g.F.MainFrame.left c.next.new.self n) (began c.args.start.now) c.args.morta.now c.args.store c.next.new.store c.args.log.now
    c.in_ok-stop.stop c.in-Region.number c.in-Region.low c.in-Region.high _ _
    (g.met.F.MainFrame.only_prints c.next.new.self n) w (c.in_ok-stop.ensures.stops w.rest w.left_is) c.in-Region.is
    c.next_number.ensures refl (to_z-of_z w64 c.in-Region.low low) (to_z-of_z w64 c.in-Region.high high) c.arrive-arrival.ensures.opened
