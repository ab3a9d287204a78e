use Rattle.std.proofs.Common.{◌≡◌, ℕ, ℤ, length, ap, sym, subst, rules, FitsSigned, w64, to_z, of_z, ◌∙◌}
use Rattle.std.proofs.lemmas.Int.{to_z-of_z}
use Rattle.morta_task.specs.declared.intervals.Interval.{Interval}
use Rattle.morta_task.specs.LogView.{with_interval}
use Rattle.morta_task.specs.Running.{IsDone, limit_of}
use Rattle.morta_exec.specs.Began.{began}
use Rattle.morta_exec.specs.Standing.{StandsBetween}
use Rattle.morta_exec.proofs.Asking.{may_run, keeps_both, at_hand}
use Rattle.morta_exec.proofs.Turning.{count_with, stands_on}
use Rattle.morta_exec.proofs.interval_run.run_interval.Goals as goal

pub interval-requires : goal.interval-requires
interval-requires g c =
    let promise = g.M.Morta.promise in
    let stands = c.requires.stands.stands in
    let handoff = c.args.pending.handoff in
    let fits : FitsSigned w64 handoff.next = search rules in
    record {
      may = may_run promise (began c.args.start.now) c.ask-asked.new.self c.args.entry.now handoff c.ask-asked.result.config c.choose-ran.result c.ask-asked.result.until c.limit_for-limit.result
          c.requires.serves c.requires.entry (keeps_both promise _ _ _ stands.keeps c.ask-asked.ensures.keeps) (stands.keeps.names _ c.ask-asked.ensures.names)
          c.ask-asked.ensures.config c.requires.stands.state c.choose-ran.ensures
          (subst (λ (z : ℤ). c.limit_for-limit.result ≡ limit_of c.args.entry.now z c.ask-asked.result.until) (to_z-of_z w64 handoff.next fits) c.limit_for-limit.ensures);
    }

pub returns-clause-stands : goal.returns-clause-stands
returns-clause-stands g c =
    let promise = g.M.Morta.promise in
    let log = c.args.log.now in
    let e = c.args.entry.now in
    let from = c.args.pending.handoff.next in
    let ask = c.ask-asked.result in
    let config = c.choose-ran.result in
    let done = c.in_ok-handoff.done in
    let stands = c.requires.stands.stands in
    let fits : FitsSigned w64 from = search rules in
    let same : to_z w64 (of_z w64 from) ≡ from = to_z-of_z w64 from fits in
    let made : ℕ → ℤ → Interval = λ n z. record { entry = n; asked = ask; ran = config; from = z; done = done } in
    let here : made c.number.result (to_z w64 (of_z w64 from)) ≡ made e.number from = ap (λ n. made n (to_z w64 (of_z w64 from))) c.number.ensures ∙ ap (made e.number) same in
    let hand = at_hand _ log e c.args.pending.kept _ stands.so_far.legal.entries c.requires.entry.named c.requires.entry.first c.requires.stands.listed in
    let asked = subst (λ (z : ℤ). promise.asked c.ask-asked.new.self log e z ask) same (c.ask-asked.ensures.asked log hand stands.stands) in
    let limit = subst (λ (z : ℤ). c.limit_for-limit.result ≡ limit_of e z ask.until) same c.limit_for-limit.ensures in
    subst (λ l. StandsBetween promise (began c.args.start.now) c.told.new.self l)
    (sym (c.in_ok-note.ensures.ok ∙ ap (λ i. with_interval log e i) here))
    (stands_on promise (began c.args.start.now) c.args.morta.now c.ask-asked.new.self c.interval.new.self c.told.new.self log e from c.limit_for-limit.result ask config done c.args.pending.kept g.met.M.Asker.stands_only stands
    (record {
      may = c.ask-asked.ensures.may log stands.stands;
      ask_ticks = c.ask-asked.ensures.ticks;
      ask_keeps = c.ask-asked.ensures.keeps;
      is_done = c.in_ok-handoff.ensures.done;
      run_ticks = c.in_ok-handoff.ensures.ticks;
      run_meets = c.in_ok-handoff.ensures.meets;
      run_keeps = c.in_ok-handoff.ensures.keeps;
      told_ticks = c.told.ensures.ticks;
      told_keeps = c.told.ensures.keeps;
    })
    c.requires.entry.named c.requires.stands.listed c.requires.stands.next c.choose-ran.ensures limit
    (subst (λ i. promise.stands_for c.told.new.self (with_interval log e i)) here
    (c.told.ensures.stands log (subst (λ i. promise.ran c.interval.new.self log e i) (sym here)
    (c.in_ok-handoff.ensures.goes_on log ask asked c.choose-ran.ensures limit)))))

pub returns-clause-ran : goal.returns-clause-ran
returns-clause-ran g c =
    let e = c.args.entry.now in
    let from = c.args.pending.handoff.next in
    let fits : FitsSigned w64 from = search rules in
    let same : to_z w64 (of_z w64 from) ≡ from = to_z-of_z w64 from fits in
    record {
      added = ap (λ l. l.intervals) c.in_ok-note.ensures.ok;
      counted = ap (λ l. length l.entries) c.in_ok-note.ensures.ok ∙ count_with c.args.log.now.entries e c.args.pending.kept c.requires.stands.listed;
      number = c.number.ensures;
      begins = same;
      done = subst (λ (z : ℤ). IsDone e c.choose-ran.result z (limit_of e z c.ask-asked.result.until) c.in_ok-handoff.done) (sym same)
          (subst (λ n. IsDone e c.choose-ran.result from n c.in_ok-handoff.done) (subst (λ (z : ℤ). c.limit_for-limit.result ≡ limit_of e z c.ask-asked.result.until) same c.limit_for-limit.ensures) c.in_ok-handoff.ensures.done);
      hands_on = c.in_ok-handoff.ensures.hands_on;
    }
