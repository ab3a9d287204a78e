use Rattle.std.proofs.Common.{rules, ◌≡◌, ◌+◌, length, pos, ◌+ℤ◌, sym, ap, subst, ◌∙◌, arith, w64}
use Rattle.std.proofs.lemmas.Int.{to_z-of_z}
use Rattle.nona_tree.specs.Run.{Ran as End, done}
use Rattle.nona_tree.specs.Scope.{AreScoped}
use Rattle.morta_task.specs.declared.intervals.Ran.{Ran}
use Rattle.morta_task.specs.Entries.{before, state_after}
use Rattle.morta_plain.proofs.Course.{scoped_on, one_on, all_on, done_limit, done_end, handed_on, not_paused}
use Rattle.morta_plain.proofs.one_thread.OneThreadRunner.interval.Goals as goal

pub turn_units-requires-clause-scoped : goal.turn_units-requires-clause-scoped
turn_units-requires-clause-scoped c =
    let e = c.args.entry.now in
    subst (λ ss. AreScoped ss (length c.iterations.store.scalars + 1) (length c.iterations.store.arrays)) (sym c.units_of-units.ensures)
    (scoped_on e (before e c.args.handoff.next + c.iterations.k) c.iterations.store c.requires.may.entered c.iterations.invariant.state)

pub iterations-init : goal.iterations-init
iterations-init c =
    let none : before c.args.entry.now c.args.handoff.next + 0 ≡ before c.args.entry.now c.args.handoff.next = omega arith in
    record {
      state = ap (state_after c.args.entry.now) none ∙ c.requires.may.state.state;
      room = omega (arith, c.in_ok-frame.ensures);
    }

pub iterations-preserved : goal.iterations-preserved
iterations-preserved c =
    let plain = to_z-of_z w64 c.args.handoff.next (search rules) in
    let index = to_z-of_z w64 c.index_on-index.result (search rules) ∙ c.index_on-index.ensures ∙ ap (λ z. z +ℤ pos c.iterations.k) plain in
    let state = one_on c.args.entry.now c.args.handoff.next _ c.iterations.k _ _ c.iterations.store (done c.turn_units.new.store) c.requires.may.state.within
    c.units_of-units.ensures c.turns-turns.ensures.turns index c.iterations.invariant.state
    (c.in_ok-end.ensures.turn ∙ ap (λ e. let r : End = record { store = c.turn_units.new.store; end = e } in r) c.in-Done.is) in
    record {
      state = state;
      room = omega (arith, c.iterations.invariant.room, c.in_ok-end.ensures.room);
    }

pub returns-in_default-clause-done : goal.returns-in_default-clause-done
returns-in_default-clause-done c =
    let e = c.args.entry.now in
    let next = c.args.handoff.next in
    let plain = to_z-of_z w64 next (search rules) in
    let index = to_z-of_z w64 c.index_on-index.result (search rules) ∙ c.index_on-index.ensures ∙ ap (λ z. z +ℤ pos c.iterations.k) plain in
    let to = to_z-of_z w64 c.index_on.result (search rules) ∙ c.index_on.ensures ∙ ap (λ z. z +ℤ pos (c.iterations.k + 1)) plain in
    let stopped = one_on e next _ c.iterations.k _ _ c.iterations.store _ c.requires.may.state.within
    c.units_of-units.ensures c.turns-turns.ensures.turns index c.iterations.invariant.state c.in_ok-end.ensures.turn in
    done_end e c.args._config next _ c.args.limit c.iterations.k c.iterations.store c.turn_units.new.store c.in_ok-end.end c.of-cut.result c.ended.result.1
    c.requires.may.served c.requires.may.state.within to c.iterations-test.true c.requires.may.room c.in_default.not-Done
    c.iterations.invariant.state stopped c.of-cut.ensures c.ended.ensures.ran

pub returns-in_default-clause-hands_on : goal.returns-in_default-clause-hands_on
returns-in_default-clause-hands_on c =
    let e = c.args.entry.now in
    let next = c.args.handoff.next in
    let plain = to_z-of_z w64 next (search rules) in
    let index = to_z-of_z w64 c.index_on-index.result (search rules) ∙ c.index_on-index.ensures ∙ ap (λ z. z +ℤ pos c.iterations.k) plain in
    let to = to_z-of_z w64 c.index_on.result (search rules) ∙ c.index_on.ensures ∙ ap (λ z. z +ℤ pos (c.iterations.k + 1)) plain in
    let stopped = one_on e next _ c.iterations.k _ _ c.iterations.store _ c.requires.may.state.within
    c.units_of-units.ensures c.turns-turns.ensures.turns index c.iterations.invariant.state c.in_ok-end.ensures.turn in
    handed_on e next _ (c.iterations.k + 1) c.turn_units.new.store c.in_ok-end.end c.of-cut.result c.ended.result.0 c.ended.result.1
    c.requires.may.state.within to stopped c.ended.ensures.handoff c.ended.ensures.ran

pub returns-clause-done : goal.returns-clause-done
returns-clause-done c =
    let e = c.args.entry.now in
    let next = c.args.handoff.next in
    let plain = to_z-of_z w64 next (search rules) in
    let to = to_z-of_z w64 c.index_on-2.result (search rules) ∙ c.index_on-2.ensures ∙ ap (λ z. z +ℤ pos c.args.limit) plain in
    let reached = all_on e next c.iterations.k c.args.limit _ c.iterations.auto.k-end c.iterations-test.false c.iterations.invariant.state in
    done_limit e c.args._config next _ c.args.limit c.iterations.store c.ended-2.result.1
    c.requires.may.state.within to c.requires.may.room reached c.ended-2.ensures.ran

pub returns-clause-hands_on : goal.returns-clause-hands_on
returns-clause-hands_on c =
    let e = c.args.entry.now in
    let next = c.args.handoff.next in
    let plain = to_z-of_z w64 next (search rules) in
    let to = to_z-of_z w64 c.index_on-2.result (search rules) ∙ c.index_on-2.ensures ∙ ap (λ z. z +ℤ pos c.args.limit) plain in
    let reached = all_on e next c.iterations.k c.args.limit _ c.iterations.auto.k-end c.iterations-test.false c.iterations.invariant.state in
    handed_on e next _ c.args.limit c.iterations.store _ _ c.ended-2.result.0 c.ended-2.result.1
    c.requires.may.state.within to reached c.ended-2.ensures.handoff c.ended-2.ensures.ran

pub returns-in_default-clause-meets : goal.returns-in_default-clause-meets
returns-in_default-clause-meets c =
    not_paused c.in_ok-end.end (c.iterations.k + 1) c.args.limit c.ended.result.1.cut c.in_default.not-Done
    (ap (λ (d : Ran). d.cut) c.ended.ensures.ran ∙ c.of-cut.ensures)
