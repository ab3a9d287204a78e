use Rattle.std.proofs.Common.{rules, ◌+◌, length, sym, ap, subst, ◌∙◌, arith, w64}
use Rattle.std.proofs.lemmas.Int.{to_z-of_z}
use Rattle.nona_tree.specs.Run.{Ran, done}
use Rattle.nona_tree.specs.Scope.{AreScoped}
use Rattle.morta_task.specs.Entries.{before, last}
use Rattle.morta_exec.proofs.Through.{scoped_at, next_state, last_state, ends_at}
use Rattle.morta_exec.proofs.one_thread.run_loop.Goals as goal

pub turn_units-requires-clause-scoped : goal.turn_units-requires-clause-scoped
turn_units-requires-clause-scoped c =
    let e = c.args.entry.now in
    subst (λ ss. AreScoped ss (length c.iterations.store.scalars + 1) (length c.iterations.store.arrays)) (sym c.units_of-units.ensures)
    (scoped_at c.scalars_stay.ensures.turns c.lengths_stay.ensures.turns e c.iterations.k c.iterations.store c.requires.entered c.iterations.invariant.state)

pub iterations-preserved : goal.iterations-preserved
iterations-preserved c =
    let index = to_z-of_z w64 c.index_of-index.result (search rules) ∙ c.index_of-index.ensures in
    record {
      state = next_state c.after_next.ensures.next c.args.entry.now c.iterations.k _ _ _ c.iterations.store (done c.turn_units.new.store)
          c.units_of-units.ensures c.turns-turns.ensures.turns index c.iterations.invariant.state
          (c.in_ok-end.ensures.turn ∙ ap (λ e. let r : Ran = record { store = c.turn_units.new.store; end = e } in r) c.in-Done.is);
      room = omega (arith, c.iterations.invariant.room, c.in_ok-end.ensures.room);
    }

pub returns-in_default : goal.returns-in_default
returns-in_default c =
    let index = to_z-of_z w64 c.index_of-index.result (search rules) ∙ c.index_of-index.ensures in
    ends_at c.loops_of_entries.ensures c.args.entry.now c.iterations.k c.turn_units.new.store c.in_ok-end.end c.requires.entered (omega (arith, c.iterations-test.true, c.count_of-count.ensures))
    (next_state c.after_next.ensures.next c.args.entry.now c.iterations.k _ _ _ c.iterations.store _
    c.units_of-units.ensures c.turns-turns.ensures.turns index c.iterations.invariant.state c.in_ok-end.ensures.turn)
    c.in_default.not-Done

pub returns : goal.returns
returns c =
    c.whole_end.ensures c.iterations.store
    (last_state c.args.entry.now c.iterations.k (before c.args.entry.now (last c.args.entry.now)) c.iterations.store (omega (arith, c.iterations.auto.k-end, c.iterations-test.false, c.count_of-count.ensures)) c.iterations.invariant.state)
