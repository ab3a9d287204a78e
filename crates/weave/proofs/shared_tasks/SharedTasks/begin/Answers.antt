use Rattle.std.proofs.Common.{rules, ◌≡◌, ◌<◌, ◌≤◌, ◌+◌, ◌*◌, ◌^◌, ℕ, List, length, sym, ap, subst, ◌∙◌, arith, FitsSigned, w64, to_z, of_z}
use Rattle.std.proofs.lemmas.Int.{to_z-of_z}
use Rattle.nona_num.specs.declared.folds.Fold.{Fold}
use Rattle.nona_tree.specs.declared.trees.Loop.{Loop}
use Rattle.nona_tree.specs.declared.trees.Stmt.{Stmt}
use Rattle.nona_plans.specs.Units.{reductions_of}
use Rattle.morta_task.specs.Entries.{before, loop_of}
use Rattle.net_share.specs.Begins.{AreThere}
use Rattle.net_share.specs.Entries.{IsEntryNet, doing_in, entry_net}
use Rattle.net_share.specs.Works.{Doing}
use Rattle.weave.specs.declared.shared_tasks.SharedTasks.{SharedTasks}
use Rattle.weave.proofs.Ends.{few_iterations, indices_fit, room_within}
use Rattle.weave.proofs.MayShare.{may_share}
use Rattle.weave.proofs.SeqLaws.{depth_after_some}
use Rattle.weave.proofs.SharedBegun.{few_shared, HasBegun, begun_is, view_begun, stands_begun}
use Rattle.weave.proofs.SharedKept.{index_there}
use Rattle.weave.proofs.shared_tasks.SharedTasks.begin.Goals as goal

few_turns : (c : goal.After-reductions-reductions) → c.args.limit ≤ 10 ^ 12
few_turns c =
    let e = c.args.entry.now in
    omega (arith, room_within e c.args.handoff.next c.args.limit c.requires.state.within c.requires.room, few_iterations e, c.turns.ensures.turns, c.turns.ensures.few)

pub begin-requires-clause-few : goal.begin-requires-clause-few
begin-requires-clause-few c =
    let e = c.args.entry.now in
    let body : c.units.result.now.body ≡ e.looped.body = c.units.ensures ∙ ap (λ (l : Loop). l.body) c.requires.looped in
    subst (λ (units : List Stmt). c.args.limit * (1 + length units) + (1 + c.args.workers) < 2 ^ 64) (sym body)
    (few_shared e.looped c.args.limit c.args.workers c.requires.entered.small (few_turns c) c.requires.workers.1)

pub begin-requires-clause-there : goal.begin-requires-clause-there
begin-requires-clause-there c =
    let e = c.args.entry.now in
    let h = c.args.handoff in
    let same : c.reductions-reductions.result.now ≡ reductions_of e.looped = c.reductions-reductions.ensures ∙ ap reductions_of c.requires.looped in
    subst (λ (rs : List (ℕ × Fold)). AreThere rs h.store.scalars) (sym same)
    (c.reductions_stand.ensures.there e.looped h.store.scalars (index_there e (before e h.next) h.store c.requires.entered c.requires.state.state))

-- the machine, with the index as it was handed on
abbrev begun_tasks : goal.In_ok-sharing → SharedTasks
begun_tasks c = record { entry = c.args.entry; reductions = c.reductions-reductions.result; from = c.args.handoff.next; sharing = c.in_ok-sharing.sharing }

law : (c : goal.In_ok-sharing) → (let e = c.args.entry.now in let b = before e c.args.handoff.next in
    IsEntryNet (loop_of e) b c.args.limit c.args.workers (entry_net (loop_of e) b c.args.limit c.args.workers))
law c =
    let e = c.args.entry.now in
    let h = c.args.handoff in
    c.sharing_begins.ensures (loop_of e) (before e h.next) c.args.limit c.args.workers
    (may_share e h.next c.args.limit c.requires.entered c.requires.offers c.requires.state.within c.requires.room)

next_fits : (c : goal.In_ok-sharing) → FitsSigned w64 c.args.handoff.next
next_fits c = search rules

has_begun : (c : goal.In_ok-sharing) → HasBegun c.args.entry.now c.args.handoff.next c.args.limit c.args.workers c.args.handoff.store c.in_ok-sharing.sharing
has_begun c =
    let e = c.args.entry.now in
    let h = c.args.handoff in
    let b = before e h.next in
    let from = to_z-of_z w64 h.next (next_fits c) ∙ c.requires.state.within.0 in
    let body : c.units.result.now.body ≡ e.looped.body = c.units.ensures ∙ ap (λ (l : Loop). l.body) c.requires.looped in
    let depth = depth_after_some e b h.store c.requires.state.state in
    let turns = c.turns.ensures.turns in
    let does : (let d : Doing = record { body = c.units.result.now.body; from = to_z w64 (of_z w64 h.next); turns = c.turns.result; depth = length h.store.scalars } in d) ≡ doing_in (loop_of e) b =
    λ i. record { body = body i; from = from i; turns = turns i; depth = depth i }
    in
    let same : c.reductions-reductions.result.now ≡ reductions_of e.looped = c.reductions-reductions.ensures ∙ ap reductions_of c.requires.looped in
    record {
      does = c.in_ok-sharing.ensures.does ∙ does;
      net = c.in_ok-sharing.ensures.net ∙ begun_is e b c.args.limit c.args.workers _ c.reductions-reductions.result.now h.store does same c.requires.state.state;
      store = c.in_ok-sharing.ensures.store;
      sound = c.in_ok-sharing.ensures.sound;
    }

pub returns-clause-net : goal.returns-clause-net
returns-clause-net c =
    rw (to_z-of_z w64 c.args.handoff.next (next_fits c)) (view_begun (begun_tasks c) c.args.limit c.args.workers c.args.handoff.store (law c) (has_begun c))

pub returns-clause-sound : goal.returns-clause-sound
returns-clause-sound c =
    let e = c.args.entry.now in
    let h = c.args.handoff in
    let state = c.requires.state in
    let last_fits : FitsSigned w64 c.last-last.result = record { sfits = c.last-last.type_inv } in
    rw (to_z-of_z w64 h.next (next_fits c)) (stands_begun (begun_tasks c) c.args.limit c.args.workers h.store (law c) (has_begun c)
    c.requires.entered (may_share e h.next c.args.limit c.requires.entered c.requires.offers state.within c.requires.room) state.within.0
    (λ k few. indices_fit e h.next c.args.limit k state.within c.requires.room (next_fits c) (subst (FitsSigned w64) c.last-last.ensures last_fits) few)
    c.requires.workers.0 state.state
    (c.reductions-reductions.ensures ∙ ap reductions_of c.requires.looped))
