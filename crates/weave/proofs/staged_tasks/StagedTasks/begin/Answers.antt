use Rattle.std.proofs.Common.{rules, ◌≡◌, ◌≤◌, ◌^◌, ℕ, List, sym, ap, subst, ◌∙◌, arith, FitsSigned, w64, to_z, of_z}
use Rattle.std.proofs.lemmas.Int.{to_z-of_z}
use Rattle.nona_num.specs.declared.folds.Fold.{Fold}
use Rattle.nona_plans.specs.Units.{reductions_of}
use Rattle.morta_task.specs.Entries.{before, loop_of}
use Rattle.net_pipe.specs.Staged.{IsStaged}
use Rattle.net_share.specs.Begins.{AreThere}
use Rattle.net_pipe.specs.Entries.{MayPipe, staging_in}
use Rattle.weave.specs.declared.staged_tasks.StagedTasks.{StagedTasks}
use Rattle.weave.proofs.Ends.{few_iterations, indices_fit, room_within}
use Rattle.weave.proofs.FewStages.{are_few, is_staged}
use Rattle.weave.proofs.MayPipe.{may_pipe}
use Rattle.weave.proofs.SharedKept.{index_there}
use Rattle.weave.proofs.StagedBegun.{HasBegun, begun_is, staged_so, staging_is, stands_begun, view_begun}
use Rattle.weave.proofs.staged_tasks.StagedTasks.begin.Goals as goal

may : (c : goal.After-reductions-reductions) → (let e = c.args.entry.now in
    MayPipe (loop_of e) e.plan c.args.setting.config.workers c.args.setting.capacity (before e c.args.handoff.next) c.args.limit)
may c =
    may_pipe c.args.entry.now c.args.handoff.next c.args.limit c.args.setting.config.workers c.args.setting.capacity c.requires.entered c.requires.offers
    c.requires.state.within c.requires.room c.requires.workers.0 c.requires.capacity

next_fits : (c : goal.After-reductions-reductions) → FitsSigned w64 c.args.handoff.next
next_fits c = search rules

-- what its stages do is what the entry asks
staging : (c : goal.After-reductions-reductions) → (let e = c.args.entry.now in
    staged_so c.units.result.now.body (to_z w64 (of_z w64 c.args.handoff.next)) c.turns.result c.depth.result c.args.setting.config.workers c.args.setting.capacity c.plan.result.now
    ≡ staging_in (loop_of e) e.plan c.args.setting.config.workers c.args.setting.capacity (before e c.args.handoff.next))
staging c =
    staging_is c.args.entry.now c.args.handoff c.args.setting.config.workers c.args.setting.capacity c.args.code.now.looped c.args.code.now.plan
    c.plan.result.now c.units.result.now.body (to_z w64 (of_z w64 c.args.handoff.next)) c.turns.result c.depth.result c.requires.state c.requires.looped
    c.requires.plan c.plan.ensures c.units.ensures (to_z-of_z w64 c.args.handoff.next (next_fits c)) c.turns.ensures.turns c.depth.ensures

pub begin-requires-clause-staged : goal.begin-requires-clause-staged
begin-requires-clause-staged c =
    let e = c.args.entry.now in
    subst IsStaged (sym (staging c))
    (is_staged (loop_of e) e.plan c.args.setting.config.workers c.args.setting.capacity (before e c.args.handoff.next) c.args.limit (may c) c.requires.entered.small c.requires.workers.1)

pub begin-requires-clause-there : goal.begin-requires-clause-there
begin-requires-clause-there c =
    let e = c.args.entry.now in
    let h = c.args.handoff in
    let same : c.reductions-reductions.result.now ≡ reductions_of e.looped = c.reductions-reductions.ensures ∙ ap reductions_of c.requires.looped in
    subst (λ (rs : List (ℕ × Fold)). AreThere rs h.store.scalars) (sym same)
    (c.reductions_stand.ensures.there e.looped h.store.scalars (index_there e (before e h.next) h.store c.requires.entered c.requires.state.state))

-- the machine, with the index as it was handed on
abbrev begun_tasks : goal.In_ok-pipeline → StagedTasks
begun_tasks c = record { entry = c.args.entry; reductions = c.reductions-reductions.result; from = c.args.handoff.next; pipeline = c.in_ok-pipeline.pipeline }

begun_fits : (c : goal.In_ok-pipeline) → FitsSigned w64 c.args.handoff.next
begun_fits c = search rules

begun_may : (c : goal.In_ok-pipeline) → (let e = c.args.entry.now in
    MayPipe (loop_of e) e.plan c.args.setting.config.workers c.args.setting.capacity (before e c.args.handoff.next) c.args.limit)
begun_may c =
    may_pipe c.args.entry.now c.args.handoff.next c.args.limit c.args.setting.config.workers c.args.setting.capacity c.requires.entered c.requires.offers
    c.requires.state.within c.requires.room c.requires.workers.0 c.requires.capacity

has_begun : (c : goal.In_ok-pipeline)
    → HasBegun c.args.entry.now c.args.handoff.next c.args.limit c.args.setting.config.workers c.args.setting.capacity c.args.handoff.store c.in_ok-pipeline.pipeline
has_begun c =
    let e = c.args.entry.now in
    let h = c.args.handoff in
    let W = c.args.setting.config.workers in
    let k = c.args.setting.capacity in
    let same = staging_is e h W k c.args.code.now.looped c.args.code.now.plan c.plan.result.now c.units.result.now.body (to_z w64 (of_z w64 h.next))
    c.turns.result c.depth.result c.requires.state c.requires.looped c.requires.plan c.plan.ensures c.units.ensures (to_z-of_z w64 h.next (begun_fits c))
    c.turns.ensures.turns c.depth.ensures in
    let reductions : c.reductions-reductions.result.now ≡ reductions_of e.looped = c.reductions-reductions.ensures ∙ ap reductions_of c.requires.looped in
    record {
      does = c.in_ok-pipeline.ensures.does ∙ same;
      net = c.in_ok-pipeline.ensures.net ∙ begun_is e (before e h.next) c.args.limit W k _ c.reductions-reductions.result.now h.store same reductions c.requires.state.state;
      store = c.in_ok-pipeline.ensures.store;
      kept = c.in_ok-pipeline.ensures.sound;
    }

pub returns-clause-net : goal.returns-clause-net
returns-clause-net c =
    rw (to_z-of_z w64 c.args.handoff.next (begun_fits c)) (view_begun (begun_tasks c) c.args.limit c.args.setting.config.workers c.args.setting.capacity c.args.handoff.store (has_begun c))

pub returns-clause-sound : goal.returns-clause-sound
returns-clause-sound c =
    let e = c.args.entry.now in
    let h = c.args.handoff in
    let W = c.args.setting.config.workers in
    let k = c.args.setting.capacity in
    let state = c.requires.state in
    let last_fits : FitsSigned w64 c.last-last.result = record { sfits = c.last-last.type_inv } in
    let turns : c.args.limit ≤ 10 ^ 12 =
    omega (arith, room_within e h.next c.args.limit state.within c.requires.room, few_iterations e, c.turns.ensures.turns, c.turns.ensures.few)
    in
    rw (to_z-of_z w64 h.next (begun_fits c)) (stands_begun (begun_tasks c) c.args.limit W k h.store (has_begun c) c.requires.entered state.within.0
    (λ j few. indices_fit e h.next c.args.limit j state.within c.requires.room (begun_fits c) (subst (FitsSigned w64) c.last-last.ensures last_fits) few)
    (begun_may c)
    (are_few (loop_of e) e.plan W k (before e h.next) c.args.limit (begun_may c) c.requires.entered.small c.requires.workers.1 turns)
    (c.stages_begin.ensures.net (loop_of e) e.plan W k (before e h.next) c.args.limit (begun_may c))
    state.state
    (c.reductions-reductions.ensures ∙ ap reductions_of c.requires.looped))
