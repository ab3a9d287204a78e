use Rattle.std.proofs.Common.{◌≡◌, ◌+◌, ℕ, pos, ◌+ℤ◌, List, refl, sym, subst, ◌∙◌, arith, Some, w64, to_z, of_z}
use Rattle.std.proofs.lemmas.Int.{to_z-of_z}
use Rattle.nona_num.specs.declared.folds.Fold.{Fold}
use Rattle.nona_tree.specs.declared.outcomes.Outcome.TheVariants as outcome
use Rattle.morta_task.specs.declared.intervals.Ran.{Ran}
use Rattle.morta_task.specs.Entries.{loop_of}
use Rattle.morta_task.specs.Running.{cut_of}
use Rattle.net_pipe.specs.Kept.{net_of, store_of}
use Rattle.net_share.specs.Begins.{AreApart, AreThere}
use Rattle.weave.specs.Staged.{staged_ran}
use Rattle.weave.specs.StagedTasks.{capacity_of, done_before, workers_of}
use Rattle.weave.proofs.SharedKept.{index_there, index_behind, first_fits}
use Rattle.weave.proofs.StagedKept.{moves_fit, over_in, over_is, settled_in}
use Rattle.weave.proofs.staged_tasks.StagedTasks.settle.Goals as goal

pub moves-requires : goal.moves-requires
moves-requires c = moves_fit c.args.self c.requires.sound

pub settle-requires-clause-over : goal.settle-requires-clause-over
settle-requires-clause-over c = over_is c.args.self c.requires.sound c.requires.over

pub settle-requires-clause-there : goal.settle-requires-clause-there
settle-requires-clause-there c =
    let t = c.args.self in
    let s = c.requires.sound in
    let l = t.entry.now.looped in
    let m = store_of t.pipeline in
    subst (λ (rs : List (ℕ × Fold)). AreThere rs m.scalars) (sym s.reductions)
    (c.reductions_stand.ensures.there l m.scalars (index_there t.entry.now (done_before t) m s.entered s.store))

pub settle-requires-clause-apart : goal.settle-requires-clause-apart
settle-requires-clause-apart c =
    subst AreApart (sym c.requires.sound.reductions) (c.reductions_stand.ensures.apart c.args.self.entry.now.looped)

pub returns : goal.returns
returns c =
    let t = c.args.self in
    let s = c.requires.sound in
    let e = t.entry.now in
    let b = done_before t in
    let net = net_of t.pipeline in
    let m = c.in_ok-store.store in
    let sent : to_z w64 (of_z w64 c.offset-to.result) ≡ c.offset-to.result = to_z-of_z w64 c.offset-to.result (record { sfits = c.offset-to.type_inv }) in
    let from : to_z w64 (of_z w64 t.from) ≡ t.from = to_z-of_z w64 t.from (first_fits t.from (s.fits 0 (omega arith))) in
    let to : to_z w64 (of_z w64 c.offset-to.result) ≡ e.low +ℤ pos (b + net.granted) =
    sent ∙ c.offset-to.ensures ∙ (λ i. from i +ℤ pos (c.granted-granted.ensures i)) ∙ index_behind t.from e.low b net.granted s.from
    in
    let cut : c.of.result ≡ cut_of outcome.Done net.granted net.limit =
    c.of.ensures ∙ (λ i. cut_of outcome.Done (c.granted-granted.ensures i) (c.limit.ensures i))
    in
    let ran : (let r : Ran = record { to = to_z w64 (of_z w64 c.offset-to.result); work = Some (record { steps = c.moves.result; waits = c.waits.result }); ticks = c.ticks.result; cut = c.of.result } in r) ≡ staged_ran e b net =
    λ i. record { to = to i; work = Some (record { steps = c.moves.ensures i; waits = c.waits.ensures i }); ticks = c.ticks.ensures i; cut = cut i }
    in (
      ran,
      refl,
      c.stages_settle.ensures.settled (loop_of e) e.plan (workers_of t) (capacity_of t) b net.limit net m s.staged.may s.staged.net (over_in t c.requires.over)
          (settled_in t m s c.in_ok-store.ensures),
    )
