use Rattle.std.proofs.Common.{◌≡◌, ◌+◌, ℕ, pos, ◌+ℤ◌, List, refl, sym, subst, ◌∙◌, arith, Some, w64, to_z, of_z}
use Rattle.std.proofs.lemmas.Int.{to_z-of_z}
use Rattle.nona_num.specs.declared.folds.Fold.{Fold}
use Rattle.nona_tree.specs.declared.outcomes.Outcome.TheVariants as outcome
use Rattle.morta_task.specs.declared.intervals.Ran.{Ran}
use Rattle.morta_task.specs.Entries.{loop_of}
use Rattle.morta_task.specs.Running.{cut_of}
use Rattle.net_share.specs.Begins.{AreApart, AreThere}
use Rattle.net_share.specs.Kept.{net_of, store_of}
use Rattle.weave.specs.Shared.{shared_ran}
use Rattle.weave.specs.SharedTasks.{done_before, workers_of}
use Rattle.weave.proofs.SharedKept.{over_in, over_is, index_there, settled_in, index_behind, first_fits}
use Rattle.weave.proofs.shared_tasks.SharedTasks.settle.Goals as goal

pub moves-requires-clause-over : goal.moves-requires-clause-over
moves-requires-clause-over c = over_is c.args.self c.requires.sound c.requires.over

pub settle-store-requires-clause-over : goal.settle-store-requires-clause-over
settle-store-requires-clause-over c = over_is c.args.self c.requires.sound c.requires.over

pub settle-store-requires-clause-there : goal.settle-store-requires-clause-there
settle-store-requires-clause-there c =
    let t = c.args.self in
    let s = c.requires.sound in
    let l = t.entry.now.looped in
    let m = store_of t.sharing in
    subst (λ (rs : List (ℕ × Fold)). AreThere rs m.scalars) (sym s.reductions)
    (c.reductions_stand.ensures.there l m.scalars (index_there t.entry.now (done_before t) m s.entered s.store))

pub settle-store-requires-clause-apart : goal.settle-store-requires-clause-apart
settle-store-requires-clause-apart c =
    subst AreApart (sym c.requires.sound.reductions) (c.reductions_stand.ensures.apart c.args.self.entry.now.looped)

pub returns : goal.returns
returns c =
    let t = c.args.self in
    let s = c.requires.sound in
    let e = t.entry.now in
    let b = done_before t in
    let net = net_of t.sharing in
    let m = c.settle-store.result in
    let sent : to_z w64 (of_z w64 c.offset-to.result) ≡ c.offset-to.result = to_z-of_z w64 c.offset-to.result (record { sfits = c.offset-to.type_inv }) in
    let from : to_z w64 (of_z w64 t.from) ≡ t.from = to_z-of_z w64 t.from (first_fits t.from (s.fits 0 (omega arith))) in
    let to : to_z w64 (of_z w64 c.offset-to.result) ≡ e.low +ℤ pos (b + net.granted) =
    sent ∙ c.offset-to.ensures ∙ (λ i. from i +ℤ pos (c.granted-granted.ensures i)) ∙ index_behind t.from e.low b net.granted s.from
    in
    let cut : c.of.result ≡ cut_of outcome.Done net.granted net.limit =
    c.of.ensures ∙ (λ i. cut_of outcome.Done (c.granted-granted.ensures i) (c.limit.ensures i))
    in
    let ran : (let r : Ran = record { to = to_z w64 (of_z w64 c.offset-to.result); work = Some (record { steps = c.moves.result; waits = 0 }); ticks = c.ticks.result; cut = c.of.result } in r) ≡ shared_ran e b net =
    λ i. record { to = to i; work = Some (record { steps = c.moves.ensures i; waits = 0 }); ticks = c.ticks.ensures i; cut = cut i }
    in (
      ran,
      refl,
      c.sharing_settles.ensures.settled (loop_of e) b net.limit (workers_of t) net m s.may s.net (over_in t c.requires.over) (settled_in t m s c.settle-store.ensures),
    )
