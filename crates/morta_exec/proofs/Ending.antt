-- How the loop of an entry ends with an interval.
use Rattle.std.proofs.Common.{◌≡◌, ◌≢◌, ◌<◌, ◌≤◌, ◌-◌, ℕ, ℤ, pos, ◌+ℤ◌, refl, sym, ap, subst, ◌∙◌, arith, None, Some, slice_get}
use Rattle.nona_tree.specs.declared.outcomes.Outcome.{Outcome}
use Rattle.nona_tree.specs.declared.outcomes.Outcome.TheVariants as outcome
use Rattle.nona_tree.specs.declared.outcomes.Trap.{Trap as Trapped}
use Rattle.nona_tree.specs.Memory.{Memory}
use Rattle.nona_tree.specs.Run.{Ran, done, Reaches}
use Rattle.nona_tree.specs.declared.trees.Loop.{Loop}
use Rattle.morta_task.specs.RegionView.{RegionView}
use Rattle.morta_task.specs.declared.schemes.Config.{Config}
use Rattle.morta_task.specs.declared.intervals.Cut.{Cut}
use Rattle.morta_task.specs.declared.intervals.Cut.TheVariants.{Limit, Paused, Trap, Turns}
use Rattle.morta_task.specs.declared.intervals.Interval.{Interval}
use Rattle.morta_task.specs.ImageView.{ImageView}
use Rattle.morta_task.specs.Entries.{EntryView, IsEntered, IsWithin, last, before, state_after}
use Rattle.morta_task.specs.Running.{IsIn, IsDone, CutSays}
use Rattle.morta_task.specs.Legal.{GoesOnBehind}
use Rattle.morta_exec.specs.EntryRun.{whole_loop, LoopsOfEntries, EndsWith}
use Rattle.morta_exec.proofs.Growing.{some_same}
use Rattle.morta_exec.proofs.Loops.{before_last}

-- a test of two numbers, by what they stand for
pub enough : (k j m n : ℕ) → k ≡ m → j ≡ n → k ≤ j → m ≤ n
enough k j m n a b h = omega (arith, a, b, h)

pub too_few : (k j m n : ℕ) → k ≡ m → j ≡ n → j < k → n < m
too_few k j m n a b h = omega (arith, a, b, h)

-- the place of an entry's loop is that of its region
pub place_of : (image : ImageView) (e : EntryView) (region : ℕ) (code : RegionView) → IsIn e image → region ≡ e.region
    → slice_get image.regions (region - 1) ≡ Some code → e.looped.at ≡ code.looped.at
place_of image e region code is same found =
    let one : is.code ≡ code = some_same is.code code (sym is.there ∙ ap (λ r. slice_get image.regions (r - 1)) (sym same) ∙ found) in
    ap (λ (l : Loop). l.at) (sym is.looped) ∙ ap (λ (c : RegionView). c.looped.at) one

-- a run goes on behind a cut that is neither a trap nor want of turns
pub cut_goes_on : (cut : Cut) → ((t : Trapped) → cut ≡ Trap t → ⊥) → ((at : ℕ) → cut ≡ Turns at → ⊥) → GoesOnBehind cut
cut_goes_on Limit no_trap no_want = tt
cut_goes_on Paused no_trap no_want = tt
cut_goes_on (Trap t) no_trap no_want = no_trap t refl
cut_goes_on (Turns at) no_trap no_want = no_want at refl

-- all iterations of an interval are done then
pub cut_done : (e : EntryView) (c : Config) (a limit b : ℕ) (cut : Cut) → GoesOnBehind cut → CutSays e c a limit b cut → (state_after e b).end ≡ outcome.Done
cut_done e c a limit b Limit on says = says.1
cut_done e c a limit b Paused on says = says.1
cut_done e c a limit b (Trap t) on says = absurd on
cut_done e c a limit b (Turns at) on says = absurd on

-- the number behind an entry's last index
last_is : (e : EntryView) → last e ≡ e.low +ℤ pos (before e (last e))
last_is e = ap (λ k. e.low +ℤ pos k) (sym (before_last e))

-- an index within an entry that isn't its last number comes before it
short_of : (e : EntryView) (i : ℤ) → IsWithin e i → i ≢ last e → before e i < before e (last e)
short_of e i within other =
    let apart : before e i ≢ before e (last e) = λ same. other (within.0 ∙ ap (λ k. e.low +ℤ pos k) same ∙ sym (last_is e)) in
    omega (arith, within.1, apart)

pub ends_short : (e : EntryView) (i : Interval) (limit : ℕ) → IsDone e i.ran i.from limit i.done → GoesOnBehind i.done.cut → i.done.to ≢ last e → EndsWith e i None
ends_short e i limit d on other = (short_of e i.done.to d.within other, on)

-- an iteration that ended otherwise ends the loop
ends_otherwise : LoopsOfEntries → (e : EntryView) (k : ℕ) (end : Outcome) → IsEntered e → k ≤ before e (last e) → (state_after e k).end ≡ end → end ≢ outcome.Done
    → Reaches (whole_loop e) (state_after e k).store end
ends_otherwise loops e k end is within ended other =
    loops.over e k is within (λ h. other (sym ended ∙ h)) ∙ ap (λ (o : Outcome). record { store = (state_after e k).store; end = o }) ended

trap_not_done : (t : Trapped) → outcome.Trap t ≢ outcome.Done
trap_not_done t h = cc

want_not_done : (at : ℕ) → outcome.OutOfTurns at ≢ outcome.Done
want_not_done at h = cc

pub ends_trap : LoopsOfEntries → (e : EntryView) (i : Interval) (limit : ℕ) (t : Trapped) → IsEntered e → IsDone e i.ran i.from limit i.done → i.done.cut ≡ Trap t
    → EndsWith e i (Some (outcome.Trap t))
ends_trap loops e i limit t is d cut =
    let says : CutSays e i.ran (before e i.from) limit (before e i.done.to) (Trap t) = subst (CutSays e i.ran (before e i.from) limit (before e i.done.to)) cut d.cut in (
      ends_otherwise loops e (before e i.done.to) (outcome.Trap t) is d.within.1 says.2 (trap_not_done t),
      (λ on. absurd (subst GoesOnBehind cut on)),
      (λ same. absurd (trap_not_done t same)),
    )

pub ends_want : LoopsOfEntries → (e : EntryView) (i : Interval) (limit at : ℕ) → IsEntered e → IsDone e i.ran i.from limit i.done → i.done.cut ≡ Turns at
    → EndsWith e i (Some (outcome.OutOfTurns at))
ends_want loops e i limit at is d cut =
    let says : CutSays e i.ran (before e i.from) limit (before e i.done.to) (Turns at) = subst (CutSays e i.ran (before e i.from) limit (before e i.done.to)) cut d.cut in (
      ends_otherwise loops e (before e i.done.to) (outcome.OutOfTurns at) is d.within.1 says.2 (want_not_done at),
      (λ on. absurd (subst GoesOnBehind cut on)),
      (λ same. absurd (want_not_done at same)),
    )

-- the last iteration is done
pub ends_whole : (e : EntryView) (i : Interval) (limit : ℕ) (end : Outcome) → IsDone e i.ran i.from limit i.done → GoesOnBehind i.done.cut → i.done.to ≡ last e
    → ((m : Memory) → state_after e (before e (last e)) ≡ done m → Reaches (whole_loop e) m end)
    → EndsWith e i (Some end)
ends_whole e i limit end d on all whole =
    let b = before e i.done.to in
    let here : state_after e b ≡ done (state_after e b).store =
    ap (λ (o : Outcome). let r : Ran = record { store = (state_after e b).store; end = o } in r) (cut_done e i.ran (before e i.from) limit b i.done.cut on d.cut) in (
      whole (state_after e b).store (ap (λ (z : ℤ). state_after e (before e z)) (sym all) ∙ here),
      (λ h. all),
      (λ h. on),
    )
