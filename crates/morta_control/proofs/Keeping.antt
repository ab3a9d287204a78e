-- A round keeps a probe than which none has a greater rate.
use Rattle.std.proofs.Common.{◌≡◌, ℕ, zero, suc, ◌/◌, ◌≤◌, Bool, true, false, List, [], ◌∷◌, length, take, slice_get, fold, refl, arith, None, Some, if◌then◌else◌}
use Rattle.std.specs.Prelude.{All}
use Rattle.std.specs.declared.option.Option.{Option}
use Rattle.std.proofs.lemmas.List.Elements.{All-nil, All-cons}
use Rattle.decima.specs.Rates.{Rate, is_below}
use Rattle.decima.proofs.RateLaws.{not_below_itself, not_below_back, not_below_through, below_through, through_below}
use Rattle.morta_task.specs.declared.schemes.Config.{Config}
use Rattle.morta_task.specs.Entries.{EntryView}
use Rattle.morta_control.specs.Decisions.{Probe, Calibrates, Optimises, better, best_with, decide, optimise}
use Rattle.morta_control.specs.Rounds.{probes_of, HaveTicks, IsGreatest}

-- the rest of a list of which all have a property
tail_of : {A : Type 0} (P : A → Type 0) (x : A) (xs : List A) → All P (x ∷ xs) → All P xs
tail_of P x xs all = λ k d below. all (suc k) d (omega arith)

-- a probe of which the rate has a tick
abbrev Ticks : Probe → Type 0
Ticks p = 1 ≤ p.rate.ticks

-- the better of two is one of them, and neither is greater
record IsBetter (kept best later : Probe) : Type 0 where
  first : is_below kept.rate best.rate ≡ false
  second : is_below kept.rate later.rate ≡ false
  ticks : Ticks kept

better_is : (best later : Probe) → Ticks best → Ticks later → IsBetter (better best later) best later
better_is best later some more = by_test (is_below best.rate later.rate) refl where
  by_test : (b : Bool) → is_below best.rate later.rate ≡ b → IsBetter (if b then later else best) best later
  by_test true is = record { first = not_below_back best.rate later.rate is; second = not_below_itself later.rate; ticks = more }
  by_test false is = record { first = not_below_itself best.rate; second = is; ticks = some }

-- a rate isn't below that of a probe
abbrev IsNotBelow : Rate → Probe → Type 0
IsNotBelow rate probe = is_below rate probe.rate ≡ false

-- that of a probe is below a rate
abbrev IsLesser : Rate → Probe → Type 0
IsLesser rate probe = is_below probe.rate rate ≡ true

-- the best of probes that have ticks has ticks
best_ticks : (best : Probe) (probes : List Probe) → Ticks best → All Ticks probes → Ticks (fold better best probes)
best_ticks best [] some all = some
best_ticks best (p ∷ probes) some all =
    best_ticks (better best p) probes (better_is best p some (all 0 p (omega arith))).ticks (tail_of Ticks p probes all)

-- a probe stands in a list, and each before it has a lesser rate
record IsFirst (kept : Probe) (probes : List Probe) : Type 0 where
  place : ℕ
  there : slice_get probes place ≡ Some kept
  first : All (IsLesser kept.rate) (take place probes)

-- the first of the better of two probes and those behind them is the first of all
first_of : (best p kept : Probe) (probes : List Probe) → Ticks p → Ticks kept → is_below kept.rate (better best p).rate ≡ false
    → (place : ℕ) → slice_get (better best p ∷ probes) place ≡ Some kept → All (IsLesser kept.rate) (take place (better best p ∷ probes))
    → IsFirst kept (best ∷ p ∷ probes)
first_of best p kept probes some ticks above = by_test (is_below best.rate p.rate) refl above where
  by_test : (b : Bool) → is_below best.rate p.rate ≡ b → (let x : Probe = if b then p else best in is_below kept.rate x.rate) ≡ false
      → (place : ℕ) → slice_get ((if b then p else best) ∷ probes) place ≡ Some kept → All (IsLesser kept.rate) (take place ((if b then p else best) ∷ probes))
      → IsFirst kept (best ∷ p ∷ probes)
  by_test true is up place there first = record {
    place = suc place;
    there = there;
    first = All-cons (IsLesser kept.rate) best (take place (p ∷ probes)) (below_through best.rate p.rate kept.rate ticks is up) first;
  }
  by_test false is up zero there first = record { place = 0; there = there; first = All-nil (IsLesser kept.rate) }
  by_test false is up (suc k) there first =
      let lesser : is_below best.rate kept.rate ≡ true = first 0 best (omega arith) in
      record {
        place = suc (suc k);
        there = there;
        first = All-cons (IsLesser kept.rate) best (p ∷ take k probes) lesser
            (All-cons (IsLesser kept.rate) p (take k probes) (through_below p.rate best.rate kept.rate some is lesser) (tail_of (IsLesser kept.rate) best (take k probes) first));
      }

-- of a probe and those behind it, the best is the first of the greatest
pub greatest_of : (best : Probe) (probes : List Probe) → Ticks best → All Ticks probes → IsGreatest (fold better best probes) (best ∷ probes)
greatest_of best [] some all = record {
  place = 0;
  there = refl;
  greatest = All-cons (IsNotBelow best.rate) best [] (not_below_itself best.rate) (All-nil (IsNotBelow best.rate));
  first = All-nil (IsLesser best.rate);
}
greatest_of best (p ∷ probes) some all =
    let is : IsBetter (better best p) best p = better_is best p some (all 0 p (omega arith)) in
    let rest : IsGreatest (fold better (better best p) probes) (better best p ∷ probes) = greatest_of (better best p) probes is.ticks (tail_of Ticks p probes all) in
    let kept : Probe = fold better (better best p) probes in
    let up : is_below kept.rate (better best p).rate ≡ false = rest.greatest 0 (better best p) (omega arith) in
    let through : (q : Probe) → is_below (better best p).rate q.rate ≡ false → is_below kept.rate q.rate ≡ false =
    λ q h. not_below_through kept.rate (better best p).rate q.rate is.ticks up h in
    let place : IsFirst kept (best ∷ p ∷ probes) =
    first_of best p kept probes (all 0 p (omega arith)) (best_ticks (better best p) probes is.ticks (tail_of Ticks p probes all)) up rest.place rest.there rest.first in
    record {
      place = place.place;
      there = place.there;
      greatest = All-cons (IsNotBelow kept.rate) best (p ∷ probes) (through best is.first)
          (All-cons (IsNotBelow kept.rate) p probes (through p is.second) (tail_of (IsNotBelow kept.rate) (better best p) probes rest.greatest));
      first = place.first;
    }

-- the probes of a round have ticks where their rates have
ticks_of_probes : (left : List Config) (rates : List Rate) → HaveTicks rates → All Ticks (probes_of left rates)
ticks_of_probes [] rates all = All-nil Ticks
ticks_of_probes (c ∷ left) [] all = All-nil Ticks
ticks_of_probes (c ∷ left) (rate ∷ rates) all =
    All-cons Ticks _ _ (all 0 rate (omega arith)) (ticks_of_probes left rates (tail_of (λ (r : Rate). 1 ≤ r.ticks) rate rates all))

-- a round of calibrating goes on with the best of its probes
calibrates_by : (workers : ℕ) (e : EntryView) (best : Option Probe) (c : Config) (left : List Config) (rate : Rate) (rates : List Rate) → length rates ≡ length left
    → fold (decide workers e) (Calibrates best (c ∷ left)) (rate ∷ rates)
    ≡ optimise workers (workers / 2) (fold better (best_with best (record { config = c; rate = rate })) (probes_of left rates))
calibrates_by workers e best c [] rate [] same = refl
calibrates_by workers e best c [] rate (r ∷ rates) same = absurd (omega (arith, same))
calibrates_by workers e best c (d ∷ left) rate [] same = absurd (omega (arith, same))
calibrates_by workers e best c (d ∷ left) rate (r ∷ rates) same =
    calibrates_by workers e (Some (best_with best (record { config = c; rate = rate }))) d left r rates (omega (arith, same))

-- and so does a round of optimising
optimises_by : (workers half : ℕ) (e : EntryView) (best : Probe) (c : Config) (left : List Config) (rate : Rate) (rates : List Rate) → length rates ≡ length left
    → fold (decide workers e) (Optimises half best (c ∷ left)) (rate ∷ rates)
    ≡ optimise workers (half / 2) (fold better best (probes_of (c ∷ left) (rate ∷ rates)))
optimises_by workers half e best c [] rate [] same = refl
optimises_by workers half e best c [] rate (r ∷ rates) same = absurd (omega (arith, same))
optimises_by workers half e best c (d ∷ left) rate [] same = absurd (omega (arith, same))
optimises_by workers half e best c (d ∷ left) rate (r ∷ rates) same =
    optimises_by workers half e (better best (record { config = c; rate = rate })) d left r rates (omega (arith, same))

pub calibrated_keeps : (workers : ℕ) (e : EntryView) (c : Config) (left : List Config) (rates : List Rate) → HaveTicks rates → length rates ≡ length (c ∷ left)
    → (kept : Probe) × IsGreatest kept (probes_of (c ∷ left) rates) × (fold (decide workers e) (Calibrates None (c ∷ left)) rates ≡ optimise workers (workers / 2) kept)
calibrated_keeps workers e c left [] all same = absurd (omega (arith, same))
calibrated_keeps workers e c left (rate ∷ rates) all same =
    let first : Probe = record { config = c; rate = rate } in
    let rest : HaveTicks rates = tail_of (λ (r : Rate). 1 ≤ r.ticks) rate rates all in (
      fold better first (probes_of left rates),
      greatest_of first (probes_of left rates) (all 0 rate (omega arith)) (ticks_of_probes left rates rest),
      calibrates_by workers e None c left rate rates (omega (arith, same)),
    )

pub optimised_keeps : (workers half : ℕ) (e : EntryView) (best : Probe) (left : List Config) (rates : List Rate) → 1 ≤ length left → 1 ≤ best.rate.ticks
    → HaveTicks rates → length rates ≡ length left
    → (kept : Probe) × IsGreatest kept (best ∷ probes_of left rates) × (fold (decide workers e) (Optimises half best left) rates ≡ optimise workers (half / 2) kept)
optimised_keeps workers half e best [] rates some ticks all same = absurd (omega (arith, some))
optimised_keeps workers half e best (c ∷ left) [] some ticks all same = absurd (omega (arith, same))
optimised_keeps workers half e best (c ∷ left) (rate ∷ rates) some ticks all same = (
  fold better best (probes_of (c ∷ left) (rate ∷ rates)),
  greatest_of best (probes_of (c ∷ left) (rate ∷ rates)) ticks (ticks_of_probes (c ∷ left) (rate ∷ rates) all),
  optimises_by workers half e best c left rate rates (omega (arith, same)),
)
