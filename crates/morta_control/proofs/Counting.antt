-- How few probes there are, and that none is of the kept configuration.
use Rattle.std.proofs.Common.{◌≡◌, ◌≢◌, ℕ, zero, suc, ◌+◌, ◌-◌, ◌*◌, ◌/◌, ◌<◌, ◌≤◌, ◌==◌, ◌||◌, Bool, true, false, List, [], ◌∷◌, ◌++◌, length, nat_lt, refl, sym, ap, ◌∙◌, arith, if◌then◌else◌}
use Rattle.std.specs.Prelude.{All}
use Rattle.std.proofs.lemmas.Bool.{ltb-true, ltb-false, lt-ltb, le-ltb, eqb-false}
use Rattle.std.proofs.lemmas.List.Elements.{All-nil, All-cons, All-append}
use Rattle.decima.specs.Rates.{Rate}
use Rattle.morta_task.specs.declared.schemes.Config.{Config}
use Rattle.morta_task.specs.Entries.{EntryView}
use Rattle.morta_control.specs.Decisions.{Probe, Decision, Calibrates, Optimises, Monitors, better, best_with, decide, optimise, fewer, more, versions, calibrate, is_sequential}
use Rattle.morta_control.specs.Rounds.{probes_made, is_probing, halvings, floor_log2}

-- how often a number can be halved doesn't depend on how often it may be, where that is often enough
enough : (k m n : ℕ) → n ≤ k → n ≤ m → halvings k n ≡ halvings m n
enough zero zero n few many = refl
enough zero (suc m) n few many = ap (λ b. if b then 0 else halvings m (n / 2) + 1) (sym (lt-ltb n 2 (omega (arith, few))))
enough (suc k) zero n few many = ap (λ b. if b then 0 else halvings k (n / 2) + 1) (lt-ltb n 2 (omega (arith, many)))
enough (suc k) (suc m) n few many =
    by_test (nat_lt n 2) refl (λ two. enough k m (n / 2) (let less : n / 2 ≤ k = omega arith in less) (let less : n / 2 ≤ m = omega arith in less))
  where
    by_test : (b : Bool) → nat_lt n 2 ≡ b → (2 ≤ n → halvings k (n / 2) ≡ halvings m (n / 2))
        → (if b then 0 else halvings k (n / 2) + 1) ≡ (if b then 0 else halvings m (n / 2) + 1)
    by_test true is same = refl
    by_test false is same = ap (λ x. x + 1) (same (ltb-false n 2 is))

-- a number of at least two can be halved once more often than its half
log_of_half : (n : ℕ) → 2 ≤ n → floor_log2 n ≡ floor_log2 (n / 2) + 1
log_of_half zero two = absurd (omega arith)
log_of_half (suc n) two =
    ap (λ b. if b then 0 else halvings n (suc n / 2) + 1) (le-ltb (suc n) 2 two)
    ∙ ap (λ x. x + 1) (enough n (suc n / 2) (suc n / 2) (omega arith) (omega arith))

-- how many probes are to come at most
abbrev to_come : ℕ → Decision → ℕ
to_come workers (Calibrates best left) = length left + 2 * floor_log2 workers
to_come workers (Optimises half best left) = length left + 2 * floor_log2 half
to_come workers (Monitors kept) = 0

-- a round has a probe that is left, and one of optimising is at no more than half of the workers
abbrev IsGoing : ℕ → Decision → Type 0
IsGoing workers (Calibrates best left) = (1 ≤ workers) × (1 ≤ length left)
IsGoing workers (Optimises half best left) = (1 ≤ half) × (2 * half ≤ workers) × (1 ≤ length left)
IsGoing workers (Monitors kept) = Unit {0}

-- a round of optimising has one configuration or two
one_or_two : (workers half : ℕ) (c : Config) → 2 * half ≤ workers
    → (1 ≤ length (fewer half c ++ more workers half c)) × (length (fewer half c ++ more workers half c) ≤ 2)
one_or_two workers half c few = by_tests (nat_lt half c.workers) (nat_lt workers (c.workers + half)) refl refl where
  by_tests : (a b : Bool) → nat_lt half c.workers ≡ a → nat_lt workers (c.workers + half) ≡ b
      → (let configs : List Config = (if a then record c { workers = c.workers - half } ∷ [] else []) ++ (if b then [] else record c { workers = c.workers + half } ∷ []) in
      (1 ≤ length configs) × (length configs ≤ 2))
  by_tests true true first second = (omega arith, omega arith)
  by_tests true false first second = (omega arith, omega arith)
  by_tests false false first second = (omega arith, omega arith)
  by_tests false true first second = absurd (omega (arith, ltb-false half c.workers first, ltb-true workers (c.workers + half) second))

-- what is to come behind a round at a distance, of which this is the half
record ComesBehind (workers n : ℕ) (d : Decision) : Type 0 where
  going : IsGoing workers d
  few : to_come workers d ≤ 2 * floor_log2 n

behind_round : (workers n : ℕ) (best : Probe) → n ≤ workers → ComesBehind workers n (optimise workers (n / 2) best)
behind_round workers n best few = by_tests (n / 2 == 0) (is_sequential best.config.scheme) refl where
  by_tests : (a b : Bool) → (n / 2 == 0) ≡ a
      → ComesBehind workers n (if a || b then Monitors best else Optimises (n / 2) best (fewer (n / 2) best.config ++ more workers (n / 2) best.config))
  by_tests true b is = record { going = tt; few = omega arith }
  by_tests false true is = record { going = tt; few = omega arith }
  by_tests false false is =
      let some : n / 2 ≡ 0 → ⊥ = eqb-false (n / 2) 0 is in
      let two : 2 ≤ n = two_of n some in
      let few_half : 2 * (n / 2) ≤ workers = omega arith in
      let count = one_or_two workers (n / 2) best.config few_half in
      record { going = (omega arith, few_half, count.0); few = omega (arith, count.1, log_of_half n two) }
    where
      two_of : (m : ℕ) → (m / 2 ≡ 0 → ⊥) → 2 ≤ m
      two_of m h = omega (arith, h)

-- an interval of a probe leaves one probe fewer to come
record LeavesFewer (workers : ℕ) (d next : Decision) : Type 0 where
  going : IsGoing workers next
  fewer : to_come workers next + 1 ≤ to_come workers d

one_fewer : (workers : ℕ) (e : EntryView) (d : Decision) (rate : Rate) → IsGoing workers d → is_probing d ≡ true → LeavesFewer workers d (decide workers e d rate)
one_fewer workers e (Calibrates best []) rate going is = absurd (omega (arith, going.1))
one_fewer workers e (Calibrates best (c ∷ [])) rate going is =
    let behind = behind_round workers workers (best_with best (record { config = c; rate = rate })) (omega arith) in
    record { going = behind.going; fewer = omega (arith, behind.few) }
one_fewer workers e (Calibrates best (c ∷ d ∷ left)) rate going is = record { going = (going.0, omega arith); fewer = omega arith }
one_fewer workers e (Optimises half best []) rate going is = absurd (omega (arith, going.2))
one_fewer workers e (Optimises half best (c ∷ [])) rate going is =
    let behind = behind_round workers half (better best (record { config = c; rate = rate })) (omega (arith, going.1)) in
    record { going = behind.going; fewer = omega (arith, behind.few) }
one_fewer workers e (Optimises half best (c ∷ d ∷ left)) rate going is = record { going = (going.0, going.1, omega arith); fewer = omega arith }
one_fewer workers e (Monitors kept) rate going is = cc

no_more : (workers : ℕ) (e : EntryView) (d : Decision) (rates : List Rate) → IsGoing workers d → probes_made workers e d rates ≤ to_come workers d
no_more workers e d [] going = omega arith
no_more workers e d (rate ∷ rates) going =
    by_test (is_probing d) refl (λ is. no_more workers e (decide workers e d rate) rates (one_fewer workers e d rate going is).going)
  where
    by_test : (b : Bool) → is_probing d ≡ b
        → (is_probing d ≡ true → probes_made workers e (decide workers e d rate) rates ≤ to_come workers (decide workers e d rate))
        → (if b then probes_made workers e (decide workers e d rate) rates + 1 else 0) ≤ to_come workers d
    by_test true is rest = let leaves = one_fewer workers e d rate going is in omega (arith, rest is, leaves.fewer)
    by_test false is rest = omega arith

pub few_probes : (workers : ℕ) (e : EntryView) (rates : List Rate) → 1 ≤ workers
    → probes_made workers e (calibrate workers e) rates ≤ length (versions workers e) + 2 * floor_log2 workers
few_probes workers e rates some = no_more workers e (calibrate workers e) rates (some, omega arith)

-- a configuration that is another one
abbrev IsOther : Config → Config → Type 0
IsOther kept c = c ≢ kept

-- none of the configurations of a round is the one that is kept
pub none_is_kept : (workers half : ℕ) (best : Probe) → 1 ≤ half → All (λ (c : Config). c ≢ best.config) (fewer half best.config ++ more workers half best.config)
none_is_kept workers half best some =
    All-append (IsOther best.config) (fewer half best.config) (more workers half best.config)
    (by_fewer (nat_lt half best.config.workers) refl) (by_more (nat_lt workers (best.config.workers + half)))
  where
    other : (n : ℕ) → (n ≡ best.config.workers → ⊥) → All (IsOther best.config) (record best.config { workers = n } ∷ [])
    other n h = All-cons (IsOther best.config) (record best.config { workers = n }) [] (λ same. h (ap (λ (c : Config). c.workers) same)) (All-nil (IsOther best.config))

    by_fewer : (b : Bool) → nat_lt half best.config.workers ≡ b
        → All (IsOther best.config) (if b then record best.config { workers = best.config.workers - half } ∷ [] else [])
    by_fewer true is =
        let more_than : half < best.config.workers = ltb-true half best.config.workers is in
        other (best.config.workers - half) (λ same. omega arith)
    by_fewer false is = All-nil (IsOther best.config)

    by_more : (b : Bool) → All (IsOther best.config) (if b then [] else record best.config { workers = best.config.workers + half } ∷ [])
    by_more true = All-nil (IsOther best.config)
    by_more false = other (best.config.workers + half) (λ same. omega arith)
