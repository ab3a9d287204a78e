-- Numbers among others, and the numbers from 1 to n.
use Rattle.std.proofs.Common.{◌≡◌, ℕ, zero, suc, ◌+◌, ◌≤◌, ◌<◌, ◌==◌, ◌&&◌, ◌||◌, Bool, true, false, List, [], ◌∷◌, ◌++◌, filter, length, ⊎_elim, get_or, refl, sym, ap, ◌∙◌, arith, if◌then◌else◌}
use Rattle.std.specs.List.{AllByRecursion, All}
use Rattle.std.specs.List.Sorted.{IsStrictlyIncreasing}
use Rattle.std.proofs.lemmas.List.{length_push, get_or_push, get_or_append_left}
use Rattle.std.proofs.lemmas.Bool.{cases_lt}
use Rattle.std.proofs.lemmas.List.Elements.{All-filter, All-from_recursion}
use Rattle.std.proofs.lemmas.List.Kept.{IsStrictlyIncreasing-filter}
use Rattle.nona_plans.specs.Walks.{IsUnit}
use Rattle.nona_forms.specs.Affine.{among}
use Rattle.nona_plans.specs.Components.{up_to}
use Rattle.nona_plans.proofs.Leading.{same_units, or_left, or_right, both}

pub or_assoc : (a b c : Bool) → ((a || b) || c) ≡ (a || (b || c))
or_assoc true b c = refl
or_assoc false b c = refl

pub or_false : (a : Bool) → (a || false) ≡ a
or_false true = refl
or_false false = refl

either_is : (same b : Bool) → (if same then true else b) ≡ (same || b)
either_is true b = refl
either_is false b = refl

pub among_either : (u x : ℕ) (xs : List ℕ) → among u (x ∷ xs) ≡ ((u == x) || among u xs)
among_either u x xs = either_is (u == x) (among u xs)

append_by : (same b c d : Bool) → d ≡ (b || c) → (if same then true else d) ≡ ((if same then true else b) || c)
append_by true b c d e = refl
append_by false b c d e = e

pub among_append : (u : ℕ) (xs ys : List ℕ) → among u (xs ++ ys) ≡ (among u xs || among u ys)
among_append u [] ys = refl
among_append u (x ∷ xs) ys = append_by (u == x) (among u xs) (among u ys) (among u (xs ++ ys)) (among_append u xs ys)

-- a number is among those that pass a test exactly where it is among all and passes
filter_step : (p : ℕ → Bool) (u x : ℕ) (xs : List ℕ) (same passes : Bool) → (u == x) ≡ same → p x ≡ passes → among u (filter p xs) ≡ (p u && among u xs)
    → among u (if passes then x ∷ filter p xs else filter p xs) ≡ (p u && (if same then true else among u xs))
filter_step p u x xs true true e h k =
    ap (λ b. if b then true else among u (filter p xs)) e ∙ sym (ap (λ b. b && true) (ap p (same_units u x e) ∙ h))
filter_step p u x xs true false e h k =
    let no : p u ≡ false = ap p (same_units u x e) ∙ h in k ∙ ap (λ b. b && among u xs) no ∙ sym (ap (λ b. b && true) no)
filter_step p u x xs false true e h k = ap (λ b. if b then true else among u (filter p xs)) e ∙ k
filter_step p u x xs false false e h k = k

and_false : (a : Bool) → false ≡ (a && false)
and_false true = refl
and_false false = refl

pub among_filter : (p : ℕ → Bool) (u : ℕ) (xs : List ℕ) → among u (filter p xs) ≡ (p u && among u xs)
among_filter p u [] = and_false (p u)
among_filter p u (x ∷ xs) = filter_step p u x xs (u == x) (p x) refl refl (among_filter p u xs)

-- the numbers from 1 to n are those
up_to_last : (n u : ℕ) (same : Bool) → (u == suc n) ≡ same → 1 ≤ u → u ≤ suc n → (u ≤ n → among u (up_to n) ≡ true) → (among u (up_to n) || (if same then true else false)) ≡ true
up_to_last n u true e a b h = or_right (among u (up_to n)) true refl
up_to_last n u false e a b h = or_left (among u (up_to n)) false (h (grind (arith, e, b)))

pub unit_among : (n u : ℕ) → IsUnit n u → among u (up_to n) ≡ true
unit_among zero u h = absurd (omega (arith, h))
unit_among (suc n) u h =
    among_append u (up_to n) (suc n ∷ []) ∙ up_to_last n u (u == suc n) refl h.0 h.1 (λ k. unit_among n u (h.0, k))

among_unit_at : (n u : ℕ) (old same : Bool) → among u (up_to n) ≡ old → (u == suc n) ≡ same → (old || (if same then true else false)) ≡ true → (among u (up_to n) ≡ true → IsUnit n u) → IsUnit (suc n) u
among_unit_at n u true same e h k i = let is = i e in (is.0, omega (arith, is))
among_unit_at n u false true e h k i = let is : u ≡ suc n = same_units u (suc n) h in (omega (arith, is), omega (arith, is))
among_unit_at n u false false e h k i = cc

pub among_unit : (n u : ℕ) → among u (up_to n) ≡ true → IsUnit n u
among_unit zero u h = cc
among_unit (suc n) u h =
    among_unit_at n u (among u (up_to n)) (u == suc n) refl refl (sym (among_append u (up_to n) (suc n ∷ [])) ∙ h) (among_unit n u)

-- numbers in order: those from 1 to n that are among others
abbrev pub sorted : ℕ → List ℕ → List ℕ
sorted n xs = filter (λ u. among u xs) (up_to n)

pub and_true : (a b : Bool) → b ≡ true → (a && b) ≡ a
and_true true b e = e
and_true false b e = refl

pub among_sorted : (n u : ℕ) (xs : List ℕ) → IsUnit n u → among u (sorted n xs) ≡ among u xs
among_sorted n u xs h = among_filter (λ u. among u xs) u (up_to n) ∙ and_true (among u xs) (among u (up_to n)) (unit_among n u h)

pub sorted_among : (n u : ℕ) (xs : List ℕ) → among u (sorted n xs) ≡ true → among u xs ≡ true
sorted_among n u xs h = (both (among u xs) (among u (up_to n)) (sym (among_filter (λ u. among u xs) u (up_to n)) ∙ h)).0

all_push : (P : ℕ → Type 0) (xs : List ℕ) (x : ℕ) → AllByRecursion P xs → P x → AllByRecursion P (xs ++ x ∷ [])
all_push P [] x h k = (k, tt)
all_push P (y ∷ ys) x h k = (h.0, all_push P ys x h.1 k)

pub units_to : (n m : ℕ) → m ≤ n → AllByRecursion (IsUnit n) (up_to m)
units_to n zero h = tt
units_to n (suc m) h = all_push (IsUnit n) (up_to m) (suc m) (units_to n m (omega (arith, h))) ((omega arith), h)

-- the numbers from 1 to n stand in order: the one at place k is k + 1
length_to : (n : ℕ) → length (up_to n) ≡ n
length_to zero = refl
length_to (suc n) = let l = length_push (up_to n) (suc n) in let m = length_to n in omega (arith, l, m)

pub sorted_units : (n : ℕ) (xs : List ℕ) → All (IsUnit n) (sorted n xs)
sorted_units n xs = All-filter (λ u. among u xs) (IsUnit n) (up_to n) (All-from_recursion (IsUnit n) (up_to n) (units_to n n (omega arith)))

value_last : (n k d : ℕ) → k < suc n → ((k < n) → get_or (up_to n) k d ≡ suc k) → get_or (up_to n ++ suc n ∷ []) k d ≡ suc k
value_last n k d h prior =
    let l = length_to n in
    ⊎_elim
    (λ inside. get_or_append_left (up_to n) (suc n ∷ []) d k (omega (arith, l, inside)) ∙ prior inside)
    (λ at_end. let e : length (up_to n) ≡ k = omega (arith, l, at_end, h) in get_or_push (up_to n) (suc n) d k e ∙ omega (arith, e, l))
    (cases_lt k n)

value_at : (n k d : ℕ) → k < n → get_or (up_to n) k d ≡ suc k
value_at zero k d h = absurd (omega (arith, h))
value_at (suc n) k d h = value_last n k d h (value_at n k d)

rises : (n : ℕ) → IsStrictlyIncreasing (up_to n)
rises n k within =
    let l = length_to n in
    let low = value_at n k 0 (omega (arith, l, within)) in
    let high = value_at n (k + 1) 0 (omega (arith, l, within)) in
    omega (arith, low, high)

pub sorted_rises : (n : ℕ) (xs : List ℕ) → IsStrictlyIncreasing (sorted n xs)
sorted_rises n xs = IsStrictlyIncreasing-filter (λ u. among u xs) (up_to n) (rises n)
