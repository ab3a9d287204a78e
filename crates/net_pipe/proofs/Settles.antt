-- A number that is settled from what each task saw of it; and where one of some numbers passes a test.
use Rattle.std.proofs.Common.{◌≡◌, ◌⊎◌, inl, inr, ⊎_elim, ℕ, zero, suc, ◌-◌, ◌<◌, Bool, true, false, ℤ, pos, List, [], ◌∷◌, ◌++◌, length, get_or, refl, sym, ap, ◌∙◌, subst, arith, if◌then◌else◌, append-nil}
use Rattle.std.specs.List.{flat_map}
use Rattle.std.specs.Ordering.{int_eq}
use Rattle.std.proofs.lemmas.Bool.{cases_eq}
use Rattle.std.proofs.lemmas.Bool.Decides.{Decides-int_eq}
use Rattle.nona_plans.specs.Walks.{IsUnit}
use Rattle.net_share.specs.Settled.{settled_cell}

-- one of the first n numbers passes a test, or none does

one_more : (test : ℕ → Bool) (n : ℕ) (b : Bool) → test n ≡ b → ((t : ℕ) × (t < n) × (test t ≡ true)) ⊎ ((t : ℕ) → t < n → test t ≡ false) → ((t : ℕ) × (t < suc n) × (test t ≡ true)) ⊎ ((t : ℕ) → t < suc n → test t ≡ false)
one_more test n true e before = inl (n, omega arith, e)
one_more test n false e (inl found) = inl (let below = found.1 in (found.0, omega (arith, below), found.2))
one_more test n false e (inr none) = inr (λ t below. ⊎_elim (λ (here : t ≡ n). ap test here ∙ e) (λ (apart : t ≡ n → ⊥). none t (omega (arith, below, apart))) (cases_eq t n))

pub some_below : (test : ℕ → Bool) (n : ℕ) → ((t : ℕ) × (t < n) × (test t ≡ true)) ⊎ ((t : ℕ) → t < n → test t ≡ false)
some_below test zero = inr (λ t below. absurd (omega (arith, below)))
some_below test (suc n) = one_more test n (test n) refl (some_below test n)

-- one of n units
pub some_unit : (test : ℕ → Bool) (n : ℕ) → ((u : ℕ) × IsUnit n u × (test u ≡ true)) ⊎ ((u : ℕ) → IsUnit n u → test u ≡ false)
some_unit test n = by_case (some_below (λ t. test (suc t)) n) where
  by_case : ((t : ℕ) × (t < n) × (test (suc t) ≡ true)) ⊎ ((t : ℕ) → t < n → test (suc t) ≡ false) → ((u : ℕ) × IsUnit n u × (test u ≡ true)) ⊎ ((u : ℕ) → IsUnit n u → test u ≡ false)
  by_case (inl found) = inl (let below = found.1 in (suc found.0, (omega arith, omega (arith, below)), found.2))
  by_case (inr none) = inr (λ u is. (let from = is.0 in let to = is.1 in let up : suc (u - 1) ≡ u = omega (arith, from) in subst (λ (j : ℕ). test j ≡ false) up (none (u - 1) (omega (arith, from, to)))))

-- where each task saw what the number was or what it is to be, and one saw the latter, it is that
pub settles : (was v now : ℤ) (vs : List ℤ) → (now ≡ was) ⊎ (now ≡ v) → ((t : ℕ) → t < length vs → (get_or vs t (pos 0) ≡ was) ⊎ (get_or vs t (pos 0) ≡ v))
    → (now ≡ v) ⊎ ((t : ℕ) × (t < length vs) × (get_or vs t (pos 0) ≡ v)) → settled_cell was now vs ≡ v
settles was v now [] is each (inl here) = here
settles was v now [] is each (inr (t, below, at)) = absurd (omega (arith, below))
settles was v now (x ∷ vs) is each some =
    by_test (int_eq x was) refl (λ later_now later_is later_some. settles was v later_now vs later_is (λ t below. each (suc t) (omega (arith, below))) later_some) some (each 0 (omega arith)) is
  where
    by_test : (b : Bool) → int_eq x was ≡ b
        → ((later : ℤ) → (later ≡ was) ⊎ (later ≡ v) → (later ≡ v) ⊎ ((t : ℕ) × (t < length vs) × (get_or vs t (pos 0) ≡ v)) → settled_cell was later vs ≡ v)
        → (now ≡ v) ⊎ ((t : ℕ) × (t < length (x ∷ vs)) × (get_or (x ∷ vs) t (pos 0) ≡ v)) → (x ≡ was) ⊎ (x ≡ v) → (now ≡ was) ⊎ (now ≡ v) → settled_cell was (if b then now else x) vs ≡ v
    by_test true e go (inl here) first is = go now is (inl here)
    by_test true e go (inr (zero, below, at)) first (inl same) = go now (inl same) (inl (same ∙ sym ((Decides-int_eq x was).0 e) ∙ at))
    by_test true e go (inr (zero, below, at)) first (inr same) = go now (inr same) (inl same)
    by_test true e go (inr (suc t, below, at)) first is = go now is (inr (t, omega (arith, below), at))
    by_test false e go some (inl same) is = let no : false ≡ true = sym e ∙ (Decides-int_eq x was).1 same in cc
    by_test false e go some (inr same) is = go x (inr same) (inl same)

-- lists of which at most one has something

pub none_of : {A : Type 0} (f : A → List ℤ) (xs : List A) (d : A) → ((t : ℕ) → t < length xs → f (get_or xs t d) ≡ []) → flat_map f xs ≡ []
none_of f [] d each = refl
none_of f (x ∷ xs) d each =
    ap (λ (ys : List ℤ). ys ++ flat_map f xs) (each 0 (omega arith)) ∙ none_of f xs d (λ t below. each (suc t) (omega (arith, below)))

pub one_of : {A : Type 0} (f : A → List ℤ) (xs : List A) (d : A) (t : ℕ) → t < length xs → ((u : ℕ) → u < length xs → (u ≡ t → ⊥) → f (get_or xs u d) ≡ []) → flat_map f xs ≡ f (get_or xs t d)
one_of f [] d t below each = absurd (omega (arith, below))
one_of f (x ∷ xs) d zero below each =
    ap (λ (ys : List ℤ). f x ++ ys) (none_of f xs d (λ u within. each (suc u) (omega (arith, within)) (λ e. omega (arith, e)))) ∙ append-nil (f x)
one_of f (x ∷ xs) d (suc t) below each =
    ap (λ (ys : List ℤ). ys ++ flat_map f xs) (each 0 (omega arith) (λ e. omega (arith, e)))
    ∙ one_of f xs d t (omega (arith, below)) (λ u within apart. each (suc u) (omega (arith, within)) (λ e. apart (omega (arith, e))))
