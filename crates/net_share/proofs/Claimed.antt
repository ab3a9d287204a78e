-- Who claimed an iteration, and the iterations that a task owns by its claims.
use Rattle.std.proofs.Common.{◌≡◌, ℕ, zero, suc, ◌+◌, ◌<◌, ◌≤◌, ◌==◌, Bool, true, false, List, [], ◌∷◌, ◌++◌, length, get_or, refl, sym, ap, ◌∙◌, subst, arith, if◌then◌else◌, ⊎_elim, append-nil}
use Rattle.std.proofs.lemmas.Bool.{cases_eq}
use Rattle.net_flow.specs.Sharing.{claimed_by}
use Rattle.nona_fission.specs.Sharing.{owned_below}
use Rattle.nona_fission.proofs.Untied.{same_number}

-- the task that claimed an iteration, where these tasks claimed the first ones, the last one first, and this one claims all others
abbrev pub owner_or : ℕ → List ℕ → ℕ → ℕ
owner_or other [] k = other
owner_or other (o ∷ rest) k = if k == length rest then o else owner_or other rest k

not_same : (a b : ℕ) → (a ≡ b → ⊥) → (a == b) ≡ false
not_same a b apart = grind arith

owner_last : (other o : ℕ) (rest : List ℕ) → owner_or other (o ∷ rest) (length rest) ≡ o
owner_last other o rest = ap (λ (b : Bool). if b then o else owner_or other rest (length rest)) (same_number (length rest))

owner_apart : (other o : ℕ) (rest : List ℕ) (k : ℕ) → (k ≡ length rest → ⊥) → owner_or other (o ∷ rest) k ≡ owner_or other rest k
owner_apart other o rest k apart = ap (λ (b : Bool). if b then o else owner_or other rest k) (not_same k (length rest) apart)

pub owner_past : (other : ℕ) (cs : List ℕ) (k : ℕ) → length cs ≤ k → owner_or other cs k ≡ other
owner_past other [] k past = refl
owner_past other (o ∷ rest) k past =
    owner_apart other o rest k (λ e. omega (arith, past, e)) ∙ owner_past other rest k (omega (arith, past))

-- owners are below a number above all of them; those of claimed iterations are below one that all claimants are below

abbrev pub above : ℕ → List ℕ → ℕ
above other [] = suc other
above other (o ∷ rest) = suc o + above other rest

above_if : (b : Bool) (o r n : ℕ) → r < n → (if b then o else r) < suc o + n
above_if true o r n below = omega arith
above_if false o r n below = omega (arith, below)

pub owner_above : (other : ℕ) (cs : List ℕ) (k : ℕ) → owner_or other cs k < above other cs
owner_above other [] k = omega arith
owner_above other (o ∷ rest) k = above_if (k == length rest) o (owner_or other rest k) (above other rest) (owner_above other rest k)

pub owner_real : (other : ℕ) (cs : List ℕ) (n : ℕ) → ((k : ℕ) → k < length cs → get_or cs k 0 < n) → (k : ℕ) → k < length cs → owner_or other cs k < n
owner_real other [] n real k below = absurd (omega (arith, below))
owner_real other (o ∷ rest) n real k below =
    ⊎_elim
    (λ (here : k ≡ length rest). subst (λ (x : ℕ). x < n) (sym (ap (owner_or other (o ∷ rest)) here ∙ owner_last other o rest)) (real 0 (omega arith)))
    (λ (apart : k ≡ length rest → ⊥). subst (λ (x : ℕ). x < n) (sym (owner_apart other o rest k apart)) (owner_real other rest n (λ j within. real (suc j) (omega (arith, within))) k (omega (arith, below, apart))))
    (cases_eq k (length rest))

-- the iterations that a task claimed are those that it owns

owned_same : (f g : ℕ → ℕ) (t n : ℕ) → ((k : ℕ) → k < n → f k ≡ g k) → owned_below f t n ≡ owned_below g t n
owned_same f g t zero h = refl
owned_same f g t (suc n) h =
    let last : f n ≡ g n = h n (omega arith) in
    let before : owned_below f t n ≡ owned_below g t n = owned_same f g t n (λ k below. h k (omega (arith, below))) in
    λ i. before i ++ (if last i == t then n ∷ [] else [])

claimed_if : (b : Bool) (k : ℕ) (xs : List ℕ) → xs ++ (if b then k ∷ [] else []) ≡ (if b then xs ++ k ∷ [] else xs)
claimed_if true k xs = refl
claimed_if false k xs = append-nil xs

pub claimed_is : (other : ℕ) (cs : List ℕ) (t : ℕ) → owned_below (owner_or other cs) t (length cs) ≡ claimed_by cs t
claimed_is other [] t = refl
claimed_is other (o ∷ rest) t =
    let before = owned_same (owner_or other (o ∷ rest)) (owner_or other rest) t (length rest) (λ k below. owner_apart other o rest k (λ e. omega (arith, below, e))) ∙ claimed_is other rest t in
    let last = owner_last other o rest in
    (λ i. before i ++ (if last i == t then length rest ∷ [] else [])) ∙ claimed_if (o == t) (length rest) (claimed_by rest t)

-- with one more, which the task claims
pub claims_next : (t : ℕ) (cs : List ℕ) → owned_below (owner_or t cs) t (suc (length cs)) ≡ claimed_by cs t ++ length cs ∷ []
claims_next t cs =
    let before = claimed_is t cs t in
    let last = owner_past t cs (length cs) (omega arith) in
    (λ i. before i ++ (if last i == t then length cs ∷ [] else []))
    ∙ ap (λ (b : Bool). claimed_by cs t ++ (if b then length cs ∷ [] else [])) (same_number t)
