-- The tasks to which numbers were granted: each number has one of them.
use Rattle.std.proofs.Common.{◌≡◌, ◌≢◌, ◌⊎◌, ◌<◌, ◌≤◌, ◌==◌, ℕ, zero, suc, Bool, true, false, refl, sym, ap, subst, ◌∙◌, arith, inl, inr, List, [], ◌∷◌, ◌++◌, length, get_or, if◌then◌else◌}
use Rattle.std.specs.Prelude.{Contains}
use Rattle.std.proofs.lemmas.Bool.{cases_lt, cases_eq, eq-eqb}
use Rattle.std.proofs.lemmas.Bool.Decides.{eqb_tells}
use Rattle.std.proofs.lemmas.List.Elements.{Contains-append_left, Contains-append_right, Contains-append_cases}
use Rattle.net_flow.specs.Sharing.{claimed_by}

-- the last claim is that of its task, and of no other
pub claimed_here : (claimants : List ℕ) (t : ℕ) → claimed_by (t ∷ claimants) t ≡ claimed_by claimants t ++ length claimants ∷ []
claimed_here claimants t = ap (λ (q : Bool). if q then claimed_by claimants t ++ length claimants ∷ [] else claimed_by claimants t) (eq-eqb t t refl)

pub claimed_other : (claimants : List ℕ) (o t : ℕ) → o ≢ t → claimed_by (o ∷ claimants) t ≡ claimed_by claimants t
claimed_other claimants o t off = by_test (eqb_tells o t) where
  by_test : ((o == t) ≡ true) × (o ≡ t) ⊎ ((o == t) ≡ false) × (o ≢ t) → claimed_by (o ∷ claimants) t ≡ claimed_by claimants t
  by_test (inl h) = absurd (off h.1)
  by_test (inr h) = ap (λ (q : Bool). if q then claimed_by claimants t ++ length claimants ∷ [] else claimed_by claimants t) h.0

only_one : (x k : ℕ) → Contains (x ∷ []) k → x ≡ k
only_one x k (zero, below, same) = same
only_one x k (suc i, below, same) = absurd (omega (arith, below))

-- what a further claim adds to what a task claimed
claimed_is : (claimants : List ℕ) (o t k : ℕ) → Contains (claimed_by (o ∷ claimants) t) k → Contains (claimed_by claimants t) k ⊎ (o ≡ t) × (k ≡ length claimants)
claimed_is claimants o t k has = by_task (cases_eq o t) where
  by_last : Contains (claimed_by claimants t) k ⊎ Contains (length claimants ∷ []) k → o ≡ t → Contains (claimed_by claimants t) k ⊎ (o ≡ t) × (k ≡ length claimants)
  by_last (inl h) same = inl h
  by_last (inr h) same = inr (same, sym (only_one (length claimants) k h))

  by_task : (o ≡ t) ⊎ (o ≢ t) → Contains (claimed_by claimants t) k ⊎ (o ≡ t) × (k ≡ length claimants)
  by_task (inl same) =
      let here : Contains (claimed_by (t ∷ claimants) t) k = subst (λ (i : ℕ). Contains (claimed_by (i ∷ claimants) t) k) same has in
      by_last (Contains-append_cases (claimed_by claimants t) (length claimants ∷ []) k (subst (λ (ks : List ℕ). Contains ks k) (claimed_here claimants t) here)) same
  by_task (inr off) = inl (subst (λ (ks : List ℕ). Contains ks k) (claimed_other claimants o t off) has)

-- a number that was claimed is one of those that were granted
claimed_below : (claimants : List ℕ) (t k : ℕ) → Contains (claimed_by claimants t) k → k < length claimants
claimed_below [] t k (i, below, same) = absurd (omega (arith, below))
claimed_below (o ∷ rest) t k has = by_case (claimed_is rest o t k has) (λ h. claimed_below rest t k h) where
  by_case : Contains (claimed_by rest t) k ⊎ (o ≡ t) × (k ≡ length rest) → (Contains (claimed_by rest t) k → k < length rest) → k < suc (length rest)
  by_case (inl h) before = let z = before h in omega (arith, z)
  by_case (inr h) before = let z = h.1 in omega (arith, z)

-- no two tasks claimed the same number
pub one_owner : (claimants : List ℕ) (k t u : ℕ) → Contains (claimed_by claimants t) k → Contains (claimed_by claimants u) k → t ≡ u
one_owner [] k t u (i, below, same) other = absurd (omega (arith, below))
one_owner (o ∷ rest) k t u one other = by_cases (claimed_is rest o t k one) (claimed_is rest o u k other) (λ a b. one_owner rest k t u a b) where
  by_cases : Contains (claimed_by rest t) k ⊎ (o ≡ t) × (k ≡ length rest) → Contains (claimed_by rest u) k ⊎ (o ≡ u) × (k ≡ length rest)
      → (Contains (claimed_by rest t) k → Contains (claimed_by rest u) k → t ≡ u) → t ≡ u
  by_cases (inl a) (inl b) before = before a b
  by_cases (inl a) (inr b) before = let z = claimed_below rest t k a in let e = b.1 in absurd (omega (arith, z, e))
  by_cases (inr a) (inl b) before = let z = claimed_below rest u k b in let e = a.1 in absurd (omega (arith, z, e))
  by_cases (inr a) (inr b) before = sym a.0 ∙ b.0

-- a task keeps what it claimed
claimed_stays : (claimants : List ℕ) (o t k : ℕ) → Contains (claimed_by claimants t) k → Contains (claimed_by (o ∷ claimants) t) k
claimed_stays claimants o t k has = by_task (cases_eq o t) where
  by_task : (o ≡ t) ⊎ (o ≢ t) → Contains (claimed_by (o ∷ claimants) t) k
  by_task (inl same) =
      let more = Contains-append_left (claimed_by claimants t) (length claimants ∷ []) k has in
      let here : Contains (claimed_by (t ∷ claimants) t) k = subst (λ (ks : List ℕ). Contains ks k) (sym (claimed_here claimants t)) more in
      subst (λ (i : ℕ). Contains (claimed_by (i ∷ claimants) t) k) (sym same) here
  by_task (inr off) = subst (λ (ks : List ℕ). Contains ks k) (sym (claimed_other claimants o t off)) has

-- each granted number was claimed by one of the tasks
pub owner_of : (claimants : List ℕ) (k : ℕ) → k < length claimants → (i : ℕ) × (i < length claimants) × Contains (claimed_by claimants (get_or claimants i 0)) k
owner_of [] k below = absurd (omega (arith, below))
owner_of (o ∷ rest) k below = by_case (cases_lt k (length rest)) (λ low. owner_of rest k low) where
  by_case : (k < length rest) ⊎ (length rest ≤ k) → (k < length rest → (i : ℕ) × (i < length rest) × Contains (claimed_by rest (get_or rest i 0)) k)
      → (i : ℕ) × (i < length (o ∷ rest)) × Contains (claimed_by (o ∷ rest) (get_or (o ∷ rest) i 0)) k
  by_case (inl low) before =
      let h = before low in
      (suc h.0, (let z = h.1 in omega (arith, z)), claimed_stays rest o (get_or rest h.0 0) k h.2)
  by_case (inr most) before =
      let same : length rest ≡ k = omega (arith, below, most) in
      let last = Contains-append_right (claimed_by rest o) (length rest ∷ []) k (0, omega arith, same) in
      (0, omega arith, subst (λ (ks : List ℕ). Contains ks k) (sym (claimed_here rest o)) last)
