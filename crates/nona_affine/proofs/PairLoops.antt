-- Loops of the dependence test.
use Rattle.std.proofs.Common.{◌≡◌, ℕ, suc, ◌+◌, ◌^◌, ◌<◌, ◌≤◌, ◌==◌, IsTrue, Bool, true, false, ℤ, ◌+ℤ◌, List, ◌∷◌, length, drop, refl, sym, ap, ◌∙◌, arith, if◌then◌else◌, nat_lt}
use Rattle.std.proofs.Math.Seq.{drop-cons}
use Rattle.std.proofs.Math.IntN.{+ℤ_assoc}
use Rattle.std.proofs.lemmas.Nat.Gcd.{same_from_IsGcd}
use Rattle.std.specs.Int.{IsGcd}
use Rattle.std.specs.Prelude.{unsigned_abs, slice_index_or}
use Rattle.nona_forms.specs.declared.terms.Term.{Term}
use Rattle.nona_forms.specs.Affine.{is_coefficient}
use Rattle.nona_forms.specs.Verdicts.{inner_terms, gcd_of, gcd_terms, coefficient_of}
use Rattle.nona_affine.proofs.SmallRanges.{sum_small, coefficient_small}

pub gcd_same : (a b g : ℕ) → IsGcd a b (gcd_of a b) → IsGcd a b g → g ≡ gcd_of a b
gcd_same a b g law h = same_from_IsGcd a b g (gcd_of a b) h law

pub drop_at : (ts : List Term) (i : ℕ) (d : Term) → i < length ts → drop i ts ≡ slice_index_or ts i d ∷ drop (i + 1) ts
drop_at ts i d h = let next : suc i ≡ i + 1 = omega arith in drop-cons ts i d h ∙ ap (λ k. slice_index_or ts i d ∷ drop k ts) next

gcd_if : (g : ℕ) (t : Term) (ts : List Term) (b : Bool) → gcd_terms g (if b then t ∷ ts else ts) ≡ gcd_terms (if b then gcd_of g (unsigned_abs t.coefficient) else g) ts
gcd_if g t ts true = refl
gcd_if g t ts false = refl

pub gcd_next : (g index : ℕ) (ts : List Term) (i : ℕ) (d : Term) → i < length ts
    → gcd_terms g (inner_terms index (drop i ts)) ≡ gcd_terms (if nat_lt index (slice_index_or ts i d).id then gcd_of g (unsigned_abs (slice_index_or ts i d).coefficient) else g) (inner_terms index (drop (i + 1) ts))
gcd_next g index ts i d within =
    ap (λ xs. gcd_terms g (inner_terms index xs)) (drop_at ts i d within) ∙ gcd_if g (slice_index_or ts i d) (inner_terms index (drop (i + 1) ts)) (nat_lt index (slice_index_or ts i d).id)

coefficient_if : (z s c : ℤ) (b : Bool) → z +ℤ (if b then c +ℤ s else s) ≡ (if b then z +ℤ c else z) +ℤ s
coefficient_if z s c true = sym (+ℤ_assoc z c s)
coefficient_if z s c false = refl

pub coefficient_next : (z : ℤ) (id : ℕ) (ts : List Term) (i : ℕ) (d : Term) → i < length ts
    → z +ℤ coefficient_of id (drop i ts) ≡ (if (slice_index_or ts i d).id == id then z +ℤ (slice_index_or ts i d).coefficient else z) +ℤ coefficient_of id (drop (i + 1) ts)
coefficient_next z id ts i d within =
    ap (λ xs. z +ℤ coefficient_of id xs) (drop_at ts i d within) ∙ coefficient_if z (coefficient_of id (drop (i + 1) ts)) (slice_index_or ts i d).coefficient ((slice_index_or ts i d).id == id)

pub small_more : (z c : ℤ) (n : ℕ) → IsTrue (is_coefficient c) → unsigned_abs z ≤ n → unsigned_abs (z +ℤ c) ≤ n + 2 ^ 31
small_more z c n h g = sum_small z c n (2 ^ 31) g (coefficient_small c h)
