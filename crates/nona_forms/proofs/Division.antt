-- A number that divides all coefficients divides what the terms add up to.
use Rattle.std.proofs.Common.{◌≡◌, ℕ, zero, suc, ◌≤◌, ◌*◌, ◌/◌, ◌%◌, ◌==◌, Bool, true, false, ℤ, pos, negsuc, ◌+ℤ◌, ◌*ℤ◌, neg_ℤ, List, [], ◌∷◌, refl, sym, ap, ◌∙◌, arith, if◌then◌else◌}
use Rattle.std.proofs.Math.IntN.{*ℤ_comm, zero-*ℤ, *ℤ-zero}
use Rattle.std.proofs.Math.Nat.{eq-zero_of_zero-dvd, mul-mod_left}
use Rattle.std.proofs.lemmas.Int.{unsigned_abs-mul}
use Rattle.std.proofs.lemmas.Nat.Gcd.{dvd_trans, dvd_refl, mod-eq-zero_of_dvd, IsGcd-from_zero, IsGcd-from_mod}
use Rattle.std.specs.Int.{◌∣◌, IsGcd}
use Rattle.std.specs.Prelude.{unsigned_abs}
use Rattle.std.specs.List.{AllByRecursion}
use Rattle.nona_num.proofs.Products.{product_assoc}
use Rattle.nona_tree.specs.Value.{is_zero}
use Rattle.nona_forms.specs.declared.terms.Term.{Term}
use Rattle.nona_forms.specs.Affine.{terms_at}
use Rattle.nona_forms.specs.Verdicts.{gcd_within, gcd_of, gcd_terms, divides}
use Rattle.nona_forms.proofs.Sums.{sum_times, minus_is}

-- z is a multiple of g
abbrev pub Divides : ℕ → ℤ → Type 0
Divides g z = (q : ℤ) × (z ≡ q *ℤ pos g)

pub divides_sum : (g : ℕ) (a b : ℤ) → Divides g a → Divides g b → Divides g (a +ℤ b)
divides_sum g a b h k = (h.0 +ℤ k.0, ap (λ x. x +ℤ b) h.1 ∙ ap (λ x. (h.0 *ℤ pos g) +ℤ x) k.1 ∙ sym (sum_times h.0 k.0 (pos g)))

pub divides_times : (g : ℕ) (a k : ℤ) → Divides g a → Divides g (a *ℤ k)
divides_times g a k h =
    (h.0 *ℤ k, ap (λ x. x *ℤ k) h.1 ∙ product_assoc h.0 (pos g) k ∙ ap (λ x. h.0 *ℤ x) (*ℤ_comm (pos g) k) ∙ sym (product_assoc h.0 k (pos g)))

minus_out : (q : ℤ) (g : ℕ) → neg_ℤ (q *ℤ pos g) ≡ neg_ℤ q *ℤ pos g
minus_out q g = minus_is (q *ℤ pos g) ∙ sym (product_assoc (negsuc 0) q (pos g)) ∙ ap (λ x. x *ℤ pos g) (sym (minus_is q))

pub divides_minus : (g : ℕ) (a : ℤ) → Divides g a → Divides g (neg_ℤ a)
divides_minus g a h = (neg_ℤ h.0, ap neg_ℤ h.1 ∙ minus_out h.0 g)

from_abs : (z : ℤ) (g q : ℕ) → unsigned_abs z ≡ q * g → Divides g z
from_abs (pos n) g q h = (pos q, ap pos h)
from_abs (negsuc n) g q h = (neg_ℤ (pos q), ap (λ k. neg_ℤ (pos k)) h ∙ minus_out (pos q) g)

multiple : (g n : ℕ) → g ∣ n → n ≡ (n / g) * g
multiple zero n h = let none : n ≡ 0 = eq-zero_of_zero-dvd h in omega (arith, none)
multiple (suc g) n h = let r : n % suc g ≡ 0 = mod-eq-zero_of_dvd (suc g) h in omega (arith, r)

pub divides_from : (z : ℤ) (g : ℕ) → g ∣ unsigned_abs z → Divides g z
divides_from z g h = from_abs z g (unsigned_abs z / g) (multiple g (unsigned_abs z) h)

-- Euclid's algorithm finds the greatest common divisor
gcd_step : (k a b : ℕ) (none : Bool) → (b == 0) ≡ none → ((b == 0) ≡ false → IsGcd b (a % b) (gcd_within k b (a % b)))
    → IsGcd a b (if none then a else gcd_within k b (a % b))
gcd_step k a b true e h = IsGcd-from_zero a b (grind arith)
gcd_step k a b false e h = IsGcd-from_mod a b (gcd_within k b (a % b)) (h e)

left_over : (k a b : ℕ) → b ≤ suc k → (b == 0) ≡ false → a % b ≤ k
left_over k a b h e = grind arith

gcd_is : (k a b : ℕ) → b ≤ k → IsGcd a b (gcd_within k a b)
gcd_is zero a b h = IsGcd-from_zero a b (omega (arith, h))
gcd_is (suc k) a b h = gcd_step k a b (b == 0) refl (λ e. gcd_is k b (a % b) (left_over k a b h e))

pub gcd_divides : (a b : ℕ) → IsGcd a b (gcd_of a b)
gcd_divides a b = gcd_is b a b (omega arith)

-- the divisor of all coefficients divides each
pub all_divided : (g : ℕ) (ts : List Term) → (gcd_terms g ts ∣ g) × AllByRecursion (λ t. gcd_terms g ts ∣ unsigned_abs t.coefficient) ts
all_divided g [] = (dvd_refl g, tt)
all_divided g (t ∷ ts) =
    let rest = all_divided (gcd_of g (unsigned_abs t.coefficient)) ts in
    let both = gcd_divides g (unsigned_abs t.coefficient) in
    let all = gcd_terms (gcd_of g (unsigned_abs t.coefficient)) ts in
    (dvd_trans all rest.0 both.0, (dvd_trans all rest.0 both.1, rest.1))

-- what divides each coefficient divides the sum
pub terms_divided : (g : ℕ) (s : ℕ → ℤ) (ts : List Term) → AllByRecursion (λ t. g ∣ unsigned_abs t.coefficient) ts → Divides g (terms_at s ts)
terms_divided g s [] h = (pos 0, sym (zero-*ℤ (pos g)))
terms_divided g s (t ∷ ts) h =
    divides_sum g (t.coefficient *ℤ s t.id) (terms_at s ts) (divides_times g t.coefficient (s t.id) (divides_from t.coefficient g h.0)) (terms_divided g s ts h.1)

-- the test finds what is so
no_rest : (q : ℤ) (g : ℕ) → (unsigned_abs (q *ℤ pos g) % g) ≡ 0
no_rest q g = ap (λ n. n % g) (unsigned_abs-mul q (pos g)) ∙ mul-mod_left (unsigned_abs q) g

is_none : (g : ℕ) → (g == 0) ≡ true → g ≡ 0
is_none g e = grind arith

none_left : (n : ℕ) → n ≡ 0 → (n == 0) ≡ true
none_left n e = grind arith

zero_found : (z : ℤ) → z ≡ pos 0 → is_zero z ≡ true
zero_found z e = ap is_zero e

test_divides : (g : ℕ) (z : ℤ) (none : Bool) → (g == 0) ≡ none → Divides g z → (if none then is_zero z else (unsigned_abs z % g) == 0) ≡ true
test_divides g z true e h = zero_found z (h.1 ∙ ap (λ n. h.0 *ℤ pos n) (is_none g e) ∙ *ℤ-zero h.0)
test_divides g z false e h = none_left (unsigned_abs z % g) (ap (λ x. unsigned_abs x % g) h.1 ∙ no_rest h.0 g)

pub divides_found : (g : ℕ) (z : ℤ) → Divides g z → divides g z ≡ true
divides_found g z h = test_divides g z (g == 0) refl h
