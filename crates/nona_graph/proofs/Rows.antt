-- Rows of sets of units.
use Rattle.std.proofs.Common.{◌≡◌, ◌≢◌, ℕ, zero, suc, ◌+◌, ◌-◌, ◌*◌, ◌%◌, ◌^◌, ◌≤◌, ◌<◌, ◌==◌, ◌&&◌, ◌||◌, max, Bool, true, false, List, [], ◌∷◌, length, map, refl, sym, ap, ◌∙◌, subst, arith, if◌then◌else◌, slice_index_or, get_or}
use Rattle.std.specs.Int.{bit_at}
use Rattle.std.specs.Int.Bits.{bit_or}
use Rattle.std.proofs.Math.Pow.{pow-lt}
use Rattle.std.proofs.lemmas.List.{get_or-map, length-map}
use Rattle.std.proofs.lemmas.Nat.Bits.{bit_at_or, bit_at-lt, bit_at-pow_same, bit_at-pow_other}
use Rattle.nona_graph.specs.declared.sets.UnitSet.{UnitSet}
use Rattle.nona_plans.specs.Walks.{IsUnit, leads_through}
use Rattle.nona_graph.specs.Sets.{has_unit, union_of, passed_row, row_at, has_at, ShowWalks}
use Rattle.nona_graph.proofs.Tests.{same_units}
use Rattle.nona_graph.proofs.Tests.{or_false}

max_is : (x y : ℕ) → x < 2 → y < 2 → (max x y == 1) ≡ ((x == 1) || (y == 1))
max_is zero zero h k = refl
max_is zero (suc zero) h k = refl
max_is (suc zero) zero h k = refl
max_is (suc zero) (suc zero) h k = refl
max_is (suc (suc x)) y h k = absurd (omega (arith, h))
max_is x (suc (suc y)) h k = absurd (omega (arith, k))

pub union_has : (s t : UnitSet) (u : ℕ) → has_unit (union_of s t) u ≡ (has_unit s u || has_unit t u)
union_has s t u =
    ap (λ x. x == 1) (bit_at_or s.bits t.bits (u - 1)) ∙ max_is (bit_at s.bits (u - 1)) (bit_at t.bits (u - 1)) (bit_at-lt s.bits (u - 1)) (bit_at-lt t.bits (u - 1))

power_at : (k i : ℕ) (same : Bool) → (k == i) ≡ same → (bit_at (2 ^ k) i == 1) ≡ same
power_at k i true e = ap (λ x. bit_at (2 ^ k) x == 1) (sym (same_units k i e)) ∙ ap (λ x. x == 1) (bit_at-pow_same k)
power_at k i false e = let other : i ≢ k = grind (arith, e) in ap (λ x. x == 1) (bit_at-pow_other k i other)

pub power_has : (k i : ℕ) → (bit_at (2 ^ k) i == 1) ≡ (k == i)
power_has k i = power_at k i (k == i) refl

passed_at : (s via : UnitSet) (k u : ℕ) (b : Bool) → has_unit s k ≡ b → has_unit (if b then union_of s via else s) u ≡ (has_unit s u || (b && has_unit via u))
passed_at s via k u true e = union_has s via u
passed_at s via k u false e = sym (or_false (has_unit s u))

pub passed_has : (s via : UnitSet) (k u : ℕ) → has_unit (passed_row k via s) u ≡ (has_unit s u || (has_unit s k && has_unit via u))
passed_has s via k u = passed_at s via k u (has_unit s k) refl

shifted_at : (a b : ℕ) (same : Bool) → (a == b) ≡ same → 1 ≤ a → 1 ≤ b → ((a - 1) == (b - 1)) ≡ same
shifted_at a b true e h k = let is : a ≡ b = same_units a b e in ap (λ x. (a - 1) == (x - 1)) (sym is) ∙ self (a - 1)
  where
    self : (x : ℕ) → (x == x) ≡ true
    self x = grind arith
shifted_at a b false e h k = let other : a - 1 ≢ b - 1 = grind (arith, e, h, k) in differs (a - 1) (b - 1) other
  where
    differs : (x y : ℕ) → x ≢ y → (x == y) ≡ false
    differs x y d = grind (arith, d)

small : (n : ℕ) → n < 18446744073709551616 → (1 * n) % 18446744073709551616 ≡ n
small n h = omega (arith, h)

pub only_has : (unit u : ℕ) → IsUnit 64 unit → IsUnit 64 u → (bit_at ((1 * 2 ^ (unit - 1)) % 18446744073709551616) (u - 1) == 1) ≡ (unit == u)
only_has unit u h k =
    let low : unit - 1 < 64 = omega (arith, h) in
    ap (λ x. bit_at x (u - 1) == 1) (small (2 ^ (unit - 1)) (pow-lt low)) ∙ power_has (unit - 1) (u - 1) ∙ shifted_at unit u (unit == u) refl h.0 k.0

-- the rows after one more unit
pub passed_walks : (edges : List (ℕ × ℕ)) (k : ℕ) (old : List UnitSet) (i j : ℕ) → suc k ≤ length old → ShowWalks edges k old → IsUnit (length old) i → IsUnit (length old) j
    → has_at (map (passed_row (suc k) (row_at old (suc k))) old) i j ≡ leads_through edges (suc k) i j
passed_walks edges k old i j there shows a b =
    let new : IsUnit (length old) (suc k) = ((omega arith), there) in
    let within : i - 1 < length old = omega (arith, a) in
    ap (λ s. has_unit s j) (get_or-map (passed_row (suc k) (row_at old (suc k))) old (i - 1) (record { bits = 0 }) (record { bits = 0 }) within)
    ∙ passed_has (row_at old i) (row_at old (suc k)) (suc k) j
    ∙ ap (λ x. x || (has_at old i (suc k) && has_at old (suc k) j)) (shows i j a b)
    ∙ ap (λ x. leads_through edges k i j || (x && has_at old (suc k) j)) (shows i (suc k) a new)
    ∙ ap (λ x. leads_through edges k i j || (leads_through edges k i (suc k) && x)) (shows (suc k) j new b)

pub walks_after : (edges : List (ℕ × ℕ)) (unit k : ℕ) (old new : List UnitSet) (via : UnitSet) → unit ≡ suc k → via ≡ row_at old unit → new ≡ map (passed_row unit via) old → unit ≤ length old → ShowWalks edges k old → ShowWalks edges unit new
walks_after edges unit k old new via is row all there shows i j a b =
    let long : length new ≡ length old = ap length all ∙ length-map old (passed_row unit via) in
    let made : new ≡ map (passed_row (suc k) (row_at old (suc k))) old = all ∙ ap (λ v. map (passed_row unit v) old) row ∙ ap (λ u. map (passed_row u (row_at old u)) old) is in
    ap (λ rows. has_at rows i j) made
    ∙ passed_walks edges k old i j (subst (λ u. u ≤ length old) is there) shows (subst (λ n. IsUnit n i) long a) (subst (λ n. IsUnit n j) long b)
    ∙ ap (λ u. leads_through edges u i j) (sym is)
