-- The order of rates.
use Rattle.std.proofs.Common.{◌≡◌, ℕ, ◌*◌, ◌≤◌, Bool, true, false, refl, arith}
use Rattle.std.proofs.lemmas.Bool.{ltb-true, ltb-false, le-ltb, both_ways}
use Rattle.std.proofs.Math.Nat.{mul-le-mul_right, le_of_mul-le-mul_right}
use Rattle.decima.specs.Rates.{Rate, is_below}

-- three numbers of iterations, and three of ticks: what is no less than what is no less than a third is no less than it
products : (i j k s t u : ℕ) → 1 ≤ t → j * s ≤ i * t → k * t ≤ j * u → k * s ≤ i * u
products i j k s t u some first second =
    let first_times : (j * s) * u ≤ (i * t) * u = mul-le-mul_right u first in
    let second_times : (k * t) * s ≤ (j * u) * s = mul-le-mul_right s second in
    le_of_mul-le-mul_right {m = k * s} {n = i * u} {k = t} (omega arith) (omega arith)

-- no rate is below itself
pub not_below_itself : (a : Rate) → is_below a a ≡ false
not_below_itself a = le-ltb _ _ (omega arith)

-- of two rates one isn't below the other
pub not_below_back : (a b : Rate) → is_below a b ≡ true → is_below b a ≡ false
not_below_back a b below = le-ltb _ _ (omega (arith, ltb-true _ _ below))

-- A rate that isn't below another one isn't below any that the other isn't below. In no tick there is no rate: of the
-- rate between the two the ticks count.
pub not_below_through : (a b c : Rate) → 1 ≤ b.ticks → is_below a b ≡ false → is_below b c ≡ false → is_below a c ≡ false
not_below_through a b c some first second =
    le-ltb _ _ (products a.iterations b.iterations c.iterations a.ticks b.ticks c.ticks some (ltb-false _ _ first) (ltb-false _ _ second))

-- a rate below another one is below what isn't below that
pub below_through : (a b c : Rate) → 1 ≤ c.ticks → is_below a b ≡ true → is_below c b ≡ false → is_below a c ≡ true
below_through a b c some below second = by_test (is_below a c) refl where
  by_test : (t : Bool) → is_below a c ≡ t → t ≡ true
  by_test true is = refl
  by_test false is = absurd (both_ways (is_below a b) (not_below_through a c b some is second) below)

-- what isn't above a rate is below what that is below
pub through_below : (a b c : Rate) → 1 ≤ a.ticks → is_below b a ≡ false → is_below b c ≡ true → is_below a c ≡ true
through_below a b c some first below = by_test (is_below a c) refl where
  by_test : (t : Bool) → is_below a c ≡ t → t ≡ true
  by_test true is = refl
  by_test false is = absurd (both_ways (is_below b c) (not_below_through b a c some first is) below)
