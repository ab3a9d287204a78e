-- Marks without the lowest one.
use Rattle.std.proofs.Common.{◌≡◌, ◌≢◌, ◌<◌, ◌≤◌, ◌-◌, ◌/◌, ◌%◌, ℕ, zero, suc, min, bit_and, sym, ap, ◌∙◌, arith, ◌⊎◌, inl, inr}
use Rattle.std.specs.Int.{bit_at}
use Rattle.std.proofs.lemmas.Bool.{cases_lt}
use Rattle.std.proofs.lemmas.Nat.Bits.{bit_at_lowest, bit_at-suc, bit_at_and}
use Rattle.nona_sparse.specs.Marks.{IsLowest}

-- half of the number before one, where that is even, and where it is odd
half_even : (n : ℕ) → n % 2 ≡ 0 → (n - 1) / 2 ≡ n / 2 - 1
half_even n even = omega (arith, even)

half_odd : (n : ℕ) → n % 2 ≡ 1 → (n - 1) / 2 ≡ n / 2
half_odd n odd = omega (arith, odd)

-- the lowest bit isn't set in the number before
before_at : (n p : ℕ) → bit_at n p ≡ 1 → ((q : ℕ) → q < p → bit_at n q ≡ 0) → bit_at (n - 1) p ≡ 0
before_at n zero set below = omega (arith, bit_at_lowest (n - 1), bit_at_lowest n, set)
before_at n (suc p) set below =
    bit_at-suc (n - 1) p ∙ ap (λ k. bit_at k p) (half_even n (sym (bit_at_lowest n) ∙ below 0 (omega arith)))
    ∙ before_at (n / 2) p (sym (bit_at-suc n p) ∙ set) (λ q less. sym (bit_at-suc n q) ∙ below (suc q) (omega (arith, less)))

-- and those above it are what they are in the number
before_above : (n p q : ℕ) → bit_at n p ≡ 1 → ((q : ℕ) → q < p → bit_at n q ≡ 0) → p < q → bit_at (n - 1) q ≡ bit_at n q
before_above n zero zero set below above = absurd (omega (arith, above))
before_above n zero (suc q) set below above =
    bit_at-suc (n - 1) q ∙ ap (λ k. bit_at k q) (half_odd n (sym (bit_at_lowest n) ∙ set)) ∙ sym (bit_at-suc n q)
before_above n (suc p) zero set below above = absurd (omega (arith, above))
before_above n (suc p) (suc q) set below above =
    bit_at-suc (n - 1) q ∙ ap (λ k. bit_at k q) (half_even n (sym (bit_at_lowest n) ∙ below 0 (omega arith)))
    ∙ before_above (n / 2) p q (sym (bit_at-suc n p) ∙ set) (λ r less. sym (bit_at-suc n r) ∙ below (suc r) (omega (arith, less))) (omega (arith, above))
    ∙ sym (bit_at-suc n q)

pub lowest_gone : (n p : ℕ) → IsLowest (bit_at n) p → bit_at (bit_and n (n - 1)) p ≡ 0
lowest_gone n p low =
    let gone = before_at n p low.0 low.1 in
    bit_at_and n (n - 1) p ∙ ap (min (bit_at n p)) gone ∙ omega arith

pub others_stay : (n p q : ℕ) → IsLowest (bit_at n) p → q ≢ p → bit_at (bit_and n (n - 1)) q ≡ bit_at n q
others_stay n p q low differs = bit_at_and n (n - 1) q ∙ by (cases_lt q p) where
  by : (q < p) ⊎ (p ≤ q) → min (bit_at n q) (bit_at (n - 1) q) ≡ bit_at n q
  by (inl less) = let none = low.1 q less in omega (arith, none)
  by (inr most) = let same = before_above n p q low.0 low.1 (omega (arith, most, differs)) in omega (arith, same)
