-- What the arithmetic tests of the dependence test decide.
use Rattle.std.proofs.Common.{◌≡◌, ℕ, ◌≤◌, ◌<◌, ◌*◌, true, ℤ, pos, negsuc, ◌≤ℤ◌, arith}
use Rattle.std.proofs.lemmas.Int.{ints}
use Rattle.std.proofs.lemmas.Grind.{div_ceil_times}
use Rattle.std.proofs.Math.Nat.{mul-le-mul_left}
use Rattle.std.specs.Int.{div_ceil}
use Rattle.std.specs.Prelude.{int_le, max}
use Rattle.std.specs.declared.option.Option.{Option}
use Rattle.nona_tree.specs.Run.{count_of}
use Rattle.nona_forms.specs.Verdicts.{is_distance, has_multiple}
use Rattle.nona_forms.proofs.InBoxes.{both_true}

count_above : (low : ℤ) (n : ℕ) → count_of low ≤ n → low ≤ℤ pos n
count_above (pos m) n h = omega (arith, ints, h)
count_above (negsuc m) n h = omega (arith, ints)

le_of : (a b : ℤ) → int_le a b ≡ true → a ≤ℤ b
le_of a b e = omega (arith, ints)

enough : (low : ℤ) (a : ℕ) → 0 < a → count_of low ≤ a * max 1 (div_ceil (count_of low) a)
enough low a some =
    let t = div_ceil_times (count_of low) a some in
    let m : a * div_ceil (count_of low) a ≤ a * max 1 (div_ceil (count_of low) a) = mul-le-mul_left a (omega arith) in
    omega (arith, t.0, m)

-- where the test says so, there is such a distance
pub multiple_some : (fixed : Option (ℤ × ℤ)) (a : ℕ) (low high : ℤ) → 0 < a → has_multiple fixed a low high ≡ true
    → (d : ℕ) × (0 < d) × (low ≤ℤ pos (a * d)) × (pos (a * d) ≤ℤ high) × (is_distance fixed d ≡ true)
multiple_some fixed a low high some e =
    let d = max 1 (div_ceil (count_of low) a) in
    let both = both_true (int_le (pos (a * d)) high) (is_distance fixed d) e in
    (d, omega arith, count_above low (a * d) (enough low a some), le_of (pos (a * d)) high both.0, both.1)
