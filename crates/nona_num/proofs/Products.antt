-- Products of whole numbers.
use Rattle.std.proofs.Common.{◌≡◌, ℕ, suc, ap, ◌+◌, ◌*◌, ◌≤◌, ℤ, pos, negsuc, ◌*ℤ◌, ◌≤ℤ◌, arith}
use Rattle.std.proofs.Math.Nat.{mul-le-mul_right}
use Rattle.std.proofs.lemmas.Int.{ints, clamps}
use Rattle.std.specs.Int.{int_min, int_max}
use borrow.Author.Differences.{up, down, same_in, le_out, product_is}

-- products may be grouped in any way: each number is a difference of two naturals
pub product_assoc : (a b c : ℤ) → (a *ℤ b) *ℤ c ≡ a *ℤ (b *ℤ c)
product_assoc a b c =
    let scaled = λ (k : ℕ) (m n : ℕ) (e : m ≡ n). ap (λ x. x * k) e in
    let ab = product_is a b in
    let bc = product_is b c in
    let left = product_is (a *ℤ b) c in
    let right = product_is a (b *ℤ c) in
    let ups : up ((a *ℤ b) *ℤ c) ≡ up (a *ℤ (b *ℤ c)) =
    omega (arith, scaled (up c) _ _ ab.0, scaled (down c) _ _ ab.1, scaled (up a) _ _ bc.0, scaled (down a) _ _ bc.1) in
    let downs : down ((a *ℤ b) *ℤ c) ≡ down (a *ℤ (b *ℤ c)) =
    omega (arith, scaled (down c) _ _ ab.0, scaled (up c) _ _ ab.1, scaled (up a) _ _ bc.1, scaled (down a) _ _ bc.0) in
    same_in _ _ (omega arith)

-- a factor of 0 or more keeps the order
rises : (a b : ℤ) (n : ℕ) → a ≤ℤ b → (a *ℤ pos n) ≤ℤ (b *ℤ pos n)
rises a b n h =
    let scaled : (up a + down b) * n ≤ (up b + down a) * n = mul-le-mul_right n (le_out a b h) in
    omega (arith, ints)

-- a factor below 0 turns it round
falls : (a b : ℤ) (n : ℕ) → a ≤ℤ b → (b *ℤ negsuc n) ≤ℤ (a *ℤ negsuc n)
falls a b n h =
    let scaled : (up a + down b) * suc n ≤ (up b + down a) * suc n = mul-le-mul_right (suc n) (le_out a b h) in
    omega (arith, ints)

-- a product lies between those of the ends
pub product_between : (low high x c : ℤ) → low ≤ℤ x → x ≤ℤ high
    → (int_min (low *ℤ c) (high *ℤ c) ≤ℤ (x *ℤ c)) × ((x *ℤ c) ≤ℤ int_max (low *ℤ c) (high *ℤ c))
product_between low high x (pos n) above below =
    let from_low = rises low x n above in
    let to_high = rises x high n below in
    (omega (arith, ints, clamps), omega (arith, ints, clamps))
product_between low high x (negsuc n) above below =
    let from_low = falls low x n above in
    let to_high = falls x high n below in
    (omega (arith, ints, clamps), omega (arith, ints, clamps))
