-- The value of digits.
use Rattle.std.proofs.Common.{◌≡◌, ℕ, zero, suc, ◌+◌, ◌-◌, ◌*◌, ◌^◌, ◌<◌, ◌≤◌, true, List, [], ◌∷◌, length, fold, nat_le, refl, arith, ◌&&◌, Bool, Some}
use Rattle.std.specs.List.{list_all}
use Rattle.std.proofs.Math.Nat.{pow-succ', one-le-pow, mul-le-mul_left, mul-le-mul_right}
use Rattle.std.proofs.lemmas.Bool.{and_parts, leb-true}
use Rattle.std.proofs.lemmas.Option.{cond_some}
use Rattle.nona_text.specs.Bytes.{is_digit, number_of}
use Rattle.nona_text.specs.declared.digits.TheConstants.{DIGITS}
use Rattle.nona_text.specs.Digits.{are_digits, number_within}

-- bytes that aren't empty are digits where each is one
pub each_digit : (bs : List ℕ) → 1 ≤ length bs → list_all is_digit bs ≡ are_digits bs
each_digit [] some = absurd (omega arith)
each_digit (b ∷ bs) some = refl

-- a bound on a number, and on the number with one digit more
wider : (x m n p : ℕ) → m + 1 ≤ (n + 1) * 10 → x < (m + 1) * p → x < (n + 1) * (10 * p)
wider x m n p w h = omega (arith, mul-le-mul_right p w)

-- what up to k digits more make of a number
few_more : (k n : ℕ) (ds : List ℕ) → list_all is_digit ds ≡ true → length ds ≤ k → fold (λ m d. m * 10 + (d - 48)) n ds < (n + 1) * 10 ^ k
few_more k n [] all few = omega (arith, mul-le-mul_left (n + 1) (one-le-pow k 10 (omega arith)))
few_more zero n (d ∷ ds) all few = absurd (omega arith)
few_more (suc k) n (d ∷ ds) all few =
    let both = and_parts (is_digit d) (list_all is_digit ds) all in
    let most : d ≤ 57 = leb-true d 57 (and_parts (nat_le 48 d) (nat_le d 57) both.0).1 in
    rw (pow-succ' 10 k)
    (wider (fold (λ m b. m * 10 + (b - 48)) (n * 10 + (d - 48)) ds) (n * 10 + (d - 48)) n (10 ^ k) (omega arith)
    (few_more k (n * 10 + (d - 48)) ds both.1 (omega arith)))

-- up to 13 digits are a number of 64 bits
pub few_digits : (bs : List ℕ) → are_digits bs ≡ true → length bs ≤ 13 → number_of bs < 2 ^ 64 - 1
few_digits [] all few = omega arith
few_digits (b ∷ bs) all few = omega (arith, few_more 13 0 (b ∷ bs) all few)

-- a number that bytes are in a range is in the range
pub within : (low high : ℕ) (bytes : List ℕ) (n : ℕ) → number_within low high bytes ≡ Some n → (low ≤ n) × (n ≤ high)
within low high bytes n e =
    let few : Bool = are_digits bytes && nat_le (length bytes) DIGITS in
    let some = cond_some (few && nat_le low (number_of bytes) && nat_le (number_of bytes) high) (number_of bytes) n e in
    let most = and_parts (few && nat_le low (number_of bytes)) (nat_le (number_of bytes) high) some.0 in
    let least = and_parts few (nat_le low (number_of bytes)) most.0 in
    (omega (arith, some.1, leb-true low (number_of bytes) least.1), omega (arith, some.1, leb-true (number_of bytes) high most.1))
