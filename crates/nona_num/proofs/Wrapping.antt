-- Why the machine's shifts and quotients are whole numbers, wrapped.
use Rattle.std.proofs.Common.{◌≡◌, ℕ, zero, suc, ◌-◌, ◌/◌, ◌%◌, ◌<◌, ◌^◌, ℤ, pos, negsuc, neg_ℤ, ◌*ℤ◌, FitsSigned, refl, sym, ap, ◌∙◌, arith}
use Rattle.std.proofs.Math.Nat.{mod-eq_of_lt, div-le_self}
use Rattle.std.proofs.Math.Pow.{pow-lt}
use Rattle.std.proofs.lemmas.Int.{to_z-of_z, wrapping_mul-bits, int_wrap-mul_right}
use Rattle.std.specs.Prelude.{unsigned_abs, int_div}
use Rattle.std.specs.Int.{w64, int_wrap, int_shl, cast_unsigned, cast_signed}
use Rattle.nona_num.specs.Numbers.{wrapped, shift_of, shl_of}

-- the bits of a number of 64 bits
pub bits_below : (z : ℤ) → FitsSigned w64 z → cast_unsigned w64 z < 2 ^ 64
bits_below (pos n) fits = omega (arith, fits.sfits)
bits_below (negsuc n) fits = omega arith

-- to write a number of at most 64 bits and a sign into 64 bits, and to read it again, is to wrap it
pub written_is_wrapped : (z : ℤ) → unsigned_abs z < 2 ^ 64 → cast_signed w64 (cast_unsigned w64 z) ≡ wrapped z
unfolding int_wrap
written_is_wrapped (pos n) below = ap (cast_signed w64) (sym (mod-eq_of_lt below))
written_is_wrapped (negsuc n) below =
    let less : n < 2 ^ 64 = omega arith in
    let same : 2 ^ 64 - suc n ≡ 2 ^ 64 - 1 - n = omega arith in
    ap (cast_signed w64) (same ∙ ap (λ k. 2 ^ 64 - 1 - k) (sym (mod-eq_of_lt less)))

-- a shift to the left is a product
shift_is_product : (a : ℤ) (k : ℕ) → FitsSigned w64 a → 2 ^ k < 2 ^ 64 → int_shl w64 a k ≡ wrapped (a *ℤ pos (2 ^ k))
shift_is_product a k fits below =
    wrapping_mul-bits w64 (cast_unsigned w64 a) (2 ^ k) (bits_below a fits) below
    ∙ ap (λ z. wrapped (z *ℤ cast_signed w64 (2 ^ k))) (to_z-of_z w64 a fits)
    ∙ ap (λ z. wrapped (a *ℤ z)) (written_is_wrapped (pos (2 ^ k)) below)
    ∙ int_wrap-mul_right w64 a (pos (2 ^ k))

-- the machine takes its count modulo 64 once more, which changes nothing
pub shifted_is : (a b : ℤ) (k : ℕ) → FitsSigned w64 a → k ≡ shift_of b → k < 64 → int_shl w64 a (k % 64) ≡ shl_of a b
shifted_is a b k fits count below =
    ap (int_shl w64 a) (mod-eq_of_lt below)
    ∙ shift_is_product a k fits (pow-lt below)
    ∙ ap (λ n. wrapped (a *ℤ pos (2 ^ n))) count

abs_of_negated : (n : ℕ) → unsigned_abs (neg_ℤ (pos n)) ≡ n
abs_of_negated zero = refl
abs_of_negated (suc n) = refl

-- a quotient is no larger than what was divided
pub quotient_below : (a b : ℤ) → FitsSigned w64 a → unsigned_abs (int_div a b) < 2 ^ 64
quotient_below (pos a) (pos b) fits = omega (arith, fits.sfits, div-le_self a b)
quotient_below (pos a) (negsuc b) fits = omega (arith, fits.sfits, div-le_self a (suc b), abs_of_negated (a / suc b))
quotient_below (negsuc a) (pos b) fits = omega (arith, fits.sfits, div-le_self (suc a) b, abs_of_negated (suc a / b))
quotient_below (negsuc a) (negsuc b) fits = omega (arith, fits.sfits, div-le_self (suc a) (suc b))
