-- Why what the operators give is the one number of 64 bits that it has to be.
use Rattle.std.proofs.Common.{◌≡◌, ℕ, suc, ◌-◌, ◌%◌, ◌<◌, ◌^◌, ℤ, pos, negsuc, FitsSigned, Bool, true, false, ap, arith}
use Rattle.std.proofs.Math.Nat.{div-le_self}
use Rattle.std.proofs.lemmas.Int.{ints}
use Rattle.std.specs.Prelude.{bit_and, bit_or, bit_xor}
use Rattle.std.specs.Int.{w64, int_wrap, int_rem_euclid, cast_unsigned, cast_signed}
use Rattle.std.specs.Int.Signed.{mag_rem}
use lib.Dec.{ltb}
use mir.Val.{sel}
use Rattle.nona_num.specs.Numbers.{wrapped, shift_of, and_of, or_of, xor_of, shr_of, rem_of}

-- n, or n less 2^64
either_is_congruent : (low_half : Bool) (n : ℕ) → n < 2 ^ 64 → int_rem_euclid (sel low_half (pos n) (negsuc (2 ^ 64 - suc n))) (pos (2 ^ 64)) ≡ pos n
either_is_congruent true n below = ap pos (omega arith)
either_is_congruent false n below = ap pos (omega arith)

-- what 64 bits are read as is the same modulo 2^64
read_is_congruent : (n : ℕ) → n < 2 ^ 64 → int_rem_euclid (cast_signed w64 n) (pos (2 ^ 64)) ≡ pos n
read_is_congruent n below = either_is_congruent (ltb n (2 ^ 63)) n below

pub wrapped_is_congruent : (z : ℤ) → int_rem_euclid (wrapped z) (pos (2 ^ 64)) ≡ int_rem_euclid z (pos (2 ^ 64))
unfolding int_wrap
wrapped_is_congruent (pos n) = read_is_congruent (n % 2 ^ 64) (omega arith)
wrapped_is_congruent (negsuc n) = read_is_congruent (2 ^ 64 - 1 - n % 2 ^ 64) (omega arith)

-- whatever the 64 bits are, they are read as a number of 64 bits
read_fits : (n : ℕ) → FitsSigned w64 (cast_signed w64 n)
read_fits n = omega (arith, ints)

pub and_fits : (a b : ℤ) → FitsSigned w64 (and_of a b)
and_fits a b = read_fits (bit_and (cast_unsigned w64 a) (cast_unsigned w64 b))

pub or_fits : (a b : ℤ) → FitsSigned w64 (or_of a b)
or_fits a b = read_fits (bit_or (cast_unsigned w64 a) (cast_unsigned w64 b))

pub xor_fits : (a b : ℤ) → FitsSigned w64 (xor_of a b)
xor_fits a b = read_fits (bit_xor (cast_unsigned w64 a) (cast_unsigned w64 b))

pub shr_fits : (a b : ℤ) → FitsSigned w64 a → FitsSigned w64 (shr_of a b)
shr_fits (pos n) b fits = record { sfits = omega (arith, fits.sfits, div-le_self n (2 ^ shift_of b)) }
shr_fits (negsuc n) b fits = record { sfits = omega (arith, fits.sfits, div-le_self n (2 ^ shift_of b)) }

pub rem_fits : (a b : ℤ) → FitsSigned w64 a → FitsSigned w64 (rem_of a b)
rem_fits a b fits = record { sfits = omega (arith, fits.sfits, mag_rem a b) }
