-- Why the folds may be computed in parts.
use Rattle.std.proofs.Common.{◌≡◌, ℕ, ◌-◌, ◌<◌, ◌^◌, ℤ, pos, negsuc, ◌+ℤ◌, ◌*ℤ◌, FitsSigned, sym, ap, ◌∙◌, arith}
use Rattle.std.proofs.Math.IntN.{+ℤ_assoc, +ℤ_comm, *ℤ_comm, +ℤ_idl}
use Rattle.std.proofs.Math.Nat.{mod-eq_of_lt}
use Rattle.std.proofs.lemmas.Int.{to_z-of_z, of_z-to_z, ints, clamps, int_wrap_fits, SFits-int_wrap, int_wrap-add_left, int_wrap-add_right, int_wrap-mul_left, int_wrap-mul_right}
use Rattle.std.proofs.lemmas.Nat.{and_assoc, and_comm, or_comm, xor_comm, or_lt, xor_lt}
use Rattle.std.proofs.lemmas.Nat.Bits.{same_from_bits, bit_at_or}
use Rattle.std.specs.Prelude.{bit_and, bit_or, bit_xor}
use Rattle.std.specs.Int.{w64, cast_unsigned, cast_signed, int_min, int_max}
use Rattle.std.specs.Int.Bits.{and_lt, xor_assoc, and_mask}
use Rattle.nona_num.specs.declared.folds.Fold.{Fold}
use Rattle.nona_num.specs.declared.folds.Fold.TheVariants.{Add, Mul, And, Or, Xor, Min, Max}
use Rattle.nona_num.specs.Numbers.{wrapped}
use Rattle.nona_num.specs.Folds.{join_of, unit_of}
use Rattle.nona_num.proofs.Wrapping.{bits_below}
use Rattle.nona_num.proofs.NumberLaws.{and_fits, or_fits, xor_fits}
use Rattle.nona_num.proofs.Products.{product_assoc}

or_assoc : (l m n : ℕ) → bit_or (bit_or l m) n ≡ bit_or l (bit_or m n)
or_assoc l m n =
    same_from_bits _ _ (λ i. omega (arith, bit_at_or (bit_or l m) n i, bit_at_or l m i, bit_at_or l (bit_or m n) i, bit_at_or m n i))

-- an operation on bits that keeps to 64 of them is associative on the numbers where it is so on the bits
on_bits_assoc : (f : ℕ → ℕ → ℕ)
    → ((m n : ℕ) → m < 2 ^ 64 → n < 2 ^ 64 → f m n < 2 ^ 64)
    → ((l m n : ℕ) → f (f l m) n ≡ f l (f m n))
    → (a b c : ℤ) → FitsSigned w64 a → FitsSigned w64 b → FitsSigned w64 c
    → cast_signed w64 (f (cast_unsigned w64 (cast_signed w64 (f (cast_unsigned w64 a) (cast_unsigned w64 b)))) (cast_unsigned w64 c))
    ≡ cast_signed w64 (f (cast_unsigned w64 a) (cast_unsigned w64 (cast_signed w64 (f (cast_unsigned w64 b) (cast_unsigned w64 c)))))
on_bits_assoc f keeps assoc a b c fits_a fits_b fits_c =
    let x = cast_unsigned w64 a in
    let y = cast_unsigned w64 b in
    let z = cast_unsigned w64 c in
    ap (λ n. cast_signed w64 (f n z)) (of_z-to_z w64 _ (keeps x y (bits_below a fits_a) (bits_below b fits_b)))
    ∙ ap (cast_signed w64) (assoc x y z)
    ∙ ap (λ n. cast_signed w64 (f x n)) (sym (of_z-to_z w64 _ (keeps y z (bits_below b fits_b) (bits_below c fits_c))))

pub join_assoc : (f : Fold) (a b c : ℤ) → FitsSigned w64 a → FitsSigned w64 b → FitsSigned w64 c → join_of f (join_of f a b) c ≡ join_of f a (join_of f b c)
join_assoc Add a b c p q r = int_wrap-add_left w64 (a +ℤ b) c ∙ ap wrapped (+ℤ_assoc a b c) ∙ sym (int_wrap-add_right w64 a (b +ℤ c))
join_assoc Mul a b c p q r = int_wrap-mul_left w64 (a *ℤ b) c ∙ ap wrapped (product_assoc a b c) ∙ sym (int_wrap-mul_right w64 a (b *ℤ c))
join_assoc And a b c p q r = on_bits_assoc bit_and (and_lt 64) (λ l m n. and_assoc n l m) a b c p q r
join_assoc Or a b c p q r = on_bits_assoc bit_or (or_lt 64) or_assoc a b c p q r
join_assoc Xor a b c p q r = on_bits_assoc bit_xor (xor_lt 64) xor_assoc a b c p q r
join_assoc Min a b c p q r = omega (arith, ints, clamps)
join_assoc Max a b c p q r = omega (arith, ints, clamps)

pub join_comm : (f : Fold) (a b : ℤ) → join_of f a b ≡ join_of f b a
join_comm Add a b = ap wrapped (+ℤ_comm a b)
join_comm Mul a b = ap wrapped (*ℤ_comm a b)
join_comm And a b = ap (cast_signed w64) (and_comm (cast_unsigned w64 a) (cast_unsigned w64 b))
join_comm Or a b = ap (cast_signed w64) (or_comm (cast_unsigned w64 a) (cast_unsigned w64 b))
join_comm Xor a b = ap (cast_signed w64) (xor_comm (cast_unsigned w64 a) (cast_unsigned w64 b))
join_comm Min a b = omega (arith, ints, clamps)
join_comm Max a b = omega (arith, ints, clamps)

least_of_all : (a : ℤ) → FitsSigned w64 a → int_min (pos 9223372036854775807) a ≡ a
least_of_all a fits = omega (arith, ints, clamps)

greatest_of_all : (a : ℤ) → FitsSigned w64 a → int_max (negsuc 9223372036854775807) a ≡ a
greatest_of_all a fits = omega (arith, ints, clamps)

once : (a : ℤ) → pos 1 *ℤ a ≡ a
once a = omega (arith, ints)

-- all 64 bits
all_bits : (n : ℕ) → n < 2 ^ 64 → bit_and (2 ^ 64 - 1) n ≡ n
all_bits n below = and_comm (2 ^ 64 - 1) n ∙ and_mask n 64 ∙ mod-eq_of_lt below

pub join_unit : (f : Fold) (a : ℤ) → FitsSigned w64 a → join_of f (unit_of f) a ≡ a
join_unit Add a fits = ap wrapped (+ℤ_idl a) ∙ int_wrap_fits w64 a fits
join_unit Mul a fits = ap wrapped (once a) ∙ int_wrap_fits w64 a fits
join_unit And a fits = ap (cast_signed w64) (all_bits (cast_unsigned w64 a) (bits_below a fits)) ∙ to_z-of_z w64 a fits
join_unit Or a fits = to_z-of_z w64 a fits
join_unit Xor a fits = to_z-of_z w64 a fits
join_unit Min a fits = least_of_all a fits
join_unit Max a fits = greatest_of_all a fits

min_fits : (a b : ℤ) → FitsSigned w64 a → FitsSigned w64 b → FitsSigned w64 (int_min a b)
min_fits a b p q = omega (arith, ints, clamps)

max_fits : (a b : ℤ) → FitsSigned w64 a → FitsSigned w64 b → FitsSigned w64 (int_max a b)
max_fits a b p q = omega (arith, ints, clamps)

pub join_fits : (f : Fold) (a b : ℤ) → FitsSigned w64 a → FitsSigned w64 b → FitsSigned w64 (join_of f a b)
join_fits Add a b p q = SFits-int_wrap w64 (a +ℤ b)
join_fits Mul a b p q = SFits-int_wrap w64 (a *ℤ b)
join_fits And a b p q = and_fits a b
join_fits Or a b p q = or_fits a b
join_fits Xor a b p q = xor_fits a b
join_fits Min a b p q = min_fits a b p q
join_fits Max a b p q = max_fits a b p q
