-- The folds: what changes nothing, and what two numbers join to.
use Rattle.std.specs.Prelude.{ℤ, pos, negsuc}
use Rattle.std.specs.Int.{int_min, int_max}
use Rattle.nona_num.specs.Numbers.{add_of, mul_of, and_of, or_of, xor_of}
use Rattle.nona_num.specs.declared.folds.Fold.{Fold}
use Rattle.nona_num.specs.declared.folds.Fold.TheVariants.{Add, Mul, And, Or, Xor, Min, Max}

-- a fold's unit: 0, 1, all bits, no bits, no bits, the greatest number and the least
abbrev pub unit_of : Fold → ℤ
unit_of Add = pos 0
unit_of Mul = pos 1
unit_of And = negsuc 0
unit_of Or = pos 0
unit_of Xor = pos 0
unit_of Min = pos 9223372036854775807
unit_of Max = negsuc 9223372036854775807

-- what a fold makes of two numbers
abbrev pub join_of : Fold → ℤ → ℤ → ℤ
join_of Add a b = add_of a b
join_of Mul a b = mul_of a b
join_of And a b = and_of a b
join_of Or a b = or_of a b
join_of Xor a b = xor_of a b
join_of Min a b = int_min a b
join_of Max a b = int_max a b
