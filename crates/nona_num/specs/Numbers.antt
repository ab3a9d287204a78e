-- What the operators on numbers of 64 bits give: the whole number, reduced once.
use Rattle.std.specs.Prelude.{ℕ, ◌^◌, ℤ, pos, ◌+ℤ◌, ◌-ℤ◌, ◌*ℤ◌, neg_ℤ, unsigned_abs, int_div, int_rem}
use Rattle.std.specs.Int.{w64, int_wrap, int_bit_and, int_bit_or, int_bit_xor, int_div_euclid, int_rem_euclid}

-- the number from -2^63 to 2^63 - 1 that is congruent to z modulo 2^64
abbrev pub wrapped : ℤ → ℤ
wrapped z = int_wrap w64 z

-- the sum, wrapped
abbrev pub add_of : ℤ → ℤ → ℤ
add_of a b = wrapped (a +ℤ b)

-- a less b, wrapped
abbrev pub sub_of : ℤ → ℤ → ℤ
sub_of a b = wrapped (a -ℤ b)

-- the product, wrapped
abbrev pub mul_of : ℤ → ℤ → ℤ
mul_of a b = wrapped (a *ℤ b)

-- a with its sign turned, wrapped
abbrev pub neg_of : ℤ → ℤ
neg_of a = wrapped (neg_ℤ a)

-- how far a shift by b moves: b modulo 64, from 0 to 63
abbrev pub shift_of : ℤ → ℕ
shift_of b = unsigned_abs (int_rem_euclid b (pos 64))

-- a times two to the power of the shift, wrapped
abbrev pub shl_of : ℤ → ℤ → ℤ
shl_of a b = wrapped (a *ℤ pos (2 ^ shift_of b))

-- a divided by two to the power of the shift, rounded down
abbrev pub shr_of : ℤ → ℤ → ℤ
shr_of a b = int_div_euclid a (pos (2 ^ shift_of b))

-- the 64 bits that both numbers have
abbrev pub and_of : ℤ → ℤ → ℤ
and_of a b = int_bit_and w64 a b

-- the 64 bits that at least one number has
abbrev pub or_of : ℤ → ℤ → ℤ
or_of a b = int_bit_or w64 a b

-- the 64 bits that exactly one number has
abbrev pub xor_of : ℤ → ℤ → ℤ
xor_of a b = int_bit_xor w64 a b

-- the quotient, rounded toward zero and wrapped
abbrev pub div_of : ℤ → ℤ → ℤ
div_of a b = wrapped (int_div a b)

-- what the quotient rounded toward zero leaves over, with the sign of a
abbrev pub rem_of : ℤ → ℤ → ℤ
rem_of a b = int_rem a b
