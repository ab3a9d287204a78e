-- Numbers in plain text.
use Rattle.std.specs.Prelude.{ℕ, ◌==◌, nat_le, Bool, false, ◌&&◌, if◌then◌else◌, ℤ, pos, neg_ℤ, List, [], ◌∷◌, length, None, Some}
use Rattle.std.specs.declared.option.Option.{Option}
use Rattle.std.specs.List.{list_all}
use Rattle.nona_text.specs.Bytes.{is_digit, number_of}
use Rattle.nona_text.specs.declared.digits.TheConstants.{DIGITS, GREATEST, FARTHEST}

-- whether bytes are digits alone, and one at least
abbrev pub are_digits : List ℕ → Bool
are_digits [] = false
are_digits (b ∷ bs) = list_all is_digit (b ∷ bs)

-- a number of as few digits as a script and an option may write, from low to high; leading zeros are digits too
abbrev pub number_within : ℕ → ℕ → List ℕ → Option ℕ
number_within low high bytes =
    if are_digits bytes && nat_le (length bytes) DIGITS && nat_le low (number_of bytes) && nat_le (number_of bytes) high
    then Some (number_of bytes) else None

-- an i64 that digits spell, or None where it is too large
abbrev pub positive_of : List ℕ → Option ℤ
positive_of digits =
    if are_digits digits && nat_le (number_of digits) GREATEST then Some (pos (number_of digits)) else None

-- an i64 that digits spell behind a minus, or None where it is too far below 0
abbrev pub negative_of : List ℕ → Option ℤ
negative_of digits =
    if are_digits digits && nat_le (number_of digits) FARTHEST then Some (neg_ℤ (pos (number_of digits))) else None

-- an i64: digits, with a minus before them or without
abbrev pub signed_of : List ℕ → Option ℤ
signed_of [] = None
signed_of (b ∷ bs) = if b == 45 then negative_of bs else positive_of (b ∷ bs)
