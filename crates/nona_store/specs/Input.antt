-- The numbers of an input file.
use Rattle.std.specs.Prelude.{ℕ, zero, suc, ℤ, List, [], ◌∷◌, ◌++◌, length, nat_lt, if◌then◌else◌, None, Some, Ok, Err}
use Rattle.std.specs.declared.option.Option.{Option}
use Rattle.std.specs.declared.result.Result.{Result}
use Rattle.nona_text.specs.Bytes.{is_blank}
use Rattle.nona_text.specs.Pieces.{Piece, pieces}
use Rattle.nona_text.specs.Digits.{signed_of}
use Rattle.nona_store.specs.declared.input.InputFault.{InputFault}
use Rattle.nona_store.specs.declared.input.InputFault.TheVariants.{Token, Count}
use Rattle.nona_store.specs.declared.input.TheConstants.{NUMBERS}

-- the most numbers of an input
abbrev pub number_bound : ℕ
number_bound = NUMBERS

-- a number before others, where those are numbers too
abbrev pub then_numbers : ℤ → Result (List ℤ) InputFault → Result (List ℤ) InputFault
then_numbers v (Ok later) = Ok (v ∷ later)
then_numbers v (Err fault) = Err fault

-- a number, or the fault of a piece that is none
abbrev pub or_token : Option ℤ → ℕ → Result (List ℤ) InputFault → Result (List ℤ) InputFault
or_token (Some v) at later = then_numbers v later
or_token None at later = Err (Token at)

-- the numbers that these pieces are, of which there may be so many: the first piece that is no number is the fault, unless
-- as many numbers as may be there stand before it
abbrev pub numbers_from : ℕ → List Piece → Result (List ℤ) InputFault
numbers_from room [] = Ok []
numbers_from zero (p ∷ ps) = Err Count
numbers_from (suc room) (p ∷ ps) = or_token (signed_of p.bytes) p.at (numbers_from room ps)

-- the numbers of an input's text
abbrev pub numbers_of : List ℕ → Result (List ℤ) InputFault
numbers_of text = numbers_from number_bound (pieces is_blank text)

-- these numbers and one more, or the fault of a token that is none
abbrev pub added : List ℤ → Option ℤ → ℕ → Result (List ℤ) InputFault
added front (Some v) at = Ok (front ++ v ∷ [])
added front None at = Err (Token at)

-- these numbers, and behind them that of a token at a place, where it is one and there may be one more
abbrev pub with_token : List ℤ → ℕ → List ℕ → Result (List ℤ) InputFault
with_token front at token = if nat_lt (length front) number_bound then added front (signed_of token) at else Err Count
