-- Tokens of one byte and of two that are neither words nor numbers.
use Rattle.std.specs.Prelude.{ℕ, ◌==◌, None, Some, if◌then◌else◌}
use Rattle.std.specs.declared.option.Option.{Option}
use Rattle.nona_num.specs.declared.folds.Fold.TheVariants as folds
use Rattle.nona_lex.specs.declared.tokens.Operator.TheVariants as operator
use Rattle.nona_lex.specs.declared.tokens.Sign.TheVariants as sign
use Rattle.nona_lex.specs.declared.tokens.Token.{Token}
use Rattle.nona_lex.specs.declared.tokens.Token.TheVariants as token

-- the token that is this byte and then `=`
unfoldable pub with_equals : ℕ → Option Token
with_equals b =
    if b == 43 then Some (token.Fold folds.Add)
    else if b == 42 then Some (token.Fold folds.Mul)
    else if b == 38 then Some (token.Fold folds.And)
    else if b == 124 then Some (token.Fold folds.Or)
    else if b == 94 then Some (token.Fold folds.Xor)
    else if b == 61 then Some (token.Operator operator.Eq)
    else if b == 33 then Some (token.Operator operator.Ne)
    else if b == 60 then Some (token.Operator operator.Le)
    else if b == 62 then Some (token.Operator operator.Ge)
    else None

-- the token that is this byte twice, but for `==`
unfoldable pub doubled : ℕ → Option Token
doubled b =
    if b == 60 then Some (token.Operator operator.Shl)
    else if b == 62 then Some (token.Operator operator.Shr)
    else if b == 46 then Some (token.Sign sign.Range)
    else None

-- the token of two bytes
unfoldable pub token_of_two : ℕ → ℕ → Option Token
token_of_two b c = if c == 61 then with_equals b else if b == c then doubled b else None

-- the operator of one byte
unfoldable pub operator_of_one : ℕ → Option Token
operator_of_one b =
    if b == 43 then Some (token.Operator operator.Add)
    else if b == 45 then Some (token.Operator operator.Sub)
    else if b == 42 then Some (token.Operator operator.Mul)
    else if b == 47 then Some (token.Operator operator.Div)
    else if b == 37 then Some (token.Operator operator.Rem)
    else if b == 38 then Some (token.Operator operator.And)
    else if b == 124 then Some (token.Operator operator.Or)
    else if b == 94 then Some (token.Operator operator.Xor)
    else if b == 60 then Some (token.Operator operator.Lt)
    else if b == 62 then Some (token.Operator operator.Gt)
    else if b == 33 then Some (token.Operator operator.Not)
    else None

-- the sign of one byte
unfoldable pub sign_of_one : ℕ → Option Token
sign_of_one b =
    if b == 61 then Some (token.Sign sign.Set)
    else if b == 59 then Some (token.Sign sign.Semicolon)
    else if b == 44 then Some (token.Sign sign.Comma)
    else if b == 40 then Some (token.Sign sign.Open)
    else if b == 41 then Some (token.Sign sign.Close)
    else if b == 91 then Some (token.Sign sign.OpenIndex)
    else if b == 93 then Some (token.Sign sign.CloseIndex)
    else if b == 123 then Some (token.Sign sign.OpenBlock)
    else if b == 125 then Some (token.Sign sign.CloseBlock)
    else None

-- the first of two that is there
abbrev pub first_of_two : Option Token → Option Token → Option Token
first_of_two (Some t) other = Some t
first_of_two None other = other

-- the token of one byte
abbrev pub token_of_one : ℕ → Option Token
token_of_one b = first_of_two (operator_of_one b) (sign_of_one b)
