-- The numbers among the tokens of a text have 64 bits.
use Rattle.std.proofs.Common.{◌≡◌, ℕ, zero, suc, ◌+◌, ◌-◌, true, nat_lt, pos, List, [], ◌∷◌, length, take, refl, sym, subst, ◌∙◌, arith, None, Some}
use Rattle.std.specs.declared.option.Option.{Option}
use Rattle.std.specs.List.{list_all, take_while}
use Rattle.std.proofs.lemmas.Bool.{ltb-false}
use Rattle.nona_text.specs.Bytes.{is_digit, number_of}
use Rattle.nona_text.specs.declared.digits.TheConstants.{GREATEST}
use Rattle.nona_lex.specs.declared.lexemes.Lexeme.{Lexeme}
use Rattle.nona_lex.specs.declared.lexemes.Lexeme.TheVariants.{Gap, Found, Refused}
use Rattle.nona_lex.specs.declared.tokens.Token.{Token}
use Rattle.nona_lex.specs.declared.tokens.Token.TheVariants as token
use Rattle.nona_lex.specs.declared.tokens.Fault.TheVariants as fault
use Rattle.nona_lex.specs.declared.tokens.Cut.{Cut}
use Rattle.nona_lex.specs.declared.tokens.Spot.{Spot}
use Rattle.nona_lex.specs.declared.tokens.Tokens.{Tokens}
use Rattle.nona_lex.specs.Lexis.{lexeme_of, number_lexeme, goes_on, lexed_from, lexed}
use Rattle.nona_lex.specs.Bounds.{Counts, no_counts, behind_token, admitted, bounded_from, tokens_of}
use Rattle.nona_lex.specs.Spelling.{is_number}
use Rattle.nona_lex.specs.Laws.{IsSpelled, IsI64Token, AreI64Tokens}
use Rattle.nona_lex.proofs.Choices.{either, first_test, at_digit}
use Rattle.nona_lex.proofs.Spelled.{front_is_spelled}

-- a lexeme whose number, if it is one, has 64 bits
abbrev pub Fits : Lexeme → Type 0
Fits (Found t len) = IsI64Token t
Fits (Gap len) = Unit {0}
Fits (Refused f) = Unit {0}

-- the numbers that digits are taken for have 64 bits
number_fits : (digits : List ℕ) → Fits (number_lexeme digits)
number_fits digits =
    let t : Token = token.Number (pos (number_of digits)) in
    either Fits (nat_lt GREATEST (number_of digits)) (Refused fault.Number) (Found t (length digits)) (λ _. tt)
    (λ e. record { sfits = omega (arith, ltb-false GREATEST (number_of digits) e) })

-- what spells a number begins with a digit, so it was read as one
digit_first : (b : ℕ) (bs : List ℕ) (len : ℕ) → is_number (take len (b ∷ bs)) ≡ true → is_digit b ≡ true
digit_first b bs zero h = absurd (cc)
digit_first b bs (suc k) h = first_test (is_digit b) (list_all is_digit (take k bs)) h

spelled_fits : (b : ℕ) (bs : List ℕ) (l : Lexeme) → IsSpelled (b ∷ bs) l → lexeme_of b bs ≡ l → Fits l
spelled_fits b bs (Found (token.Number v) len) spelled e =
    subst Fits (sym (at_digit b bs (digit_first b bs len spelled.0)) ∙ e) (number_fits (take_while is_digit (b ∷ bs)))
spelled_fits b bs (Found (token.Word k) len) spelled e = tt
spelled_fits b bs (Found (token.Name n) len) spelled e = tt
spelled_fits b bs (Found (token.Fold f) len) spelled e = tt
spelled_fits b bs (Found (token.Operator o) len) spelled e = tt
spelled_fits b bs (Found (token.Sign s) len) spelled e = tt
spelled_fits b bs (Gap len) spelled e = tt
spelled_fits b bs (Refused f) spelled e = tt

lexeme_fits : (b : ℕ) (bs : List ℕ) → Fits (lexeme_of b bs)
lexeme_fits b bs = spelled_fits b bs (lexeme_of b bs) (front_is_spelled b bs) refl

fit_on : (l : Lexeme) (at : ℕ) (later : ℕ → Tokens) → Fits l → ((more : ℕ) → AreI64Tokens (later more).spots) → AreI64Tokens (goes_on l at later).spots
fit_on (Gap len) at later fits more = more (len - 1)
fit_on (Found t len) at later fits more = (fits, more (len - 1))
fit_on (Refused f) at later fits more = tt

-- from each place on
fit_from : (passed at : ℕ) (bs : List ℕ) → AreI64Tokens (lexed_from passed at bs).spots
unfolding lexed_from
fit_from passed at [] = tt
fit_from (suc passed) at (b ∷ bs) = fit_from passed (at + 1) bs
fit_from zero at (b ∷ bs) = fit_on (lexeme_of b bs) at (λ more. lexed_from more (at + 1) bs) (lexeme_fits b bs) (λ more. fit_from more (at + 1) bs)

fit_admitted : (o : Option Counts) (x : Spot) (later : Counts → Tokens) → IsI64Token x.token → ((d : Counts) → AreI64Tokens (later d).spots)
    → AreI64Tokens (admitted o x later).spots
fit_admitted (Some d) x later fits more = (fits, more d)
fit_admitted None x later fits more = tt

-- the bounds add no token
fit_bounded : (d : Counts) (ss : List Spot) (cut : Option Cut) → AreI64Tokens ss → AreI64Tokens (bounded_from d ss cut).spots
unfolding bounded_from
fit_bounded d [] cut fit = tt
fit_bounded d (x ∷ ss) cut fit =
    fit_admitted (behind_token x.token d) x (λ e. bounded_from e ss cut) fit.0 (λ e. fit_bounded e ss cut fit.1)

pub tokens_fit : (text : List ℕ) → AreI64Tokens (tokens_of text).spots
tokens_fit text = fit_bounded no_counts (lexed text).spots (lexed text).cut (fit_from 0 0 text)
