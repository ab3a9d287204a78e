-- Bytes to tokens, by the longest match.
use Rattle.std.specs.Prelude.{ℕ, zero, suc, ◌+◌, ◌-◌, Bool, true, false, ◌==◌, nat_lt, pos, List, [], ◌∷◌, length, take_while, drop, None, Some, if◌then◌else◌}
use Rattle.std.specs.declared.option.Option.{Option}
use Rattle.nona_num.specs.declared.folds.Fold.{Fold}
use Rattle.nona_lex.specs.declared.tokens.Keyword.{Keyword}
use Rattle.nona_lex.specs.declared.tokens.Token.{Token}
use Rattle.nona_lex.specs.declared.tokens.Token.TheVariants as token
use Rattle.nona_lex.specs.declared.tokens.Fault.TheVariants as fault
use Rattle.nona_lex.specs.declared.tokens.Spot.{Spot}
use Rattle.nona_lex.specs.declared.tokens.Cut.{Cut}
use Rattle.nona_lex.specs.declared.tokens.Tokens.{Tokens}
use Rattle.nona_lex.specs.declared.lexemes.Lexeme.{Lexeme}
use Rattle.nona_lex.specs.declared.lexemes.Lexeme.TheVariants.{Gap, Found, Refused}
use Rattle.nona_text.specs.Bytes.{is_blank, is_digit, number_of}
use Rattle.nona_text.specs.declared.digits.TheConstants.{GREATEST}
use Rattle.nona_tree.specs.declared.limits.TheConstants.{NAME_BYTES}
use Rattle.nona_lex.specs.Words.{is_letter, is_word_byte, is_comment_byte, keyword_of, fold_word}
use Rattle.nona_lex.specs.Signs.{token_of_two, token_of_one}

-- a reserved word, or else a name
abbrev pub word_token : Option Keyword → List ℕ → Token
word_token (Some k) word = token.Word k
word_token None word = token.Name word

-- whether the first of the bytes is b
abbrev pub begins_with : ℕ → List ℕ → Bool
begins_with b [] = false
begins_with b (c ∷ cs) = c == b

-- a fold, where `=` stands behind the word of one; else the word
abbrev pub fold_or_word : Option Fold → Bool → List ℕ → Lexeme
fold_or_word (Some f) true word = Found (token.Fold f) (length word + 1)
fold_or_word (Some f) false word = Found (word_token (keyword_of word) word) (length word)
fold_or_word None equals word = Found (word_token (keyword_of word) word) (length word)

-- the lexeme that begins with a word, and the bytes behind the word
abbrev pub word_lexeme : List ℕ → List ℕ → Lexeme
word_lexeme word behind =
    if nat_lt NAME_BYTES (length word) then Refused fault.NameLong
    else fold_or_word (fold_word word) (begins_with 61 behind) word

-- the lexeme that digits are
abbrev pub number_lexeme : List ℕ → Lexeme
number_lexeme digits =
    if nat_lt GREATEST (number_of digits) then Refused fault.Number
    else Found (token.Number (pos (number_of digits))) (length digits)

-- a token of one byte, or the fault of a byte where no token begins
abbrev pub single_lexeme : Option Token → Lexeme
single_lexeme (Some t) = Found t 1
single_lexeme None = Refused fault.Byte

-- a token of two bytes, or else what the first alone is
abbrev pub sign_lexeme_of : Option Token → ℕ → Lexeme
sign_lexeme_of (Some t) b = Found t 2
sign_lexeme_of None b = single_lexeme (token_of_one b)

-- the lexeme that begins with neither a letter nor a digit
abbrev pub sign_lexeme : ℕ → List ℕ → Lexeme
sign_lexeme b [] = single_lexeme (token_of_one b)
sign_lexeme b (c ∷ cs) = sign_lexeme_of (token_of_two b c) b

-- what stands at the front of the bytes b ∷ bs
unfoldable pub lexeme_of : ℕ → List ℕ → Lexeme
lexeme_of b bs =
    if is_blank b then Gap 1
    else if b == 35 then Gap (length (take_while is_comment_byte (b ∷ bs)))
    else if is_letter b then
    word_lexeme (take_while is_word_byte (b ∷ bs)) (drop (length (take_while is_word_byte (b ∷ bs))) (b ∷ bs))
    else if is_digit b then number_lexeme (take_while is_digit (b ∷ bs))
    else sign_lexeme b bs

-- a token more in front
abbrev pub with_spot : Spot → Tokens → Tokens
with_spot spot later = record { spots = spot ∷ later.spots; cut = later.cut }

-- no tokens, and what ends the list
abbrev pub cut_off : Option Cut → Tokens
cut_off cut = record { spots = []; cut = cut }

-- the lexeme at a place, and then what later gives where so many bytes more belong to it
abbrev pub goes_on : Lexeme → ℕ → (ℕ → Tokens) → Tokens
goes_on (Gap len) at later = later (len - 1)
goes_on (Found t len) at later = with_spot (record { token = t; at = at }) (later (len - 1))
goes_on (Refused f) at later = cut_off (Some (record { fault = f; at = at }))

-- the tokens of the bytes from a place on, where the first `passed` bytes belong to the lexeme before
unfoldable pub lexed_from : ℕ → ℕ → List ℕ → Tokens
lexed_from passed at [] = cut_off None
lexed_from (suc passed) at (b ∷ bs) = lexed_from passed (at + 1) bs
lexed_from zero at (b ∷ bs) = goes_on (lexeme_of b bs) at (λ more. lexed_from more (at + 1) bs)

-- the tokens of a text by the longest match, up to its end or to the first place where none stands
abbrev pub lexed : List ℕ → Tokens
lexed text = lexed_from 0 0 text
