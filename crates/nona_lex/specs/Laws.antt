-- What the longest match is, where the tokens stand and which numbers they are, in words of the text alone.
use Rattle.std.specs.Prelude.{◌≡◌, ℕ, ◌+◌, ◌<◌, ◌≤◌, IsTrue, List, [], ◌∷◌, length, take, take_while, drop, None, Some}
use Rattle.std.specs.declared.option.Option.{Option}
use Rattle.nona_tree.specs.Numbers.{IsI64}
use Rattle.nona_text.specs.Bytes.{is_blank}
use Rattle.nona_lex.specs.declared.tokens.Token.{Token}
use Rattle.nona_lex.specs.declared.tokens.Token.TheVariants as token
use Rattle.nona_lex.specs.declared.tokens.Fault.TheVariants as fault
use Rattle.nona_lex.specs.declared.tokens.Spot.{Spot}
use Rattle.nona_lex.specs.declared.tokens.Cut.{Cut}
use Rattle.nona_lex.specs.declared.tokens.Tokens.{Tokens}
use Rattle.nona_lex.specs.declared.lexemes.Lexeme.{Lexeme}
use Rattle.nona_lex.specs.declared.lexemes.Lexeme.TheVariants.{Gap, Found, Refused}
use Rattle.nona_lex.specs.Words.{is_comment_byte}
use Rattle.nona_lex.specs.Lexis.{lexeme_of, with_spot, cut_off, lexed_from}
use Rattle.nona_lex.specs.Spelling.{Spells}

-- a lexeme with its text: where it is a token, its bytes spell the token
abbrev pub IsSpelled : List ℕ → Lexeme → Type 0
IsSpelled text (Found t len) = Spells (take len text) t
IsSpelled text (Gap len) = Unit {0}
IsSpelled text (Refused f) = Unit {0}

-- a lexeme where the first k bytes spell some token: a token that is no shorter, or a word or a number out of bounds
abbrev pub HasAtLeast : ℕ → Lexeme → Type 0
HasAtLeast k (Found t len) = k ≤ len
HasAtLeast k (Gap len) = ⊥
HasAtLeast k (Refused fault.NameLong) = Unit {0}
HasAtLeast k (Refused fault.Number) = Unit {0}
HasAtLeast k (Refused fault.Byte) = ⊥
HasAtLeast k (Refused fault.Deep) = ⊥

-- the token at the front of a text is spelled by its bytes
abbrev pub FrontIsSpelled : Type 0
FrontIsSpelled = (b : ℕ) (bs : List ℕ) → IsSpelled (b ∷ bs) (lexeme_of b bs)

-- no front of a text spells a token that is longer than the lexeme at its front
abbrev pub FrontIsLongest : Type 0
FrontIsLongest = (b : ℕ) (bs : List ℕ) (k : ℕ) (t : Token) → k ≤ length (b ∷ bs) → Spells (take k (b ∷ bs)) t
    → HasAtLeast k (lexeme_of b bs)

-- the tokens of a text from a place on: the lexeme at its front, and then those of the text behind the lexeme
abbrev pub lexeme_and_rest : Lexeme → ℕ → List ℕ → Tokens
lexeme_and_rest (Gap len) at text = lexed_from 0 (at + len) (drop len text)
lexeme_and_rest (Found t len) at text = with_spot (record { token = t; at = at }) (lexed_from 0 (at + len) (drop len text))
lexeme_and_rest (Refused f) at text = cut_off (Some (record { fault = f; at = at }))

-- a text is read lexeme by lexeme
abbrev pub LexemesFollow : Type 0
LexemesFollow = (at b : ℕ) (bs : List ℕ) → lexed_from 0 at (b ∷ bs) ≡ lexeme_and_rest (lexeme_of b bs) at (b ∷ bs)

-- how many bytes a comment has: all up to the end of its line
abbrev pub comment_length : List ℕ → ℕ
comment_length bytes = length (take_while is_comment_byte bytes)

-- the bytes from a place on are blanks, comments from `#` on, and these tokens, each spelled by the bytes at its place; `rest`
-- is left
pub data IsLaidOut : ℕ → List ℕ → List Spot → List ℕ → Type 0 where
  tokens-end : (at : ℕ) (rest : List ℕ) → IsLaidOut at rest [] rest
  blank-is : (at b : ℕ) (bytes rest : List ℕ) (spots : List Spot) → IsTrue (is_blank b)
      → IsLaidOut (at + 1) bytes spots rest → IsLaidOut at (b ∷ bytes) spots rest
  comment-is : (at : ℕ) (bytes rest : List ℕ) (spots : List Spot)
      → IsLaidOut (at + comment_length (35 ∷ bytes)) (drop (comment_length (35 ∷ bytes)) (35 ∷ bytes)) spots rest
      → IsLaidOut at (35 ∷ bytes) spots rest
  token-is : (at len : ℕ) (t : Token) (bytes rest : List ℕ) (spots : List Spot) → len ≤ length bytes → Spells (take len bytes) t
      → IsLaidOut (at + len) (drop len bytes) spots rest → IsLaidOut at bytes (record { token = t; at = at } ∷ spots) rest

-- what is left of bytes that end at a place: nothing, or from the place of the cut on
abbrev pub IsLeft : Option Cut → ℕ → List ℕ → Type 0
IsLeft None end rest = rest ≡ []
IsLeft (Some cut) end rest = (0 < length rest) × (cut.at + length rest ≡ end)

-- the bytes from a place on are laid out as these tokens, to their end or to the cut
abbrev pub AreSpread : ℕ → List ℕ → Tokens → Type 0
AreSpread at bytes tokens = (rest : List ℕ) × IsLaidOut at bytes tokens.spots rest × IsLeft tokens.cut (at + length bytes) rest

-- a token whose number, if it is one, has 64 bits
abbrev pub IsI64Token : Token → Type 0
IsI64Token (token.Number v) = IsI64 v
IsI64Token _ = Unit {0}

-- the numbers among tokens have 64 bits
abbrev pub AreI64Tokens : List Spot → Type 0
AreI64Tokens [] = Unit {0}
AreI64Tokens (spot ∷ spots) = IsI64Token spot.token × AreI64Tokens spots
