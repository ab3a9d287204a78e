-- What the lexer's functions and its loop have found so far.
use Rattle.std.specs.Prelude.{◌≡◌, ℕ, ◌<◌, ◌≤◌, Bool, true, false, None, Some, List, [], ◌∷◌, ◌++◌, length, reverse}
use Rattle.std.specs.declared.option.Option.{Option}
use Rattle.nona_lex.specs.declared.tokens.Spot.{Spot}
use Rattle.nona_lex.specs.declared.tokens.Tokens.{Tokens}
use Rattle.nona_lex.specs.declared.lexemes.Lexeme.{Lexeme}
use Rattle.nona_lex.specs.declared.lexemes.Lexeme.TheVariants.{Gap, Found, Refused}
use Rattle.nona_lex.specs.declared.bounds.Counter.{Counter}
use Rattle.nona_lex.specs.Lexis.{lexeme_of}
use Rattle.nona_lex.specs.Bounds.{Counts, bounded_from}

-- a lexeme has at least one byte, and no more than there are
abbrev pub FitsIn : Lexeme → ℕ → Type 0
FitsIn (Gap len) most = (0 < len) × (len ≤ most)
FitsIn (Found t len) most = (0 < len) × (len ≤ most)
FitsIn (Refused f) most = Unit {0}

-- the lexeme is that at the front of the bytes
abbrev pub IsLexeme : List ℕ → Lexeme → Type 0
IsLexeme [] lexeme = ⊥
IsLexeme (b ∷ bs) lexeme = (lexeme ≡ lexeme_of b bs) × FitsIn lexeme (length (b ∷ bs))

-- the counts that a counter keeps
abbrev pub counts_of : Counter → Counts
counts_of c = record { operators = c.operators; outside = reverse c.outside }

-- the counter's counts where it let the token stand
abbrev pub if_admitted : Bool → Counter → Option Counts
if_admitted true c = Some (counts_of c)
if_admitted false c = None

-- the tokens so far, and then those of the later ones that may stand
abbrev pub tokens_behind : List Spot → Counts → Tokens → Tokens
tokens_behind front c later =
    record { spots = front ++ (bounded_from c later.spots later.cut).spots; cut = (bounded_from c later.spots later.cut).cut }
