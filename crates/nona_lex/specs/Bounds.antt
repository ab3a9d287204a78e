-- How many brackets may be open, and how many operators may stand between them.
use Rattle.std.specs.Prelude.{ℕ, ◌+◌, nat_lt, List, [], ◌∷◌, length, None, Some, if◌then◌else◌}
use Rattle.std.specs.declared.option.Option.{Option}
use Rattle.nona_lex.specs.declared.tokens.Sign.{Sign}
use Rattle.nona_lex.specs.declared.tokens.Sign.TheVariants as sign
use Rattle.nona_lex.specs.declared.tokens.Token.{Token}
use Rattle.nona_lex.specs.declared.tokens.Token.TheVariants as token
use Rattle.nona_lex.specs.declared.tokens.Fault.TheVariants as fault
use Rattle.nona_lex.specs.declared.tokens.Spot.{Spot}
use Rattle.nona_lex.specs.declared.tokens.Cut.{Cut}
use Rattle.nona_lex.specs.declared.tokens.Tokens.{Tokens}
use Rattle.nona_lex.specs.declared.bounds.TheConstants.{BRACKETS, OPERATORS}
use Rattle.nona_lex.specs.Lexis.{with_spot, cut_off, lexed}

-- the count of operators, and the counts before each open bracket, newest first
pub record Counts : Type 0 where
  pub operators : ℕ
  pub outside : List ℕ

-- before the first token
abbrev pub no_counts : Counts
no_counts = record { operators = 0; outside = [] }

-- behind an opening bracket, where one more may be open
abbrev pub behind_opening : Counts → Option Counts
behind_opening c =
    if nat_lt (length c.outside) BRACKETS then Some (record { operators = 0; outside = c.operators ∷ c.outside })
    else None

-- behind an operator, where one more may stand
abbrev pub behind_operator : Counts → Option Counts
behind_operator c = if nat_lt c.operators OPERATORS then Some (record c { operators = c.operators + 1 }) else None

-- the counts where the newest bracket, if one is open, no longer is
abbrev pub closed_to : ℕ → List ℕ → Counts
closed_to operators [] = record { operators = operators; outside = [] }
closed_to operators (n ∷ outside) = record { operators = n; outside = outside }

-- behind a closing bracket; one that closes nothing changes nothing
abbrev pub behind_closing : Counts → Counts
behind_closing c = closed_to c.operators c.outside

-- with the count at 0 again
abbrev pub restarted : Counts → Counts
restarted c = record c { operators = 0 }

-- the counts behind a sign, where it may stand
abbrev pub behind_sign : Sign → Counts → Option Counts
behind_sign sign.Open c = behind_opening c
behind_sign sign.OpenIndex c = behind_opening c
behind_sign sign.OpenBlock c = behind_opening c
behind_sign sign.Close c = Some (behind_closing c)
behind_sign sign.CloseIndex c = Some (behind_closing c)
behind_sign sign.CloseBlock c = Some (restarted (behind_closing c))
behind_sign sign.Semicolon c = Some (restarted c)
behind_sign sign.Set c = Some c
behind_sign sign.Comma c = Some c
behind_sign sign.Range c = Some c

-- the counts behind a token, where it may stand
abbrev pub behind_token : Token → Counts → Option Counts
behind_token (token.Sign s) c = behind_sign s c
behind_token (token.Operator o) c = behind_operator c
behind_token (token.Word k) c = Some c
behind_token (token.Name n) c = Some c
behind_token (token.Number v) c = Some c
behind_token (token.Fold f) c = Some c

-- a token and the later ones where it may stand, and else the cut there
abbrev pub admitted : Option Counts → Spot → (Counts → Tokens) → Tokens
admitted (Some c) spot later = with_spot spot (later c)
admitted None spot later = cut_off (Some (record { fault = fault.Deep; at = spot.at }))

-- the tokens before the first that may not stand, from some counts on
unfoldable pub bounded_from : Counts → List Spot → Option Cut → Tokens
bounded_from c [] cut = cut_off cut
bounded_from c (spot ∷ spots) cut = admitted (behind_token spot.token c) spot (λ d. bounded_from d spots cut)

-- the tokens before the first that may not stand
abbrev pub bounded : Tokens → Tokens
bounded tokens = bounded_from no_counts tokens.spots tokens.cut

-- the tokens of a text
abbrev pub tokens_of : List ℕ → Tokens
tokens_of text = bounded (lexed text)
