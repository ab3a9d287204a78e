-- Where the tokens of a list stand.
use Rattle.std.specs.Prelude.{ℕ, List, [], ◌∷◌}
use Rattle.nona_lex.specs.declared.tokens.Spot.{Spot}

-- the places of tokens, in order
abbrev pub token_places : List Spot → List ℕ
token_places [] = []
token_places (spot ∷ spots) = spot.at ∷ token_places spots
