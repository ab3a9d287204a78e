-- Where tokens stop being a program.
use Rattle.std.specs.Prelude.{◌≡◌, ℕ, List, [], ◌∷◌, ◌++◌, ◌⊎◌}
use Rattle.nona_lex.specs.declared.tokens.Spot.{Spot}
use Rattle.nona_tree.specs.declared.trees.Program.{Program}
use Rattle.nona_grammar.specs.Grammar.{IsProgram}

-- these tokens and some behind them are a text of the kind
abbrev pub IsViable : (List Spot → Type 0) → List Spot → Type 0
IsViable kind ss = (more : List Spot) × kind (ss ++ more)

-- a token at the place is the first that no text of the kind has there: those before it are a front, and with it they are not
abbrev pub StopsAt : (List Spot → Type 0) → List Spot → ℕ → Type 0
StopsAt kind ss at =
    (front : List Spot) × (x : Spot) × (later : List Spot) × (ss ≡ front ++ x ∷ later) × (at ≡ x.at) × IsViable kind front
    × (IsViable kind (front ++ x ∷ []) → ⊥)

-- the tokens are no text of the kind, but a front of one
abbrev pub IsShort : (List Spot → Type 0) → List Spot → Type 0
IsShort kind ss = IsViable kind ss × (kind ss → ⊥)

-- the place of the first fault: a token's, or the end of the text
abbrev pub FirstFault : (List Spot → Type 0) → ℕ → List Spot → ℕ → Type 0
FirstFault kind end ss at = StopsAt kind ss at ⊎ ((at ≡ end) × IsShort kind ss)

-- the tokens are a program
abbrev pub IsText : List Spot → Type 0
IsText ss = (p : Program) × IsProgram ss p

-- the tokens of a text that ends at `end` are no program, and this is the place of the fault
abbrev pub FaultAt : ℕ → List Spot → ℕ → Type 0
FaultAt end ss at = FirstFault IsText end ss at
