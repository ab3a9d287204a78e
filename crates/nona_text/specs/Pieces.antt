-- The pieces and the lines of a text.
use Rattle.std.specs.Prelude.{ℕ, ◌+◌, ◌==◌, Bool, true, false, not, ◌||◌, if◌then◌else◌, List, [], ◌∷◌, take_while}

-- bytes that stand together at a place
pub record Piece : Type 0 where
  pub at : ℕ
  pub bytes : List ℕ

-- a space or a tab
abbrev pub is_space : ℕ → Bool
is_space b = (b == 32) || (b == 9)

-- the pieces between blanks from a place on, where a piece may have begun before it: one begins at each byte that is no
-- blank and stands behind one or at the start, and reaches to the next blank
abbrev pub pieces_from : (ℕ → Bool) → Bool → ℕ → List ℕ → List Piece
pieces_from blank inside at [] = []
pieces_from blank inside at (b ∷ bs) =
    if blank b then pieces_from blank false (at + 1) bs
    else if inside then pieces_from blank true (at + 1) bs
    else record { at = at; bytes = b ∷ take_while (λ c. not (blank c)) bs } ∷ pieces_from blank true (at + 1) bs

-- the pieces of a text between blanks
abbrev pub pieces : (ℕ → Bool) → List ℕ → List Piece
pieces blank text = pieces_from blank false 0 text

-- whether a byte is none that ends a line
abbrev pub is_in_line : ℕ → Bool
is_in_line b = not (b == 10)

-- the lines of the rest of a text, where a line may have begun before it: one begins at the start and behind each LF, and
-- reaches to the next LF or to the end
abbrev pub lines_from : Bool → List ℕ → List (List ℕ)
lines_from inside [] = []
lines_from false (b ∷ bs) = take_while is_in_line (b ∷ bs) ∷ lines_from (is_in_line b) bs
lines_from true (b ∷ bs) = lines_from (is_in_line b) bs

-- the lines of a text, without the LF that ends each; the last one may end with the text
abbrev pub lines_of : List ℕ → List (List ℕ)
lines_of text = lines_from false text

-- a line without the CR that it may end with
abbrev pub without_cr : List ℕ → List ℕ
without_cr [] = []
without_cr (b ∷ []) = if b == 13 then [] else b ∷ []
without_cr (b ∷ c ∷ bs) = b ∷ without_cr (c ∷ bs)
