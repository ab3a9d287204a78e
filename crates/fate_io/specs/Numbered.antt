-- Texts of items one after another, each by its number.
use Rattle.std.specs.Prelude.{ℕ, ◌+◌, List, [], ◌∷◌, ◌++◌}

-- what items give one after another, each by its number from this one on
abbrev pub texts_from : {A : Type 0} → (ℕ → A → List ℕ) → ℕ → List A → List ℕ
texts_from part number [] = []
texts_from part number (x ∷ xs) = part number x ++ texts_from part (number + 1) xs
