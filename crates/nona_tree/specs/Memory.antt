-- What a store holds.
use Rattle.std.specs.Prelude.{◌≡◌, ℕ, ℤ, pos, List, [], ◌∷◌, ◌++◌, take, slice_index_or, slice_set}

-- the visible scalars in order of declaration, the cells of each array by id, and the printed numbers
pub record Memory : Type 0 where
  pub scalars : List ℤ
  pub arrays : List (List ℤ)
  pub printed : List ℤ

-- the scalar with this id
abbrev pub scalar_at : Memory → ℕ → ℤ
scalar_at m id = slice_index_or m.scalars id (pos 0)

-- the cells of the array with this id
abbrev pub cells_of : Memory → ℕ → List ℤ
cells_of m id = slice_index_or m.arrays id []

-- the cell at this place of the array with this id
abbrev pub cell_at : Memory → ℕ → ℕ → ℤ
cell_at m id place = slice_index_or (cells_of m id) place (pos 0)

-- a new scalar behind the others
abbrev pub declare : ℤ → Memory → Memory
declare v m = record m { scalars = m.scalars ++ v ∷ [] }

-- the scalar with this id has the value v
abbrev pub assign : ℕ → ℤ → Memory → Memory
assign id v m = record m { scalars = slice_set m.scalars id v }

-- the cell at this place of the array with this id has the value v
abbrev pub put_cell : ℕ → ℕ → ℤ → Memory → Memory
put_cell id place v m = record m { arrays = slice_set m.arrays id (slice_set (cells_of m id) place v) }

-- one more printed number
abbrev pub print : ℤ → Memory → Memory
print v m = record m { printed = m.printed ++ v ∷ [] }

-- the first scalars alone
abbrev pub cut_to : ℕ → Memory → Memory
cut_to count m = record m { scalars = take count m.scalars }

-- a list is another one with more behind it
abbrev pub Extends : List ℤ → List ℤ → Type 0
Extends before after = (more : List ℤ) × (after ≡ before ++ more)
