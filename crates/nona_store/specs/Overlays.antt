-- What is written over the cells of a store, and kept beside it.
use Rattle.std.specs.Prelude.{ℕ, suc, ◌==◌, ◌&&◌, if◌then◌else◌, ℤ, List, [], ◌∷◌, slice_index_or, None, Some}
use Rattle.std.specs.declared.option.Option.{Option}
use Rattle.nona_sparse.specs.Sparse.{at, cells_under, change_at, on_page, off_page, changes_on}
use Rattle.nona_tree.specs.Memory.{Memory, cells_of}

-- the value that is written on each cell, where one is, in sparse arrays by the ids of arrays
abbrev pub over_of : List (List (List (Option ℤ))) → ℕ → ℕ → Option ℤ
over_of written array = at (slice_index_or written array [])

-- no cell is written
abbrev pub unwritten : List (List (List (Option ℤ)))
unwritten = []

-- one cell has this value, and the others what they have
abbrev pub with_cell : ℕ → ℕ → ℤ → (ℕ → ℕ → Option ℤ) → ℕ → ℕ → Option ℤ
with_cell id at v over array place = if id == array && at == place then Some v else over array place

-- the cells of arrays from this id on, those that are written with their values
abbrev pub arrays_under : (ℕ → ℕ → Option ℤ) → ℕ → List (List ℤ) → List (List ℤ)
arrays_under over id [] = []
arrays_under over id (cells ∷ arrays) = cells_under (over id) 0 cells ∷ arrays_under over (suc id) arrays

-- a store whose cells have the values that are written over them, where there are any
abbrev pub under : (ℕ → ℕ → Option ℤ) → Memory → Memory
under over m = record m { arrays = arrays_under over 0 m.arrays }

-- what is left of the written values beside a store: nothing where its cell has the value already
abbrev pub changes_of : Memory → (ℕ → ℕ → Option ℤ) → ℕ → ℕ → Option ℤ
changes_of m over array place = change_at (cells_of m array) place (over array place)

-- of what is written, what lies on the page of this array with this index
abbrev pub written_on : ℕ → ℕ → (ℕ → ℕ → Option ℤ) → ℕ → ℕ → Option ℤ
written_on id index over array place = if id == array then on_page index (over array) place else None

-- what is written but for the page of this array with this index
abbrev pub written_off : ℕ → ℕ → (ℕ → ℕ → Option ℤ) → ℕ → ℕ → Option ℤ
written_off id index over array place = if id == array then off_page index (over array) place else over array place

-- what is left beside a store of the values on the page of this array with this index, and all the others
abbrev pub changes_on_page : ℕ → ℕ → Memory → (ℕ → ℕ → Option ℤ) → ℕ → ℕ → Option ℤ
changes_on_page id index m over array place = if id == array then changes_on index (cells_of m array) (over array) place else over array place
