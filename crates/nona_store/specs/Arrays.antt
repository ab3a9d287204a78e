-- The arrays of a store, and that it keeps numbers of 64 bits.
use Rattle.std.specs.Prelude.{ℕ, ◌≤◌, ℤ, pos, ◌≤ℤ◌, List, slice_set, length}
use Rattle.std.specs.List.{All}
use Rattle.nona_tree.specs.declared.trees.ArrayDecl.{ArrayDecl}
use Rattle.nona_tree.specs.Faults.{cell_bound}
use Rattle.nona_tree.specs.Memory.{Memory}
use Rattle.nona_tree.specs.Numbers.{IsI64, AreI64}

-- the array with this id has these cells
abbrev pub with_array : ℕ → List ℤ → Memory → Memory
with_array id cells m = record m { arrays = slice_set m.arrays id cells }

-- a declared array asks for a cell at least, and for no more than there may be
abbrev pub IsSized : ArrayDecl → Type 0
IsSized d = (pos 1 ≤ℤ d.cells) × (d.cells ≤ℤ pos cell_bound)

-- each declared array asks for a cell at least, and for no more than there may be
abbrev pub AreSized : List ArrayDecl → Type 0
AreSized arrays = All IsSized arrays

-- no more cells than there may be
abbrev pub AreFew : List ℤ → Type 0
AreFew cells = length cells ≤ cell_bound

-- no more cells than there may be, each with a number of 64 bits
pub record AreKept (cells : List ℤ) : Type 0 where
  pub few : AreFew cells
  pub numbers : All IsI64 cells

-- a store of numbers of 64 bits, none of whose arrays has more cells than there may be
pub record IsKept (m : Memory) : Type 0 where
  pub numbers : AreI64 m
  pub few : All AreFew m.arrays
