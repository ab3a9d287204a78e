-- Sets of units as bits, and rows of them that show walks: the row of a unit has the units that it leads to.
use Rattle.std.specs.Prelude.{◌≡◌, ℕ, ◌-◌, ◌==◌, Bool, if◌then◌else◌, List, length, slice_index_or}
use Rattle.std.specs.Int.{bit_at}
use Rattle.std.specs.Int.Bits.{bit_or}
use Rattle.nona_graph.specs.declared.sets.UnitSet.{UnitSet}
use Rattle.nona_plans.specs.Walks.{IsUnit, leads_through}

-- whether a set has a unit
abbrev pub has_unit : UnitSet → ℕ → Bool
has_unit s u = bit_at s.bits (u - 1) == 1

-- what is in one set or in the other
abbrev pub union_of : UnitSet → UnitSet → UnitSet
union_of s t = record { bits = bit_or s.bits t.bits }

-- a row, with another where it has a unit
abbrev pub passed_row : ℕ → UnitSet → UnitSet → UnitSet
passed_row unit via s = if has_unit s unit then union_of s via else s

-- the row of a unit, and whether it has a unit
abbrev pub row_at : List UnitSet → ℕ → UnitSet
row_at rows u = slice_index_or rows (u - 1) (record { bits = 0 })

abbrev pub has_at : List UnitSet → ℕ → ℕ → Bool
has_at rows i j = has_unit (row_at rows i) j

-- each row has the units to which walks lead from its unit, where all units between are from 1 to k
abbrev pub ShowWalks : List (ℕ × ℕ) → ℕ → List UnitSet → Type 0
ShowWalks edges k rows =
    (i j : ℕ) → IsUnit (length rows) i → IsUnit (length rows) j → has_at rows i j ≡ leads_through edges k i j

-- an edge between two of n units
abbrev pub AreEnds : ℕ → ℕ × ℕ → Type 0
AreEnds n e = IsUnit n e.0 × IsUnit n e.1
