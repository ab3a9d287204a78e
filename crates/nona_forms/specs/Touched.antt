-- Which access of a loop a deed of an iteration is of.
use Rattle.std.specs.Prelude.{◌≡◌, ℕ, Bool, true, false, ℤ, length, map}
use Rattle.std.specs.List.{Contains}
use Rattle.nona_tree.specs.declared.trees.Loop.{Loop}
use Rattle.nona_tree.specs.Deeds.{Deed, loads, stores, joins}
use Rattle.nona_tree.specs.Memory.{Memory}
use Rattle.nona_forms.specs.References.{Reference, IsStoreWith, as_in, invariants_of, references_all, Touches}

-- an iteration of a loop that was entered may begin in this store: it has as many scalars as the entry's, the invariants have
-- their values, and the arrays their lengths
pub record MayBegin (l : Loop) (entry m : Memory) : Type 0 where
  pub depth : length m.scalars ≡ length entry.scalars
  pub kept : IsStoreWith entry (map (as_in entry) (invariants_of l)) m

-- an access of a loop to this array, which writes or doesn't, touches this cell in iteration i
abbrev pub IsTouched : Loop → Memory → ℤ → Bool → ℕ → ℕ → Type 0
IsTouched l entry i write array cell =
    (x : Reference) × Contains (references_all l.body) x × (x.write ≡ write) × (x.access.array.id ≡ array) × Touches l entry x i cell

-- a deed on a cell is of an access that touches the cell in iteration i, one that writes where it stores or joins
abbrev pub IsOfAccess : Loop → Memory → ℤ → Deed → Type 0
IsOfAccess l entry i (loads array cell) = IsTouched l entry i false array cell
IsOfAccess l entry i (stores array cell) = IsTouched l entry i true array cell
IsOfAccess l entry i (joins fold array cell) = IsTouched l entry i true array cell
IsOfAccess l entry i _ = Unit {0}
