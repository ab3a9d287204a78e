-- A store that is made of what several tasks leave, each of which saw it with scalars and cells of its own.
use Rattle.std.specs.Prelude.{◌≡◌, ℕ, ◌<◌, ℤ, if◌then◌else◌, List, [], ◌∷◌, length, map, Contains}
use Rattle.std.specs.Ordering.{int_eq}
use Rattle.nona_num.specs.declared.folds.Fold.{Fold}
use Rattle.nona_num.specs.Folds.{join_of}
use Rattle.nona_tree.specs.Deeds.{SameSizes}
use Rattle.nona_tree.specs.Memory.{Memory, scalar_at, cell_at}

-- the last of these values of a cell that isn't what the cell was, or this one where there is none
abbrev pub settled_cell : ℤ → ℤ → List ℤ → ℤ
settled_cell was now [] = now
settled_cell was now (v ∷ vs) = settled_cell was (if int_eq v was then now else v) vs

-- a number joined with these, in order
abbrev pub joined_all : Fold → ℤ → List ℤ → ℤ
joined_all f now [] = now
joined_all f now (v ∷ vs) = joined_all f (join_of f now v) vs

-- What the store is once it is settled, where these are the stores that the tasks saw at their ends: each cell has the last value
-- that a task changed it to, or else its own; each reduction is joined with those of the tasks; and all else is as it was.
pub record IsSettledFrom (was : Memory) (reductions : List (ℕ × Fold)) (views : List Memory) (m : Memory) : Type 0 where
  pub depth : length m.scalars ≡ length was.scalars
  pub scalars : (id : ℕ) → id < length was.scalars → ((f : Fold) → Contains reductions (id, f) → ⊥) → scalar_at m id ≡ scalar_at was id
  pub reduced : (id : ℕ) (f : Fold) → Contains reductions (id, f)
      → scalar_at m id ≡ joined_all f (scalar_at was id) (map (λ (v : Memory). scalar_at v id) views)
  pub arrays : length m.arrays ≡ length was.arrays
  pub sizes : SameSizes was m
  pub cells : (array place : ℕ)
      → cell_at m array place ≡ settled_cell (cell_at was array place) (cell_at was array place) (map (λ (v : Memory). cell_at v array place) views)
  pub printed : m.printed ≡ was.printed
