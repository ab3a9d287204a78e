-- A store that is made of what the tasks of a pipeline leave, each of which saw it with scalars and cells of its own.
use Rattle.std.specs.Prelude.{◌≡◌, ℕ, ◌<◌, ℤ, List, ◌++◌, length, map, drop, Contains}
use Rattle.std.specs.List.{flat_map}
use Rattle.nona_num.specs.declared.folds.Fold.{Fold}
use Rattle.nona_tree.specs.Deeds.{SameSizes}
use Rattle.nona_tree.specs.Memory.{Memory, scalar_at, cell_at}
use Rattle.net_share.specs.Settled.{settled_cell, joined_all}

-- the numbers that a task has printed behind those that were printed before
abbrev pub printed_behind : Memory → Memory → List ℤ
printed_behind was v = drop (length was.printed) v.printed

-- What the store is once it is settled, where these are the stores that the tasks saw at their ends, in order of stages and then
-- workers: each reduction is joined with those of the tasks; each other scalar and each cell has the last value that a task changed
-- it to, or else its own; and what each task printed stands behind what was printed before.
pub record IsSettledFromStages (was : Memory) (reductions : List (ℕ × Fold)) (views : List Memory) (m : Memory) : Type 0 where
  pub depth : length m.scalars ≡ length was.scalars
  pub scalars : (id : ℕ) → id < length was.scalars → ((f : Fold) → Contains reductions (id, f) → ⊥)
      → scalar_at m id ≡ settled_cell (scalar_at was id) (scalar_at was id) (map (λ (v : Memory). scalar_at v id) views)
  pub reduced : (id : ℕ) (f : Fold) → Contains reductions (id, f)
      → scalar_at m id ≡ joined_all f (scalar_at was id) (map (λ (v : Memory). scalar_at v id) views)
  pub arrays : length m.arrays ≡ length was.arrays
  pub sizes : SameSizes was m
  pub cells : (array place : ℕ)
      → cell_at m array place ≡ settled_cell (cell_at was array place) (cell_at was array place) (map (λ (v : Memory). cell_at v array place) views)
  pub printed : m.printed ≡ was.printed ++ flat_map (printed_behind was) views
