-- The reductions of a loop, beside the scalars of a store.
use Rattle.std.specs.Prelude.{◌≢◌, ℕ, ◌<◌, ℤ, List, length, All, AllPairs}
use Rattle.nona_num.specs.declared.folds.Fold.{Fold}

-- the scalar of each reduction is there
abbrev pub AreThere : List (ℕ × Fold) → List ℤ → Type 0
AreThere rs scalars = All (λ (r : ℕ × Fold). r.0 < length scalars) rs

-- no scalar has two reductions
abbrev pub AreApart : List (ℕ × Fold) → Type 0
AreApart rs = AllPairs (λ (r q : ℕ × Fold). r.0 ≢ q.0) rs
