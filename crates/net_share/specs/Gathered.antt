-- What tasks leave together beside a store, put into it. A task is whatever has a share of the store.
use Rattle.std.specs.Prelude.{◌≡◌, ℕ, ℤ, pos, List, [], ◌∷◌, map, slice_index_or}
use Rattle.std.specs.declared.option.Option.{Option}
use Rattle.nona_num.specs.declared.folds.Fold.{Fold}
use Rattle.nona_num.specs.Folds.{join_of}
use Rattle.nona_tree.specs.Memory.{Memory, scalar_at, assign}
use Rattle.nona_store.specs.Overlays.{over_of, under, changes_of, written_on}
use Rattle.nona_store.specs.Shares.{ShareView, shared}

-- the store that each of these tasks sees
abbrev pub views_of : {T : Type 0} → (T → ShareView) → Memory → List T → List Memory
views_of share m tasks = map (λ x. shared m (share x)) tasks

-- the second tasks are the first ones, but for what they have written, which is changed in this way
abbrev pub AreChanged : {T : Type 0} → (T → ShareView) → ((ℕ → ℕ → Option ℤ) → ℕ → ℕ → Option ℤ) → List T → List T → Type 0
AreChanged share f [] [] = Unit {0}
AreChanged share f [] (y ∷ ys) = ⊥
AreChanged share f (x ∷ xs) [] = ⊥
AreChanged share f (x ∷ xs) (y ∷ ys) =
    ((share y).scalars ≡ (share x).scalars) × ((share y).printed ≡ (share x).printed)
    × (over_of (share y).written ≡ f (over_of (share x).written)) × AreChanged share f xs ys

-- the second tasks begin with the first one of the first, and those behind it are changed in this way
abbrev pub AreChangedBehind : {T : Type 0} → (T → ShareView) → ((ℕ → ℕ → Option ℤ) → ℕ → ℕ → Option ℤ) → List T → List T → Type 0
AreChangedBehind share f [] [] = Unit {0}
AreChangedBehind share f [] (y ∷ ys) = ⊥
AreChangedBehind share f (x ∷ xs) [] = ⊥
AreChangedBehind share f (x ∷ xs) (y ∷ ys) = (y ≡ x) × AreChanged share f xs ys

-- the second tasks are the first ones, but have of what they have written only what isn't in the store already
abbrev pub AreLeft : {T : Type 0} → (T → ShareView) → Memory → List T → List T → Type 0
AreLeft share m xs ys = AreChanged share (changes_of m) xs ys

-- the second tasks begin with the first one of the first, and those behind it have only what isn't in the store already
abbrev pub AreLeftBehind : {T : Type 0} → (T → ShareView) → Memory → List T → List T → Type 0
AreLeftBehind share m xs ys = AreChangedBehind share (changes_of m) xs ys

-- a store with what each of these tasks has written, one task after another
abbrev pub with_written : {T : Type 0} → (T → ShareView) → List T → Memory → Memory
with_written share [] m = m
with_written share (x ∷ rest) m = with_written share rest (under (over_of (share x).written) m)

-- this store with what each of these tasks has changed of that one, one task after another
abbrev pub with_changes : {T : Type 0} → (T → ShareView) → Memory → List T → Memory → Memory
with_changes share was [] m = m
with_changes share was (x ∷ rest) m = with_changes share was rest (under (changes_of was (over_of (share x).written)) m)

-- a task's own value of a scalar
abbrev pub own_scalar : ℕ → ShareView → ℤ
own_scalar id share = slice_index_or share.scalars id (pos 0)

-- a number joined with the values that these tasks have of a scalar, in order
abbrev pub joined_with : {T : Type 0} → (T → ShareView) → ℕ → Fold → ℤ → List T → ℤ
joined_with share id f now [] = now
joined_with share id f now (x ∷ rest) = joined_with share id f (join_of f now (own_scalar id (share x))) rest

-- a store in which each reduction has its value joined with those of the tasks
abbrev pub with_joined : {T : Type 0} → (T → ShareView) → List (ℕ × Fold) → List T → Memory → Memory
with_joined share [] tasks m = m
with_joined share (r ∷ rest) tasks m =
    with_joined share rest tasks (assign r.0 (joined_with share r.0 r.1 (scalar_at m r.0) tasks) m)

-- the store with what all tasks have changed, and each reduction joined
abbrev pub gathered : {T : Type 0} → (T → ShareView) → List (ℕ × Fold) → List T → Memory → Memory
gathered share reductions tasks m = with_joined share reductions tasks (with_changes share m tasks m)

-- a store with what each of these tasks has written on the page of this array with this index, one task after another
abbrev pub with_page : {T : Type 0} → (T → ShareView) → ℕ → ℕ → List T → Memory → Memory
with_page share id index [] m = m
with_page share id index (x ∷ rest) m = with_page share id index rest (under (written_on id index (over_of (share x).written)) m)

-- what the second tasks have changed of the second store makes of it what the first ones make of the first, and they have their scalars
abbrev pub AreGatheredAlike : {T : Type 0} → (T → ShareView) → Memory → List T → Memory → List T → Type 0
AreGatheredAlike share m xs n ys =
    (with_changes share n ys n ≡ with_changes share m xs m) × (map (λ x. (share x).scalars) ys ≡ map (λ x. (share x).scalars) xs)
