-- What tasks leave together beside a store, and the store that is settled from it.
use Rattle.std.proofs.Common.{◌≡◌, ◌≢◌, ◌⊎◌, inl, inr, ⊎_elim, ℕ, zero, suc, ◌<◌, ◌≤◌, nat_lt, Bool, true, false, if◌then◌else◌, ◌+◌, ℤ, pos, List, [], ◌∷◌, length, map, drop, get_or, set, slice_index_or, Option, None, Some, refl, sym, ap, subst, ◌∙◌, arith}
use Rattle.std.specs.Prelude.{Contains}
use Rattle.std.specs.Option.{unwrap_or}
use Rattle.std.specs.Ordering.{int_eq}
use Rattle.std.proofs.lemmas.Bool.Decides.{nat_tests, Decides-int_eq}
use Rattle.std.proofs.lemmas.Cmp.{int_eq_equiv}
use Rattle.std.proofs.lemmas.List.{ext_get_or, length-set, get_or_past, get_or-set_same, get_or-set_other, at_drop_more}
use Rattle.nona_num.specs.declared.folds.Fold.{Fold}
use Rattle.nona_num.specs.Folds.{join_of}
use Rattle.nona_store.specs.Shares.{ShareView}
use Rattle.nona_store.specs.Overlays.{over_of, under, arrays_under, changes_of}
use Rattle.nona_store.proofs.Overlaying.{covered, as_long, as_many}
use Rattle.nona_tree.specs.Memory.{Memory, scalar_at, cells_of, cell_at, assign}
use Rattle.net_share.specs.Begins.{AreThere, AreApart}
use Rattle.net_share.specs.Gathered.{views_of, AreChanged, AreChangedBehind, AreLeft, AreLeftBehind, with_written, with_changes, own_scalar, joined_with, with_joined, gathered}
use Rattle.net_share.specs.Settled.{settled_cell, joined_all, IsSettledFrom}

-- a number ties with itself
ties_itself : (v : ℤ) → int_eq v v ≡ true
ties_itself v = int_eq_equiv.refl v

same_either : (b : Bool) (v : ℤ) → (if b then v else v) ≡ v
same_either true v = refl
same_either false v = refl

-- what a cell is with one more task's change
picked : (b : Bool) (v now : ℤ) → unwrap_or (if b then None else Some v) now ≡ (if b then now else v)
picked true v now = refl
picked false v now = refl

is_below : (p n : ℕ) → p < n → nat_lt p n ≡ true
is_below p n below = grind (arith, below, nat_tests)

one_change : (m : Memory) (a p : ℕ) (now : ℤ) (o : Option ℤ) → p < length (cells_of m a)
    → unwrap_or (changes_of m (λ b q. o) a p) now ≡ (if int_eq (unwrap_or o (cell_at m a p)) (cell_at m a p) then now else unwrap_or o (cell_at m a p))
one_change m a p now None within =
    let was = cell_at m a p in
    ap (λ (b : Bool). unwrap_or (if b then None else None) now) (is_below p (length (cells_of m a)) within)
    ∙ ap (λ (b : Bool). if b then now else was) (sym (ties_itself was))
one_change m a p now (Some v) within =
    let was = cell_at m a p in
    ap (λ (b : Bool). unwrap_or (if b then if int_eq v was then None else Some v else Some v) now) (is_below p (length (cells_of m a)) within)
    ∙ picked (int_eq v was) v now

-- a place outside an array is as it was, under any overlay
outside : (m : Memory) (over : ℕ → ℕ → Option ℤ) (a p : ℕ) → length (cells_of m a) ≤ p → cell_at (under over m) a p ≡ cell_at m a p
outside m over a p past =
    get_or_past (cells_of (under over m) a) p (pos 0) (subst (λ n. n ≤ p) (sym (as_long m over a)) past)
    ∙ sym (get_or_past (cells_of m a) p (pos 0) past)

-- a number is below another one or not
below_or_past : (p n : ℕ) → (p < n) ⊎ (n ≤ p)
below_or_past p zero = inr (omega arith)
below_or_past zero (suc n) = inl (omega arith)
below_or_past (suc p) (suc n) = ⊎_elim (λ (h : p < n). inl (omega (arith, h))) (λ (h : n ≤ p). inr (omega (arith, h))) (below_or_past p n)

-- of a value and what it was, the value
value_or_was : (v was : ℤ) → (if int_eq v was then was else v) ≡ v
value_or_was v was = by_test (int_eq v was) (Decides-int_eq v was).0 where
  by_test : (b : Bool) → (b ≡ true → v ≡ was) → (if b then was else v) ≡ v
  by_test true is = sym (is refl)
  by_test false is = refl

-- to write over cells what they have already changes nothing
pub unchanged_under : (m : Memory) (over : ℕ → ℕ → Option ℤ) → under (changes_of m over) m ≡ under over m
unchanged_under m over = λ i. record m { arrays = same i } where
  left : ℕ → ℕ → Option ℤ
  left = changes_of m over

  same_cell : (a p : ℕ) → p < length (cells_of m a) → cell_at (under left m) a p ≡ cell_at (under over m) a p
  same_cell a p within =
      let was = cell_at m a p in
      covered m left a p within ∙ one_change m a p was (over a p) within ∙ value_or_was (unwrap_or (over a p) was) was ∙ sym (covered m over a p within)

  same : arrays_under left 0 m.arrays ≡ arrays_under over 0 m.arrays
  same =
      ext_get_or [] (arrays_under left 0 m.arrays) (arrays_under over 0 m.arrays) (as_many left 0 m.arrays ∙ sym (as_many over 0 m.arrays))
      (λ a there.
      ext_get_or (pos 0) (cells_of (under left m) a) (cells_of (under over m) a) (as_long m left a ∙ sym (as_long m over a))
      (λ p within. same_cell a p (subst (λ n. p < n) (as_long m left a) within)))

-- tasks, each with its share of a store
module _ {T : Type 0} (share : T → ShareView) where
  -- as many scalars, printed numbers, arrays and cells stand under what tasks have changed
  pub changes_scalars : (was m : Memory) (tasks : List T) → (with_changes share was tasks m).scalars ≡ m.scalars
  changes_scalars was m [] = refl
  changes_scalars was m (x ∷ rest) = changes_scalars was (under (changes_of was (over_of (share x).written)) m) rest

  pub changes_printed : (was m : Memory) (tasks : List T) → (with_changes share was tasks m).printed ≡ m.printed
  changes_printed was m [] = refl
  changes_printed was m (x ∷ rest) = changes_printed was (under (changes_of was (over_of (share x).written)) m) rest

  pub changes_many : (was m : Memory) (tasks : List T) → length (with_changes share was tasks m).arrays ≡ length m.arrays
  changes_many was m [] = refl
  changes_many was m (x ∷ rest) =
      let over = changes_of was (over_of (share x).written) in
      changes_many was (under over m) rest ∙ as_many over 0 m.arrays

  pub changes_long : (was m : Memory) (tasks : List T) (a : ℕ) → length (cells_of (with_changes share was tasks m) a) ≡ length (cells_of m a)
  changes_long was m [] a = refl
  changes_long was m (x ∷ rest) a =
      let over = changes_of was (over_of (share x).written) in
      changes_long was (under over m) rest a ∙ as_long m over a

  -- a cell of the store that tasks have changed one after another is the last value that isn't what it was
  pub changed_cell : (was m : Memory) (tasks : List T) (a p : ℕ) → p < length (cells_of was a) → p < length (cells_of m a)
      → cell_at (with_changes share was tasks m) a p ≡ settled_cell (cell_at was a p) (cell_at m a p) (map (λ (v : Memory). cell_at v a p) (views_of share was tasks))
  changed_cell was m [] a p within inside = refl
  changed_cell was m (x ∷ rest) a p within inside =
      let cell = cell_at was a p in
      let now = cell_at m a p in
      let written = over_of (share x).written in
      let over = changes_of was written in
      changed_cell was (under over m) rest a p within (subst (λ n. p < n) (sym (as_long m over a)) inside)
      ∙ ap (λ (n : ℤ). settled_cell cell n (map (λ (v : Memory). cell_at v a p) (views_of share was rest)))
      (covered m over a p inside
      ∙ one_change was a p now (written a p) within
      ∙ ap (λ (v : ℤ). if int_eq v cell then now else v) (sym (covered was written a p within)))

  outside_stays : (m : Memory) (tasks : List T) (a p : ℕ) → length (cells_of m a) ≤ p
      → settled_cell (cell_at m a p) (cell_at m a p) (map (λ (v : Memory). cell_at v a p) (views_of share m tasks)) ≡ cell_at m a p
  outside_stays m [] a p past = refl
  outside_stays m (x ∷ rest) a p past =
      let was = cell_at m a p in
      ap (λ (now : ℤ). settled_cell was now (map (λ (v : Memory). cell_at v a p) (views_of share m rest)))
      (ap (λ (v : ℤ). if int_eq v was then was else v) (outside m (over_of (share x).written) a p past) ∙ same_either (int_eq was was) was)
      ∙ outside_stays m rest a p past

  -- each cell is settled
  pub cells_settled : (m : Memory) (tasks : List T) (a p : ℕ)
      → cell_at (with_changes share m tasks m) a p ≡ settled_cell (cell_at m a p) (cell_at m a p) (map (λ (v : Memory). cell_at v a p) (views_of share m tasks))
  cells_settled m tasks a p =
      ⊎_elim
      (λ (within : p < length (cells_of m a)). changed_cell m m tasks a p within within)
      (λ (past : length (cells_of m a) ≤ p).
      get_or_past (cells_of (with_changes share m tasks m) a) p (pos 0) (subst (λ n. n ≤ p) (sym (changes_long m m tasks a)) past)
      ∙ sym (get_or_past (cells_of m a) p (pos 0) past) ∙ sym (outside_stays m tasks a p past))
      (below_or_past p (length (cells_of m a)))

  -- scalars

  -- to join reductions changes scalars alone, and as many stand
  pub joined_arrays : (rs : List (ℕ × Fold)) (tasks : List T) (m : Memory) → (with_joined share rs tasks m).arrays ≡ m.arrays
  joined_arrays [] tasks m = refl
  joined_arrays (r ∷ rest) tasks m = joined_arrays rest tasks (assign r.0 (joined_with share r.0 r.1 (scalar_at m r.0) tasks) m)

  pub joined_printed : (rs : List (ℕ × Fold)) (tasks : List T) (m : Memory) → (with_joined share rs tasks m).printed ≡ m.printed
  joined_printed [] tasks m = refl
  joined_printed (r ∷ rest) tasks m = joined_printed rest tasks (assign r.0 (joined_with share r.0 r.1 (scalar_at m r.0) tasks) m)

  pub joined_depth : (rs : List (ℕ × Fold)) (tasks : List T) (m : Memory) → length (with_joined share rs tasks m).scalars ≡ length m.scalars
  joined_depth [] tasks m = refl
  joined_depth (r ∷ rest) tasks m =
      let v = joined_with share r.0 r.1 (scalar_at m r.0) tasks in
      joined_depth rest tasks (assign r.0 v m) ∙ length-set m.scalars r.0 v

  -- a scalar that is no reduction is as it was
  pub joined_other : (rs : List (ℕ × Fold)) (tasks : List T) (m : Memory) (id : ℕ) → ((f : Fold) → Contains rs (id, f) → ⊥)
      → scalar_at (with_joined share rs tasks m) id ≡ scalar_at m id
  joined_other [] tasks m id others = refl
  joined_other (r ∷ rest) tasks m id others =
      let v = joined_with share r.0 r.1 (scalar_at m r.0) tasks in
      joined_other rest tasks (assign r.0 v m) id (λ f has. others f (suc has.0, omega (arith, has.1), has.2))
      ∙ get_or-set_other m.scalars r.0 id v (pos 0) (λ (is : id ≡ r.0). others r.1 (0, omega arith, λ i. (sym is i, r.1)))

  -- and each reduction is joined
  pub joined_there : (rs : List (ℕ × Fold)) (tasks : List T) (m : Memory) → AreApart rs → AreThere rs m.scalars → (k id : ℕ) (f : Fold) → k < length rs
      → slice_index_or rs k (id, f) ≡ (id, f) → scalar_at (with_joined share rs tasks m) id ≡ joined_with share id f (scalar_at m id) tasks
  joined_there [] tasks m apart there k id f below is = absurd (omega (arith, below))
  joined_there (r ∷ rest) tasks m apart there zero id f below is =
      let v = joined_with share r.0 r.1 (scalar_at m r.0) tasks in
      let own : scalar_at (with_joined share (r ∷ rest) tasks m) r.0 ≡ v =
      joined_other rest tasks (assign r.0 v m) r.0
      (λ g has. apart 0 (suc has.0) (r.0, g) (omega arith) (omega (arith, has.1)) (sym (ap (λ (q : ℕ × Fold). q.0) has.2)))
      ∙ get_or-set_same m.scalars r.0 v (pos 0) (there 0 r (omega arith))
      in
      subst (λ (q : ℕ × Fold). scalar_at (with_joined share (r ∷ rest) tasks m) q.0 ≡ joined_with share q.0 q.1 (scalar_at m q.0) tasks) is own
  joined_there (r ∷ rest) tasks m apart there (suc k) id f below is =
      let v = joined_with share r.0 r.1 (scalar_at m r.0) tasks in
      let other : id ≢ r.0 =
      λ (e : id ≡ r.0). apart 0 (suc k) (id, f) (omega arith) below (sym e ∙ sym (ap (λ (q : ℕ × Fold). q.0) is))
      in
      joined_there rest tasks (assign r.0 v m) (λ i j d less within. apart (suc i) (suc j) d (omega (arith, less)) (omega (arith, within)))
      (λ j d within. subst (λ n. (slice_index_or rest j d).0 < n) (sym (length-set m.scalars r.0 v)) (there (suc j) d (omega (arith, within))))
      k id f (omega (arith, below)) is
      ∙ ap (λ (now : ℤ). joined_with share id f now tasks) (get_or-set_other m.scalars r.0 id v (pos 0) other)

  -- with the value of one more task
  pub joined_on : (id : ℕ) (f : Fold) (now : ℤ) (tasks : List T) (i : ℕ) (x : T) → i < length tasks → slice_index_or tasks i x ≡ x
      → joined_with share id f now (drop i tasks) ≡ joined_with share id f (join_of f now (own_scalar id (share x))) (drop (i + 1) tasks)
  joined_on id f now tasks i x below is =
      at_drop_more (λ (xs : List T). joined_with share id f now xs) tasks i x below
      ∙ ap (λ (y : T). joined_with share id f (join_of f now (own_scalar id (share y))) (drop (i + 1) tasks)) is

  -- with what the tasks saw
  pub joined_seen : (id : ℕ) (f : Fold) (now : ℤ) (m : Memory) (tasks : List T)
      → joined_with share id f now tasks ≡ joined_all f now (map (λ (v : Memory). scalar_at v id) (views_of share m tasks))
  joined_seen id f now m [] = refl
  joined_seen id f now m (x ∷ rest) = joined_seen id f (join_of f now (own_scalar id (share x))) m rest

  -- so the gathered store is settled from what the tasks saw
  pub gathered_settles : (rs : List (ℕ × Fold)) (tasks : List T) (m : Memory) → AreApart rs → AreThere rs m.scalars
      → IsSettledFrom m rs (views_of share m tasks) (gathered share rs tasks m)
  gathered_settles rs tasks m apart there =
      let base = with_changes share m tasks m in
      let scalars : base.scalars ≡ m.scalars = changes_scalars m m tasks in
      let arrays = joined_arrays rs tasks base in
      record {
        depth = joined_depth rs tasks base ∙ ap (λ (xs : List ℤ). length xs) scalars;
        scalars = λ id below others. joined_other rs tasks base id others ∙ ap (λ (xs : List ℤ). slice_index_or xs id (pos 0)) scalars;
        reduced = λ id f has.
            joined_there rs tasks base apart (subst (AreThere rs) (sym scalars) there) has.0 id f has.1 has.2
            ∙ ap (λ (xs : List ℤ). joined_with share id f (slice_index_or xs id (pos 0)) tasks) scalars
            ∙ joined_seen id f (scalar_at m id) m tasks;
        arrays = ap (λ (xs : List (List ℤ)). length xs) arrays ∙ changes_many m m tasks;
        sizes = λ array. ap (λ (xs : List (List ℤ)). length (slice_index_or xs array [])) arrays ∙ changes_long m m tasks array;
        cells = λ array place. ap (λ (xs : List (List ℤ)). slice_index_or (slice_index_or xs array []) place (pos 0)) arrays ∙ cells_settled m tasks array place;
        printed = joined_printed rs tasks base ∙ changes_printed m m tasks;
      }

  -- what tasks have written, changed task after task

  -- so many of the first tasks are changed in this way, and the others are as they were
  abbrev pub AreChangedBelow : ℕ → ((ℕ → ℕ → Option ℤ) → ℕ → ℕ → Option ℤ) → List T → List T → Type 0
  AreChangedBelow zero f xs ys = xs ≡ ys
  AreChangedBelow (suc n) f [] [] = Unit {0}
  AreChangedBelow (suc n) f [] (y ∷ ys) = ⊥
  AreChangedBelow (suc n) f (x ∷ xs) [] = ⊥
  AreChangedBelow (suc n) f (x ∷ xs) (y ∷ ys) =
      ((share y).scalars ≡ (share x).scalars) × ((share y).printed ≡ (share x).printed)
      × (over_of (share y).written ≡ f (over_of (share x).written)) × AreChangedBelow n f xs ys

  -- with one more
  next_changed : (n : ℕ) (f : (ℕ → ℕ → Option ℤ) → ℕ → ℕ → Option ℤ) (xs ys : List T) (x y : T) → n < length ys → get_or ys n x ≡ x → (share y).scalars ≡ (share x).scalars
      → (share y).printed ≡ (share x).printed → over_of (share y).written ≡ f (over_of (share x).written) → AreChangedBelow n f xs ys → AreChangedBelow (suc n) f xs (set ys n y)
  next_changed n f xs [] x y below is same prints written h = absurd (omega (arith, below))
  next_changed zero f xs (z ∷ ys) x y below is same prints written h =
      subst (λ (zs : List T). AreChangedBelow 1 f zs (y ∷ ys)) (sym h)
      ((same ∙ ap (λ (t : T). (share t).scalars) (sym is), prints ∙ ap (λ (t : T). (share t).printed) (sym is), written ∙ ap (λ (t : T). f (over_of (share t).written)) (sym is), refl))
  next_changed (suc n) f [] (z ∷ ys) x y below is same prints written h = absurd h
  next_changed (suc n) f (w ∷ xs) (z ∷ ys) x y below is same prints written h =
      (h.0, h.1, h.2, next_changed n f xs ys x y (omega (arith, below)) is same prints written h.3)

  pub changed_on : (n : ℕ) (f : (ℕ → ℕ → Option ℤ) → ℕ → ℕ → Option ℤ) (xs ys : List T) (x y : T) → n < length ys → get_or ys n x ≡ x → (share y).scalars ≡ (share x).scalars
      → (share y).printed ≡ (share x).printed → over_of (share y).written ≡ f (over_of (share x).written) → AreChangedBelow n f xs ys → AreChangedBelow (n + 1) f xs (set ys n y)
  changed_on n f xs ys x y below is same prints written h =
      subst (λ (k : ℕ). AreChangedBelow k f xs (set ys n y)) (let e : suc n ≡ n + 1 = omega arith in e) (next_changed n f xs ys x y below is same prints written h)

  -- and all of them
  pub all_changed : (n : ℕ) (f : (ℕ → ℕ → Option ℤ) → ℕ → ℕ → Option ℤ) (xs ys : List T) → length ys ≤ n → AreChangedBelow n f xs ys → AreChanged share f xs ys
  all_changed zero f [] [] past h = tt
  all_changed zero f (x ∷ xs) [] past h = absurd (cc)
  all_changed zero f xs (y ∷ ys) past h = absurd (omega (arith, past))
  all_changed (suc n) f [] [] past h = tt
  all_changed (suc n) f [] (y ∷ ys) past h = absurd h
  all_changed (suc n) f (x ∷ xs) [] past h = absurd h
  all_changed (suc n) f (x ∷ xs) (y ∷ ys) past h = (h.0, h.1, h.2, all_changed n f xs ys (omega (arith, past)) h.3)

  -- the first task is as it was, and so many tasks without one behind it are changed in this way
  abbrev pub AreChangedBehindBelow : ℕ → ((ℕ → ℕ → Option ℤ) → ℕ → ℕ → Option ℤ) → List T → List T → Type 0
  AreChangedBehindBelow zero f xs ys = ⊥
  AreChangedBehindBelow (suc n) f [] [] = Unit {0}
  AreChangedBehindBelow (suc n) f [] (y ∷ ys) = ⊥
  AreChangedBehindBelow (suc n) f (x ∷ xs) [] = ⊥
  AreChangedBehindBelow (suc n) f (x ∷ xs) (y ∷ ys) = (y ≡ x) × AreChangedBelow n f xs ys

  pub rest_begins : (f : (ℕ → ℕ → Option ℤ) → ℕ → ℕ → Option ℤ) (xs : List T) → AreChangedBehindBelow 1 f xs xs
  rest_begins f [] = tt
  rest_begins f (x ∷ xs) = (refl, refl)

  -- with one more
  next_of_rest : (n : ℕ) (f : (ℕ → ℕ → Option ℤ) → ℕ → ℕ → Option ℤ) (xs ys : List T) (x y : T) → n < length ys → get_or ys n x ≡ x → (share y).scalars ≡ (share x).scalars
      → (share y).printed ≡ (share x).printed → over_of (share y).written ≡ f (over_of (share x).written) → AreChangedBehindBelow n f xs ys → AreChangedBehindBelow (suc n) f xs (set ys n y)
  next_of_rest zero f xs ys x y below is same prints written h = absurd h
  next_of_rest (suc n) f [] [] x y below is same prints written h = absurd (omega (arith, below))
  next_of_rest (suc n) f [] (z ∷ ys) x y below is same prints written h = absurd h
  next_of_rest (suc n) f (w ∷ xs) [] x y below is same prints written h = absurd h
  next_of_rest (suc n) f (w ∷ xs) (z ∷ ys) x y below is same prints written h =
      (h.0, next_changed n f xs ys x y (omega (arith, below)) is same prints written h.1)

  pub rest_on : (n : ℕ) (f : (ℕ → ℕ → Option ℤ) → ℕ → ℕ → Option ℤ) (xs ys : List T) (x y : T) → n < length ys → get_or ys n x ≡ x → (share y).scalars ≡ (share x).scalars
      → (share y).printed ≡ (share x).printed → over_of (share y).written ≡ f (over_of (share x).written) → AreChangedBehindBelow n f xs ys → AreChangedBehindBelow (n + 1) f xs (set ys n y)
  rest_on n f xs ys x y below is same prints written h =
      subst (λ (k : ℕ). AreChangedBehindBelow k f xs (set ys n y)) (let e : suc n ≡ n + 1 = omega arith in e) (next_of_rest n f xs ys x y below is same prints written h)

  -- and all of them
  pub all_rest : (n : ℕ) (f : (ℕ → ℕ → Option ℤ) → ℕ → ℕ → Option ℤ) (xs ys : List T) → length ys ≤ n → AreChangedBehindBelow n f xs ys → AreChangedBehind share f xs ys
  all_rest zero f xs ys past h = absurd h
  all_rest (suc n) f [] [] past h = tt
  all_rest (suc n) f [] (y ∷ ys) past h = absurd h
  all_rest (suc n) f (x ∷ xs) [] past h = absurd h
  all_rest (suc n) f (x ∷ xs) (y ∷ ys) past h = (h.0, all_changed n f xs ys (omega (arith, past)) h.1)

  -- what tasks have written, once the store's own values are forgotten

  -- so many of the first tasks have only what isn't in the store already, and the others are as they were
  abbrev pub AreLeftBelow : ℕ → Memory → List T → List T → Type 0
  AreLeftBelow n m xs ys = AreChangedBelow n (changes_of m) xs ys

  pub left_on : (n : ℕ) (m : Memory) (xs ys : List T) (x y : T) → n < length ys → get_or ys n x ≡ x → (share y).scalars ≡ (share x).scalars → (share y).printed ≡ (share x).printed
      → over_of (share y).written ≡ changes_of m (over_of (share x).written) → AreLeftBelow n m xs ys → AreLeftBelow (n + 1) m xs (set ys n y)
  left_on n m xs ys x y = changed_on n (changes_of m) xs ys x y

  pub all_left : (n : ℕ) (m : Memory) (xs ys : List T) → length ys ≤ n → AreLeftBelow n m xs ys → AreLeft share m xs ys
  all_left n m xs ys = all_changed n (changes_of m) xs ys

  -- what is left, written into a store, is what the tasks have changed
  pub left_written : (was m : Memory) (tasks left : List T) → AreLeft share was tasks left → with_written share left m ≡ with_changes share was tasks m
  left_written was m [] [] h = refl
  left_written was m [] (y ∷ ys) h = absurd h
  left_written was m (x ∷ xs) [] h = absurd h
  left_written was m (x ∷ xs) (y ∷ ys) h =
      left_written was (under (over_of (share y).written) m) xs ys h.3
      ∙ ap (λ (over : ℕ → ℕ → Option ℤ). with_changes share was xs (under over m)) h.2

  -- and their scalars are joined as before
  left_joined : (was : Memory) (id : ℕ) (f : Fold) (now : ℤ) (tasks left : List T) → AreLeft share was tasks left → joined_with share id f now left ≡ joined_with share id f now tasks
  left_joined was id f now [] [] h = refl
  left_joined was id f now [] (y ∷ ys) h = absurd h
  left_joined was id f now (x ∷ xs) [] h = absurd h
  left_joined was id f now (x ∷ xs) (y ∷ ys) h =
      left_joined was id f (join_of f now (own_scalar id (share y))) xs ys h.3
      ∙ ap (λ (vs : List ℤ). joined_with share id f (join_of f now (slice_index_or vs id (pos 0))) xs) h.0

  pub left_joins : (was m : Memory) (rs : List (ℕ × Fold)) (tasks left : List T) → AreLeft share was tasks left → with_joined share rs left m ≡ with_joined share rs tasks m
  left_joins was m [] tasks left h = refl
  left_joins was m (r ∷ rest) tasks left h =
      left_joins was (assign r.0 (joined_with share r.0 r.1 (scalar_at m r.0) left) m) rest tasks left h
      ∙ ap (λ (v : ℤ). with_joined share rest tasks (assign r.0 v m)) (left_joined was r.0 r.1 (scalar_at m r.0) tasks left h)

  -- the first task is as it was, and so many tasks without one behind it have only what isn't in the store already
  abbrev pub AreLeftBehindBelow : ℕ → Memory → List T → List T → Type 0
  AreLeftBehindBelow n m xs ys = AreChangedBehindBelow n (changes_of m) xs ys

  pub behind_begins : (m : Memory) (xs : List T) → AreLeftBehindBelow 1 m xs xs
  behind_begins m xs = rest_begins (changes_of m) xs

  pub behind_on : (n : ℕ) (m : Memory) (xs ys : List T) (x y : T) → n < length ys → get_or ys n x ≡ x → (share y).scalars ≡ (share x).scalars → (share y).printed ≡ (share x).printed
      → over_of (share y).written ≡ changes_of m (over_of (share x).written) → AreLeftBehindBelow n m xs ys → AreLeftBehindBelow (n + 1) m xs (set ys n y)
  behind_on n m xs ys x y = rest_on n (changes_of m) xs ys x y

  pub all_behind : (n : ℕ) (m : Memory) (xs ys : List T) → length ys ≤ n → AreLeftBehindBelow n m xs ys → AreLeftBehind share m xs ys
  all_behind n m xs ys = all_rest n (changes_of m) xs ys

  -- what is left then, written into the store, is what the tasks have changed, since what the first one wrote of the store's own changes nothing
  behind_written : (m : Memory) (tasks left : List T) → AreLeftBehind share m tasks left → with_written share left m ≡ with_changes share m tasks m
  behind_written m [] [] h = refl
  behind_written m [] (y ∷ ys) h = absurd h
  behind_written m (x ∷ xs) [] h = absurd h
  behind_written m (x ∷ xs) (y ∷ ys) h =
      left_written m (under (over_of (share y).written) m) xs ys h.1
      ∙ ap (λ (t : T). with_changes share m xs (under (over_of (share t).written) m)) h.0
      ∙ ap (with_changes share m xs) (sym (unchanged_under m (over_of (share x).written)))

  -- and their scalars are joined as before
  behind_joined : (was : Memory) (id : ℕ) (f : Fold) (now : ℤ) (tasks left : List T) → AreLeftBehind share was tasks left → joined_with share id f now left ≡ joined_with share id f now tasks
  behind_joined was id f now [] [] h = refl
  behind_joined was id f now [] (y ∷ ys) h = absurd h
  behind_joined was id f now (x ∷ xs) [] h = absurd h
  behind_joined was id f now (x ∷ xs) (y ∷ ys) h =
      left_joined was id f (join_of f now (own_scalar id (share y))) xs ys h.1
      ∙ ap (λ (t : T). joined_with share id f (join_of f now (own_scalar id (share t))) xs) h.0

  behind_joins : (was m : Memory) (rs : List (ℕ × Fold)) (tasks left : List T) → AreLeftBehind share was tasks left → with_joined share rs left m ≡ with_joined share rs tasks m
  behind_joins was m [] tasks left h = refl
  behind_joins was m (r ∷ rest) tasks left h =
      behind_joins was (assign r.0 (joined_with share r.0 r.1 (scalar_at m r.0) left) m) rest tasks left h
      ∙ ap (λ (v : ℤ). with_joined share rest tasks (assign r.0 v m)) (behind_joined was r.0 r.1 (scalar_at m r.0) tasks left h)

  -- so the scalar of each reduction is still there, and the store is gathered
  pub still_there : (rs : List (ℕ × Fold)) (m : Memory) (tasks left : List T) → AreLeftBehind share m tasks left → AreThere rs m.scalars
      → AreThere rs (with_written share left m).scalars
  still_there rs m tasks left h there =
      subst (AreThere rs) (sym (ap (λ (s : Memory). s.scalars) (behind_written m tasks left h) ∙ changes_scalars m m tasks)) there

  pub left_gathered : (rs : List (ℕ × Fold)) (m : Memory) (tasks left : List T) → AreLeftBehind share m tasks left
      → with_joined share rs left (with_written share left m) ≡ gathered share rs tasks m
  left_gathered rs m tasks left h =
      ap (with_joined share rs left) (behind_written m tasks left h) ∙ behind_joins m (with_changes share m tasks m) rs tasks left h
