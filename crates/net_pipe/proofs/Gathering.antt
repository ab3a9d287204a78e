-- What a pipeline's tasks leave together beside a store, and the store that is settled from it.
use Rattle.std.proofs.Common.{◌≡◌, ◌≢◌, ◌⊎◌, inl, inr, ℕ, zero, suc, ◌<◌, ◌≤◌, ◌+◌, ◌-◌, ◌==◌, ◌||◌, Bool, true, false, if◌then◌else◌, ℤ, pos, List, [], ◌∷◌, ◌++◌, length, map, drop, slice_index_or, refl, sym, ap, subst, ◌∙◌, arith}
use Rattle.std.specs.Prelude.{Contains}
use Rattle.std.specs.List.{flat_map}
use Rattle.std.specs.Ordering.{int_eq}
use Rattle.std.proofs.Math.Seq.{drop-append_seam}
use Rattle.std.proofs.lemmas.Bool.{cases_eq, ne_eqb}
use Rattle.std.proofs.lemmas.List.{length-set, get_or-set_same, get_or-set_other, at_drop_more}
use Rattle.nona_num.specs.declared.folds.Fold.{Fold}
use Rattle.nona_store.specs.Overlays.{over_of, under, changes_of, arrays_under}
use Rattle.nona_tree.specs.Memory.{Memory, scalar_at, assign}
use Rattle.net_share.specs.Begins.{AreThere, AreApart}
use Rattle.net_share.specs.Gathered.{views_of, AreLeft, with_written, with_changes, own_scalar, joined_with, with_joined}
use Rattle.net_share.specs.Settled.{settled_cell}
use Rattle.net_share.proofs.Gathering.{changes_scalars, changes_printed, changes_many, changes_long, cells_settled, joined_arrays, joined_printed, joined_depth, joined_other, joined_there, joined_seen, left_written, left_joins}
use Rattle.net_pipe.specs.Settled.{printed_behind, IsSettledFromStages}
use Rattle.net_pipe.specs.Gathered.{values_of, is_reduced, with_scalar, with_scalars, scalars_settled, all_printed, brought_together}
use Rattle.net_pipe.specs.Tasks.{TaskView, share_of}

-- one more task's value of a scalar
pub changed_on : (id : ℕ) (was now : ℤ) (tasks : List TaskView) (i : ℕ) (x : TaskView) → i < length tasks → slice_index_or tasks i x ≡ x
    → settled_cell was now (values_of id (drop i tasks))
    ≡ settled_cell was (if int_eq (own_scalar id x.share) was then now else own_scalar id x.share) (values_of id (drop (i + 1) tasks))
changed_on id was now tasks i x below is =
    at_drop_more (λ (xs : List TaskView). settled_cell was now (values_of id xs)) tasks i x below
    ∙ ap (λ (y : TaskView). settled_cell was (if int_eq (own_scalar id y.share) was then now else own_scalar id y.share) (values_of id (drop (i + 1) tasks))) is

-- scalars

either_arrays : (b : Bool) (m r : Memory) → r.arrays ≡ m.arrays → (if b then m else r).arrays ≡ m.arrays
either_arrays true m r e = refl
either_arrays false m r e = e

either_printed : (b : Bool) (m r : Memory) → r.printed ≡ m.printed → (if b then m else r).printed ≡ m.printed
either_printed true m r e = refl
either_printed false m r e = e

either_depth : (b : Bool) (m r : Memory) → length r.scalars ≡ length m.scalars → length (if b then m else r).scalars ≡ length m.scalars
either_depth true m r e = refl
either_depth false m r e = e

either_scalar : (b : Bool) (m r : Memory) (x : ℕ) → scalar_at r x ≡ scalar_at m x → scalar_at (if b then m else r) x ≡ scalar_at m x
either_scalar true m r x e = refl
either_scalar false m r x e = e

module _ (rs : List (ℕ × Fold)) (tasks : List TaskView) where
  scalars_arrays : (id left : ℕ) (m : Memory) → (with_scalars rs tasks id left m).arrays ≡ m.arrays
  scalars_arrays id zero m = refl
  scalars_arrays id (suc left) m =
      scalars_arrays (id + 1) left (with_scalar rs tasks id m) ∙ either_arrays (is_reduced id rs) m (assign id (settled_cell (scalar_at m id) (scalar_at m id) (values_of id tasks)) m) refl

  scalars_printed : (id left : ℕ) (m : Memory) → (with_scalars rs tasks id left m).printed ≡ m.printed
  scalars_printed id zero m = refl
  scalars_printed id (suc left) m =
      scalars_printed (id + 1) left (with_scalar rs tasks id m) ∙ either_printed (is_reduced id rs) m (assign id (settled_cell (scalar_at m id) (scalar_at m id) (values_of id tasks)) m) refl

  pub one_depth : (id : ℕ) (m : Memory) → length (with_scalar rs tasks id m).scalars ≡ length m.scalars
  one_depth id m =
      let v = settled_cell (scalar_at m id) (scalar_at m id) (values_of id tasks) in
      either_depth (is_reduced id rs) m (assign id v m) (length-set m.scalars id v)

  pub scalars_depth : (id left : ℕ) (m : Memory) → length (with_scalars rs tasks id left m).scalars ≡ length m.scalars
  scalars_depth id zero m = refl
  scalars_depth id (suc left) m = scalars_depth (id + 1) left (with_scalar rs tasks id m) ∙ one_depth id m

  -- one more scalar
  pub scalars_on : (id n : ℕ) (m : Memory) → id < n → with_scalars rs tasks (id + 1) (n - (id + 1)) (with_scalar rs tasks id m) ≡ with_scalars rs tasks id (n - id) m
  scalars_on id n m below = sym (ap (λ (k : ℕ). with_scalars rs tasks id k m) (let e : n - id ≡ suc (n - (id + 1)) = omega (arith, below) in e))

  -- another scalar is as it was
  one_other : (id x : ℕ) (m : Memory) → x ≢ id → scalar_at (with_scalar rs tasks id m) x ≡ scalar_at m x
  one_other id x m off =
      let v = settled_cell (scalar_at m id) (scalar_at m id) (values_of id tasks) in
      either_scalar (is_reduced id rs) m (assign id v m) x (get_or-set_other m.scalars id x v (pos 0) off)

  -- so is each below these
  scalars_below : (id left x : ℕ) (m : Memory) → x < id → scalar_at (with_scalars rs tasks id left m) x ≡ scalar_at m x
  scalars_below id zero x m below = refl
  scalars_below id (suc left) x m below =
      scalars_below (id + 1) left x (with_scalar rs tasks id m) (omega (arith, below)) ∙ one_other id x m (λ (e : x ≡ id). omega (arith, below, e))

  -- what a scalar becomes
  abbrev becomes : Bool → ℕ → ℤ → ℤ
  becomes b x was = if b then was else settled_cell was was (values_of x tasks)

  one_here : (b : Bool) (id : ℕ) (m : Memory) → id < length m.scalars → is_reduced id rs ≡ b → scalar_at (with_scalar rs tasks id m) id ≡ becomes b id (scalar_at m id)
  one_here b id m within is =
      let v = settled_cell (scalar_at m id) (scalar_at m id) (values_of id tasks) in
      ap (λ (q : Bool). scalar_at (if q then m else assign id v m) id) is ∙ by b where
        by : (q : Bool) → scalar_at (if q then m else assign id (settled_cell (scalar_at m id) (scalar_at m id) (values_of id tasks)) m) id ≡ becomes q id (scalar_at m id)
        by true = refl
        by false = get_or-set_same m.scalars id (settled_cell (scalar_at m id) (scalar_at m id) (values_of id tasks)) (pos 0) within

  scalars_here : (b : Bool) (id left x : ℕ) (m : Memory) → id ≤ x → x < id + left → id + left ≤ length m.scalars → is_reduced x rs ≡ b
      → scalar_at (with_scalars rs tasks id left m) x ≡ becomes b x (scalar_at m x)
  scalars_here b id zero x m above below within is = absurd (omega (arith, above, below))
  scalars_here b id (suc left) x m above below within is =
      by (cases_eq x id) (λ more less. scalars_here b (id + 1) left x (with_scalar rs tasks id m) more less depth is) where
        depth : id + 1 + left ≤ length (with_scalar rs tasks id m).scalars
        depth = let e = one_depth id m in omega (arith, e, within)

        by : (x ≡ id) ⊎ (x ≢ id) → (id + 1 ≤ x → x < id + 1 + left → scalar_at (with_scalars rs tasks (id + 1) left (with_scalar rs tasks id m)) x ≡ becomes b x (scalar_at (with_scalar rs tasks id m) x))
            → scalar_at (with_scalars rs tasks id (suc left) m) x ≡ becomes b x (scalar_at m x)
        by (inl same) later =
            scalars_below (id + 1) left x (with_scalar rs tasks id m) (omega (arith, same))
            ∙ subst (λ (i : ℕ). scalar_at (with_scalar rs tasks i m) x ≡ becomes b x (scalar_at m x)) same (one_here b x m (omega (arith, same, within)) is)
        by (inr off) later =
            later (omega (arith, above, off)) (omega (arith, below))
            ∙ ap (becomes b x) (one_other id x m off)

-- tasks that have only what isn't in the store already have the same scalars, and have printed the same

left_values : (m : Memory) (id : ℕ) (xs ys : List TaskView) → AreLeft share_of m xs ys → values_of id ys ≡ values_of id xs
left_values m id [] [] h = refl
left_values m id [] (y ∷ ys) h = absurd h
left_values m id (x ∷ xs) [] h = absurd h
left_values m id (x ∷ xs) (y ∷ ys) h = λ i. slice_index_or (h.0 i) id (pos 0) ∷ left_values m id xs ys h.3 i

left_printed : (m : Memory) (xs ys : List TaskView) → AreLeft share_of m xs ys → all_printed ys ≡ all_printed xs
left_printed m [] [] h = refl
left_printed m [] (y ∷ ys) h = absurd h
left_printed m (x ∷ xs) [] h = absurd h
left_printed m (x ∷ xs) (y ∷ ys) h = λ i. h.1 i ++ left_printed m xs ys h.3 i

-- what the tasks saw

seen_values : (m : Memory) (id : ℕ) (xs : List TaskView) → values_of id xs ≡ map (λ (v : Memory). scalar_at v id) (views_of share_of m xs)
seen_values m id [] = refl
seen_values m id (x ∷ xs) = ap (λ (vs : List ℤ). own_scalar id x.share ∷ vs) (seen_values m id xs)

seen_printed : (m : Memory) (xs : List TaskView) → all_printed xs ≡ flat_map (printed_behind m) (views_of share_of m xs)
seen_printed m [] = refl
seen_printed m (x ∷ xs) = λ i. sym (drop-append_seam m.printed x.share.printed) i ++ seen_printed m xs i

-- the changes of arrays depend on arrays alone
changes_arrays : (was : Memory) (tasks : List TaskView) (m r : Memory) → m.arrays ≡ r.arrays → (with_changes share_of was tasks m).arrays ≡ (with_changes share_of was tasks r).arrays
changes_arrays was [] m r e = e
changes_arrays was (x ∷ rest) m r e =
    let over = changes_of was (over_of x.share.written) in
    changes_arrays was rest (under over m) (under over r) (ap (arrays_under over 0) e)

-- whether a scalar is one of the reductions
by_id : (id a : ℕ) → id ≡ a → (a == id) ≡ true
by_id id a e = grind (arith, e)

or_first : (a b : Bool) → a ≡ true → (a || b) ≡ true
or_first true b e = refl
or_first false b e = cc

or_second : (a b : Bool) → b ≡ true → (a || b) ≡ true
or_second true b e = refl
or_second false b e = e

is_found : (rs : List (ℕ × Fold)) (id : ℕ) (f : Fold) (k : ℕ) → k < length rs → slice_index_or rs k (id, f) ≡ (id, f) → is_reduced id rs ≡ true
is_found [] id f k below is = absurd (omega (arith, below))
is_found (r ∷ rs) id f zero below is = or_first (r.0 == id) (is_reduced id rs) (by_id id r.0 (sym (ap (λ (q : ℕ × Fold). q.0) is)))
is_found (r ∷ rs) id f (suc k) below is = or_second (r.0 == id) (is_reduced id rs) (is_found rs id f k (omega (arith, below)) is)

not_found : (rs : List (ℕ × Fold)) (id : ℕ) → ((f : Fold) → Contains rs (id, f) → ⊥) → is_reduced id rs ≡ false
not_found [] id others = refl
not_found (r ∷ rs) id others = by (not_found rs id (λ f has. others f (suc has.0, omega (arith, has.1), has.2))) (cases_eq r.0 id) where
  other : r.0 ≢ id → (r.0 == id) ≡ false
  other off = ne_eqb r.0 id off

  by : is_reduced id rs ≡ false → (r.0 ≡ id) ⊎ (r.0 ≢ id) → (r.0 == id || is_reduced id rs) ≡ false
  by rest (inl same) = absurd (others r.1 (0, omega arith, λ i. (same i, r.1)))
  by rest (inr off) = ap (λ (b : Bool). b || is_reduced id rs) (other off) ∙ rest

-- the settled store
module _ (rs : List (ℕ × Fold)) (tasks left : List TaskView) (m : Memory) (apart : AreApart rs) (there : AreThere rs m.scalars) (h : AreLeft share_of m tasks left) where
  abbrev first : Memory
  first = scalars_settled rs left m

  abbrev base : Memory
  base = with_changes share_of m tasks first

  abbrev joined : Memory
  joined = with_joined share_of rs left (with_written share_of left first)

  is_joined : joined ≡ with_joined share_of rs tasks base
  is_joined =
      ap (with_joined share_of rs left) (left_written share_of m first tasks left h) ∙ left_joins share_of m base rs tasks left h

  base_scalars : base.scalars ≡ first.scalars
  base_scalars = changes_scalars share_of m first tasks

  base_arrays : base.arrays ≡ (with_changes share_of m tasks m).arrays
  base_arrays = changes_arrays m tasks first m (scalars_arrays rs left 0 (length m.scalars) m)

  first_depth : length first.scalars ≡ length m.scalars
  first_depth = scalars_depth rs left 0 (length m.scalars) m

  still : AreThere rs base.scalars
  still = λ k d within. let a = there k d within in let b = ap (λ (xs : List ℤ). length xs) base_scalars in omega (arith, a, b, first_depth)

  -- the scalars of reductions are still there before these are joined
  pub still_there : AreThere rs (with_written share_of left first).scalars
  still_there = subst (AreThere rs) (ap (λ (r : Memory). r.scalars) (sym (left_written share_of m first tasks left h))) still

  at_first : (b : Bool) (id : ℕ) → id < length m.scalars → is_reduced id rs ≡ b → scalar_at base id ≡ becomes rs left b id (scalar_at m id)
  at_first b id below is =
      ap (λ (xs : List ℤ). slice_index_or xs id (pos 0)) base_scalars ∙ scalars_here rs left b 0 (length m.scalars) id m (omega arith) (omega (arith, below)) (omega arith) is

  arrays_are : joined.arrays ≡ (with_changes share_of m tasks m).arrays
  arrays_are = ap (λ (r : Memory). r.arrays) is_joined ∙ joined_arrays share_of rs tasks base ∙ base_arrays

  pub settles : IsSettledFromStages m rs (views_of share_of m tasks) (brought_together rs left m)
  settles = record {
    depth = ap (λ (r : Memory). length r.scalars) is_joined ∙ joined_depth share_of rs tasks base ∙ ap (λ (xs : List ℤ). length xs) base_scalars ∙ first_depth;
    scalars = λ id below others.
        ap (λ (r : Memory). scalar_at r id) is_joined ∙ joined_other share_of rs tasks base id others
        ∙ at_first false id below (not_found rs id others)
        ∙ ap (settled_cell (scalar_at m id) (scalar_at m id)) (left_values m id tasks left h ∙ seen_values m id tasks);
    reduced = λ id f has.
        let within : id < length m.scalars = subst (λ (q : ℕ × Fold). q.0 < length m.scalars) has.2 (there has.0 (id, f) has.1) in
        ap (λ (r : Memory). scalar_at r id) is_joined ∙ joined_there share_of rs tasks base apart still has.0 id f has.1 has.2
        ∙ ap (λ (now : ℤ). joined_with share_of id f now tasks) (at_first true id within (is_found rs id f has.0 has.1 has.2))
        ∙ joined_seen share_of id f (scalar_at m id) m tasks;
    arrays = ap (λ (xs : List (List ℤ)). length xs) arrays_are ∙ changes_many share_of m m tasks;
    sizes = λ array. ap (λ (xs : List (List ℤ)). length (slice_index_or xs array [])) arrays_are ∙ changes_long share_of m m tasks array;
    cells = λ array place.
        ap (λ (xs : List (List ℤ)). slice_index_or (slice_index_or xs array []) place (pos 0)) arrays_are ∙ cells_settled share_of m tasks array place;
    printed = λ i. printed_same i ++ printed_more i;
  } where
    printed_same : joined.printed ≡ m.printed
    printed_same =
        ap (λ (r : Memory). r.printed) is_joined ∙ joined_printed share_of rs tasks base ∙ changes_printed share_of m first tasks ∙ scalars_printed rs left 0 (length m.scalars) m

    printed_more : all_printed left ≡ flat_map (printed_behind m) (views_of share_of m tasks)
    printed_more = left_printed m tasks left h ∙ seen_printed m tasks
