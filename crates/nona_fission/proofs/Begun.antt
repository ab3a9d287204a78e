-- The store with which each task begins, and what the tasks' reductions join to.
use Rattle.std.proofs.Common.{◌≡◌, ◌≢◌, ⊎_elim, ℕ, zero, suc, ◌<◌, ◌≤◌, ℤ, pos, List, [], ◌∷◌, ◌++◌, length, refl, sym, ap, ◌∙◌, subst, arith}
use Rattle.std.specs.Prelude.{Some, None}
use Rattle.std.specs.declared.option.Option.{Option}
use Rattle.std.proofs.lemmas.Bool.{cases_eq}
use Rattle.std.proofs.lemmas.List.{length-set, get_or-set_same, get_or-set_other}
use Rattle.std.proofs.lemmas.List.Elements.{All-set}
use Rattle.nona_num.specs.declared.folds.Fold.{Fold}
use Rattle.nona_num.specs.declared.folds.Fold.TheVariants.{Add, Mul, And, Or, Xor, Min, Max}
use Rattle.nona_num.specs.Folds.{unit_of, join_of}
use Rattle.nona_num.proofs.FoldLaws.{join_assoc, join_comm, join_unit, join_fits}
use Rattle.nona_tree.specs.declared.trees.Loop.{Loop}
use Rattle.nona_tree.specs.Memory.{Memory, scalar_at, assign}
use Rattle.nona_tree.specs.Numbers.{IsI64, AreI64}
use Rattle.nona_plans.specs.Mentions.{reduction_of}
use Rattle.nona_plans.specs.Units.{with_fold, reductions_below, reductions_of}
use Rattle.nona_fission.specs.Sharing.{with_units, joined_with}

pub unit_fits : (f : Fold) → IsI64 (unit_of f)
unit_fits Add = omega arith
unit_fits Mul = omega arith
unit_fits And = omega arith
unit_fits Or = omega arith
unit_fits Xor = omega arith
unit_fits Min = omega arith
unit_fits Max = omega arith

units_append : (xs ys : List (ℕ × Fold)) (m : Memory) → with_units (xs ++ ys) m ≡ with_units ys (with_units xs m)
units_append [] ys m = refl
units_append (r ∷ xs) ys m = units_append xs ys (assign r.0 (unit_of r.1) m)

-- the arrays and the printed numbers are as they were, and as many scalars stand
pub units_arrays : (xs : List (ℕ × Fold)) (m : Memory) → (with_units xs m).arrays ≡ m.arrays
units_arrays [] m = refl
units_arrays (r ∷ xs) m = units_arrays xs (assign r.0 (unit_of r.1) m)

pub units_printed : (xs : List (ℕ × Fold)) (m : Memory) → (with_units xs m).printed ≡ m.printed
units_printed [] m = refl
units_printed (r ∷ xs) m = units_printed xs (assign r.0 (unit_of r.1) m)

pub units_depth : (xs : List (ℕ × Fold)) (m : Memory) → length (with_units xs m).scalars ≡ length m.scalars
units_depth [] m = refl
units_depth (r ∷ xs) m = units_depth xs (assign r.0 (unit_of r.1) m) ∙ length-set m.scalars r.0 (unit_of r.1)

pub units_numbers : (xs : List (ℕ × Fold)) (m : Memory) → AreI64 m → AreI64 (with_units xs m)
units_numbers [] m h = h
units_numbers (r ∷ xs) m h =
    units_numbers xs (assign r.0 (unit_of r.1) m) (record { scalars = All-set IsI64 m.scalars r.0 (unit_of r.1) (unit_fits r.1) h.scalars; arrays = h.arrays; printed = h.printed })

-- what one more id does
last_other : (n x : ℕ) (o : Option Fold) (m : Memory) → x ≢ n → scalar_at (with_units (with_fold n o) m) x ≡ scalar_at m x
last_other n x None m apart = refl
last_other n x (Some f) m apart = get_or-set_other m.scalars n x (unit_of f) (pos 0) apart

same_unit : (g f : Fold) → Some g ≡ Some f → unit_of g ≡ unit_of f
same_unit g f e = cc

last_same : (n : ℕ) (f : Fold) (o : Option Fold) (m : Memory) → o ≡ Some f → n < length m.scalars → scalar_at (with_units (with_fold n o) m) n ≡ unit_of f
last_same n f None m e below = cc
last_same n f (Some g) m e below = get_or-set_same m.scalars n (unit_of g) (pos 0) below ∙ same_unit g f e

last_none : (n : ℕ) (o : Option Fold) (m : Memory) → o ≡ None → scalar_at (with_units (with_fold n o) m) n ≡ scalar_at m n
last_none n None m e = refl
last_none n (Some g) m e = cc

-- a reduction has its unit
units_below : (l : Loop) (f : Fold) (n x : ℕ) (m : Memory) → x < n → n ≤ length m.scalars → reduction_of l x ≡ Some f → scalar_at (with_units (reductions_below l n) m) x ≡ unit_of f
units_below l f zero x m below deep e = absurd (omega (arith, below))
units_below l f (suc n) x m below deep e =
    let before = with_units (reductions_below l n) m in
    ap (λ k. scalar_at k x) (units_append (reductions_below l n) (with_fold n (reduction_of l n)) m)
    ∙ ⊎_elim
    (λ (here : x ≡ n). subst (λ z. scalar_at (with_units (with_fold n (reduction_of l n)) before) z ≡ unit_of f) (sym here)
    (last_same n f (reduction_of l n) before (subst (λ z. reduction_of l z ≡ Some f) here e) (let same = units_depth (reductions_below l n) m in omega (arith, deep, same))))
    (λ (elsewhere : x ≡ n → ⊥). last_other n x (reduction_of l n) before elsewhere ∙ units_below l f n x m (omega (arith, below, elsewhere)) (omega (arith, deep)) e)
    (cases_eq x n)

pub unit_begins : (l : Loop) (f : Fold) (x : ℕ) (m : Memory) → x < l.index.id → l.index.id ≤ length m.scalars → reduction_of l x ≡ Some f → scalar_at (with_units (reductions_of l) m) x ≡ unit_of f
unit_begins l f x m below deep e = units_below l f l.index.id x m below deep e

-- any other scalar is as it was
others_below : (l : Loop) (n x : ℕ) (m : Memory) → reduction_of l x ≡ None → scalar_at (with_units (reductions_below l n) m) x ≡ scalar_at m x
others_below l zero x m e = refl
others_below l (suc n) x m e =
    let before = with_units (reductions_below l n) m in
    ap (λ k. scalar_at k x) (units_append (reductions_below l n) (with_fold n (reduction_of l n)) m)
    ∙ ⊎_elim
    (λ (here : x ≡ n). subst (λ z. scalar_at (with_units (with_fold n (reduction_of l n)) before) z ≡ scalar_at before z) (sym here)
    (last_none n (reduction_of l n) before (subst (λ z. reduction_of l z ≡ None) here e)))
    (λ (elsewhere : x ≡ n → ⊥). last_other n x (reduction_of l n) before elsewhere)
    (cases_eq x n)
    ∙ others_below l n x m e

pub other_begins : (l : Loop) (x : ℕ) (m : Memory) → reduction_of l x ≡ None → scalar_at (with_units (reductions_of l) m) x ≡ scalar_at m x
other_begins l x m e = others_below l l.index.id x m e

-- numbers that are joined

pub joined_fits : (f : Fold) (v : ℤ) (part : ℕ → ℤ) (tasks : ℕ) → IsI64 v → ((t : ℕ) → IsI64 (part t)) → IsI64 (joined_with f v part tasks)
joined_fits f v part zero h g = h
joined_fits f v part (suc t) h g = join_fits f (joined_with f v part t) (part t) (joined_fits f v part t h g) (g t)

-- units change nothing
pub joined_units : (f : Fold) (v : ℤ) (part : ℕ → ℤ) (tasks : ℕ) → IsI64 v → ((t : ℕ) → part t ≡ unit_of f) → joined_with f v part tasks ≡ v
joined_units f v part zero h g = refl
joined_units f v part (suc t) h g =
    ap (λ u. join_of f (joined_with f v part t) u) (g t) ∙ join_comm f (joined_with f v part t) (unit_of f)
    ∙ ap (join_of f (unit_of f)) (joined_units f v part t h g) ∙ join_unit f v h

pub joined_same : (f : Fold) (v : ℤ) (part more : ℕ → ℤ) (tasks : ℕ) → ((t : ℕ) → t < tasks → more t ≡ part t) → joined_with f v more tasks ≡ joined_with f v part tasks
joined_same f v part more zero g = refl
joined_same f v part more (suc t) g =
    ap (λ u. join_of f u (more t)) (joined_same f v part more t (λ j below. g j (omega (arith, below)))) ∙ ap (join_of f (joined_with f v part t)) (g t (omega arith))

pub swapped : (f : Fold) (a b c : ℤ) → IsI64 a → IsI64 b → IsI64 c → join_of f (join_of f a c) b ≡ join_of f (join_of f a b) c
swapped f a b c fa fb fc = join_assoc f a c b fa fc fb ∙ ap (join_of f a) (join_comm f c b) ∙ sym (join_assoc f a b c fa fb fc)

-- what one task joins to its own, all together have joined
pub joined_more : (f : Fold) (v c : ℤ) (part more : ℕ → ℤ) (tasks task : ℕ) → IsI64 v → IsI64 c → ((t : ℕ) → IsI64 (part t)) → task < tasks
    → more task ≡ join_of f (part task) c → ((t : ℕ) → t ≢ task → more t ≡ part t) → joined_with f v more tasks ≡ join_of f (joined_with f v part tasks) c
joined_more f v c part more zero task fv fc fp below own others = absurd (omega (arith, below))
joined_more f v c part more (suc t) task fv fc fp below own others =
    let before = joined_with f v part t in
    let fits = joined_fits f v part t fv fp in
    ⊎_elim
    (λ (here : task ≡ t).
    ap (λ u. join_of f u (more t)) (joined_same f v part more t (λ j less. others j (omega (arith, less, here))))
    ∙ ap (join_of f before) (subst (λ z. more z ≡ join_of f (part z) c) here own)
    ∙ sym (join_assoc f before (part t) c fits (fp t) fc))
    (λ (elsewhere : task ≡ t → ⊥).
    ap (λ u. join_of f u (more t)) (joined_more f v c part more t task fv fc fp (omega (arith, below, elsewhere)) own others)
    ∙ ap (join_of f (join_of f before c)) (others t (λ e. elsewhere (sym e)))
    ∙ swapped f before (part t) c fits (fp t) fc)
    (cases_eq task t)
