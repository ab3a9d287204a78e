-- The terms of an expression's form stand in order of id, each id once, and none of them is 0.
use Rattle.std.proofs.Common.{◌≡◌, ◌≢◌, ℕ, zero, suc, ◌+◌, ◌≤◌, ◌<◌, Bool, true, false, ℤ, pos, negsuc, ◌+ℤ◌, ◌*ℤ◌, List, [], ◌∷◌, map, refl, sym, subst, arith, if◌then◌else◌, nat_lt, Some, None, slice_index}
use Rattle.std.specs.List.{AllByRecursion}
use Rattle.std.specs.List.Sorted.{IsStrictlyIncreasing}
use Rattle.std.specs.declared.option.Option.{Option}
use Rattle.std.proofs.lemmas.Int.{ints}
use Rattle.nona_tree.specs.declared.trees.Op.{Op}
use Rattle.nona_tree.specs.declared.trees.Op.TheVariants as op
use Rattle.nona_tree.specs.declared.trees.Expr.{Expr, Number, Scalar, Cell', Len, Neg', Not', Binary', more_of-Expr, end_of-Expr}
use Rattle.nona_tree.specs.declared.trees.Expr.TheBlock.{more_of-Access, end_of-Access}
use Rattle.nona_tree.specs.Value.{is_zero}
use Rattle.nona_forms.specs.declared.terms.Term.{Term}
use Rattle.nona_forms.specs.Affine.{Affine, KeepsOrder, no_terms, with_term, merge_term, sum_terms, times_terms, if_bounded, is_bounded, on_form, form_by, form_of, among, sum_form, times_form, constant_form, scalar_form}
use Rattle.nona_forms.proofs.Named.{IsForm, form_is}

-- the ids rise from this one on, and no coefficient is 0
abbrev pub RisesFrom : ℕ → List Term → Type 0
RisesFrom n [] = Unit {0}
RisesFrom n (t ∷ ts) = (n ≤ t.id) × (is_zero t.coefficient ≡ false) × RisesFrom (suc t.id) ts

sooner : (n m : ℕ) (ts : List Term) → n ≤ m → RisesFrom m ts → RisesFrom n ts
sooner n m [] h g = tt
sooner n m (t ∷ ts) h g = (omega (arith, h, g.0), g.1, g.2)

with_by : (n id : ℕ) (c : ℤ) (ts : List Term) (b : Bool) → is_zero c ≡ b → n ≤ id → RisesFrom (suc id) ts → RisesFrom n (if b then ts else record { id = id; coefficient = c } ∷ ts)
with_by n id c ts true e h g = sooner n (suc id) ts (omega (arith, h)) g
with_by n id c ts false e h g = (h, e, g)

with_rises : (n id : ℕ) (c : ℤ) (ts : List Term) → n ≤ id → RisesFrom (suc id) ts → RisesFrom n (with_term id c ts)
with_rises n id c ts h g = with_by n id c ts (is_zero c) refl h g

below_is : (i j : ℕ) → nat_lt i j ≡ true → suc i ≤ j
below_is i j h = grind arith

same_ids : (i j : ℕ) → nat_lt i j ≡ false → nat_lt j i ≡ false → i ≡ j
same_ids i j h g = grind arith

merged : (n : ℕ) (t u : Term) (us behind_all rest merged_rest : List Term) (b d : Bool) → nat_lt t.id u.id ≡ b → nat_lt u.id t.id ≡ d → n ≤ t.id → is_zero t.coefficient ≡ false
    → RisesFrom n (u ∷ us) → (suc t.id ≤ u.id → RisesFrom (suc t.id) behind_all) → (suc u.id ≤ t.id → RisesFrom (suc u.id) merged_rest) → (t.id ≡ u.id → RisesFrom (suc t.id) rest)
    → RisesFrom n (if b then t ∷ behind_all else if d then u ∷ merged_rest else with_term t.id (t.coefficient +ℤ u.coefficient) rest)
merged n t u us behind_all rest merged_rest true d e f h z g all more same = (h, z, all (below_is t.id u.id e))
merged n t u us behind_all rest merged_rest false true e f h z g all more same = (g.0, g.1, more (below_is u.id t.id f))
merged n t u us behind_all rest merged_rest false false e f h z g all more same =
    with_rises n t.id (t.coefficient +ℤ u.coefficient) rest h (same (same_ids t.id u.id e f))

merge_rises : (n : ℕ) (t : Term) (behind : List Term → List Term) → n ≤ t.id → is_zero t.coefficient ≡ false
    → ((us : List Term) → RisesFrom (suc t.id) us → RisesFrom (suc t.id) (behind us))
    → (us : List Term) → RisesFrom n us → RisesFrom n (merge_term t behind us)
merge_rises n t behind h z k [] g = (h, z, k [] tt)
merge_rises n t behind h z k (u ∷ us) g =
    merged n t u us (behind (u ∷ us)) (behind us) (merge_term t behind us) (nat_lt t.id u.id) (nat_lt u.id t.id) refl refl h z g (λ l. k (u ∷ us) (l, g.1, g.2)) (λ l. merge_rises (suc u.id) t behind l z k us g.2) (λ e. k us (subst (λ i. RisesFrom (suc i) us) (sym e) g.2))

-- a sum of terms in order is in order, and so is a multiple
pub sum_rises : (n : ℕ) (ts us : List Term) → RisesFrom n ts → RisesFrom n us → RisesFrom n (sum_terms ts us)
sum_rises n [] us h g = g
sum_rises n (t ∷ ts) us h g = merge_rises n t (sum_terms ts) h.0 h.1 (λ vs k. sum_rises (suc t.id) ts vs h.2 k) us g

pub times_rises : (n : ℕ) (k : ℤ) (ts : List Term) → RisesFrom n ts → RisesFrom n (times_terms k ts)
times_rises n k [] h = tt
times_rises n k (t ∷ ts) h = with_rises n t.id (k *ℤ t.coefficient) (times_terms k ts) h.0 (times_rises (suc t.id) k ts h.2)

-- a form, if there is one, has its terms in order
abbrev pub IsInOrder : Option Affine → Type 0
IsInOrder None = Unit {0}
IsInOrder (Some f) = RisesFrom 0 f.terms

if_rises : (b : Bool) (o p : Option Affine) → IsInOrder o → IsInOrder p → IsInOrder (if b then o else p)
if_rises true o p h g = h
if_rises false o p h g = g

bounded_rises : (f : Affine) → RisesFrom 0 f.terms → IsInOrder (if_bounded f)
bounded_rises f h = if_rises (is_bounded f) (Some f) None h tt

on_rises : (o : Option Affine) (go : Affine → Option Affine) → IsInOrder o → ((f : Affine) → RisesFrom 0 f.terms → IsInOrder (go f)) → IsInOrder (on_form o go)
on_rises None go h k = tt
on_rises (Some f) go h k = k f h

by_rises : (o : Op) (f g : Affine) → RisesFrom 0 f.terms → RisesFrom 0 g.terms → IsInOrder (form_by o f g)
by_rises op.Add f g h k = bounded_rises (sum_form f g) (sum_rises 0 f.terms g.terms h k)
by_rises op.Sub f g h k = bounded_rises (sum_form f (times_form (negsuc 0) g)) (sum_rises 0 f.terms _ h (times_rises 0 (negsuc 0) g.terms k))
by_rises op.Mul f g h k =
    if_rises (no_terms f.terms) _ _ (bounded_rises (times_form f.constant g) (times_rises 0 f.constant g.terms k)) (if_rises (no_terms g.terms) _ None (bounded_rises (times_form g.constant f) (times_rises 0 g.constant f.terms h)) tt)
by_rises op.Div f g h k = tt
by_rises op.Rem f g h k = tt
by_rises op.And f g h k = tt
by_rises op.Or f g h k = tt
by_rises op.Xor f g h k = tt
by_rises op.Shl f g h k = tt
by_rises op.Shr f g h k = tt
by_rises op.Eq f g h k = tt
by_rises op.Ne f g h k = tt
by_rises op.Lt f g h k = tt
by_rises op.Le f g h k = tt
by_rises op.Gt f g h k = tt
by_rises op.Ge f g h k = tt

form_rises : (e : Expr) (names : List ℕ) → IsInOrder (form_of e names)
form_rises (Number v) names = bounded_rises (constant_form v) tt
form_rises (Scalar x) names = if_rises (among x.id names) (Some (scalar_form x.id)) None (omega arith, refl, tt) tt
form_rises (Cell' p (more_of-Access array wrap index end_of-Access)) names = tt
form_rises (Len a) names = tt
form_rises (Neg' p (more_of-Expr e end_of-Expr)) names =
    on_rises (form_of e names) _ (form_rises e names) (λ f h. bounded_rises (times_form (negsuc 0) f) (times_rises 0 (negsuc 0) f.terms h))
form_rises (Not' p (more_of-Expr e end_of-Expr)) names = tt
form_rises (Binary' o at p (more_of-Expr left end_of-Expr) q (more_of-Expr right end_of-Expr)) names =
    on_rises (form_of left names) _ (form_rises left names) (λ f h. on_rises (form_of right names) _ (form_rises right names) (λ g k. by_rises o f g h k))

-- what rises from an id on is strictly increasing
rising : (n : ℕ) (ts : List Term) → RisesFrom n ts → IsStrictlyIncreasing (map (λ t. t.id) ts)
rising n [] h k l = absurd (omega (arith, l))
rising n (t ∷ []) h k l = absurd (omega (arith, l))
rising n (t ∷ u ∷ ts) h zero l = omega (arith, h.2.0)
rising n (t ∷ u ∷ ts) h (suc k) l =
    let e : suc (k + 1) ≡ suc k + 1 = omega arith in
    subst (λ j. slice_index (map (λ t. t.id) (u ∷ ts)) k < slice_index (map (λ t. t.id) (t ∷ u ∷ ts)) j) e (rising (suc t.id) (u ∷ ts) h.2 k (omega (arith, l)))

not_zero : (c : ℤ) → is_zero c ≡ false → c ≢ pos 0
not_zero c h e = grind (arith, ints)

used : (n : ℕ) (ts : List Term) → RisesFrom n ts → AllByRecursion (λ t. t.coefficient ≢ pos 0) ts
used n [] h = tt
used n (t ∷ ts) h = (not_zero t.coefficient h.1, used (suc t.id) ts h.2)

-- the form of an expression is within bounds, with its terms in order, each id once, and none of them 0
pub form_is_kept : (e : Expr) (names : List ℕ) (f : Affine) → form_of e names ≡ Some f → KeepsOrder f
form_is_kept e names f h =
    let is : IsForm names (Some f) = subst (IsForm names) h (form_is e names) in
    let rises : RisesFrom 0 f.terms = subst IsInOrder h (form_rises e names) in
    record { bounded = is.0; rising = rising 0 f.terms rises; used = used 0 f.terms rises }
