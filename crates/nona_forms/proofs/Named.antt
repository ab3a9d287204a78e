-- A form is within bounds, and has terms of the allowed scalars alone.
use Rattle.std.proofs.Common.{◌≡◌, ℕ, Bool, true, false, ℤ, negsuc, ◌+ℤ◌, ◌*ℤ◌, List, [], ◌∷◌, refl, ap, if◌then◌else◌, nat_lt, Some, None}
use Rattle.std.specs.List.{AllByRecursion}
use Rattle.std.specs.declared.option.Option.{Option}
use Rattle.nona_tree.specs.declared.trees.Op.{Op}
use Rattle.nona_tree.specs.declared.trees.Op.TheVariants as op
use Rattle.nona_tree.specs.declared.trees.Expr.{Expr, Number, Scalar, Cell', Len, Neg', Not', Binary', more_of-Expr, end_of-Expr}
use Rattle.nona_tree.specs.declared.trees.Expr.TheBlock.{more_of-Access, end_of-Access}
use Rattle.nona_tree.specs.Value.{is_zero}
use Rattle.nona_forms.specs.declared.terms.Term.{Term}
use Rattle.nona_forms.specs.Affine.{Affine, no_terms, with_term, merge_term, sum_terms, times_terms, if_bounded, is_bounded, on_form, form_by, form_of, among, sum_form, times_form, constant_form, scalar_form}

-- each term's scalar is among these
abbrev pub AreAmong : List ℕ → List Term → Type 0
AreAmong names ts = AllByRecursion (λ t. among t.id names ≡ true) ts

-- a form, if there is one, is within bounds and has terms of these scalars
abbrev pub IsForm : List ℕ → Option Affine → Type 0
IsForm names None = Unit {0}
IsForm names (Some f) = (is_bounded f ≡ true) × AreAmong names f.terms

if_named : (names : List ℕ) (b : Bool) (ts us : List Term) → AreAmong names ts → AreAmong names us → AreAmong names (if b then ts else us)
if_named names true ts us h g = h
if_named names false ts us h g = g

with_named : (names : List ℕ) (id : ℕ) (c : ℤ) (ts : List Term) → among id names ≡ true → AreAmong names ts → AreAmong names (with_term id c ts)
with_named names id c ts h g = if_named names (is_zero c) ts _ g (h, g)

merge_named : (names : List ℕ) (t : Term) (behind : List Term → List Term) → among t.id names ≡ true → ((us : List Term) → AreAmong names us → AreAmong names (behind us))
    → (us : List Term) → AreAmong names us → AreAmong names (merge_term t behind us)
merge_named names t behind h k [] g = (h, k [] tt)
merge_named names t behind h k (u ∷ us) g =
    if_named names (nat_lt t.id u.id) _ _ (h, k (u ∷ us) g) (if_named names (nat_lt u.id t.id) _ _ (g.0, merge_named names t behind h k us g.1) (with_named names t.id (t.coefficient +ℤ u.coefficient) (behind us) h (k us g.1)))

sum_named : (names : List ℕ) (ts us : List Term) → AreAmong names ts → AreAmong names us → AreAmong names (sum_terms ts us)
sum_named names [] us h g = g
sum_named names (t ∷ ts) us h g = merge_named names t (sum_terms ts) h.0 (λ vs k. sum_named names ts vs h.1 k) us g

times_named : (names : List ℕ) (k : ℤ) (ts : List Term) → AreAmong names ts → AreAmong names (times_terms k ts)
times_named names k [] h = tt
times_named names k (t ∷ ts) h = with_named names t.id (k *ℤ t.coefficient) (times_terms k ts) h.0 (times_named names k ts h.1)

if_bounded_by : (names : List ℕ) (f : Affine) (b : Bool) → is_bounded f ≡ b → AreAmong names f.terms → IsForm names (if b then Some f else None)
if_bounded_by names f true e h = (e, h)
if_bounded_by names f false e h = tt

if_bounded_form : (names : List ℕ) (f : Affine) → AreAmong names f.terms → IsForm names (if_bounded f)
if_bounded_form names f h = if_bounded_by names f (is_bounded f) refl h

on_form_is : (names : List ℕ) (o : Option Affine) (go : Affine → Option Affine) → IsForm names o → ((f : Affine) → AreAmong names f.terms → IsForm names (go f)) → IsForm names (on_form o go)
on_form_is names None go h k = tt
on_form_is names (Some f) go h k = k f h.1

if_form_is : (names : List ℕ) (b : Bool) (o p : Option Affine) → IsForm names o → IsForm names p → IsForm names (if b then o else p)
if_form_is names true o p h g = h
if_form_is names false o p h g = g

by_form : (names : List ℕ) (o : Op) (f g : Affine) → AreAmong names f.terms → AreAmong names g.terms → IsForm names (form_by o f g)
by_form names op.Add f g h k = if_bounded_form names (sum_form f g) (sum_named names f.terms g.terms h k)
by_form names op.Sub f g h k =
    if_bounded_form names (sum_form f (times_form (negsuc 0) g)) (sum_named names f.terms _ h (times_named names (negsuc 0) g.terms k))
by_form names op.Mul f g h k =
    if_form_is names (no_terms f.terms) _ _ (if_bounded_form names (times_form f.constant g) (times_named names f.constant g.terms k)) (if_form_is names (no_terms g.terms) _ None (if_bounded_form names (times_form g.constant f) (times_named names g.constant f.terms h)) tt)
by_form names op.Div f g h k = tt
by_form names op.Rem f g h k = tt
by_form names op.And f g h k = tt
by_form names op.Or f g h k = tt
by_form names op.Xor f g h k = tt
by_form names op.Shl f g h k = tt
by_form names op.Shr f g h k = tt
by_form names op.Eq f g h k = tt
by_form names op.Ne f g h k = tt
by_form names op.Lt f g h k = tt
by_form names op.Le f g h k = tt
by_form names op.Gt f g h k = tt
by_form names op.Ge f g h k = tt

scalar_is : (names : List ℕ) (id : ℕ) (b : Bool) → among id names ≡ b → IsForm names (if b then Some (scalar_form id) else None)
scalar_is names id true e = (refl, (e, tt))
scalar_is names id false e = tt

pub form_is : (e : Expr) (names : List ℕ) → IsForm names (form_of e names)
form_is (Number v) names = if_bounded_form names (constant_form v) tt
form_is (Scalar x) names = scalar_is names x.id (among x.id names) refl
form_is (Cell' p (more_of-Access array wrap index end_of-Access)) names = tt
form_is (Len a) names = tt
form_is (Neg' p (more_of-Expr e end_of-Expr)) names =
    on_form_is names (form_of e names) _ (form_is e names) (λ f h. if_bounded_form names (times_form (negsuc 0) f) (times_named names (negsuc 0) f.terms h))
form_is (Not' p (more_of-Expr e end_of-Expr)) names = tt
form_is (Binary' o at p (more_of-Expr left end_of-Expr) q (more_of-Expr right end_of-Expr)) names =
    on_form_is names (form_of left names) _ (form_is left names) (λ f h. on_form_is names (form_of right names) _ (form_is right names) (λ g k. by_form names o f g h k))

-- a form depends on which scalars are among the names alone
pub form_by_members : (e : Expr) (names others : List ℕ) → ((id : ℕ) → among id names ≡ among id others) → form_of e names ≡ form_of e others
form_by_members (Number v) names others h = refl
form_by_members (Scalar x) names others h = ap (λ b. if b then Some (scalar_form x.id) else None) (h x.id)
form_by_members (Cell' p (more_of-Access array wrap index end_of-Access)) names others h = refl
form_by_members (Len a) names others h = refl
form_by_members (Neg' p (more_of-Expr e end_of-Expr)) names others h = ap (λ o. on_form o (λ f. if_bounded (times_form (negsuc 0) f))) (form_by_members e names others h)
form_by_members (Not' p (more_of-Expr e end_of-Expr)) names others h = refl
form_by_members (Binary' o at p (more_of-Expr left end_of-Expr) q (more_of-Expr right end_of-Expr)) names others h =
    λ i. on_form (form_by_members left names others h i) (λ f. on_form (form_by_members right names others h i) (λ g. form_by o f g))
