-- Affine forms: a constant, and a whole number of each of some scalars.
use Rattle.std.specs.Prelude.{◌≡◌, ◌≢◌, ℕ, Bool, true, false, ◌&&◌, ◌==◌, if◌then◌else◌, nat_lt, nat_le, ℤ, pos, negsuc, ◌+ℤ◌, ◌*ℤ◌, neg_ℤ, int_le, List, [], ◌∷◌, map, length, Some, None}
use Rattle.std.specs.List.{list_all, AllByRecursion}
use Rattle.std.specs.List.Sorted.{IsStrictlyIncreasing}
use Rattle.std.specs.declared.option.Option.{Option}
use Rattle.nona_tree.specs.declared.trees.Op.{Op}
use Rattle.nona_tree.specs.declared.trees.Op.TheVariants as op
use Rattle.nona_tree.specs.declared.trees.Expr.{Expr, Number, Scalar, Neg', Binary', more_of-Expr, end_of-Expr}
use Rattle.nona_tree.specs.Value.{is_zero}
use Rattle.nona_forms.specs.declared.limits.TheConstants.{TERMS, COEFFICIENT, CONSTANT}
use Rattle.nona_forms.specs.declared.terms.Term.{Term}

-- a constant, and the terms, each a whole number of a scalar
pub record Affine : Type 0 where
  pub constant : ℤ
  pub terms : List Term

-- the sum of the terms, where the scalars have these values
abbrev pub terms_at : (ℕ → ℤ) → List Term → ℤ
terms_at scalar [] = pos 0
terms_at scalar (t ∷ ts) = (t.coefficient *ℤ scalar t.id) +ℤ terms_at scalar ts

-- the exact value of a form, where the scalars have these values
abbrev pub form_at : (ℕ → ℤ) → Affine → ℤ
form_at scalar f = f.constant +ℤ terms_at scalar f.terms

-- a term before others, unless its coefficient is 0
abbrev pub with_term : ℕ → ℤ → List Term → List Term
with_term id c ts = if is_zero c then ts else record { id = id; coefficient = c } ∷ ts

-- a term and what comes behind it, merged with terms
abbrev pub merge_term : Term → (List Term → List Term) → List Term → List Term
merge_term t behind [] = t ∷ behind []
merge_term t behind (u ∷ us) =
    if nat_lt t.id u.id then t ∷ behind (u ∷ us)
    else if nat_lt u.id t.id then u ∷ merge_term t behind us
    else with_term t.id (t.coefficient +ℤ u.coefficient) (behind us)

-- the terms of a sum: both lists, merged by id
abbrev pub sum_terms : List Term → List Term → List Term
sum_terms [] us = us
sum_terms (t ∷ ts) us = merge_term t (sum_terms ts) us

-- each coefficient times a number
abbrev pub times_terms : ℤ → List Term → List Term
times_terms k [] = []
times_terms k (t ∷ ts) = with_term t.id (k *ℤ t.coefficient) (times_terms k ts)

-- a sum of forms, and a form times a number
abbrev pub sum_form : Affine → Affine → Affine
sum_form f g = record { constant = f.constant +ℤ g.constant; terms = sum_terms f.terms g.terms }

abbrev pub times_form : ℤ → Affine → Affine
times_form k f = record { constant = k *ℤ f.constant; terms = times_terms k f.terms }

-- a constant, and one scalar
abbrev pub constant_form : ℤ → Affine
constant_form v = record { constant = v; terms = [] }

abbrev pub scalar_form : ℕ → Affine
scalar_form id = record { constant = pos 0; terms = record { id = id; coefficient = pos 1 } ∷ [] }

-- whether a list has no term
abbrev pub no_terms : List Term → Bool
no_terms [] = true
no_terms (t ∷ ts) = false

-- whether a number's absolute value is at most the greatest of a coefficient
abbrev pub is_coefficient : ℤ → Bool
is_coefficient c = int_le (neg_ℤ COEFFICIENT) c && int_le c COEFFICIENT

-- whether a number's absolute value is at most the greatest of a constant
abbrev pub is_constant : ℤ → Bool
is_constant c = int_le (neg_ℤ CONSTANT) c && int_le c CONSTANT

-- whether a form's constant, its coefficients and the number of its terms are within bounds
abbrev pub is_bounded : Affine → Bool
is_bounded f =
    is_constant f.constant && (nat_le (length f.terms) TERMS && list_all (λ t. is_coefficient t.coefficient) f.terms)

-- within bounds, with the terms in order of id, each id once, and none of them 0
pub record KeepsOrder (f : Affine) : Type 0 where
  pub bounded : is_bounded f ≡ true
  pub rising : IsStrictlyIncreasing (map (λ t. t.id) f.terms)
  pub used : AllByRecursion (λ t. t.coefficient ≢ pos 0) f.terms

-- a form within bounds
abbrev pub if_bounded : Affine → Option Affine
if_bounded f = if is_bounded f then Some f else None

-- goes on with a form, with two
abbrev pub on_form : {A : Type 0} → Option Affine → (Affine → Option A) → Option A
on_form None go = None
on_form (Some f) go = go f

-- what an operator makes of two forms
abbrev pub form_by : Op → Affine → Affine → Option Affine
form_by op.Add f g = if_bounded (sum_form f g)
form_by op.Sub f g = if_bounded (sum_form f (times_form (negsuc 0) g))
form_by op.Mul f g =
    if no_terms f.terms then if_bounded (times_form f.constant g)
    else if no_terms g.terms then if_bounded (times_form g.constant f)
    else None
form_by _ f g = None

-- whether a number is among others
abbrev pub among : ℕ → List ℕ → Bool
among x [] = false
among x (y ∷ ys) = if x == y then true else among x ys

-- the form of an expression in which these scalars may occur: each part of it has to have one within bounds
abbrev pub form_of : Expr → List ℕ → Option Affine
form_of (Number v) names = if_bounded (constant_form v)
form_of (Scalar x) names = if among x.id names then Some (scalar_form x.id) else None
form_of (Neg' p (more_of-Expr e end_of-Expr)) names = on_form (form_of e names) (λ f. if_bounded (times_form (negsuc 0) f))
form_of (Binary' o at p (more_of-Expr left end_of-Expr) q (more_of-Expr right end_of-Expr)) names =
    on_form (form_of left names) (λ f. on_form (form_of right names) (λ g. form_by o f g))
form_of _ names = None
