-- The form of an expression that holds others.
use Rattle.std.proofs.Common.{◌≡◌, ℕ, negsuc, List, refl, None}
use denote.Hole.Carrier.{hidden}
use Rattle.nona_tree.specs.declared.trees.Op.{Op}
use Rattle.nona_tree.specs.declared.trees.Access.{Access}
use Rattle.nona_tree.specs.declared.trees.Expr.{Expr, Cell, Neg, Not, Binary}
use Rattle.nona_tree.specs.declared.trees.Expr.TheBlock.{hidden-the_row-Expr-1, hidden-the_row-Access-0}
use Rattle.nona_forms.specs.Affine.{form_of, form_by, on_form, if_bounded, times_form}

pub form-Cell : (c : Access) (names : List ℕ) → form_of (Cell c) names ≡ None
unfolding hidden-the_row-Access-0 hidden
form-Cell c names = refl

pub form-Neg : (e : Expr) (names : List ℕ) → form_of (Neg e) names ≡ on_form (form_of e names) (λ f. if_bounded (times_form (negsuc 0) f))
unfolding hidden-the_row-Expr-1 hidden
form-Neg e names = refl

pub form-Not : (e : Expr) (names : List ℕ) → form_of (Not e) names ≡ None
unfolding hidden-the_row-Expr-1 hidden
form-Not e names = refl

pub form-Binary : (op : Op) (at : ℕ) (left right : Expr) (names : List ℕ)
    → form_of (Binary op at left right) names ≡ on_form (form_of left names) (λ f. on_form (form_of right names) (λ g. form_by op f g))
unfolding hidden-the_row-Expr-1 hidden
form-Binary op at left right names = refl

pub ruleset form_laws = (form-Cell, form-Neg, form-Not, form-Binary)
