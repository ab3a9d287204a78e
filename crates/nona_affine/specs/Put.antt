-- Forms of parts, one behind another, while the form of an expression is worked out.
use Rattle.std.specs.Prelude.{◌≡◌, ℕ, negsuc, Bool, true, false, List, [], ◌∷◌, ◌++◌, Some, None}
use Rattle.std.specs.declared.option.Option.{Option}
use Rattle.nona_tree.specs.declared.trees.Expr.{Expr, Neg', Binary', more_of-Expr, end_of-Expr}
use Rattle.nona_forms.specs.Affine.{Affine, form_by, form_of, if_bounded, times_form}
use Rattle.nona_affine.specs.declared.combining.Scope.{Scope}

-- the ids of the scalars that may occur, those of inner loops first
abbrev pub scope_ids : Scope → List ℕ
scope_ids s = s.inner.now ++ s.names.now

-- a form was put behind others, or there is none
abbrev pub IsPut : Option Affine → List Affine → List Affine → Bool → Type 0
IsPut o before after true = (f : Affine) × (o ≡ Some f) × (after ≡ before ++ f ∷ [])
IsPut o before after false = o ≡ None

-- an expression's form was put in the place of those of its parts, which were the last ones, where scalars with these ids may occur; or there
-- is no such form
abbrev pub HasActed : Expr → List ℕ → List Affine → List Affine → Bool → Type 0
HasActed (Neg' p (more_of-Expr e end_of-Expr)) ids before after b =
    (rest : List Affine) (f : Affine) → before ≡ rest ++ f ∷ [] → IsPut (if_bounded (times_form (negsuc 0) f)) rest after b
HasActed (Binary' op at p (more_of-Expr left end_of-Expr) q (more_of-Expr right end_of-Expr)) ids before after b =
    (rest : List Affine) (f g : Affine) → before ≡ (rest ++ f ∷ []) ++ g ∷ [] → IsPut (form_by op f g) rest after b
HasActed e ids before after b = IsPut (form_of e ids) before after b
