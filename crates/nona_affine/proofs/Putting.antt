-- Forms that stand one behind another: what an operator makes of the last ones.
use Rattle.std.proofs.Common.{◌≡◌, Bool, true, false, List, [], ◌∷◌, ◌++◌, refl, sym, ap, subst, Some, None, Ok, Err, IfOk, ℕ, negsuc}
use Rattle.std.specs.declared.option.Option.{Option}
use Rattle.std.specs.declared.result.Result.{Result}
use denote.Hole.Carrier.{hidden}
use Rattle.nona_tree.specs.declared.trees.Op.{Op}
use Rattle.nona_tree.specs.declared.trees.Expr.{Expr, Neg, Binary}
use Rattle.nona_tree.specs.declared.trees.Expr.TheBlock.{hidden-the_row-Expr-1}
use Rattle.nona_forms.specs.Affine.{Affine, form_by, if_bounded, on_form, times_form}
use Rattle.nona_affine.specs.Put.{HasActed, IsPut}

-- there is none where a part has none
pub none_inside : (o : Option Affine) (go : Affine → Option Affine) (before after : List Affine) (b : Bool) → b ≡ false → IsPut o before after b → on_form o go ≡ None
none_inside o go before after b h p = ap (λ x. on_form x go) (subst (IsPut o before after) h p)

pub none_behind : (o : Option Affine) (go : Affine → Option Affine) → ((f : Affine) → go f ≡ None) → on_form o go ≡ None
none_behind None go h = refl
none_behind (Some f) go h = h f

-- a part's form is taken, and what becomes of it is put in its place
pub some_inside : {E : Type 0} (o : Option Affine) (go : Affine → Option Affine) (start before after last : List Affine) (b : Bool) (r : Result Bool E) → b ≡ true → IsPut o before after b
    → ((f : Affine) → after ≡ before ++ f ∷ [] → IfOk r (IsPut (go f) start last)) → IfOk r (IsPut (on_form o go) start last)
some_inside o go start before after last b r h p k =
    let q = subst (IsPut o before after) h p in
    subst (λ x. IfOk r (IsPut (on_form x go) start last)) (sym q.1) (k q.0 q.2)

-- the opposite of the last form is that of a turned part
pub turns : {E : Type 0} (r : Result Bool E) (e part : Expr) (ids : List ℕ) (before after : List Affine) → e ≡ Neg part
    → ((rest : List Affine) (f : Affine) → before ≡ rest ++ f ∷ [] → IfOk r (IsPut (if_bounded (times_form (negsuc 0) f)) rest after))
    → IfOk r (HasActed e ids before after)
unfolding hidden-the_row-Expr-1 hidden
turns (Ok b) e part ids before after is h = subst (λ x. HasActed x ids before after b) (sym is) h
turns (Err x) e part ids before after is h = tt

pub turned : {E : Type 0} (r : Result Bool E) (e part : Expr) (ids : List ℕ) (before after : List Affine) → e ≡ Neg part
    → IfOk r (HasActed e ids before after)
    → (rest : List Affine) (f : Affine) → before ≡ rest ++ f ∷ [] → IfOk r (IsPut (if_bounded (times_form (negsuc 0) f)) rest after)
unfolding hidden-the_row-Expr-1 hidden
turned (Ok b) e part ids before after is h rest f k = subst (λ x. HasActed x ids before after b) is h rest f k
turned (Err x) e part ids before after is h rest f k = h

-- what an operator makes of the last two forms is that of its two sides
pub combines : {E : Type 0} (r : Result Bool E) (e : Expr) (op : Op) (at : ℕ) (left right : Expr) (ids : List ℕ) (before after : List Affine) → e ≡ Binary op at left right
    → ((rest : List Affine) (f g : Affine) → before ≡ (rest ++ f ∷ []) ++ g ∷ [] → IfOk r (IsPut (form_by op f g) rest after))
    → IfOk r (HasActed e ids before after)
unfolding hidden-the_row-Expr-1 hidden
combines (Ok b) e op at left right ids before after is h = subst (λ x. HasActed x ids before after b) (sym is) h
combines (Err x) e op at left right ids before after is h = tt

pub combined : {E : Type 0} (r : Result Bool E) (e : Expr) (op : Op) (at : ℕ) (left right : Expr) (ids : List ℕ) (before after : List Affine) → e ≡ Binary op at left right
    → IfOk r (HasActed e ids before after)
    → (rest : List Affine) (f g : Affine) → before ≡ (rest ++ f ∷ []) ++ g ∷ [] → IfOk r (IsPut (form_by op f g) rest after)
unfolding hidden-the_row-Expr-1 hidden
combined (Ok b) e op at left right ids before after is h rest f g k = subst (λ x. HasActed x ids before after b) is h rest f g k
combined (Err x) e op at left right ids before after is h rest f g k = h
