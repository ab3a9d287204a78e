-- Where an expression has a form, its value is the form's exact value, wrapped.
use Rattle.std.proofs.Common.{◌≡◌, ℕ, Bool, true, false, ℤ, pos, negsuc, ◌+ℤ◌, ◌*ℤ◌, ◌-ℤ◌, List, [], ◌∷◌, refl, sym, ap, ◌∙◌, arith, if◌then◌else◌, Some, None}
use Rattle.std.proofs.Math.IntN.{*ℤ_comm, +ℤ_idr}
use Rattle.std.proofs.lemmas.Int.{ints, SFits-int_wrap, int_wrap_fits, int_wrap-add_left, int_wrap-add_right, int_wrap-mul_left, int_wrap-mul_right}
use Rattle.std.specs.Int.{w64}
use Rattle.std.specs.Prelude.{Ok, Err}
use Rattle.std.specs.declared.option.Option.{Option}
use Rattle.nona_num.specs.Numbers.{wrapped, add_of, sub_of, mul_of, neg_of}
use Rattle.nona_tree.specs.declared.outcomes.Trap.{Trap}
use Rattle.nona_tree.specs.declared.trees.Op.{Op}
use Rattle.nona_tree.specs.declared.trees.Op.TheVariants as op
use Rattle.nona_tree.specs.declared.trees.Expr.{Expr, Number, Scalar, Cell', Len, Neg', Not', Binary', more_of-Expr, end_of-Expr}
use Rattle.nona_tree.specs.declared.trees.Expr.TheBlock.{more_of-Access, end_of-Access}
use Rattle.nona_tree.specs.Memory.{Memory, scalar_at}
use Rattle.nona_tree.specs.Value.{Answer, then_use, apply, value_of}
use Rattle.nona_forms.specs.declared.terms.Term.{Term}
use Rattle.nona_forms.specs.Affine.{Affine, form_at, no_terms, if_bounded, is_bounded, on_form, form_by, form_of, among, sum_form, times_form, constant_form, scalar_form}
use Rattle.nona_forms.proofs.Sums.{form_sum, form_times, minus_is, less_is}

-- a value stands for a form in a memory: it is the form's exact value, wrapped
abbrev pub IsWrapped : Memory → ℤ → Affine → Type 0
IsWrapped m v f = wrapped v ≡ wrapped (form_at (scalar_at m) f)

-- an answer is the value of a form, if there is one
abbrev pub Means : Memory → Answer → Option Affine → Type 0
Means m o None = Unit {0}
Means m o (Some f) = (v : ℤ) × (o ≡ Ok v) × IsWrapped m v f

twice : (z : ℤ) → wrapped (wrapped z) ≡ wrapped z
twice z = int_wrap_fits w64 (wrapped z) (SFits-int_wrap w64 z)

-- numbers that agree when wrapped may take each other's place
sums_agree : (a b c d : ℤ) → wrapped a ≡ wrapped c → wrapped b ≡ wrapped d → wrapped (a +ℤ b) ≡ wrapped (c +ℤ d)
sums_agree a b c d h g =
    sym (int_wrap-add_left w64 a b) ∙ ap (λ x. wrapped (x +ℤ b)) h ∙ int_wrap-add_left w64 c b
    ∙ sym (int_wrap-add_right w64 c b) ∙ ap (λ x. wrapped (c +ℤ x)) g ∙ int_wrap-add_right w64 c d

products_agree : (a b c d : ℤ) → wrapped a ≡ wrapped c → wrapped b ≡ wrapped d → wrapped (a *ℤ b) ≡ wrapped (c *ℤ d)
products_agree a b c d h g =
    sym (int_wrap-mul_left w64 a b) ∙ ap (λ x. wrapped (x *ℤ b)) h ∙ int_wrap-mul_left w64 c b
    ∙ sym (int_wrap-mul_right w64 c b) ∙ ap (λ x. wrapped (c *ℤ x)) g ∙ int_wrap-mul_right w64 c d

means_bounded : (m : Memory) (o : Answer) (f : Affine) (b : Bool) → Means m o (Some f) → Means m o (if b then Some f else None)
means_bounded m o f true h = h
means_bounded m o f false h = tt

sum_means : (m : Memory) (a b : ℤ) (f g : Affine) → IsWrapped m a f → IsWrapped m b g → IsWrapped m (add_of a b) (sum_form f g)
sum_means m a b f g h k =
    twice (a +ℤ b) ∙ sums_agree a b _ _ h k ∙ ap wrapped (sym (form_sum (scalar_at m) f g))

times_means : (m : Memory) (k a : ℤ) (f : Affine) (v : ℤ) → v ≡ wrapped (k *ℤ a) → IsWrapped m a f → IsWrapped m v (times_form k f)
times_means m k a f v e h =
    ap wrapped e ∙ twice (k *ℤ a) ∙ products_agree k a k _ refl h ∙ ap wrapped (sym (form_times (scalar_at m) k f))

less_means : (m : Memory) (a b : ℤ) (f g : Affine) → IsWrapped m a f → IsWrapped m b g → IsWrapped m (sub_of a b) (sum_form f (times_form (negsuc 0) g))
less_means m a b f g h k =
    twice (a -ℤ b) ∙ ap wrapped (less_is a b)
    ∙ sums_agree a (negsuc 0 *ℤ b) _ _ h (products_agree (negsuc 0) b (negsuc 0) _ refl k ∙ ap wrapped (sym (form_times (scalar_at m) (negsuc 0) g)))
    ∙ ap wrapped (sym (form_sum (scalar_at m) f (times_form (negsuc 0) g)))

one_of : (v : ℤ) → v ≡ pos 0 +ℤ ((pos 1 *ℤ v) +ℤ pos 0)
one_of v = omega (arith, ints)

pub constant_alone : (s : ℕ → ℤ) (c : ℤ) (ts : List Term) → no_terms ts ≡ true → form_at s (record { constant = c; terms = ts }) ≡ c
constant_alone s c [] h = +ℤ_idr c
constant_alone s c (t ∷ ts) h = cc

product_means : (m : Memory) (a b : ℤ) (f g : Affine) (left right : Bool) → no_terms f.terms ≡ left → no_terms g.terms ≡ right
    → IsWrapped m a f → IsWrapped m b g
    → Means m (Ok (mul_of a b)) (if left then if_bounded (times_form f.constant g) else if right then if_bounded (times_form g.constant f) else None)
product_means m a b f g true right e d h k =
    means_bounded m (Ok (mul_of a b)) (times_form f.constant g) (is_bounded (times_form f.constant g)) (mul_of a b, refl, (twice (a *ℤ b) ∙ products_agree a b f.constant _ (h ∙ ap wrapped (constant_alone (scalar_at m) f.constant f.terms e)) k ∙ ap wrapped (sym (form_times (scalar_at m) f.constant g))))
product_means m a b f g false true e d h k =
    means_bounded m (Ok (mul_of a b)) (times_form g.constant f) (is_bounded (times_form g.constant f)) (mul_of a b, refl, (twice (a *ℤ b) ∙ ap wrapped (*ℤ_comm a b) ∙ products_agree b a g.constant _ (k ∙ ap wrapped (constant_alone (scalar_at m) g.constant g.terms d)) h ∙ ap wrapped (sym (form_times (scalar_at m) g.constant f))))
product_means m a b f g false false e d h k = tt

by_means : (m : Memory) (o : Op) (at : ℕ) (a b : ℤ) (f g : Affine) → IsWrapped m a f → IsWrapped m b g → Means m (apply o at a b) (form_by o f g)
by_means m op.Add at a b f g h k = means_bounded m _ (sum_form f g) (is_bounded (sum_form f g)) (add_of a b, refl, sum_means m a b f g h k)
by_means m op.Sub at a b f g h k =
    means_bounded m _ (sum_form f (times_form (negsuc 0) g)) (is_bounded (sum_form f (times_form (negsuc 0) g))) (sub_of a b, refl, less_means m a b f g h k)
by_means m op.Mul at a b f g h k = product_means m a b f g (no_terms f.terms) (no_terms g.terms) refl refl h k
by_means m op.Div at a b f g h k = tt
by_means m op.Rem at a b f g h k = tt
by_means m op.And at a b f g h k = tt
by_means m op.Or at a b f g h k = tt
by_means m op.Xor at a b f g h k = tt
by_means m op.Shl at a b f g h k = tt
by_means m op.Shr at a b f g h k = tt
by_means m op.Eq at a b f g h k = tt
by_means m op.Ne at a b f g h k = tt
by_means m op.Lt at a b f g h k = tt
by_means m op.Le at a b f g h k = tt
by_means m op.Gt at a b f g h k = tt
by_means m op.Ge at a b f g h k = tt

-- one answer isn't two
pub one_value : (o : Answer) (a v : ℤ) → o ≡ Ok a → o ≡ Ok v → a ≡ v
one_value o a v h g = cc

pub no_value : (o : Answer) (t : Trap) (v : ℤ) → o ≡ Err t → o ≡ Ok v → ⊥
no_value o t v h g = cc

then_means : (m : Memory) (o : Answer) (f : Option Affine) (act : ℤ → Answer) (go : Affine → Option Affine) → Means m o f
    → ((v : ℤ) (g : Affine) → IsWrapped m v g → Means m (act v) (go g)) → Means m (then_use o act) (on_form f go)
then_means m o None act go h k = tt
then_means m (Ok a) (Some f) act go h k = k a f (ap wrapped (one_value (Ok a) a h.0 refl h.1) ∙ h.2)
then_means m (Err t) (Some f) act go h k = absurd (no_value (Err t) t h.0 refl h.1)

scalar_means : (m : Memory) (id : ℕ) (b : Bool) → Means m (Ok (scalar_at m id)) (if b then Some (scalar_form id) else None)
scalar_means m id true = (scalar_at m id, refl, ap wrapped (one_of (scalar_at m id)))
scalar_means m id false = tt

-- where an expression has a form, it has a value, which is the form's exact value, wrapped
pub value_means : (e : Expr) (names : List ℕ) (m : Memory) → Means m (value_of e m) (form_of e names)
value_means (Number v) names m = means_bounded m (Ok v) (constant_form v) (is_bounded (constant_form v)) (v, refl, ap wrapped (sym (+ℤ_idr v)))
value_means (Scalar x) names m = scalar_means m x.id (among x.id names)
value_means (Cell' p (more_of-Access array wrap index end_of-Access)) names m = tt
value_means (Len a) names m = tt
value_means (Neg' p (more_of-Expr e end_of-Expr)) names m =
    then_means m (value_of e m) (form_of e names) _ _ (value_means e names m) (λ v f h. means_bounded m (Ok (neg_of v)) (times_form (negsuc 0) f) (is_bounded (times_form (negsuc 0) f)) (neg_of v, refl, times_means m (negsuc 0) v f (neg_of v) (ap wrapped (minus_is v)) h))
value_means (Not' p (more_of-Expr e end_of-Expr)) names m = tt
value_means (Binary' o at p (more_of-Expr left end_of-Expr) q (more_of-Expr right end_of-Expr)) names m =
    then_means m (value_of left m) (form_of left names) _ _ (value_means left names m) (λ a f h. then_means m (value_of right m) (form_of right names) _ _ (value_means right names m) (λ b g k. by_means m o at a b f g h k))
