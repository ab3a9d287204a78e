-- The reasons of the dependence test are the table of its rules.
use Rattle.std.proofs.Common.{◌≡◌, ℕ, ◌&&◌, ◌||◌, Bool, true, false, not, ℤ, pos, ◌-ℤ◌, List, [], ◌∷◌, refl, ap, ◌∙◌, arith, if◌then◌else◌, Some, None}
use Rattle.std.proofs.lemmas.Int.{ints}
use Rattle.std.specs.List.{list_all}
use Rattle.std.specs.Ordering.{int_eq}
use Rattle.std.specs.Prelude.{unsigned_abs}
use Rattle.std.specs.declared.option.Option.{Option}
use Rattle.nona_tree.specs.Value.{is_zero}
use Rattle.nona_forms.specs.declared.shapes.LoopShape.{LoopShape}
use Rattle.nona_forms.specs.declared.shapes.Spot.{Spot}
use Rattle.nona_forms.specs.declared.shapes.Verdict.{Verdict}
use Rattle.nona_forms.specs.declared.shapes.Verdict.TheVariants.{Apart, Maybe}
use Rattle.nona_forms.specs.declared.terms.Term.{Term}
use Rattle.nona_forms.specs.Affine.{Affine}
use Rattle.nona_forms.specs.Verdicts.{invariant_terms, inner_terms, coefficient_of, same_terms, gcd_of, gcd_terms, divides, near_of, far_of, inner_part, some_empty, is_undivided, is_too_near, is_too_far, are_apart, if_form, verdict_of}
use Rattle.nona_forms.specs.Rules.{is_nothing, has_no_index, rules_of, first_answer, answer_on, verdict_by_rules}
use Rattle.nona_forms.proofs.InBoxes.{both_true}

zero_is : (c : ℤ) → is_zero c ≡ true → c ≡ pos 0
zero_is c h = grind (arith, ints)

-- where all coefficients are 0, so is their divisor
gcd_nothing : (ts : List Term) → list_all is_nothing ts ≡ true → gcd_terms 0 ts ≡ 0
gcd_nothing [] h = refl
gcd_nothing (t ∷ ts) h =
    let both = both_true (is_nothing t) (list_all is_nothing ts) h in
    ap (λ (c : ℤ). gcd_terms (gcd_of 0 (unsigned_abs c)) ts) (zero_is t.coefficient both.0) ∙ gcd_nothing ts both.1

same_zeros : (c d : ℤ) → is_zero c ≡ true → is_zero d ≡ true → int_eq c d ≡ true
same_zeros c d h g = ap (λ x. int_eq x d) (zero_is c h) ∙ ap (int_eq (pos 0)) (zero_is d g)

-- no index occurs: the divisor divides 0 alone
undivided_nothing : (shape : LoopShape) (f g : Affine) → has_no_index shape f ≡ true → has_no_index shape g ≡ true
    → is_undivided shape f g ≡ not (is_zero (g.constant -ℤ f.constant))
undivided_nothing shape f g h k =
    let i = shape.index in
    let of_f = both_true (is_zero (coefficient_of i f.terms)) (list_all is_nothing (inner_terms i f.terms)) h in
    let of_g = both_true (is_zero (coefficient_of i g.terms)) (list_all is_nothing (inner_terms i g.terms)) k in
    let own : gcd_of (unsigned_abs (coefficient_of i f.terms)) (unsigned_abs (coefficient_of i g.terms)) ≡ 0 =
    ap (λ (c : ℤ). gcd_of (unsigned_abs c) (unsigned_abs (coefficient_of i g.terms))) (zero_is (coefficient_of i f.terms) of_f.0)
    ∙ ap (λ (c : ℤ). gcd_of 0 (unsigned_abs c)) (zero_is (coefficient_of i g.terms) of_g.0) in
    let all : gcd_terms (gcd_terms (gcd_of (unsigned_abs (coefficient_of i f.terms)) (unsigned_abs (coefficient_of i g.terms))) (inner_terms i f.terms)) (inner_terms i g.terms) ≡ 0 =
    ap (λ (n : ℕ). gcd_terms (gcd_terms n (inner_terms i f.terms)) (inner_terms i g.terms)) own
    ∙ ap (λ (n : ℕ). gcd_terms n (inner_terms i g.terms)) (gcd_nothing (inner_terms i f.terms) of_f.1) ∙ gcd_nothing (inner_terms i g.terms) of_g.1 in
    ap (λ (n : ℕ). not (divides n (g.constant -ℤ f.constant))) all

-- and the last two rules don't answer
not_near : (a z n : Bool) → z ≡ true → (a && (not z && n)) ≡ false
not_near true z n h = ap (λ b. not b && n) h
not_near false z n h = refl

not_far : (a n : Bool) → a ≡ true → (not a && n) ≡ false
not_far a n h = ap (λ b. not b && n) h

-- the reasons in the order of the rules
by_reasons : (same some none zero undivided near far : Bool) → (none ≡ true → undivided ≡ not zero) → (none ≡ true → near ≡ false) → (none ≡ true → far ≡ false)
    → (if (same && (some || (undivided || (near || far)))) then Apart else Maybe)
    ≡ first_answer ((if not same then Some Maybe else None) ∷ (if some then Some Apart else None) ∷ (if none then Some (if zero then Maybe else Apart) else None) ∷ (if undivided then Some Apart else None) ∷ (if near then Some Apart else None) ∷ (if far then Some Apart else None) ∷ [])
by_reasons false some none zero undivided near far a b c = refl
by_reasons true true none zero undivided near far a b c = refl
by_reasons true false false zero true near far a b c = refl
by_reasons true false false zero false true far a b c = refl
by_reasons true false false zero false false true a b c = refl
by_reasons true false false zero false false false a b c = refl
by_reasons true false true true undivided near far a b c =
    ap (λ u. if (u || (near || far)) then Apart else Maybe) (a refl) ∙ ap (λ u. if (u || far) then Apart else Maybe) (b refl) ∙ ap (λ u. if u then Apart else Maybe) (c refl)
by_reasons true false true false undivided near far a b c = ap (λ u. if (u || (near || far)) then Apart else Maybe) (a refl)

forms_by_rules : (shape : LoopShape) (x y : Spot) (f g : Affine) → (if are_apart shape x y f g then Apart else Maybe) ≡ first_answer (rules_of shape x y f g)
forms_by_rules shape x y f g =
    let i = shape.index in
    let c = coefficient_of i f.terms in
    let d = coefficient_of i g.terms in
    let near = near_of shape.fixed c (inner_part i x.inner f.terms) (inner_part i y.inner g.terms) (g.constant -ℤ f.constant) in
    let far = far_of shape.fixed c d (inner_part i x.inner f.terms) (inner_part i y.inner g.terms) (g.constant -ℤ f.constant) in
    let none = λ (h : (has_no_index shape f && has_no_index shape g) ≡ true). both_true (has_no_index shape f) (has_no_index shape g) h in
    let first = λ (h : (has_no_index shape f && has_no_index shape g) ≡ true). (both_true (is_zero c) (list_all is_nothing (inner_terms i f.terms)) (none h).0).0 in
    let second = λ (h : (has_no_index shape f && has_no_index shape g) ≡ true). (both_true (is_zero d) (list_all is_nothing (inner_terms i g.terms)) (none h).1).0 in
    by_reasons (same_terms (invariant_terms i f.terms) (invariant_terms i g.terms)) (some_empty shape x y) (has_no_index shape f && has_no_index shape g) (is_zero (g.constant -ℤ f.constant)) (is_undivided shape f g) (is_too_near shape x y f g) (is_too_far shape x y f g)
    (λ h. undivided_nothing shape f g (none h).0 (none h).1)
    (λ h. not_near (int_eq c d) (is_zero c) near (first h))
    (λ h. not_far (int_eq c d) far (same_zeros c d (first h) (second h)))

on_forms : (shape : LoopShape) (x y : Spot) (o p : Option Affine)
    → (if (if_form o (λ f. if_form p (λ g. are_apart shape x y f g))) then Apart else Maybe) ≡ answer_on o p (λ f g. first_answer (rules_of shape x y f g))
on_forms shape x y None p = refl
on_forms shape x y (Some f) None = refl
on_forms shape x y (Some f) (Some g) = forms_by_rules shape x y f g

unless_wrapped : (a b c : Bool) (v : Verdict) → (if c then Apart else Maybe) ≡ v → (if (not a && (not b && c)) then Apart else Maybe) ≡ (if (a || b) then Maybe else v)
unless_wrapped true b c v h = refl
unless_wrapped false true c v h = refl
unless_wrapped false false c v h = h

-- the verdict is the first answer of the rules
pub by_rules : (shape : LoopShape) (x y : Spot) → verdict_of shape x y ≡ verdict_by_rules shape x y
by_rules shape x y = unless_wrapped x.wrap y.wrap _ _ (on_forms shape x y x.form y.form)
