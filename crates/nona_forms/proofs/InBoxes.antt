-- What terms add up to lies in their box range; terms are split by the region's index.
use Rattle.std.proofs.Common.{◌≡◌, ℕ, ◌==◌, ◌&&◌, Bool, true, false, ℤ, ◌+ℤ◌, ◌*ℤ◌, ◌≤ℤ◌, ◌<ℤ◌, List, [], ◌∷◌, refl, sym, ap, ◌∙◌, subst, arith, if◌then◌else◌, nat_lt, Some, None, is_some}
use Rattle.std.proofs.Math.IntN.{*ℤ_comm}
use Rattle.std.proofs.lemmas.Int.{ints}
use Rattle.std.specs.List.{AllByRecursion}
use Rattle.std.specs.Ordering.{int_eq}
use Rattle.std.specs.declared.option.Option.{Option}
use Rattle.nona_num.specs.declared.range.Range.{Range}
use Rattle.nona_num.specs.Ranges.{Holds}
use Rattle.nona_num.proofs.Products.{product_between}
use Rattle.nona_forms.specs.declared.terms.Term.{Term}
use Rattle.nona_forms.specs.Affine.{terms_at}
use Rattle.nona_forms.specs.declared.shapes.InnerLoop.{InnerLoop}
use Rattle.nona_forms.specs.Boxes.{sum_range, times_range, box}
use Rattle.nona_forms.specs.Verdicts.{fixed_inner, bounds_of, all_fixed, range_in, inner_box, invariant_terms, inner_terms, coefficient_of, same_terms}
use Rattle.nona_forms.proofs.Sums.{sum_times}

pub both_true : (a b : Bool) → (a && b) ≡ true → (a ≡ true) × (b ≡ true)
both_true true b h = (refl, h)
both_true false b h = cc

pub sum_holds : (r s : Range) (x y : ℤ) → Holds r x → Holds s y → Holds (sum_range r s) (x +ℤ y)
sum_holds r s x y h g = (omega (arith, ints, h, g), omega (arith, ints, h, g))

pub times_holds : (c : ℤ) (r : Range) (x : ℤ) → Holds r x → Holds (times_range c r) (c *ℤ x)
times_holds c r x h =
    let b = product_between r.low r.high x c h.0 h.1 in
    rw (*ℤ_comm c x) b

pub box_holds : (ranges : ℕ → Range) (s : ℕ → ℤ) (ts : List Term) → AllByRecursion (λ t. Holds (ranges t.id) (s t.id)) ts → Holds (box ranges ts) (terms_at s ts)
box_holds ranges s [] h = (omega (arith, ints), omega (arith, ints))
box_holds ranges s (t ∷ ts) h =
    sum_holds (times_range t.coefficient (ranges t.id)) (box ranges ts) (t.coefficient *ℤ s t.id) (terms_at s ts) (times_holds t.coefficient (ranges t.id) (s t.id) h.0) (box_holds ranges s ts h.1)

-- a number between constant bounds, where there are such
abbrev pub IsIn : Option (ℤ × ℤ) → ℤ → Type 0
IsIn None v = Unit {0}
IsIn (Some b) v = (b.0 ≤ℤ v) × (v <ℤ b.1)

pub in_range : (b : Option (ℤ × ℤ)) (v : ℤ) → is_some b ≡ true → IsIn b v → Holds (range_in b) v
in_range None v e h = cc
in_range (Some b) v e h = (h.0, omega (arith, ints, h.1))

-- the inner indices lie within their constant bounds
abbrev pub AreIn : List InnerLoop → (ℕ → ℤ) → Type 0
AreIn inner s = AllByRecursion (λ l. IsIn (fixed_inner l) (s l.id)) inner

looked_up : (l : InnerLoop) (inner : List InnerLoop) (s : ℕ → ℤ) (id : ℕ) (b : Bool) → (l.id == id) ≡ b → IsIn (fixed_inner l) (s l.id) → IsIn (bounds_of inner id) (s id)
    → IsIn (if b then fixed_inner l else bounds_of inner id) (s id)
looked_up l inner s id true e h g = let same : l.id ≡ id = grind arith in subst (λ i. IsIn (fixed_inner l) (s i)) same h
looked_up l inner s id false e h g = g

pub bounds_hold : (inner : List InnerLoop) (s : ℕ → ℤ) (id : ℕ) → AreIn inner s → IsIn (bounds_of inner id) (s id)
bounds_hold [] s id h = tt
bounds_hold (l ∷ inner) s id h = looked_up l inner s id (l.id == id) refl h.0 (bounds_hold inner s id h.1)

each_fixed : (inner : List InnerLoop) (s : ℕ → ℤ) (ts : List Term) → AreIn inner s → all_fixed inner ts ≡ true
    → AllByRecursion (λ t. Holds (range_in (bounds_of inner t.id)) (s t.id)) ts
each_fixed inner s [] h e = tt
each_fixed inner s (t ∷ ts) h e =
    let both = both_true (is_some (bounds_of inner t.id)) (all_fixed inner ts) e in
    (in_range (bounds_of inner t.id) (s t.id) both.0 (bounds_hold inner s t.id h), each_fixed inner s ts h both.1)

-- the inner part lies in its box range
pub inner_holds : (inner : List InnerLoop) (s : ℕ → ℤ) (ts : List Term) → AreIn inner s → all_fixed inner ts ≡ true → Holds (inner_box inner ts) (terms_at s ts)
inner_holds inner s ts h e = box_holds (λ id. range_in (bounds_of inner id)) s ts (each_fixed inner s ts h e)

-- the invariant part, the index's part, and the inner part
abbrev pub parts_at : ℕ → (ℕ → ℤ) → List Term → ℤ
parts_at i s ts = (terms_at s (invariant_terms i ts) +ℤ (coefficient_of i ts *ℤ s i)) +ℤ terms_at s (inner_terms i ts)

in_before : (x a b c : ℤ) → x +ℤ ((a +ℤ b) +ℤ c) ≡ ((x +ℤ a) +ℤ b) +ℤ c
in_before x a b c = omega (arith, ints)

in_behind : (x a b c : ℤ) → x +ℤ ((a +ℤ b) +ℤ c) ≡ (a +ℤ b) +ℤ (x +ℤ c)
in_behind x a b c = omega (arith, ints)

in_own : (x a b c : ℤ) → x +ℤ ((a +ℤ b) +ℤ c) ≡ (a +ℤ (x +ℤ b)) +ℤ c
in_own x a b c = omega (arith, ints)

one_part : (i : ℕ) (s : ℕ → ℤ) (t : Term) (ts : List Term) (p q e : Bool) → nat_lt t.id i ≡ p → nat_lt i t.id ≡ q → (t.id == i) ≡ e
    → (t.coefficient *ℤ s t.id) +ℤ parts_at i s ts
    ≡ (terms_at s (if p then t ∷ invariant_terms i ts else invariant_terms i ts) +ℤ ((if e then t.coefficient +ℤ coefficient_of i ts else coefficient_of i ts) *ℤ s i)) +ℤ terms_at s (if q then t ∷ inner_terms i ts else inner_terms i ts)
one_part i s t ts true true e h g k = absurd (grind arith)
one_part i s t ts true false true h g k = absurd (grind arith)
one_part i s t ts true false false h g k = in_before (t.coefficient *ℤ s t.id) (terms_at s (invariant_terms i ts)) (coefficient_of i ts *ℤ s i) (terms_at s (inner_terms i ts))
one_part i s t ts false true true h g k = absurd (grind arith)
one_part i s t ts false true false h g k = in_behind (t.coefficient *ℤ s t.id) (terms_at s (invariant_terms i ts)) (coefficient_of i ts *ℤ s i) (terms_at s (inner_terms i ts))
one_part i s t ts false false true h g k =
    let same : t.id ≡ i = grind arith in
    in_own (t.coefficient *ℤ s t.id) (terms_at s (invariant_terms i ts)) (coefficient_of i ts *ℤ s i) (terms_at s (inner_terms i ts))
    ∙ ap (λ j. (terms_at s (invariant_terms i ts) +ℤ ((t.coefficient *ℤ s j) +ℤ (coefficient_of i ts *ℤ s i))) +ℤ terms_at s (inner_terms i ts)) same
    ∙ ap (λ x. (terms_at s (invariant_terms i ts) +ℤ x) +ℤ terms_at s (inner_terms i ts)) (sym (sum_times t.coefficient (coefficient_of i ts) (s i)))
one_part i s t ts false false false h g k = absurd (grind arith)

pub in_parts : (i : ℕ) (s : ℕ → ℤ) (ts : List Term) → terms_at s ts ≡ parts_at i s ts
in_parts i s [] = omega (arith, ints)
in_parts i s (t ∷ ts) =
    ap (λ x. (t.coefficient *ℤ s t.id) +ℤ x) (in_parts i s ts)
    ∙ one_part i s t ts (nat_lt t.id i) (nat_lt i t.id) (t.id == i) refl refl refl

pub ids_same : (a b : ℕ) → (a == b) ≡ true → a ≡ b
ids_same a b h = grind arith

pub numbers_same : (a b : ℤ) → int_eq a b ≡ true → a ≡ b
numbers_same a b h = grind (arith, ints)

-- the same terms of scalars with the same values
pub same_at : (s r : ℕ → ℤ) (ts us : List Term) → same_terms ts us ≡ true → AllByRecursion (λ t. s t.id ≡ r t.id) ts → terms_at s ts ≡ terms_at r us
same_at s r [] [] e h = refl
same_at s r [] (u ∷ us) e h = cc
same_at s r (t ∷ ts) [] e h = cc
same_at s r (t ∷ ts) (u ∷ us) e h =
    let first = both_true (t.id == u.id) (int_eq t.coefficient u.coefficient && same_terms ts us) e in
    let second = both_true (int_eq t.coefficient u.coefficient) (same_terms ts us) first.1 in
    ap (λ x. (t.coefficient *ℤ x) +ℤ terms_at s ts) (h.0 ∙ ap r (ids_same t.id u.id first.0))
    ∙ ap (λ x. (x *ℤ r u.id) +ℤ terms_at s ts) (numbers_same t.coefficient u.coefficient second.0)
    ∙ ap (λ x. (u.coefficient *ℤ r u.id) +ℤ x) (same_at s r ts us second.1 h.1)
