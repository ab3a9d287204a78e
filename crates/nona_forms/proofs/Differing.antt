-- Forms that are told apart have different values in different iterations.
use Rattle.std.proofs.Common.{◌≡◌, ◌≢◌, ℕ, zero, suc, ◌≤◌, ◌<◌, ◌*◌, ◌&&◌, ◌||◌, Bool, true, false, not, ℤ, pos, negsuc, ◌+ℤ◌, ◌-ℤ◌, ◌*ℤ◌, neg_ℤ, ◌≤ℤ◌, ◌<ℤ◌, List, [], ◌∷◌, refl, sym, ap, ◌∙◌, subst, arith, if◌then◌else◌, nat_lt, Some, None, is_some}
use Rattle.std.proofs.Math.IntN.{*ℤ_comm}
use Rattle.std.proofs.lemmas.Int.{ints, unsigned_abs-mul}
use Rattle.std.proofs.lemmas.Grind.{div_ceil_times}
use Rattle.std.proofs.lemmas.Nat.Gcd.{dvd_trans}
use Rattle.std.specs.Int.{◌∣◌, int_gap, div_ceil}
use Rattle.std.specs.List.{AllByRecursion, list_any}
use Rattle.std.specs.Ordering.{int_eq}
use Rattle.std.specs.Prelude.{unsigned_abs, int_le, int_lt, max}
use Rattle.std.specs.declared.option.Option.{Option}
use Rattle.nona_num.specs.declared.range.Range.{Range}
use Rattle.nona_num.specs.Ranges.{Holds}
use Rattle.nona_num.proofs.Products.{product_assoc}
use Rattle.std.proofs.Math.Nat.{mul-le-mul_right, mul-le-mul_left}
use Rattle.std.proofs.lemmas.Bool.{cases_lt}
use Rattle.std.proofs.Common.{⊎_elim}
use Rattle.nona_tree.specs.Run.{count_of}
use Rattle.nona_tree.specs.Value.{is_zero}
use Rattle.nona_forms.specs.declared.terms.Term.{Term}
use Rattle.nona_forms.specs.Affine.{Affine, terms_at, form_at}
use Rattle.nona_forms.specs.declared.shapes.InnerLoop.{InnerLoop}
use Rattle.nona_forms.specs.declared.shapes.Spot.{Spot}
use Rattle.nona_forms.specs.declared.shapes.LoopShape.{LoopShape}
use Rattle.nona_forms.specs.Boxes.{sum_range, times_range}
use Rattle.nona_forms.specs.Verdicts.{is_empty, fixed_inner, all_fixed, range_in, inner_box, invariant_terms, inner_terms, coefficient_of, same_terms, gcd_of, gcd_terms, divides, is_distance, has_multiple, has_distance, is_outside, some_empty, is_undivided, near_of, far_of, is_too_near, is_too_far, are_apart}
use Rattle.nona_forms.proofs.Sums.{times_sum, minus_is, less_is}
use Rattle.nona_forms.proofs.Division.{Divides, divides_sum, divides_times, divides_minus, divides_from, gcd_divides, all_divided, terms_divided, divides_found}
use Rattle.nona_forms.proofs.InBoxes.{both_true, sum_holds, times_holds, IsIn, in_range, AreIn, inner_holds, in_parts, same_at, numbers_same}

-- the values of the scalars at two accesses: in different iterations, each index within its bounds where they are
-- constant, and the invariants the same
pub record AreTwo (shape : LoopShape) (x y : Spot) (f : Affine) (s r : ℕ → ℤ) : Type 0 where
  pub region_left : IsIn shape.fixed (s shape.index)
  pub region_right : IsIn shape.fixed (r shape.index)
  pub left : AreIn x.inner s
  pub right : AreIn y.inner r
  pub invariants : AllByRecursion (λ t. s t.id ≡ r t.id) (invariant_terms shape.index f.terms)
  pub others : s shape.index ≢ r shape.index

no_number : (a b v : ℤ) → int_le b a ≡ true → a ≤ℤ v → v <ℤ b → ⊥
no_number a b v e h g = omega (arith, ints)

-- nothing lies in empty bounds
nothing_in : (b : Option (ℤ × ℤ)) (v : ℤ) → is_empty b ≡ true → IsIn b v → ⊥
nothing_in None v e h = cc
nothing_in (Some b) v e h = no_number b.0 b.1 v e h.0 h.1

either_true : {A : Type 0} (a b : Bool) → (a || b) ≡ true → (a ≡ true → A) → (b ≡ true → A) → A
either_true true b h left right = left refl
either_true false b h left right = right h

nothing_inside : (inner : List InnerLoop) (s : ℕ → ℤ) → list_any (λ l. is_empty (fixed_inner l)) inner ≡ true → AreIn inner s → ⊥
nothing_inside [] s e h = cc
nothing_inside (l ∷ inner) s e h =
    either_true (is_empty (fixed_inner l)) (list_any (λ l. is_empty (fixed_inner l)) inner) e (λ k. nothing_in (fixed_inner l) (s l.id) k h.0) (λ k. nothing_inside inner s k h.1)

not_empty : (shape : LoopShape) (x y : Spot) (f : Affine) (s r : ℕ → ℤ) → AreTwo shape x y f s r → some_empty shape x y ≡ true → ⊥
not_empty shape x y f s r two e =
    either_true (is_empty shape.fixed) _ e (λ k. nothing_in shape.fixed (s shape.index) k two.region_left) (λ k. either_true (list_any (λ l. is_empty (fixed_inner l)) x.inner) (list_any (λ l. is_empty (fixed_inner l)) y.inner) k (λ j. nothing_inside x.inner s j two.left) (λ j. nothing_inside y.inner r j two.right))

-- where both forms have one value, the difference of the constants is made up by the indices
balanced : (cf cg a x y p q : ℤ) → cf +ℤ ((a +ℤ p) +ℤ x) ≡ cg +ℤ ((a +ℤ q) +ℤ y) → (cg -ℤ cf) ≡ (p +ℤ neg_ℤ q) +ℤ (x +ℤ neg_ℤ y)
balanced cf cg a x y p q e = omega (arith, ints)

balance : (i : ℕ) (f g : Affine) (s r : ℕ → ℤ) → same_terms (invariant_terms i f.terms) (invariant_terms i g.terms) ≡ true → AllByRecursion (λ t. s t.id ≡ r t.id) (invariant_terms i f.terms)
    → form_at s f ≡ form_at r g
    → (g.constant -ℤ f.constant)
    ≡ ((coefficient_of i f.terms *ℤ s i) +ℤ neg_ℤ (coefficient_of i g.terms *ℤ r i)) +ℤ (terms_at s (inner_terms i f.terms) +ℤ neg_ℤ (terms_at r (inner_terms i g.terms)))
balance i f g s r same agree e =
    balanced f.constant g.constant (terms_at s (invariant_terms i f.terms)) (terms_at s (inner_terms i f.terms)) (terms_at r (inner_terms i g.terms)) (coefficient_of i f.terms *ℤ s i) (coefficient_of i g.terms *ℤ r i)
    (ap (λ x. f.constant +ℤ x) (sym (in_parts i s f.terms)) ∙ e ∙ ap (λ x. g.constant +ℤ x) (in_parts i r g.terms) ∙ ap (λ x. g.constant +ℤ ((x +ℤ (coefficient_of i g.terms *ℤ r i)) +ℤ terms_at r (inner_terms i g.terms))) (sym (same_at s r (invariant_terms i f.terms) (invariant_terms i g.terms) same agree)))

-- the divisor of all coefficients divides what the indices make
all_by : (P Q : Term → Type 0) → ((t : Term) → P t → Q t) → (ts : List Term) → AllByRecursion P ts → AllByRecursion Q ts
all_by P Q go [] h = tt
all_by P Q go (t ∷ ts) h = (go t h.0, all_by P Q go ts h.1)

indices_divided : (c d p q : ℤ) (s r : ℕ → ℤ) (ts us : List Term)
    → Divides (gcd_terms (gcd_terms (gcd_of (unsigned_abs c) (unsigned_abs d)) ts) us) (((c *ℤ p) +ℤ neg_ℤ (d *ℤ q)) +ℤ (terms_at s ts +ℤ neg_ℤ (terms_at r us)))
indices_divided c d p q s r ts us =
    let first = gcd_of (unsigned_abs c) (unsigned_abs d) in
    let both = gcd_divides (unsigned_abs c) (unsigned_abs d) in
    let mid = gcd_terms first ts in
    let all = gcd_terms mid us in
    let of_ts = all_divided first ts in
    let of_us = all_divided mid us in
    let in_first : all ∣ first = dvd_trans all of_us.0 of_ts.0 in
    divides_sum all ((c *ℤ p) +ℤ neg_ℤ (d *ℤ q)) (terms_at s ts +ℤ neg_ℤ (terms_at r us))
    (divides_sum all (c *ℤ p) (neg_ℤ (d *ℤ q)) (divides_times all c p (divides_from c all (dvd_trans all in_first both.0))) (divides_minus all (d *ℤ q) (divides_times all d q (divides_from d all (dvd_trans all in_first both.1)))))
    (divides_sum all (terms_at s ts) (neg_ℤ (terms_at r us)) (terms_divided all s ts (all_by (λ t. mid ∣ unsigned_abs t.coefficient) (λ t. all ∣ unsigned_abs t.coefficient) (λ t h. dvd_trans all of_us.0 h) ts of_ts.1)) (divides_minus all (terms_at r us) (terms_divided all r us of_us.1)))

turned : (b : Bool) → not b ≡ true → b ≡ false
turned true e = cc
turned false e = refl

not_both : (b : Bool) → b ≡ true → b ≡ false → ⊥
not_both b h g = cc

no_division : (shape : LoopShape) (x y : Spot) (f g : Affine) (s r : ℕ → ℤ) → AreTwo shape x y f s r → same_terms (invariant_terms shape.index f.terms) (invariant_terms shape.index g.terms) ≡ true
    → is_undivided shape f g ≡ true → form_at s f ≡ form_at r g → ⊥
no_division shape x y f g s r two same e value =
    let i = shape.index in
    let c = coefficient_of i f.terms in
    let d = coefficient_of i g.terms in
    let all = gcd_terms (gcd_terms (gcd_of (unsigned_abs c) (unsigned_abs d)) (inner_terms i f.terms)) (inner_terms i g.terms) in
    not_both (divides all (g.constant -ℤ f.constant))
    (divides_found all (g.constant -ℤ f.constant) (subst (Divides all) (sym (balance i f g s r same two.invariants value)) (indices_divided c d (s i) (r i) s r (inner_terms i f.terms) (inner_terms i g.terms))))
    (turned _ e)

-- too far: the difference lies in the range of all that the indices make
minus_holds : (r : Range) (x : ℤ) → Holds r x → Holds (times_range (negsuc 0) r) (neg_ℤ x)
minus_holds r x h = rw (minus_is x) (times_holds (negsuc 0) r x h)

outside_is_not_in : (c : ℤ) (r : Range) → is_outside c r ≡ true → Holds r c → ⊥
outside_is_not_in c r e h = either_true (int_lt c r.low) (int_lt r.high c) e (λ k. omega (arith, ints, k, h)) (λ k. omega (arith, ints, k, h))

minus_left : (d q : ℤ) → neg_ℤ d *ℤ q ≡ neg_ℤ (d *ℤ q)
minus_left d q = ap (λ x. x *ℤ q) (minus_is d) ∙ product_assoc (negsuc 0) d q ∙ sym (minus_is (d *ℤ q))

far_known : (b : Option (ℤ × ℤ)) (c d : ℤ) (p q : Bool) (left right : Range) (k : ℤ) → far_of b c d (if p then Some left else None) (if q then Some right else None) k ≡ true
    → (is_some b ≡ true) × (p ≡ true) × (q ≡ true) × (is_outside k (sum_range (sum_range (times_range c (range_in b)) (times_range (neg_ℤ d) (range_in b))) (sum_range left (times_range (negsuc 0) right))) ≡ true)
far_known (Some b) c d true true left right k e = (refl, refl, refl, e)
far_known (Some b) c d true false left right k e = cc
far_known (Some b) c d false q left right k e = cc
far_known None c d p q left right k e = cc

no_far : (shape : LoopShape) (x y : Spot) (f g : Affine) (s r : ℕ → ℤ) → AreTwo shape x y f s r → same_terms (invariant_terms shape.index f.terms) (invariant_terms shape.index g.terms) ≡ true
    → is_too_far shape x y f g ≡ true → form_at s f ≡ form_at r g → ⊥
no_far shape x y f g s r two same e value =
    let i = shape.index in
    let c = coefficient_of i f.terms in
    let d = coefficient_of i g.terms in
    let e1 = both_true (not (int_eq c d)) _ e in
    let known = far_known shape.fixed c d (all_fixed x.inner (inner_terms i f.terms)) (all_fixed y.inner (inner_terms i g.terms)) (inner_box x.inner (inner_terms i f.terms)) (inner_box y.inner (inner_terms i g.terms)) (g.constant -ℤ f.constant) e1.1 in
    let region = range_in shape.fixed in
    let left = times_holds c region (s i) (in_range shape.fixed (s i) known.0 two.region_left) in
    let right : Holds (times_range (neg_ℤ d) region) (neg_ℤ (d *ℤ r i)) = subst (Holds (times_range (neg_ℤ d) region)) (minus_left d (r i)) (times_holds (neg_ℤ d) region (r i) (in_range shape.fixed (r i) known.0 two.region_right)) in
    let own = inner_holds x.inner s (inner_terms i f.terms) two.left known.1 in
    let other = minus_holds (inner_box y.inner (inner_terms i g.terms)) (terms_at r (inner_terms i g.terms)) (inner_holds y.inner r (inner_terms i g.terms) two.right known.2) in
    let indices = sum_holds (times_range c region) (times_range (neg_ℤ d) region) (c *ℤ s i) (neg_ℤ (d *ℤ r i)) left right in
    let inners = sum_holds (inner_box x.inner (inner_terms i f.terms)) (times_range (negsuc 0) (inner_box y.inner (inner_terms i g.terms))) (terms_at s (inner_terms i f.terms)) (neg_ℤ (terms_at r (inner_terms i g.terms))) own other in
    let all = sum_range (sum_range (times_range c region) (times_range (neg_ℤ d) region)) (sum_range (inner_box x.inner (inner_terms i f.terms)) (times_range (negsuc 0) (inner_box y.inner (inner_terms i g.terms)))) in
    let total = sum_holds (sum_range (times_range c region) (times_range (neg_ℤ d) region)) (sum_range (inner_box x.inner (inner_terms i f.terms)) (times_range (negsuc 0) (inner_box y.inner (inner_terms i g.terms)))) _ _ indices inners in
    outside_is_not_in (g.constant -ℤ f.constant) all known.3 (subst (Holds all) (sym (balance i f g s r same two.invariants value)) total)

-- too near: the least distance that could do is tried, and a greater one doesn't do where that doesn't
least_is_less : (n a k : ℕ) → 0 < a → n ≤ k * a → div_ceil n a ≤ k
least_is_less n a k some within =
    let t = div_ceil_times n a some in
    ⊎_elim (λ (more : k < div_ceil n a). let m : suc k * a ≤ div_ceil n a * a = mul-le-mul_right a (omega (arith, more)) in absurd (omega (arith, t.1, m, within))) (λ (less : div_ceil n a ≤ k). less) (cases_lt k (div_ceil n a))

count_within : (low : ℤ) (n : ℕ) → low ≤ℤ pos n → count_of low ≤ n
count_within (pos m) n h = omega (arith, ints, h)
count_within (negsuc m) n h = omega arith

nearer : (fixed : Option (ℤ × ℤ)) (d k : ℕ) → d ≤ k → is_distance fixed k ≡ true → is_distance fixed d ≡ true
nearer None d k h e = refl
nearer (Some b) d k h e = grind arith

below_too : (m n : ℕ) (high : ℤ) → m ≤ n → pos n ≤ℤ high → int_le (pos m) high ≡ true
below_too m n high h top = grind (arith, ints)

reach_step : (fixed : Option (ℤ × ℤ)) (a d k : ℕ) (high : ℤ) → d ≤ k → pos (a * k) ≤ℤ high → is_distance fixed k ≡ true
    → (int_le (pos (a * d)) high && is_distance fixed d) ≡ true
reach_step fixed a d k high h top e =
    let less : a * d ≤ a * k = mul-le-mul_left a h in
    let first : int_le (pos (a * d)) high ≡ true = below_too (a * d) (a * k) high less top in
    ap (λ x. x && is_distance fixed d) first ∙ nearer fixed d k h e

pub reached : (fixed : Option (ℤ × ℤ)) (a k : ℕ) (low high : ℤ) → 0 < a → 0 < k → low ≤ℤ pos (a * k) → pos (a * k) ≤ℤ high → is_distance fixed k ≡ true
    → has_multiple fixed a low high ≡ true
reached fixed a k low high some_a some_k bottom top e =
    let least = least_is_less (count_of low) a k some_a (omega (arith, count_within low (a * k) bottom)) in
    reach_step fixed a (max 1 (div_ceil (count_of low) a)) k high (omega (arith, least, some_k)) top e

-- the distance of two iterations
gap_is : (a b : ℤ) → a <ℤ b → pos (int_gap a b) ≡ b -ℤ a
gap_is (pos a) (pos b) h = omega (arith, ints, h)
gap_is (pos a) (negsuc b) h = absurd (omega (arith, ints, h))
gap_is (negsuc a) (pos b) h = omega (arith, ints)
gap_is (negsuc a) (negsuc b) h = omega (arith, ints, h)

abs_below : (z : ℤ) (n : ℕ) → z <ℤ pos n → neg_ℤ (pos n) <ℤ z → unsigned_abs z < n
abs_below (pos m) n h g = omega (arith, ints, h)
abs_below (negsuc m) n h g = omega (arith, ints, g)

below_found : (m n : ℕ) → m < n → nat_lt m n ≡ true
below_found m n h = grind arith

apart_within : (a b p q : ℤ) → a ≤ℤ p → p <ℤ b → a ≤ℤ q → q <ℤ b → nat_lt (unsigned_abs (p -ℤ q)) (int_gap a b) ≡ true
apart_within a b p q h g k j =
    let gap = gap_is a b (omega (arith, ints)) in
    below_found _ _ (abs_below (p -ℤ q) (int_gap a b) (omega (arith, ints, gap)) (omega (arith, ints, gap)))

distance_fits : (fixed : Option (ℤ × ℤ)) (p q : ℤ) → IsIn fixed p → IsIn fixed q → is_distance fixed (unsigned_abs (p -ℤ q)) ≡ true
distance_fits None p q h g = refl
distance_fits (Some b) p q h g = apart_within b.0 b.1 p q h.0 h.1 g.0 g.1

or_left : (a b : Bool) → a ≡ true → (a || b) ≡ true
or_left a b h = ap (λ x. x || b) h

or_right : (a b : Bool) → b ≡ true → (a || b) ≡ true
or_right true b h = refl
or_right false b h = h

-- a product in the range is a distance that is found
found_distance : (fixed : Option (ℤ × ℤ)) (c : ℤ) (r : Range) (v : ℤ) (k : ℕ) → 0 < unsigned_abs c → 0 < k → unsigned_abs v ≡ unsigned_abs c * k → Holds r v → is_distance fixed k ≡ true
    → has_distance fixed c r ≡ true
found_distance fixed c r (pos n) k some_c some_k e h g =
    let bottom : r.low ≤ℤ pos (unsigned_abs c * k) = subst (λ n. r.low ≤ℤ pos n) e h.0 in
    let top : pos (unsigned_abs c * k) ≤ℤ r.high = subst (λ n. pos n ≤ℤ r.high) e h.1 in
    or_left (has_multiple fixed (unsigned_abs c) r.low r.high) _ (reached fixed (unsigned_abs c) k r.low r.high some_c some_k bottom top g)
found_distance fixed c r (negsuc n) k some_c some_k e h g =
    let bottom : neg_ℤ r.high ≤ℤ pos (unsigned_abs c * k) = subst (λ n. neg_ℤ r.high ≤ℤ pos n) e (omega (arith, ints, h.1)) in
    let top : pos (unsigned_abs c * k) ≤ℤ neg_ℤ r.low = subst (λ n. pos n ≤ℤ neg_ℤ r.low) e (omega (arith, ints, h.0)) in
    or_right (has_multiple fixed (unsigned_abs c) r.low r.high) _ (reached fixed (unsigned_abs c) k (neg_ℤ r.high) (neg_ℤ r.low) some_c some_k bottom top g)

-- the rest is what the distance makes
rest_is : (k p q x y : ℤ) → k ≡ (p +ℤ neg_ℤ q) +ℤ (x +ℤ neg_ℤ y) → ((y +ℤ neg_ℤ x) +ℤ k) ≡ p +ℤ neg_ℤ q
rest_is k p q x y e = omega (arith, ints)

difference_times : (c p q : ℤ) → (c *ℤ p) +ℤ neg_ℤ (c *ℤ q) ≡ c *ℤ (p -ℤ q)
difference_times c p q =
    ap (λ x. (c *ℤ p) +ℤ x) (minus_is (c *ℤ q) ∙ sym (product_assoc (negsuc 0) c q) ∙ ap (λ x. x *ℤ q) (*ℤ_comm (negsuc 0) c) ∙ product_assoc c (negsuc 0) q)
    ∙ sym (times_sum c p (negsuc 0 *ℤ q)) ∙ ap (λ x. c *ℤ x) (sym (less_is p q))

some_abs : (z : ℤ) → z ≢ pos 0 → 0 < unsigned_abs z
some_abs (pos zero) h = absurd (h refl)
some_abs (pos (suc n)) h = omega arith
some_abs (negsuc n) h = omega arith

some_number : (c : ℤ) → is_zero c ≡ false → 0 < unsigned_abs c
some_number c e = some_abs c (λ h. not_both (is_zero c) (ap is_zero h) e)

some_distance : (p q : ℤ) → p ≢ q → 0 < unsigned_abs (p -ℤ q)
some_distance p q h = some_abs (p -ℤ q) (λ e. h (omega (arith, ints, e)))

itself : (z : ℤ) → (z ≤ℤ z) × (z ≤ℤ z)
itself z = (omega (arith, ints), omega (arith, ints))

near_known : (fixed : Option (ℤ × ℤ)) (c : ℤ) (p q : Bool) (left right : Range) (k : ℤ) → near_of fixed c (if p then Some left else None) (if q then Some right else None) k ≡ true
    → (p ≡ true) × (q ≡ true) × (not (has_distance fixed c (sum_range (sum_range right (times_range (negsuc 0) left)) (record { low = k; high = k }))) ≡ true)
near_known fixed c true true left right k e = (refl, refl, e)
near_known fixed c true false left right k e = cc
near_known fixed c false q left right k e = cc

no_near : (shape : LoopShape) (x y : Spot) (f g : Affine) (s r : ℕ → ℤ) → AreTwo shape x y f s r → same_terms (invariant_terms shape.index f.terms) (invariant_terms shape.index g.terms) ≡ true
    → is_too_near shape x y f g ≡ true → form_at s f ≡ form_at r g → ⊥
no_near shape x y f g s r two same e value =
    let i = shape.index in
    let c = coefficient_of i f.terms in
    let d = coefficient_of i g.terms in
    let e1 = both_true (int_eq c d) _ e in
    let e2 = both_true (not (is_zero c)) _ e1.1 in
    let k = g.constant -ℤ f.constant in
    let known = near_known shape.fixed c (all_fixed x.inner (inner_terms i f.terms)) (all_fixed y.inner (inner_terms i g.terms)) (inner_box x.inner (inner_terms i f.terms)) (inner_box y.inner (inner_terms i g.terms)) k e2.1 in
    let own = minus_holds (inner_box x.inner (inner_terms i f.terms)) (terms_at s (inner_terms i f.terms)) (inner_holds x.inner s (inner_terms i f.terms) two.left known.0) in
    let other = inner_holds y.inner r (inner_terms i g.terms) two.right known.1 in
    let inners = sum_holds (inner_box y.inner (inner_terms i g.terms)) (times_range (negsuc 0) (inner_box x.inner (inner_terms i f.terms))) (terms_at r (inner_terms i g.terms)) (neg_ℤ (terms_at s (inner_terms i f.terms))) other own in
    let at_k : Range = record { low = k; high = k } in
    let total = sum_holds (sum_range (inner_box y.inner (inner_terms i g.terms)) (times_range (negsuc 0) (inner_box x.inner (inner_terms i f.terms)))) at_k _ k inners (itself k) in
    let all = sum_range (sum_range (inner_box y.inner (inner_terms i g.terms)) (times_range (negsuc 0) (inner_box x.inner (inner_terms i f.terms)))) at_k in
    let made : ((terms_at r (inner_terms i g.terms) +ℤ neg_ℤ (terms_at s (inner_terms i f.terms))) +ℤ k) ≡ c *ℤ (s i -ℤ r i) =
    rest_is k (c *ℤ s i) (d *ℤ r i) (terms_at s (inner_terms i f.terms)) (terms_at r (inner_terms i g.terms)) (balance i f g s r same two.invariants value)
    ∙ ap (λ z. (c *ℤ s i) +ℤ neg_ℤ (z *ℤ r i)) (sym (numbers_same c d e1.0)) ∙ difference_times c (s i) (r i) in
    not_both (has_distance shape.fixed c all)
    (found_distance shape.fixed c all (c *ℤ (s i -ℤ r i)) (unsigned_abs (s i -ℤ r i)) (some_number c (turned _ e2.0)) (some_distance (s i) (r i) two.others) (unsigned_abs-mul c (s i -ℤ r i)) (subst (Holds all) made total) (distance_fits shape.fixed (s i) (r i) two.region_left two.region_right))
    (turned _ known.2)

-- forms that are told apart have different values in different iterations
pub apart_differ : (shape : LoopShape) (x y : Spot) (f g : Affine) (s r : ℕ → ℤ) → AreTwo shape x y f s r → are_apart shape x y f g ≡ true → form_at s f ≢ form_at r g
apart_differ shape x y f g s r two e value =
    let both = both_true (same_terms (invariant_terms shape.index f.terms) (invariant_terms shape.index g.terms)) _ e in
    either_true (some_empty shape x y) _ both.1 (λ k. not_empty shape x y f s r two k) (λ k. either_true (is_undivided shape f g) _ k (λ j. no_division shape x y f g s r two both.0 j value) (λ j. either_true (is_too_near shape x y f g) _ j (λ h. no_near shape x y f g s r two both.0 h value) (λ h. no_far shape x y f g s r two both.0 h value)))
