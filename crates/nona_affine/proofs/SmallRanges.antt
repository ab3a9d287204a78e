-- How large the numbers of ranges grow.
use Rattle.std.proofs.Common.{◌≡◌, ℕ, zero, suc, ◌+◌, ◌*◌, ◌^◌, ◌<◌, ◌≤◌, ◌&&◌, IsTrue, Bool, true, false, ℤ, pos, negsuc, ◌+ℤ◌, ◌*ℤ◌, ◌-ℤ◌, ◌≤ℤ◌, neg_ℤ, List, [], ◌∷◌, ◌++◌, length, take, refl, sym, ap, ◌∙◌, subst, arith, if◌then◌else◌, FitsSigned, nat_lt, append-nil, Some, None, is_some}
use Rattle.std.proofs.Math.IntN.{+ℤ_assoc, +ℤ_idl, +ℤ_idr}
use Rattle.std.proofs.Math.Nat.{mul-le-mul}
use Rattle.std.proofs.lemmas.Int.{ints, unsigned_abs-mul}
use Rattle.std.proofs.lemmas.List.{take_more}
use Rattle.std.proofs.lemmas.List.Elements.{filter-append}
use Rattle.std.proofs.lemmas.List.Folds.{list_all-append}
use Rattle.std.specs.Int.{int_min, int_max, w64, w128}
use Rattle.std.specs.Prelude.{unsigned_abs, slice_index_or}
use Rattle.nona_num.specs.declared.range.Range.{Range}
use Rattle.nona_forms.specs.declared.terms.Term.{Term}
use Rattle.nona_forms.specs.declared.shapes.InnerLoop.{InnerLoop}
use Rattle.nona_forms.specs.Affine.{is_coefficient}
use Rattle.nona_affine.specs.Small.{IsSmallRange}
use Rattle.nona_affine.specs.Steps.{added_term}
use Rattle.nona_forms.specs.Boxes.{times_range, sum_range, box}
use Rattle.nona_forms.specs.Verdicts.{inner_box, bounds_of, range_in, all_fixed, inner_terms}

pub coefficient_small : (c : ℤ) → IsTrue (is_coefficient c) → unsigned_abs c ≤ 2147483648
coefficient_small (pos n) h = grind (arith, ints)
coefficient_small (negsuc n) h = grind (arith, ints)

product_small : (a c : ℤ) → unsigned_abs a ≤ 2 ^ 64 → IsTrue (is_coefficient c) → unsigned_abs (a *ℤ c) ≤ 2 ^ 95
product_small a c h g =
    let both : unsigned_abs a * unsigned_abs c ≤ 18446744073709551616 * 2147483648 = mul-le-mul h (coefficient_small c g) in
    omega (arith, unsigned_abs-mul a c, both)

abs_fits : (z : ℤ) (n : ℕ) → n < 2 ^ 127 → unsigned_abs z ≤ n → FitsSigned w128 z
abs_fits (pos m) n few h = omega (arith, ints, h)
abs_fits (negsuc m) n few h = omega (arith, ints, h)

pub small_product : (r : Range) (c : ℤ) → IsTrue (is_coefficient c) → IsSmallRange (2 ^ 64) r → FitsSigned w128 (r.low *ℤ c) × FitsSigned w128 (r.high *ℤ c)
small_product r c h small =
    (abs_fits (r.low *ℤ c) (2 ^ 95) (omega arith) (product_small r.low c small.low h), abs_fits (r.high *ℤ c) (2 ^ 95) (omega arith) (product_small r.high c small.high h))

min_small : (a b : ℤ) (n : ℕ) → unsigned_abs a ≤ n → unsigned_abs b ≤ n → unsigned_abs (int_min a b) ≤ n
min_small a b n h g = grind (arith, ints)

max_small : (a b : ℤ) (n : ℕ) → unsigned_abs a ≤ n → unsigned_abs b ≤ n → unsigned_abs (int_max a b) ≤ n
max_small a b n h g = grind (arith, ints)

pub small_times : (c : ℤ) (r : Range) → IsTrue (is_coefficient c) → IsSmallRange (2 ^ 64) r → IsSmallRange (2 ^ 95) (times_range c r)
small_times c r h small = record {
  low = min_small (r.low *ℤ c) (r.high *ℤ c) (2 ^ 95) (product_small r.low c small.low h) (product_small r.high c small.high h);
  high = max_small (r.low *ℤ c) (r.high *ℤ c) (2 ^ 95) (product_small r.low c small.low h) (product_small r.high c small.high h);
}

abs_most : (z : ℤ) (n : ℕ) → z ≤ℤ pos n → neg_ℤ (pos n) ≤ℤ z → unsigned_abs z ≤ n
abs_most (pos m) n h g = omega (arith, ints, h)
abs_most (negsuc m) n h g = omega (arith, ints, g)

most_abs : (z : ℤ) (n : ℕ) → unsigned_abs z ≤ n → (z ≤ℤ pos n) × (neg_ℤ (pos n) ≤ℤ z)
most_abs (pos m) n h = (omega (arith, ints, h), omega (arith, ints, h))
most_abs (negsuc m) n h = (omega (arith, ints, h), omega (arith, ints, h))

pub sum_small : (a b : ℤ) (m n : ℕ) → unsigned_abs a ≤ m → unsigned_abs b ≤ n → unsigned_abs (a +ℤ b) ≤ m + n
sum_small a b m n h g =
    let of_a = most_abs a m h in
    let of_b = most_abs b n g in
    abs_most (a +ℤ b) (m + n) (omega (arith, ints, of_a, of_b)) (omega (arith, ints, of_a, of_b))

pub small_sum : (r s : Range) (m n : ℕ) → IsSmallRange m r → IsSmallRange n s → IsSmallRange (m + n) (sum_range r s)
small_sum r s m n h g = record { low = sum_small r.low s.low m n h.low g.low; high = sum_small r.high s.high m n h.high g.high }

-- one more term
same_range : (r s : Range) → r.low ≡ s.low → r.high ≡ s.high → r ≡ s
same_range r s h g = λ i. record { low = h i; high = g i }

box_both : (ranges : ℕ → Range) (ts us : List Term) → box ranges (ts ++ us) ≡ sum_range (box ranges ts) (box ranges us)
box_both ranges [] us = same_range _ _ (sym (+ℤ_idl (box ranges us).low)) (sym (+ℤ_idl (box ranges us).high))
box_both ranges (t ∷ ts) us =
    let first = times_range t.coefficient (ranges t.id) in
    ap (sum_range first) (box_both ranges ts us)
    ∙ same_range _ _ (sym (+ℤ_assoc first.low (box ranges ts).low (box ranges us).low)) (sym (+ℤ_assoc first.high (box ranges ts).high (box ranges us).high))

box_one : (ranges : ℕ → Range) (t : Term) → box ranges (t ∷ []) ≡ times_range t.coefficient (ranges t.id)
box_one ranges t = same_range _ _ (+ℤ_idr (times_range t.coefficient (ranges t.id)).low) (+ℤ_idr (times_range t.coefficient (ranges t.id)).high)

behind_both : (index : ℕ) (ts us : List Term) → inner_terms index (ts ++ us) ≡ inner_terms index ts ++ inner_terms index us
behind_both index ts us = filter-append (λ (t : Term). nat_lt index t.id) ts us

-- the parts of a sum of one more term
record IsPart (index : ℕ) (inner : List InnerLoop) (ts : List Term) (r : Range) : Type 0 where
  fixed : all_fixed inner (inner_terms index ts) ≡ true
  total : r ≡ inner_box inner (inner_terms index ts)

and_true : (a b : Bool) → a ≡ true → b ≡ true → (a && b) ≡ true
and_true true b h g = g
and_true false b h g = h

and_false : (a b : Bool) → b ≡ false → (a && b) ≡ false
and_false true b h = h
and_false false b h = refl

found : (s r : Range) → Some r ≡ Some s → s ≡ r
found s r e = cc

step_at : (index : ℕ) (inner : List InnerLoop) (ts : List Term) (t : Term) (r s : Range) (less known : Bool) → nat_lt index t.id ≡ less → is_some (bounds_of inner t.id) ≡ known → IsPart index inner ts r
    → (if less then (if known then Some (sum_range r (times_range t.coefficient (range_in (bounds_of inner t.id)))) else None) else Some r) ≡ Some s
    → (xs : List Term) → (if less then t ∷ [] else []) ≡ xs → (all_fixed inner (inner_terms index ts ++ xs) ≡ true) × (s ≡ inner_box inner (inner_terms index ts ++ xs))
step_at index inner ts t r s true true e k h same xs x =
    subst (λ ys. (all_fixed inner (inner_terms index ts ++ ys) ≡ true) × (s ≡ inner_box inner (inner_terms index ts ++ ys))) x (
      (list_all-append (λ (u : Term). is_some (bounds_of inner u.id)) (inner_terms index ts) (t ∷ []) ∙ and_true _ _ h.fixed (and_true _ _ k refl)),
      (found s (sum_range r (times_range t.coefficient (range_in (bounds_of inner t.id)))) same ∙ ap (λ q. sum_range q (times_range t.coefficient (range_in (bounds_of inner t.id)))) h.total ∙ sym (box_both (λ id. range_in (bounds_of inner id)) (inner_terms index ts) (t ∷ []) ∙ ap (sum_range (inner_box inner (inner_terms index ts))) (box_one (λ id. range_in (bounds_of inner id)) t))),
    )
step_at index inner ts t r s true false e k h same xs x = cc
step_at index inner ts t r s false known e k h same xs x =
    subst (λ ys. (all_fixed inner (inner_terms index ts ++ ys) ≡ true) × (s ≡ inner_box inner (inner_terms index ts ++ ys))) x
    (subst (λ ys. (all_fixed inner ys ≡ true) × (s ≡ inner_box inner ys)) (sym (append-nil (inner_terms index ts))) (h.fixed, (found s r same ∙ h.total)))

pub one_more : (index : ℕ) (inner : List InnerLoop) (ts : List Term) (i : ℕ) (d : Term) (r s : Range) → i < length ts
    → all_fixed inner (inner_terms index (take i ts)) ≡ true → r ≡ inner_box inner (inner_terms index (take i ts)) → added_term index inner (slice_index_or ts i d) r ≡ Some s
    → (all_fixed inner (inner_terms index (take (i + 1) ts)) ≡ true) × (s ≡ inner_box inner (inner_terms index (take (i + 1) ts)))
one_more index inner ts i d r s within fixed total same =
    let t = slice_index_or ts i d in
    let step = step_at index inner (take i ts) t r s (nat_lt index t.id) (is_some (bounds_of inner t.id)) refl refl (record { fixed = fixed; total = total }) same (inner_terms index (t ∷ [])) refl in
    subst (λ ys. (all_fixed inner ys ≡ true) × (s ≡ inner_box inner ys)) (sym (ap (inner_terms index) (take_more ts i d within) ∙ behind_both index (take i ts) (t ∷ []))) step

-- a term whose bounds aren't constant
none_at : (index : ℕ) (inner : List InnerLoop) (t : Term) (ts : List Term) (less known : Bool) (r : Range) → is_some (bounds_of inner t.id) ≡ known
    → (if less then (if known then Some (sum_range r (times_range t.coefficient (range_in (bounds_of inner t.id)))) else None) else Some r) ≡ None
    → all_fixed inner (if less then t ∷ ts else ts) ≡ false
none_at index inner t ts true true r k h = cc
none_at index inner t ts true false r k h = ap (λ b. b && all_fixed inner ts) k
none_at index inner t ts false known r k h = cc

still_none : (index : ℕ) (inner : List InnerLoop) (t : Term) (ts : List Term) (less : Bool) → all_fixed inner ts ≡ false → all_fixed inner (if less then t ∷ ts else ts) ≡ false
still_none index inner t ts true h = and_false (is_some (bounds_of inner t.id)) _ h
still_none index inner t ts false h = h

pub none_fixed : (index : ℕ) (inner : List InnerLoop) (ts : List Term) (i : ℕ) (d : Term) (r : Range) → i < length ts → added_term index inner (slice_index_or ts i d) r ≡ None → all_fixed inner (inner_terms index ts) ≡ false
none_fixed index inner [] i d r within h = absurd (omega (arith, within))
none_fixed index inner (t ∷ ts) zero d r within h = none_at index inner t (inner_terms index ts) (nat_lt index t.id) (is_some (bounds_of inner t.id)) r refl h
none_fixed index inner (t ∷ ts) (suc i) d r within h = still_none index inner t (inner_terms index ts) (nat_lt index t.id) (none_fixed index inner ts i d r (omega (arith, within)) h)

pub if_none : (b : Bool) (r : Range) → b ≡ false → None ≡ (if b then Some r else None)
if_none true r h = cc
if_none false r h = refl

pub one_step : (i : ℕ) (r : Range) → IsSmallRange (i * 2 ^ 95 + 2 ^ 95) r → IsSmallRange ((i + 1) * 2 ^ 95) r
one_step i r h = let next : i * 2 ^ 95 + 2 ^ 95 ≡ (i + 1) * 2 ^ 95 = omega arith in subst (λ n. IsSmallRange n r) next h

abs_turned : (z : ℤ) → unsigned_abs (neg_ℤ z) ≡ unsigned_abs z
abs_turned (pos zero) = refl
abs_turned (pos (suc n)) = refl
abs_turned (negsuc n) = refl

pub small_turned : (r : Range) (n : ℕ) → IsSmallRange n r → IsSmallRange n (record { low = neg_ℤ r.high; high = neg_ℤ r.low })
small_turned r n h = record { low = omega (arith, abs_turned r.high, h.high); high = omega (arith, abs_turned r.low, h.low) }

once_small : (a : ℤ) (n : ℕ) → unsigned_abs a ≤ n → unsigned_abs (a *ℤ negsuc 0) ≤ n
once_small a n h = omega (arith, unsigned_abs-mul a (negsuc 0), h)

pub turned_small : (r : Range) (n : ℕ) → IsSmallRange n r → IsSmallRange n (times_range (negsuc 0) r)
turned_small r n h = record {
  low = min_small (r.low *ℤ negsuc 0) (r.high *ℤ negsuc 0) n (once_small r.low n h.low) (once_small r.high n h.high);
  high = max_small (r.low *ℤ negsuc 0) (r.high *ℤ negsuc 0) n (once_small r.low n h.low) (once_small r.high n h.high);
}

more_small : (r : Range) (m n : ℕ) → m ≤ n → IsSmallRange m r → IsSmallRange n r
more_small r m n h small = record { low = omega (arith, small.low, h); high = omega (arith, small.high, h) }

pub small_rest : (left right : Range) (k : ℤ) → IsSmallRange (2 ^ 115) left → IsSmallRange (2 ^ 115) right → unsigned_abs k ≤ 2 ^ 64
    → IsSmallRange (2 ^ 117) (sum_range (sum_range right (times_range (negsuc 0) left)) (record { low = k; high = k }))
small_rest left right k h g few =
    more_small _ (2 ^ 115 + 2 ^ 115 + 2 ^ 64) (2 ^ 117) (omega arith) (small_sum _ (record { low = k; high = k }) (2 ^ 115 + 2 ^ 115) (2 ^ 64) (small_sum right (times_range (negsuc 0) left) (2 ^ 115) (2 ^ 115) g (turned_small left (2 ^ 115) h)) (record { low = few; high = few }))

wide_product : (a c : ℤ) → unsigned_abs a ≤ 2 ^ 64 → unsigned_abs c ≤ 2 ^ 51 → unsigned_abs (a *ℤ c) ≤ 2 ^ 115
wide_product a c h g =
    let both : unsigned_abs a * unsigned_abs c ≤ 18446744073709551616 * 2251799813685248 = mul-le-mul h g in
    omega (arith, unsigned_abs-mul a c, both)

i64_small : (z : ℤ) → FitsSigned w64 z → unsigned_abs z ≤ 2 ^ 63
i64_small (pos n) h = omega (arith, h.sfits)
i64_small (negsuc n) h = omega (arith, h.sfits)

less_one : (z : ℤ) → unsigned_abs z ≤ 2 ^ 63 → unsigned_abs (z -ℤ pos 1) ≤ 2 ^ 64
less_one z h = let most = most_abs z (2 ^ 63) h in abs_most (z -ℤ pos 1) (2 ^ 64) (omega (arith, ints, most)) (omega (arith, ints, most))

pub small_part : (c low high : ℤ) → unsigned_abs c ≤ 2 ^ 51 → FitsSigned w64 low → FitsSigned w64 high → IsSmallRange (2 ^ 115) (times_range c (range_in (Some (low, high))))
small_part c low high h of_low of_high =
    let a = wide_product low c (omega (arith, i64_small low of_low)) h in
    let b = wide_product (high -ℤ pos 1) c (less_one high (i64_small high of_high)) h in
    record { low = min_small (low *ℤ c) ((high -ℤ pos 1) *ℤ c) (2 ^ 115) a b; high = max_small (low *ℤ c) ((high -ℤ pos 1) *ℤ c) (2 ^ 115) a b }
