-- Terms in order of id, each id once and none of them 0, are known by what they add up to.
use Rattle.std.proofs.Common.{◌≡◌, ℕ, suc, ◌≤◌, ◌<◌, ◌==◌, Bool, true, false, ℤ, pos, negsuc, ◌*ℤ◌, ◌+ℤ◌, List, [], ◌∷◌, length, refl, sym, ap, subst, ◌∙◌, arith, if◌then◌else◌, nat_lt}
use Rattle.std.proofs.Math.IntN.{*ℤ-zero, +ℤ_idl, +ℤ_idr}
use Rattle.std.proofs.lemmas.Int.{ints}
use Rattle.std.proofs.lemmas.List.Elements.{All-head, All-tail}
use Rattle.std.proofs.lemmas.Map.Keys.{sorted_head, sorted_tail}
use Rattle.std.specs.Prelude.{All}
use Rattle.std.specs.declared.cmp.Ordering.TheVariants.{Less}
use Rattle.std.specs.Ordering.{nat_cmp}
use Rattle.std.specs.List.{AllByRecursion, list_all}
use Rattle.std.specs.List.Sorted.{IsStrictlySortedBy}
use Rattle.std.specs.Map.{keys_of, values_of}
use Rattle.nona_tree.specs.Value.{is_zero}
use Rattle.nona_forms.specs.declared.terms.Term.{Term}
use Rattle.nona_forms.specs.Affine.{is_coefficient, terms_at}
use Rattle.nona_forms.proofs.Ordered.{RisesFrom}
use Rattle.nona_affine.specs.Tallies.{IsUsed, sum_at, one_alone, signed, terms_in}
use Rattle.nona_affine.proofs.Bools.{both_are, both_true}
use Rattle.nona_affine.proofs.Pouring.{signed_sum, signed_times, times_one}

same_test : (i k : ℕ) → i ≡ k → (i == k) ≡ true
same_test i k h = grind arith

other_test : (i k : ℕ) → k < i → (i == k) ≡ false
other_test i k h = grind arith

test_is : (i k : ℕ) → (i == k) ≡ true → i ≡ k
test_is i k h = grind arith

-- a term and others, where one scalar is 1 and the others are 0
here : (k : ℕ) (t : Term) (ts : List Term) → (t.id == k) ≡ true → terms_at (one_alone k) ts ≡ pos 0 → terms_at (one_alone k) (t ∷ ts) ≡ t.coefficient
here k t ts h g =
    ap (λ b. (t.coefficient *ℤ (if b then pos 1 else pos 0)) +ℤ terms_at (one_alone k) ts) h ∙ ap (λ x. (t.coefficient *ℤ pos 1) +ℤ x) g ∙ +ℤ_idr (t.coefficient *ℤ pos 1) ∙ times_one t.coefficient

there : (k : ℕ) (t : Term) (ts : List Term) → (t.id == k) ≡ false → terms_at (one_alone k) (t ∷ ts) ≡ terms_at (one_alone k) ts
there k t ts h =
    ap (λ b. (t.coefficient *ℤ (if b then pos 1 else pos 0)) +ℤ terms_at (one_alone k) ts) h ∙ ap (λ x. x +ℤ terms_at (one_alone k) ts) (*ℤ-zero t.coefficient) ∙ +ℤ_idl (terms_at (one_alone k) ts)

-- a scalar below all terms has no coefficient
below : (k n : ℕ) (ts : List Term) → k < n → RisesFrom n ts → terms_at (one_alone k) ts ≡ pos 0
below k n [] h g = refl
below k n (t ∷ ts) h g = there k t ts (other_test t.id k (omega (arith, h, g.0))) ∙ below k (suc t.id) ts (omega (arith, h, g.0)) g.2

-- the first term's coefficient
first_is : (n : ℕ) (t : Term) (ts : List Term) → RisesFrom n (t ∷ ts) → terms_at (one_alone t.id) (t ∷ ts) ≡ t.coefficient
first_is n t ts h = here t.id t ts (same_test t.id t.id refl) (below t.id (suc t.id) ts (omega arith) h.2)

is_none : (c : ℤ) → is_zero c ≡ false → c ≡ pos 0 → false ≡ true
is_none c h g = grind (arith, ints)

same_term : (t u : Term) → t.id ≡ u.id → t.coefficient ≡ u.coefficient → t ≡ u
same_term t u h g = ap (λ i. record { id = i; coefficient = t.coefficient }) h ∙ ap (λ c. record { id = u.id; coefficient = c }) g

cancel : (a b x y : ℤ) → a ≡ b → a +ℤ x ≡ b +ℤ y → x ≡ y
cancel a b x y h g = omega (arith, ints)

lower : (i j : ℕ) → nat_lt i j ≡ true → i < j
lower i j h = grind arith

same_ids : (i j : ℕ) → nat_lt i j ≡ false → nat_lt j i ≡ false → i ≡ j
same_ids i j h g = grind arith

alike_by : (n : ℕ) (t u : Term) (ts us : List Term) (b d : Bool) → nat_lt t.id u.id ≡ b → nat_lt u.id t.id ≡ d → RisesFrom n (t ∷ ts) → RisesFrom n (u ∷ us)
    → ((s : ℕ → ℤ) → terms_at s (t ∷ ts) ≡ terms_at s (u ∷ us))
    → (RisesFrom (suc t.id) us → ((s : ℕ → ℤ) → terms_at s ts ≡ terms_at s us) → ts ≡ us) → (t ∷ ts) ≡ (u ∷ us)
alike_by n t u ts us true d e f h g k same =
    let none : t.coefficient ≡ pos 0 = sym (first_is n t ts h) ∙ k (one_alone t.id) ∙ below t.id u.id (u ∷ us) (lower t.id u.id e) (omega arith, g.1, g.2) in
    let no_way : false ≡ true = is_none t.coefficient h.1 none in
    cc
alike_by n t u ts us false true e f h g k same =
    let none : u.coefficient ≡ pos 0 = sym (first_is n u us g) ∙ sym (k (one_alone u.id)) ∙ below u.id t.id (t ∷ ts) (lower u.id t.id f) (omega arith, h.1, h.2) in
    let no_way : false ≡ true = is_none u.coefficient g.1 none in
    cc
alike_by n t u ts us false false e f h g k same =
    let ids : t.id ≡ u.id = same_ids t.id u.id e f in
    let coefficients : t.coefficient ≡ u.coefficient = sym (first_is n t ts h) ∙ k (one_alone t.id) ∙ ap (λ i. terms_at (one_alone i) (u ∷ us)) ids ∙ first_is n u us g in
    let first : t ≡ u = same_term t u ids coefficients in
    let rest : ts ≡ us = same (subst (λ i. RisesFrom (suc i) us) (sym ids) g.2) (λ s. cancel (t.coefficient *ℤ s t.id) (u.coefficient *ℤ s u.id) (terms_at s ts) (terms_at s us) (ap (λ x. x.coefficient *ℤ s x.id) first) (k s)) in
    ap (λ x. x ∷ ts) first ∙ ap (λ xs. u ∷ xs) rest

-- terms in order that add up to the same for all values of the scalars are the same
pub alike : (n : ℕ) (ts us : List Term) → RisesFrom n ts → RisesFrom n us → ((s : ℕ → ℤ) → terms_at s ts ≡ terms_at s us) → ts ≡ us
alike n [] [] h g k = refl
alike n [] (u ∷ us) h g k =
    let no_way : false ≡ true = is_none u.coefficient g.1 (sym (first_is n u us g) ∙ sym (k (one_alone u.id))) in
    cc
alike n (t ∷ ts) [] h g k =
    let no_way : false ≡ true = is_none t.coefficient h.1 (sym (first_is n t ts h) ∙ k (one_alone t.id)) in
    cc
alike n (t ∷ ts) (u ∷ us) h g k = alike_by n t u ts us (nat_lt t.id u.id) (nat_lt u.id t.id) refl refl h g k (λ r i. alike (suc t.id) ts us h.2 r i)

-- a scalar's coefficient among terms within bounds is within bounds
within_by : (k : ℕ) (t : Term) (ts : List Term) (b : Bool) → (t.id == k) ≡ b → RisesFrom (suc t.id) ts → is_coefficient t.coefficient ≡ true → is_coefficient (terms_at (one_alone k) ts) ≡ true
    → is_coefficient (terms_at (one_alone k) (t ∷ ts)) ≡ true
within_by k t ts true e h g i =
    let ids : t.id ≡ k = test_is t.id k e in
    ap is_coefficient (here k t ts e (below k (suc t.id) ts (omega arith) h)) ∙ g
within_by k t ts false e h g i = ap is_coefficient (there k t ts e) ∙ i

pub within_at : (k n : ℕ) (ts : List Term) → RisesFrom n ts → list_all (λ (t : Term). is_coefficient t.coefficient) ts ≡ true → is_coefficient (terms_at (one_alone k) ts) ≡ true
within_at k n [] h g = refl
within_at k n (t ∷ ts) h g =
    let both = both_true (is_coefficient t.coefficient) (list_all (λ (t : Term). is_coefficient t.coefficient) ts) g in
    within_by k t ts (t.id == k) refl h.2 both.0 (within_at k (suc t.id) ts h.2 both.1)

-- the terms of a map
above_is : (i j : ℕ) → nat_cmp i j ≡ Less → suc i ≤ j
above_is i j h = grind arith

all_above : (k : ℕ) (ks : List ℕ) → AllByRecursion (λ y. nat_cmp k y ≡ Less) ks → AllByRecursion (λ y. suc k ≤ y) ks
all_above k [] h = tt
all_above k (i ∷ ks) h = (above_is k i h.0, all_above k ks h.1)

pub signed_used : (b : Bool) (c : ℤ) → is_zero c ≡ false → is_zero (signed b c) ≡ false
signed_used true c h = grind (arith, ints)
signed_used false c h = h

rises_from : (b : Bool) (n : ℕ) (es : List (ℕ × ℤ)) → AllByRecursion (λ y. n ≤ y) (keys_of es) → IsStrictlySortedBy nat_cmp (keys_of es) → All IsUsed (values_of es) → RisesFrom n (terms_in b es)
rises_from b n [] h g k = tt
rises_from b n (e ∷ es) h g k =
    (h.0, signed_used b e.1 (All-head IsUsed e.1 (values_of es) k).used, rises_from b (suc e.0) es (all_above e.0 (keys_of es) (sorted_head nat_cmp e.0 (keys_of es) g)) (sorted_tail nat_cmp e.0 (keys_of es) g) (All-tail IsUsed e.1 (values_of es) k))

from_none : (ks : List ℕ) → AllByRecursion (λ y. 0 ≤ y) ks
from_none [] = tt
from_none (k ∷ ks) = (omega arith, from_none ks)

pub rises : (b : Bool) (es : List (ℕ × ℤ)) → IsStrictlySortedBy nat_cmp (keys_of es) → All IsUsed (values_of es) → RisesFrom 0 (terms_in b es)
rises b es g k = rises_from b 0 es (from_none (keys_of es)) g k

signed_none : (b : Bool) → signed b (pos 0) ≡ pos 0
signed_none true = *ℤ-zero (negsuc 0)
signed_none false = refl

pub at_terms : (s : ℕ → ℤ) (b : Bool) (es : List (ℕ × ℤ)) → terms_at s (terms_in b es) ≡ signed b (sum_at s es)
at_terms s b [] = sym (signed_none b)
at_terms s b (e ∷ es) =
    ap (λ x. (signed b e.1 *ℤ s e.0) +ℤ x) (at_terms s b es) ∙ ap (λ x. x +ℤ signed b (sum_at s es)) (sym (signed_times b e.1 (s e.0))) ∙ sym (signed_sum b (e.1 *ℤ s e.0) (sum_at s es))

pub signed_within : (b : Bool) (c : ℤ) → is_coefficient (signed b c) ≡ is_coefficient c
signed_within true c = grind (arith, ints)
signed_within false c = refl

pub all_within : (b : Bool) (es : List (ℕ × ℤ)) → All IsUsed (values_of es) → list_all (λ (t : Term). is_coefficient t.coefficient) (terms_in b es) ≡ true
all_within b [] h = refl
all_within b (e ∷ es) h =
    both_are _ _ (signed_within b e.1 ∙ (All-head IsUsed e.1 (values_of es) h).within) (all_within b es (All-tail IsUsed e.1 (values_of es) h))

pub length_in : (b : Bool) (es : List (ℕ × ℤ)) → length (terms_in b es) ≡ length es
length_in b [] = refl
length_in b (e ∷ es) = ap suc (length_in b es)
