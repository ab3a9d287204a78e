-- A form whose coefficients are taken times a number.
use Rattle.std.proofs.Common.{◌≡◌, ℕ, zero, suc, ◌≤◌, ◌<◌, ◌*◌, neg_ℤ, Bool, true, false, not, ℤ, pos, negsuc, ◌*ℤ◌, List, [], ◌∷◌, length, refl, sym, ap, subst, cond, ◌∙◌, arith, if◌then◌else◌, ◌&&◌, Some, None, IsTrue, FitsSigned, w64, to_z, of_z}
use Rattle.std.proofs.Math.Nat.{mul-pos}
use Rattle.std.proofs.Math.IntN.{zero-*ℤ, *ℤ_comm, negsuc-*ℤ-pos, negsuc-*ℤ-negsuc}
use Rattle.std.proofs.lemmas.Int.{ints, to_z-of_z}
use Rattle.std.proofs.lemmas.List.Elements.{All-head, All-tail, All-cons, All-nil}
use Rattle.std.specs.Prelude.{All, ◌↔◌}
use Rattle.std.specs.List.{list_all}
use Rattle.std.specs.Map.{values_of}
use Rattle.std.specs.Map.Calls.{RetainsPairs}
use Rattle.std.specs.Ordering.{nat_cmp}
use Rattle.std.specs.BTreeMap.{BTreeMap, btree_map_len, values, IsOrdered}
use Rattle.nona_num.proofs.Products.{product_assoc}
use Rattle.nona_tree.specs.Value.{is_zero}
use Rattle.nona_forms.specs.declared.limits.TheConstants.{TERMS}
use Rattle.nona_forms.specs.declared.terms.Term.{Term}
use Rattle.nona_forms.specs.Affine.{Affine, is_coefficient, is_constant, if_bounded, no_terms, with_term, times_terms, times_form}
use Rattle.nona_affine.specs.Tallies.{AreUsed, IsUsed, IsTally, signed, terms_in, scaled}
use Rattle.nona_affine.proofs.Bools.{both_true}
use Rattle.nona_affine.proofs.Pouring.{coefficient_fits}
use Rattle.nona_affine.proofs.Alike.{signed_used, signed_within}
use Rattle.nona_affine.proofs.Joining.{few_is, form_in, none_first, none_third, tally_bounded, twice}

-- a term that isn't 0 stays
with_used : (id : ℕ) (c : ℤ) (ts : List Term) → is_zero c ≡ false → with_term id c ts ≡ record { id = id; coefficient = c } ∷ ts
with_used id c ts h = ap (λ b. if b then ts else record { id = id; coefficient = c } ∷ ts) h

-- a sign and a factor
signed_factor : (b : Bool) (k c : ℤ) → k *ℤ signed b c ≡ signed b (k *ℤ c)
signed_factor true k c = sym (product_assoc k (negsuc 0) c) ∙ ap (λ x. x *ℤ c) (*ℤ_comm k (negsuc 0)) ∙ product_assoc (negsuc 0) k c
signed_factor false k c = refl

some_pos : (n : ℕ) → 0 < n → is_zero (pos n) ≡ false
some_pos n h = grind (arith, ints)

some_neg : (n : ℕ) → 0 < n → is_zero (neg_ℤ (pos n)) ≡ false
some_neg n h = grind (arith, ints)

absurd_zero : {A : Type 0} → is_zero (pos 0) ≡ false → A
absurd_zero h = cc

zero_factor : (k c : ℤ) → is_zero k ≡ false → is_zero c ≡ false → is_zero (k *ℤ c) ≡ false
zero_factor (pos zero) c h g = absurd_zero h
zero_factor (pos (suc a)) (pos zero) h g = absurd_zero g
zero_factor (pos (suc a)) (pos (suc c)) h g = some_pos (suc a * suc c) (mul-pos (omega arith) (omega arith))
zero_factor (pos (suc a)) (negsuc c) h g = ap is_zero (*ℤ_comm (pos (suc a)) (negsuc c) ∙ negsuc-*ℤ-pos c (suc a)) ∙ some_neg (suc c * suc a) (mul-pos (omega arith) (omega arith))
zero_factor (negsuc a) (pos zero) h g = absurd_zero g
zero_factor (negsuc a) (pos (suc c)) h g = ap is_zero (negsuc-*ℤ-pos a (suc c)) ∙ some_neg (suc a * suc c) (mul-pos (omega arith) (omega arith))
zero_factor (negsuc a) (negsuc c) h g = ap is_zero (negsuc-*ℤ-negsuc a c) ∙ some_pos (suc a * suc c) (mul-pos (omega arith) (omega arith))

-- the terms of a multiple
pub scaled_terms : (b : Bool) (k : ℤ) (es : List (ℕ × ℤ)) → is_zero k ≡ false → All IsUsed (values_of es) → times_terms k (terms_in b es) ≡ terms_in b (scaled k es)
scaled_terms b k [] h g = refl
scaled_terms b k (e ∷ es) h g =
    ap (λ ts. with_term e.0 (k *ℤ signed b e.1) ts) (scaled_terms b k es h (All-tail IsUsed e.1 (values_of es) g))
    ∙ with_used e.0 (k *ℤ signed b e.1) (terms_in b (scaled k es)) (zero_factor k (signed b e.1) h (signed_used b e.1 (All-head IsUsed e.1 (values_of es) g).used))
    ∙ ap (λ c. record { id = e.0; coefficient = c } ∷ terms_in b (scaled k es)) (signed_factor b k e.1)

turned_once : (b : Bool) (c : ℤ) → signed (not b) c ≡ negsuc 0 *ℤ signed b c
turned_once true c = sym (twice c)
turned_once false c = refl

-- the terms of the opposite
turned_terms : (b : Bool) (es : List (ℕ × ℤ)) → All IsUsed (values_of es) → terms_in (not b) es ≡ times_terms (negsuc 0) (terms_in b es)
turned_terms b [] h = refl
turned_terms b (e ∷ es) h =
    ap (λ c. record { id = e.0; coefficient = c } ∷ terms_in (not b) es) (turned_once b e.1)
    ∙ sym (with_used e.0 (negsuc 0 *ℤ signed b e.1) (terms_in (not b) es) (zero_factor (negsuc 0) (signed b e.1) refl (signed_used b e.1 (All-head IsUsed e.1 (values_of es) h).used)))
    ∙ ap (with_term e.0 (negsuc 0 *ℤ signed b e.1)) (turned_terms b es (All-tail IsUsed e.1 (values_of es) h))

-- the opposite of a form
pub turned_is : (k o : ℤ) (b d : Bool) (m : BTreeMap ℕ ℤ) (f : Affine) → AreUsed m → record { constant = k; terms = terms_in b m.entries } ≡ f → o ≡ negsuc 0 *ℤ k → d ≡ not b
    → record { constant = o; terms = terms_in d m.entries } ≡ times_form (negsuc 0) f
turned_is k o b d m f u h e g =
    ap (λ x. record { constant = x; terms = terms_in d m.entries }) e
    ∙ ap (λ x. record { constant = negsuc 0 *ℤ k; terms = terms_in x m.entries }) g
    ∙ ap (λ ts. record { constant = negsuc 0 *ℤ k; terms = ts }) (turned_terms b m.entries u.all)
    ∙ ap (times_form (negsuc 0)) h

-- 0 times a form
none_times : (ts : List Term) → times_terms (pos 0) ts ≡ []
none_times [] = refl
none_times (t ∷ ts) = ap (λ c. with_term t.id c (times_terms (pos 0) ts)) (zero-*ℤ t.coefficient) ∙ none_times ts

pub none_form : (f : Affine) → times_form (pos 0) f ≡ record { constant = pos 0; terms = [] }
none_form f = ap (λ k. record { constant = k; terms = times_terms (pos 0) f.terms }) (zero-*ℤ f.constant) ∙ ap (λ ts. record { constant = pos 0; terms = ts }) (none_times f.terms)

-- a form has no terms where its map is empty
pub empty_is : (r b : Bool) (es : List (ℕ × ℤ)) → (IsTrue r ↔ (length es ≡ 0)) → r ≡ no_terms (terms_in b es)
empty_is r b [] h = h.1 refl
empty_is true b (e ∷ es) h = let no_way : suc (length es) ≡ 0 = h.0 refl in cc
empty_is false b (e ∷ es) h = refl

-- once a form
one_times : (a : ℤ) → pos 1 *ℤ a ≡ a
one_times a = omega (arith, ints)

once_terms : (b : Bool) (es : List (ℕ × ℤ)) → All IsUsed (values_of es) → times_terms (pos 1) (terms_in b es) ≡ terms_in b es
once_terms b [] h = refl
once_terms b (e ∷ es) h =
    ap (λ c. with_term e.0 c (times_terms (pos 1) (terms_in b es))) (one_times (signed b e.1))
    ∙ with_used e.0 (signed b e.1) (times_terms (pos 1) (terms_in b es)) (signed_used b e.1 (All-head IsUsed e.1 (values_of es) h).used)
    ∙ ap (λ ts. record { id = e.0; coefficient = signed b e.1 } ∷ ts) (once_terms b es (All-tail IsUsed e.1 (values_of es) h))

tally_kept : (k : ℤ) (b : Bool) (m : BTreeMap ℕ ℤ) → IsTally k m → if_bounded (form_in k b m) ≡ Some (form_in k b m)
tally_kept k b m h = tally_bounded k b m h.constant (few_is (btree_map_len m) h.few) h.used

pub once_is : (k j : ℤ) (b : Bool) (m : BTreeMap ℕ ℤ) (f : Affine) → IsTally k m → form_in k b m ≡ f → j ≡ k → if_bounded (times_form (pos 1) f) ≡ Some (form_in j b m)
once_is k j b m f h e i =
    ap (λ x. if_bounded (times_form (pos 1) x)) (sym e)
    ∙ ap (λ x. if_bounded (record { constant = x; terms = times_terms (pos 1) (terms_in b m.entries) })) (one_times k)
    ∙ ap (λ ts. if_bounded (record { constant = k; terms = ts })) (once_terms b m.entries h.used.all)
    ∙ tally_kept k b m h
    ∙ ap (λ x. Some (form_in x b m)) (sym i)

-- the opposite is within bounds
turned_constant : (c : ℤ) → is_constant c ≡ true → is_constant (negsuc 0 *ℤ c) ≡ true
turned_constant c h = grind (arith, ints)

pub turned_bounded : (k o : ℤ) (b d : Bool) (m : BTreeMap ℕ ℤ) (f : Affine) → IsTally k m → form_in k b m ≡ f → o ≡ negsuc 0 *ℤ k → d ≡ not b → if_bounded (times_form (negsuc 0) f) ≡ Some (form_in o d m)
turned_bounded k o b d m f h e i j =
    ap if_bounded (sym (turned_is k o b d m f h.used e i j)) ∙ tally_kept o d m (record { constant = ap is_constant i ∙ turned_constant k h.constant; few = h.few; used = h.used })

-- a multiple
times_used : (k c : ℤ) → is_zero k ≡ false → IsUsed c → IsTrue (is_coefficient (k *ℤ c)) → IsUsed (k *ℤ c)
times_used k c h u g = record { within = g; used = zero_factor k c h u.used }

all_times_used : (k : ℤ) (es : List (ℕ × ℤ)) → is_zero k ≡ false → All IsUsed (values_of es) → list_all (λ c. is_coefficient (k *ℤ c)) (values_of es) ≡ true → All IsUsed (values_of (scaled k es))
all_times_used k [] h u g = All-nil IsUsed
all_times_used k (e ∷ es) h u g =
    let both = both_true (is_coefficient (k *ℤ e.1)) (list_all (λ c. is_coefficient (k *ℤ c)) (values_of es)) g in
    All-cons IsUsed (k *ℤ e.1) (values_of (scaled k es)) (times_used k e.1 h (All-head IsUsed e.1 (values_of es) u) both.0) (all_times_used k es h (All-tail IsUsed e.1 (values_of es) u) both.1)

scaled_length : (k : ℤ) (es : List (ℕ × ℤ)) → length (scaled k es) ≡ length es
scaled_length k [] = refl
scaled_length k (e ∷ es) = ap suc (scaled_length k es)

pub multiple_kept : (k c p : ℤ) (m r : BTreeMap ℕ ℤ) → is_zero k ≡ false → IsTally c m → is_constant p ≡ true → list_all (λ c. is_coefficient (k *ℤ c)) (values m) ≡ true → r.entries ≡ scaled k m.entries → IsOrdered nat_cmp r → IsTally p r
multiple_kept k c p m r h t g i e o = record {
  constant = g;
  few = subst (λ n. n ≤ TERMS) (sym (ap length e ∙ scaled_length k m.entries)) t.few;
  used = record { all = subst (λ es. All IsUsed (values_of es)) (sym e) (all_times_used k m.entries h t.used.all i); rising = o };
}

multiple_form : (k c p : ℤ) (b : Bool) (m r : BTreeMap ℕ ℤ) → is_zero k ≡ false → AreUsed m → p ≡ k *ℤ c → r.entries ≡ scaled k m.entries → form_in p b r ≡ times_form k (form_in c b m)
multiple_form k c p b m r h u e i =
    ap (λ x. record { constant = x; terms = terms_in b r.entries }) e
    ∙ ap (λ es. record { constant = k *ℤ c; terms = terms_in b es }) i
    ∙ ap (λ ts. record { constant = k *ℤ c; terms = ts }) (sym (scaled_terms b k m.entries h u.all))

pub multiple_is : (k c p : ℤ) (b : Bool) (m r : BTreeMap ℕ ℤ) (f : Affine) → is_zero k ≡ false → IsTally c m → form_in c b m ≡ f → p ≡ k *ℤ c → is_constant p ≡ true → list_all (λ c. is_coefficient (k *ℤ c)) (values m) ≡ true
    → r.entries ≡ scaled k m.entries → IsOrdered nat_cmp r → Some (form_in p b r) ≡ if_bounded (times_form k f)
multiple_is k c p b m r f h t v e g i n o =
    sym (ap (λ x. if_bounded (times_form k x)) (sym v) ∙ ap if_bounded (sym (multiple_form k c p b m r h t.used e n)) ∙ tally_kept p b r (multiple_kept k c p m r h t g i n o))

-- there is none where the constant is out of bounds
pub no_multiple : (k c p : ℤ) (b : Bool) (m : BTreeMap ℕ ℤ) (f : Affine) → form_in c b m ≡ f → p ≡ k *ℤ c → is_constant p ≡ false → None ≡ if_bounded (times_form k f)
no_multiple k c p b m f v e h =
    sym (ap (λ x. if_bounded (times_form k x)) (sym v) ∙ none_first (times_form k (form_in c b m)) (is_constant (k *ℤ c)) _ (ap is_constant (sym e) ∙ h))

-- nor where a coefficient is
all_scaled : (b : Bool) (k : ℤ) (es : List (ℕ × ℤ)) → list_all (λ (t : Term). is_coefficient t.coefficient) (terms_in b (scaled k es)) ≡ list_all (λ c. is_coefficient (k *ℤ c)) (values_of es)
all_scaled b k [] = refl
all_scaled b k (e ∷ es) =
    ap (λ x. x && list_all (λ (t : Term). is_coefficient t.coefficient) (terms_in b (scaled k es))) (signed_within b (k *ℤ e.1)) ∙ ap (λ x. is_coefficient (k *ℤ e.1) && x) (all_scaled b k es)

pub no_product : (k c : ℤ) (b : Bool) (m : BTreeMap ℕ ℤ) (f : Affine) → is_zero k ≡ false → AreUsed m → form_in c b m ≡ f → list_all (λ c. is_coefficient (k *ℤ c)) (values m) ≡ false → None ≡ if_bounded (times_form k f)
no_product k c b m f h u v g =
    sym (ap (λ x. if_bounded (times_form k x)) (sym v)
    ∙ none_third (times_form k (form_in c b m)) _ _ _ (λ all. sym (ap (list_all (λ (t : Term). is_coefficient t.coefficient)) (scaled_terms b k m.entries h u.all) ∙ all_scaled b k m.entries ∙ g) ∙ all))

-- products within bounds don't wrap
pub product_stays : (k v : ℤ) → is_coefficient (k *ℤ v) ≡ true → to_z w64 (of_z w64 (k *ℤ v)) ≡ k *ℤ v
product_stays k v h = let fits : FitsSigned w64 (k *ℤ v) = coefficient_fits (k *ℤ v) h in to_z-of_z w64 (k *ℤ v) fits

-- what a closure leaves that takes each value times a number
module _ {F : Type 0} (T : F → ℕ → ℤ → Bool → ℤ → F → Type 0) (k : ℤ) (f : F)
    (step : (i : ℕ) (v : ℤ) (b : Bool) (w : ℤ) (f' : F) → T f i v b w f' → IsTrue (is_coefficient v) → IsTrue (is_coefficient (k *ℤ v)) → (b ≡ true) × (w ≡ k *ℤ v) × (f' ≡ f)) where
  kept_more : (e : ℕ × ℤ) (b : Bool) (w : ℤ) (rest more kept : List (ℕ × ℤ)) → b ≡ true → w ≡ k *ℤ e.1 → rest ≡ more → kept ≡ cond b ((e.0, w) ∷ rest) rest → kept ≡ (e.0, k *ℤ e.1) ∷ more
  kept_more e b w rest more kept h g i j = j ∙ ap (λ x. cond x ((e.0, w) ∷ rest) rest) h ∙ ap (λ x. (e.0, x) ∷ rest) g ∙ ap (λ xs. (e.0, k *ℤ e.1) ∷ xs) i

  pub scaled_from_pairs : (es kept : List (ℕ × ℤ)) → All IsUsed (values_of es) → list_all (λ c. is_coefficient (k *ℤ c)) (values_of es) ≡ true → RetainsPairs T f es kept → kept ≡ scaled k es
  scaled_from_pairs [] kept u h r = r
  scaled_from_pairs (e ∷ es) kept u h r =
      let both = both_true (is_coefficient (k *ℤ e.1)) (list_all (λ c. is_coefficient (k *ℤ c)) (values_of es)) h in
      let a = step e.0 e.1 r.0 r.1 r.2 r.4 (All-head IsUsed e.1 (values_of es) u).within both.0 in
      let rest = scaled_from_pairs es r.3 (All-tail IsUsed e.1 (values_of es) u) both.1 (subst (λ g. RetainsPairs T g es r.3) a.2 r.5) in
      kept_more e r.0 r.1 r.3 (scaled k es) kept a.0 a.1 rest r.6
