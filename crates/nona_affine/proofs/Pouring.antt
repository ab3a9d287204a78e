-- Entries that are moved from one map into another one.
use Rattle.std.proofs.Common.{◌≡◌, ℕ, ◌==◌, Bool, true, false, ℤ, pos, negsuc, ◌*ℤ◌, ◌+ℤ◌, List, [], ◌∷◌, ◌++◌, append_assoc, map, refl, sym, ap, subst, ◌∙◌, arith, if◌then◌else◌, Some, None, cond, IsTrue, FitsSigned, w64}
use Rattle.std.proofs.Math.IntN.{*ℤ-zero, +ℤ_idl, +ℤ_idr, +ℤ_assoc}
use Rattle.std.proofs.lemmas.Int.{ints}
use Rattle.std.proofs.lemmas.List.Elements.{All-head, All-tail}
use Rattle.std.proofs.lemmas.Map.Keys.{sorted_head, sorted_tail}
use Rattle.std.specs.Prelude.{All}
use Rattle.std.specs.declared.cmp.Ordering.{Ordering}
use Rattle.std.specs.declared.cmp.Ordering.TheVariants.{Less}
use Rattle.std.specs.Option.{unwrap_or}
use Rattle.std.specs.Ordering.{nat_cmp, is_eq}
use Rattle.std.specs.List.{AllByRecursion}
use Rattle.std.specs.List.Sorted.{IsStrictlySortedBy}
use Rattle.std.specs.Map.{keys_of, lookup}
use Rattle.std.specs.BTreeMap.{BTreeMap, is_at}
use Rattle.nona_num.proofs.Products.{product_assoc}
use Rattle.nona_forms.proofs.Sums.{times_sum}
use Rattle.nona_forms.specs.declared.terms.Term.{Term}
use Rattle.nona_forms.specs.Affine.{is_coefficient}
use Rattle.nona_affine.specs.Tallies.{AreUsed, IsUsed, IsTooGreat, sum_at, value_at, one_alone, signed, terms_in}

-- a sign may be put off
pub signed_sum : (b : Bool) (x y : ℤ) → signed b (x +ℤ y) ≡ signed b x +ℤ signed b y
signed_sum true x y = times_sum (negsuc 0) x y
signed_sum false x y = refl

pub signed_times : (b : Bool) (x y : ℤ) → signed b (x *ℤ y) ≡ signed b x *ℤ y
signed_times true x y = sym (product_assoc (negsuc 0) x y)
signed_times false x y = refl

-- a scalar's coefficient is what entries add up to where it is 1 and the others are 0
not_equal : (o : Ordering) → o ≡ Less → is_eq o ≡ false
not_equal o h = ap is_eq h

none_after : (k : ℕ) (es : List (ℕ × ℤ)) → AllByRecursion (λ y. nat_cmp k y ≡ Less) (keys_of es) → lookup (is_at (nat_cmp k)) es ≡ None
none_after k [] h = refl
none_after k (e ∷ es) h = ap (λ b. cond b (Some e.1) (lookup (is_at (nat_cmp k)) es)) (not_equal (nat_cmp k e.0) h.0) ∙ none_after k es h.1

same_test : (a b : ℕ) → (b == a) ≡ is_eq (nat_cmp a b)
same_test a b = grind arith

equal_is : (a b : ℕ) → is_eq (nat_cmp a b) ≡ true → a ≡ b
equal_is a b h = grind arith

pub times_one : (a : ℤ) → a *ℤ pos 1 ≡ a
times_one a = omega (arith, ints)

one_at : (k : ℕ) (e : ℕ × ℤ) (es : List (ℕ × ℤ)) (b : Bool) → (b ≡ true → lookup (is_at (nat_cmp k)) es ≡ None) → sum_at (one_alone k) es ≡ value_at k es
    → (e.1 *ℤ (if b then pos 1 else pos 0)) +ℤ sum_at (one_alone k) es ≡ unwrap_or (cond b (Some e.1) (lookup (is_at (nat_cmp k)) es)) (pos 0)
one_at k e es true h i = ap (λ x. (e.1 *ℤ pos 1) +ℤ x) (i ∙ ap (λ o. unwrap_or o (pos 0)) (h refl)) ∙ +ℤ_idr (e.1 *ℤ pos 1) ∙ times_one e.1
one_at k e es false h i = ap (λ x. x +ℤ sum_at (one_alone k) es) (*ℤ-zero e.1) ∙ +ℤ_idl (sum_at (one_alone k) es) ∙ i

pub sum_one : (k : ℕ) (es : List (ℕ × ℤ)) → IsStrictlySortedBy nat_cmp (keys_of es) → sum_at (one_alone k) es ≡ value_at k es
sum_one k [] h = refl
sum_one k (e ∷ es) h =
    ap (λ b. (e.1 *ℤ (if b then pos 1 else pos 0)) +ℤ sum_at (one_alone k) es) (same_test k e.0)
    ∙ one_at k e es (is_eq (nat_cmp k e.0)) (λ t. none_after k es (subst (λ x. AllByRecursion (λ y. nat_cmp x y ≡ Less) (keys_of es)) (sym (equal_is k e.0 t)) (sorted_head nat_cmp e.0 (keys_of es) h)))
    (sum_one k es (sorted_tail nat_cmp e.0 (keys_of es) h))

self_is : (k : ℕ) → is_eq (nat_cmp k k) ≡ true
self_is k = grind arith

-- the coefficient of the first entry
first_value : (k : ℕ) (c : ℤ) (es : List (ℕ × ℤ)) → value_at k ((k, c) ∷ es) ≡ c
first_value k c es = ap (λ b. unwrap_or (cond b (Some c) (lookup (is_at (nat_cmp k)) es)) (pos 0)) (self_is k)

-- a coefficient within bounds is a number of 64 bits
pub coefficient_fits : (c : ℤ) → IsTrue (is_coefficient c) → FitsSigned w64 c
coefficient_fits c h = grind (arith, ints)

-- what is left of used coefficients
pub used_first : (m : BTreeMap ℕ ℤ) (k : ℕ) (c : ℤ) (es : List (ℕ × ℤ)) → m.entries ≡ (k, c) ∷ es → AreUsed m → IsUsed c
used_first m k c es h g = All-head IsUsed c (map (λ e. e.1) es) (subst (λ xs. All IsUsed (map (λ e. e.1) xs)) h g.all)

pub used_rest : (m n : BTreeMap ℕ ℤ) (k : ℕ) (c : ℤ) → m.entries ≡ (k, c) ∷ n.entries → IsStrictlySortedBy nat_cmp (keys_of n.entries) → AreUsed m → AreUsed n
used_rest m n k c h s g = record { all = All-tail IsUsed c (map (λ e. e.1) n.entries) (subst (λ xs. All IsUsed (map (λ e. e.1) xs)) h g.all); rising = s }

moved : (i t r : ℤ) → (i +ℤ t) +ℤ r ≡ i +ℤ (t +ℤ r)
moved i t r = +ℤ_assoc i t r

-- a term that leaves one map for the other leaves the sum of both as it is
pub pour_step : (s : ℕ → ℤ) (b : Bool) (into from rest after : List (ℕ × ℤ)) (k : ℕ) (c total : ℤ)
    → from ≡ (k, c) ∷ rest → sum_at s after ≡ sum_at s into +ℤ (signed b c *ℤ s k) → sum_at s into +ℤ signed b (sum_at s from) ≡ total
    → sum_at s after +ℤ signed b (sum_at s rest) ≡ total
pour_step s b into from rest after k c total h g i =
    ap (λ x. x +ℤ signed b (sum_at s rest)) g
    ∙ moved (sum_at s into) (signed b c *ℤ s k) (signed b (sum_at s rest))
    ∙ ap (λ x. sum_at s into +ℤ (x +ℤ signed b (sum_at s rest))) (sym (signed_times b c (s k)))
    ∙ ap (λ x. sum_at s into +ℤ x) (sym (signed_sum b (c *ℤ s k) (sum_at s rest)))
    ∙ ap (λ x. sum_at s into +ℤ signed b (sum_at s x)) (sym h)
    ∙ i

-- a term whose sum is out of bounds shows that the sum of both maps is
pub pour_stops : (b : Bool) (m n into from : BTreeMap ℕ ℤ) (rest : List (ℕ × ℤ)) (k : ℕ) (c : ℤ) → AreUsed into → AreUsed from → from.entries ≡ (k, c) ∷ rest
    → ((s : ℕ → ℤ) → sum_at s into.entries +ℤ signed b (sum_at s from.entries) ≡ sum_at s m.entries +ℤ signed b (sum_at s n.entries))
    → is_coefficient (value_at k into.entries +ℤ signed b c) ≡ false → IsTooGreat b m.entries n.entries
pour_stops b m n into from rest k c u v h i far =
    let s = one_alone k in
    let left : sum_at s into.entries ≡ value_at k into.entries = sum_one k into.entries u.rising in
    let right : sum_at s from.entries ≡ c = sum_one k from.entries v.rising ∙ ap (value_at k) h ∙ first_value k c rest in
    record { id = k; far = ap is_coefficient (sym (i s) ∙ ap (λ x. x +ℤ signed b (sum_at s from.entries)) left ∙ ap (λ x. value_at k into.entries +ℤ signed b x) right) ∙ far }

-- a term that leaves a map for a list
pub list_step : (b : Bool) (terms after all : List Term) (from rest : List (ℕ × ℤ)) (k : ℕ) (c v : ℤ) → from ≡ (k, c) ∷ rest → v ≡ signed b c → after ≡ terms ++ (record { id = k; coefficient = v } ∷ []) → terms ++ terms_in b from ≡ all
    → after ++ terms_in b rest ≡ all
list_step b terms after all from rest k c v h g i j =
    ap (λ ts. ts ++ terms_in b rest) i
    ∙ append_assoc terms (record { id = k; coefficient = v } ∷ []) (terms_in b rest)
    ∙ ap (λ x. terms ++ (record { id = k; coefficient = x } ∷ terms_in b rest)) g
    ∙ ap (λ es. terms ++ terms_in b es) (sym h)
    ∙ j
