-- What the terms of a sum and of a multiple add up to.
use Rattle.std.proofs.Common.{◌≡◌, ℕ, ◌*◌, Bool, true, false, ℤ, pos, negsuc, ◌+ℤ◌, ◌*ℤ◌, ◌-ℤ◌, neg_ℤ, List, [], ◌∷◌, refl, sym, ap, ◌∙◌, arith, if◌then◌else◌, nat_lt}
use Rattle.std.proofs.Math.IntN.{+ℤ_assoc, *ℤ_comm, +ℤ_idl, zero-*ℤ, *ℤ-zero}
use Rattle.std.proofs.lemmas.Int.{ints}
use borrow.Author.Differences.{up, down, sum_is_lem}
use Rattle.nona_num.proofs.Products.{product_assoc}
use Rattle.nona_tree.specs.Value.{is_zero}
use Rattle.nona_forms.specs.declared.terms.Term.{Term}
use Rattle.nona_forms.specs.Affine.{Affine, terms_at, form_at, with_term, merge_term, sum_terms, times_terms, sum_form, times_form}

-- products of sums: each number is a difference of two naturals
pub sum_times : (a b c : ℤ) → (a +ℤ b) *ℤ c ≡ (a *ℤ c) +ℤ (b *ℤ c)
sum_times a b c =
    let scaled = λ (k : ℕ) (m n : ℕ) (e : m ≡ n). ap (λ x. x * k) e in
    let s = sum_is_lem a b in
    omega (arith, ints, scaled (up c) _ _ s, scaled (down c) _ _ s)

pub times_sum : (c a b : ℤ) → c *ℤ (a +ℤ b) ≡ (c *ℤ a) +ℤ (c *ℤ b)
times_sum c a b = *ℤ_comm c (a +ℤ b) ∙ sum_times a b c ∙ ap (λ x. x +ℤ (b *ℤ c)) (*ℤ_comm a c) ∙ ap (λ x. (c *ℤ a) +ℤ x) (*ℤ_comm b c)

-- a number that a test finds to be 0
zero_found : (c : ℤ) → is_zero c ≡ true → c ≡ pos 0
zero_found c h = grind (arith, ints)

at_with : (s : ℕ → ℤ) (id : ℕ) (c : ℤ) (ts : List Term) (b : Bool) → (b ≡ true → c ≡ pos 0)
    → terms_at s (if b then ts else record { id = id; coefficient = c } ∷ ts) ≡ (c *ℤ s id) +ℤ terms_at s ts
at_with s id c ts true h = sym (ap (λ x. (x *ℤ s id) +ℤ terms_at s ts) (h refl) ∙ ap (λ x. x +ℤ terms_at s ts) (zero-*ℤ (s id)) ∙ +ℤ_idl (terms_at s ts))
at_with s id c ts false h = refl

pub at_with_term : (s : ℕ → ℤ) (id : ℕ) (c : ℤ) (ts : List Term) → terms_at s (with_term id c ts) ≡ (c *ℤ s id) +ℤ terms_at s ts
at_with_term s id c ts = at_with s id c ts (is_zero c) (zero_found c)

-- sums regrouped
first_in : (a b c d : ℤ) → a +ℤ (b +ℤ (c +ℤ d)) ≡ (a +ℤ b) +ℤ (c +ℤ d)
first_in a b c d = omega (arith, ints)

second_in : (a b c d : ℤ) → c +ℤ ((a +ℤ b) +ℤ d) ≡ (a +ℤ b) +ℤ (c +ℤ d)
second_in a b c d = omega (arith, ints)

both_in : (a b c d : ℤ) → (a +ℤ c) +ℤ (b +ℤ d) ≡ (a +ℤ b) +ℤ (c +ℤ d)
both_in a b c d = omega (arith, ints)

same_ids : (i j : ℕ) → nat_lt i j ≡ false → nat_lt j i ≡ false → i ≡ j
same_ids i j h g = grind arith

merged : (s : ℕ → ℤ) (t u : Term) (ts us behind_all rest merged_rest : List Term) (b d : Bool)
    → terms_at s behind_all ≡ terms_at s ts +ℤ terms_at s (u ∷ us)
    → terms_at s merged_rest ≡ terms_at s (t ∷ ts) +ℤ terms_at s us
    → terms_at s rest ≡ terms_at s ts +ℤ terms_at s us
    → (b ≡ false → d ≡ false → t.id ≡ u.id)
    → terms_at s (if b then t ∷ behind_all else if d then u ∷ merged_rest else with_term t.id (t.coefficient +ℤ u.coefficient) rest)
    ≡ terms_at s (t ∷ ts) +ℤ terms_at s (u ∷ us)
merged s t u ts us behind_all rest merged_rest true d h g k e =
    ap (λ x. (t.coefficient *ℤ s t.id) +ℤ x) h ∙ first_in (t.coefficient *ℤ s t.id) (terms_at s ts) (u.coefficient *ℤ s u.id) (terms_at s us)
merged s t u ts us behind_all rest merged_rest false true h g k e =
    ap (λ x. (u.coefficient *ℤ s u.id) +ℤ x) g ∙ second_in (t.coefficient *ℤ s t.id) (terms_at s ts) (u.coefficient *ℤ s u.id) (terms_at s us)
merged s t u ts us behind_all rest merged_rest false false h g k e =
    at_with_term s t.id (t.coefficient +ℤ u.coefficient) rest
    ∙ ap (λ x. x +ℤ terms_at s rest) (sum_times t.coefficient u.coefficient (s t.id))
    ∙ ap (λ x. ((t.coefficient *ℤ s t.id) +ℤ (u.coefficient *ℤ s x)) +ℤ terms_at s rest) (e refl refl)
    ∙ ap (λ x. ((t.coefficient *ℤ s t.id) +ℤ (u.coefficient *ℤ s u.id)) +ℤ x) k
    ∙ both_in (t.coefficient *ℤ s t.id) (terms_at s ts) (u.coefficient *ℤ s u.id) (terms_at s us)

at_merge : (s : ℕ → ℤ) (t : Term) (ts : List Term) (behind : List Term → List Term)
    → ((us : List Term) → terms_at s (behind us) ≡ terms_at s ts +ℤ terms_at s us)
    → (us : List Term) → terms_at s (merge_term t behind us) ≡ terms_at s (t ∷ ts) +ℤ terms_at s us
at_merge s t ts behind h [] = ap (λ x. (t.coefficient *ℤ s t.id) +ℤ x) (h []) ∙ sym (+ℤ_assoc (t.coefficient *ℤ s t.id) (terms_at s ts) (pos 0))
at_merge s t ts behind h (u ∷ us) =
    merged s t u ts us (behind (u ∷ us)) (behind us) (merge_term t behind us) (nat_lt t.id u.id) (nat_lt u.id t.id) (h (u ∷ us)) (at_merge s t ts behind h us) (h us) (same_ids t.id u.id)

-- the terms of a sum add up to both sums
pub at_sum : (s : ℕ → ℤ) (ts us : List Term) → terms_at s (sum_terms ts us) ≡ terms_at s ts +ℤ terms_at s us
at_sum s [] us = sym (+ℤ_idl (terms_at s us))
at_sum s (t ∷ ts) us = at_merge s t ts (sum_terms ts) (at_sum s ts) us

-- those of a multiple to the multiple of the sum
pub at_times : (s : ℕ → ℤ) (k : ℤ) (ts : List Term) → terms_at s (times_terms k ts) ≡ k *ℤ terms_at s ts
at_times s k [] = sym (*ℤ-zero k)
at_times s k (t ∷ ts) =
    at_with_term s t.id (k *ℤ t.coefficient) (times_terms k ts)
    ∙ ap (λ x. x +ℤ terms_at s (times_terms k ts)) (product_assoc k t.coefficient (s t.id))
    ∙ ap (λ x. (k *ℤ (t.coefficient *ℤ s t.id)) +ℤ x) (at_times s k ts)
    ∙ sym (times_sum k (t.coefficient *ℤ s t.id) (terms_at s ts))

-- the same of forms
pub form_sum : (s : ℕ → ℤ) (f g : Affine) → form_at s (sum_form f g) ≡ form_at s f +ℤ form_at s g
form_sum s f g =
    ap (λ x. (f.constant +ℤ g.constant) +ℤ x) (at_sum s f.terms g.terms)
    ∙ both_in f.constant (terms_at s f.terms) g.constant (terms_at s g.terms)

pub form_times : (s : ℕ → ℤ) (k : ℤ) (f : Affine) → form_at s (times_form k f) ≡ k *ℤ form_at s f
form_times s k f =
    ap (λ x. (k *ℤ f.constant) +ℤ x) (at_times s k f.terms) ∙ sym (times_sum k f.constant (terms_at s f.terms))

pub minus_is : (b : ℤ) → neg_ℤ b ≡ negsuc 0 *ℤ b
minus_is b = omega (arith, ints)

pub less_is : (a b : ℤ) → (a -ℤ b) ≡ a +ℤ (negsuc 0 *ℤ b)
less_is a b = omega (arith, ints)
