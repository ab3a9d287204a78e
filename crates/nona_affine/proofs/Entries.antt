-- Entries of a map: what they add up to, and what a new or a removed one changes.
use Rattle.std.proofs.Common.{◌≡◌, ℕ, Bool, true, false, ℤ, pos, ◌*ℤ◌, ◌+ℤ◌, List, [], ◌∷◌, refl, sym, ap, ◌∙◌, arith, Some, None, cond}
use Rattle.std.proofs.Math.IntN.{zero-*ℤ, +ℤ_idl, +ℤ_idr, +ℤ_assoc}
use Rattle.std.proofs.lemmas.Int.{ints}
use Rattle.std.proofs.lemmas.Map.{lookup-none}
use Rattle.std.proofs.lemmas.Map.Keys.{sorted_tail}
use Rattle.std.proofs.lemmas.Map.Entries.{none_below_head}
use Rattle.std.proofs.lemmas.Cmp.{nat_cmp_total}
use Rattle.std.specs.declared.cmp.Ordering.{Ordering}
use Rattle.std.specs.declared.cmp.Ordering.TheVariants.{Less, Equal, Greater}
use Rattle.std.specs.Option.{unwrap_or}
use Rattle.std.specs.Ordering.{nat_cmp, is_eq, match_ordering}
use Rattle.std.specs.List.Sorted.{IsStrictlySortedBy}
use Rattle.std.specs.Map.{keys_of, lookup, remove_entry}
use Rattle.std.specs.BTreeMap.{is_at, insert_entry}
use Rattle.nona_tree.specs.Value.{is_zero}
use Rattle.nona_forms.proofs.Sums.{sum_times}
use Rattle.nona_affine.specs.Tallies.{sum_at, value_at}

equal_is : (a b : ℕ) → nat_cmp a b ≡ Equal → a ≡ b
equal_is a b h = grind arith

at_is : (a b : ℕ) → is_at (nat_cmp a) b ≡ true → a ≡ b
at_is a b h = grind arith

-- a number that a test finds to be 0
pub zero_is : (c : ℤ) → is_zero c ≡ true → c ≡ pos 0
zero_is c h = grind (arith, ints)

-- sums with a term taken out and put in
put_in : (v o s : ℤ) → o ≡ pos 0 → (v +ℤ s) +ℤ o ≡ s +ℤ v
put_in v o s h = omega (arith, ints)

changed : (v o s : ℤ) → (v +ℤ s) +ℤ o ≡ (o +ℤ s) +ℤ v
changed v o s = omega (arith, ints)

behind : (t x o s v : ℤ) → x +ℤ o ≡ s +ℤ v → (t +ℤ x) +ℤ o ≡ (t +ℤ s) +ℤ v
behind t x o s v h = omega (arith, ints)

inserted_at : (s : ℕ → ℤ) (e : ℕ × ℤ) (es rest : List (ℕ × ℤ)) (k : ℕ) (v : ℤ) (o : Ordering) → (o ≡ Less → lookup (is_at (nat_cmp k)) es ≡ None) → (o ≡ Equal → k ≡ e.0)
    → sum_at s rest +ℤ (value_at k es *ℤ s k) ≡ sum_at s es +ℤ (v *ℤ s k)
    → sum_at s (match_ordering o ((k, v) ∷ e ∷ es) ((e.0, v) ∷ es) (e ∷ rest)) +ℤ (unwrap_or (cond (is_eq o) (Some e.1) (lookup (is_at (nat_cmp k)) es)) (pos 0) *ℤ s k)
    ≡ sum_at s (e ∷ es) +ℤ (v *ℤ s k)
inserted_at s e es rest k v Less h g i =
    put_in (v *ℤ s k) (unwrap_or (lookup (is_at (nat_cmp k)) es) (pos 0) *ℤ s k) (sum_at s (e ∷ es)) (ap (λ o. unwrap_or o (pos 0) *ℤ s k) (h refl) ∙ zero-*ℤ (s k))
inserted_at s e es rest k v Equal h g i =
    ap (λ x. ((v *ℤ s x) +ℤ sum_at s es) +ℤ (e.1 *ℤ s k)) (sym (g refl)) ∙ changed (v *ℤ s k) (e.1 *ℤ s k) (sum_at s es) ∙ ap (λ x. ((e.1 *ℤ s x) +ℤ sum_at s es) +ℤ (v *ℤ s k)) (g refl)
inserted_at s e es rest k v Greater h g i = behind (e.1 *ℤ s e.0) (sum_at s rest) (value_at k es *ℤ s k) (sum_at s es) (v *ℤ s k) i

none_behind : (k : ℕ) (e : ℕ × ℤ) (es : List (ℕ × ℤ)) → IsStrictlySortedBy nat_cmp (keys_of (e ∷ es)) → nat_cmp k e.0 ≡ Less → lookup (is_at (nat_cmp k)) es ≡ None
none_behind k e es h g = lookup-none (is_at (nat_cmp k)) es (none_below_head nat_cmp_total k e es h g).1

-- an entry that is put in takes the place of the one of its scalar
pub sum_inserted : (s : ℕ → ℤ) (es : List (ℕ × ℤ)) (k : ℕ) (v : ℤ) → IsStrictlySortedBy nat_cmp (keys_of es) → sum_at s (insert_entry nat_cmp es k v) +ℤ (value_at k es *ℤ s k) ≡ sum_at s es +ℤ (v *ℤ s k)
sum_inserted s [] k v h = put_in (v *ℤ s k) (pos 0 *ℤ s k) (pos 0) (zero-*ℤ (s k))
sum_inserted s (e ∷ es) k v h =
    inserted_at s e es (insert_entry nat_cmp es k v) k v (nat_cmp k e.0) (none_behind k e es h) (equal_is k e.0) (sum_inserted s es k v (sorted_tail nat_cmp e.0 (keys_of es) h))

swapped : (a b : ℤ) → a +ℤ b ≡ b +ℤ a
swapped a b = omega (arith, ints)

removed_at : (s : ℕ → ℤ) (e : ℕ × ℤ) (es rest : List (ℕ × ℤ)) (k : ℕ) (b : Bool) → (b ≡ true → k ≡ e.0) → sum_at s rest +ℤ (value_at k es *ℤ s k) ≡ sum_at s es
    → sum_at s (cond b es (e ∷ rest)) +ℤ (unwrap_or (cond b (Some e.1) (lookup (is_at (nat_cmp k)) es)) (pos 0) *ℤ s k) ≡ sum_at s (e ∷ es)
removed_at s e es rest k true h i = ap (λ x. sum_at s es +ℤ (e.1 *ℤ s x)) (h refl) ∙ swapped (sum_at s es) (e.1 *ℤ s e.0)
removed_at s e es rest k false h i = +ℤ_assoc (e.1 *ℤ s e.0) (sum_at s rest) (value_at k es *ℤ s k) ∙ ap (λ x. (e.1 *ℤ s e.0) +ℤ x) i

-- one that is taken out
pub sum_removed : (s : ℕ → ℤ) (es : List (ℕ × ℤ)) (k : ℕ) → sum_at s (remove_entry (is_at (nat_cmp k)) es) +ℤ (value_at k es *ℤ s k) ≡ sum_at s es
sum_removed s [] k = +ℤ_idl (pos 0 *ℤ s k) ∙ zero-*ℤ (s k)
sum_removed s (e ∷ es) k = removed_at s e es (remove_entry (is_at (nat_cmp k)) es) k (is_at (nat_cmp k) e.0) (at_is k e.0) (sum_removed s es k)

-- the same of a call that does one or the other
pub sum_without : (s : ℕ → ℤ) (es new : List (ℕ × ℤ)) (k : ℕ) (v : ℤ) → v ≡ pos 0 → new ≡ remove_entry (is_at (nat_cmp k)) es → sum_at s new +ℤ (value_at k es *ℤ s k) ≡ sum_at s es +ℤ (v *ℤ s k)
sum_without s es new k v h g =
    ap (λ x. sum_at s x +ℤ (value_at k es *ℤ s k)) g ∙ sum_removed s es k ∙ sym (ap (λ x. sum_at s es +ℤ (x *ℤ s k)) h ∙ ap (λ x. sum_at s es +ℤ x) (zero-*ℤ (s k)) ∙ +ℤ_idr (sum_at s es))

pub sum_with : (s : ℕ → ℤ) (es new : List (ℕ × ℤ)) (k : ℕ) (v : ℤ) → IsStrictlySortedBy nat_cmp (keys_of es) → new ≡ insert_entry nat_cmp es k v → sum_at s new +ℤ (value_at k es *ℤ s k) ≡ sum_at s es +ℤ (v *ℤ s k)
sum_with s es new k v h g = ap (λ x. sum_at s x +ℤ (value_at k es *ℤ s k)) g ∙ sum_inserted s es k v h

taken : (n m a b : ℤ) → n +ℤ a ≡ m +ℤ (a +ℤ b) → n ≡ m +ℤ b
taken n m a b h = omega (arith, ints)

-- where a coefficient is the sum of the old one and another, the other is what was added
pub sum_added : (n m o v c s : ℤ) → v ≡ o +ℤ c → n +ℤ (o *ℤ s) ≡ m +ℤ (v *ℤ s) → n ≡ m +ℤ (c *ℤ s)
sum_added n m o v c s h g = taken n m (o *ℤ s) (c *ℤ s) (g ∙ ap (λ x. m +ℤ (x *ℤ s)) h ∙ ap (λ x. m +ℤ x) (sum_times o c s))
