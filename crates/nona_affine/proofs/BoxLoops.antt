-- Loops over terms.
use Rattle.std.proofs.Common.{◌≡◌, ℕ, suc, ◌+◌, ◌<◌, ◌≤◌, ◌*◌, ◌^◌, pos, List, ◌∷◌, length, drop, sym, ap, ◌∙◌, subst, arith}
use Rattle.std.proofs.Math.Seq.{drop-cons}
use Rattle.std.proofs.Math.IntN.{+ℤ_assoc, +ℤ_idl, +ℤ_idr}
use Rattle.std.proofs.lemmas.List.{drop_all}
use Rattle.std.proofs.Common.{true, ◌&&◌, negsuc, ℤ, []}
use Rattle.std.proofs.lemmas.Int.{ints}
use Rattle.std.proofs.lemmas.List.Elements.{All-from_recursion}
use Rattle.std.specs.List.{AllByRecursion, list_all}
use Rattle.std.specs.Prelude.{All, int_le, slice_index_or}
use Rattle.nona_tree.specs.Numbers.{IsI64}
use Rattle.nona_affine.specs.Steps.{has_range, range_among, is_i64, is_bound, IsBound}
use Rattle.nona_affine.proofs.Bools.{both_true}
use Rattle.nona_num.specs.declared.range.Range.{Range}
use Rattle.nona_forms.specs.declared.terms.Term.{Term}
use Rattle.nona_affine.specs.Small.{IsSmallRange}
use Rattle.nona_forms.specs.Boxes.{box, sum_range, times_range}

same_range : (r s : Range) → r.low ≡ s.low → r.high ≡ s.high → r ≡ s
same_range r s h g = λ i. record { low = h i; high = g i }

sum_assoc : (a b c : Range) → sum_range a (sum_range b c) ≡ sum_range (sum_range a b) c
sum_assoc a b c = same_range _ _ (sym (+ℤ_assoc a.low b.low c.low)) (sym (+ℤ_assoc a.high b.high c.high))

drop_at : (ts : List Term) (i : ℕ) (d : Term) → i < length ts → drop i ts ≡ slice_index_or ts i d ∷ drop (i + 1) ts
drop_at ts i d h = let next : suc i ≡ i + 1 = omega arith in drop-cons ts i d h ∙ ap (λ k. slice_index_or ts i d ∷ drop k ts) next

pub box_next : (total : Range) (ranges : ℕ → Range) (ts : List Term) (i : ℕ) (d : Term) → i < length ts
    → sum_range total (box ranges (drop i ts)) ≡ sum_range (sum_range total (times_range (slice_index_or ts i d).coefficient (ranges (slice_index_or ts i d).id))) (box ranges (drop (i + 1) ts))
box_next total ranges ts i d within =
    ap (λ xs. sum_range total (box ranges xs)) (drop_at ts i d within)
    ∙ sum_assoc total (times_range (slice_index_or ts i d).coefficient (ranges (slice_index_or ts i d).id)) (box ranges (drop (i + 1) ts))

pub box_end : (total : Range) (ranges : ℕ → Range) (ts : List Term) (i : ℕ) → length ts ≤ i → sum_range total (box ranges (drop i ts)) ≡ total
box_end total ranges ts i h = ap (λ xs. sum_range total (box ranges xs)) (drop_all i ts h) ∙ same_range _ _ (+ℤ_idr total.low) (+ℤ_idr total.high)

pub box_start : (b : Range) → b ≡ sum_range (record { low = pos 0; high = pos 0 }) b
box_start b = same_range _ _ (sym (+ℤ_idl b.low)) (sym (+ℤ_idl b.high))

pub one_step : (i : ℕ) (r : Range) → IsSmallRange (2 ^ 64 + i * 2 ^ 95 + 2 ^ 95) r → IsSmallRange (2 ^ 64 + (i + 1) * 2 ^ 95) r
one_step i r h = let next : 2 ^ 64 + i * 2 ^ 95 + 2 ^ 95 ≡ 2 ^ 64 + (i + 1) * 2 ^ 95 = omega arith in subst (λ n. IsSmallRange n r) next h

-- bounds that the tests find
i64_found : (v : ℤ) → int_le (negsuc 9223372036854775807) v ≡ true → int_le v (pos 9223372036854775807) ≡ true → IsI64 v
i64_found v h g = omega (arith, ints)

i64_is : (v : ℤ) → is_i64 v ≡ true → IsI64 v
i64_is v h =
    let both = both_true (int_le (negsuc 9223372036854775807) v) (int_le v (pos 9223372036854775807)) h in
    i64_found v both.0 both.1

bound_is : (bounds : List (ℕ × Range)) (t : Term) → is_bound bounds t ≡ true → IsBound bounds t
bound_is bounds t h =
    let first = both_true (has_range bounds t.id) (is_i64 (range_among bounds t.id).low && is_i64 (range_among bounds t.id).high) h in
    let ends = both_true (is_i64 (range_among bounds t.id).low) (is_i64 (range_among bounds t.id).high) first.1 in
    record { known = first.0; low = i64_is (range_among bounds t.id).low ends.0; high = i64_is (range_among bounds t.id).high ends.1 }

bounds_listed : (bounds : List (ℕ × Range)) (ts : List Term) → list_all (is_bound bounds) ts ≡ true → AllByRecursion (IsBound bounds) ts
bounds_listed bounds [] h = tt
bounds_listed bounds (t ∷ ts) h =
    let both = both_true (is_bound bounds t) (list_all (is_bound bounds) ts) h in (bound_is bounds t both.0, bounds_listed bounds ts both.1)

pub bounds_found : (bounds : List (ℕ × Range)) (ts : List Term) → list_all (is_bound bounds) ts ≡ true → All (IsBound bounds) ts
bounds_found bounds ts h = All-from_recursion (IsBound bounds) ts (bounds_listed bounds ts h)
