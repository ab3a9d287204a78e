-- Loops over terms.
use Rattle.std.proofs.Common.{◌≡◌, ℕ, suc, ◌+◌, ◌<◌, ◌≤◌, ◌*◌, ◌^◌, pos, List, ◌∷◌, length, drop, sym, ap, ◌∙◌, subst, arith}
use Rattle.std.proofs.Math.Seq.{drop-cons}
use Rattle.std.proofs.Math.IntN.{+ℤ_assoc, +ℤ_idl, +ℤ_idr}
use Rattle.std.proofs.lemmas.List.{drop_all}
use Rattle.std.specs.Prelude.{slice_index_or}
use Rattle.nona_num.specs.declared.range.Range.{Range}
use Rattle.nona_forms.specs.declared.terms.Term.{Term}
use Rattle.nona_affine.specs.Small.{IsSmallRange}
use Rattle.nona_forms.specs.Boxes.{box, sum_range, times_range}

same_range : (r s : Range) → r.low ≡ s.low → r.high ≡ s.high → r ≡ s
same_range r s h g = λ i. record { low = h i; high = g i }

sum_assoc : (a b c : Range) → sum_range a (sum_range b c) ≡ sum_range (sum_range a b) c
sum_assoc a b c = same_range _ _ (sym (+ℤ_assoc a.low b.low c.low)) (sym (+ℤ_assoc a.high b.high c.high))

drop_at : (ts : List Term) (i : ℕ) (d : Term) → i < length ts → drop i ts ≡ slice_index_or ts i d ∷ drop (i + 1) ts
drop_at ts i d h = let next : suc i ≡ i + 1 = omega arith in drop-cons ts i d h ∙ ap (λ k. slice_index_or ts i d ∷ drop k ts) next

pub box_next : (total : Range) (ranges : ℕ → Range) (ts : List Term) (i : ℕ) (d : Term) → i < length ts
    → sum_range total (box ranges (drop i ts)) ≡ sum_range (sum_range total (times_range (slice_index_or ts i d).coefficient (ranges (slice_index_or ts i d).id))) (box ranges (drop (i + 1) ts))
box_next total ranges ts i d within =
    ap (λ xs. sum_range total (box ranges xs)) (drop_at ts i d within)
    ∙ sum_assoc total (times_range (slice_index_or ts i d).coefficient (ranges (slice_index_or ts i d).id)) (box ranges (drop (i + 1) ts))

pub box_end : (total : Range) (ranges : ℕ → Range) (ts : List Term) (i : ℕ) → length ts ≤ i → sum_range total (box ranges (drop i ts)) ≡ total
box_end total ranges ts i h = ap (λ xs. sum_range total (box ranges xs)) (drop_all i ts h) ∙ same_range _ _ (+ℤ_idr total.low) (+ℤ_idr total.high)

pub box_start : (b : Range) → b ≡ sum_range (record { low = pos 0; high = pos 0 }) b
box_start b = same_range _ _ (sym (+ℤ_idl b.low)) (sym (+ℤ_idl b.high))

pub one_step : (i : ℕ) (r : Range) → IsSmallRange (2 ^ 64 + i * 2 ^ 95 + 2 ^ 95) r → IsSmallRange (2 ^ 64 + (i + 1) * 2 ^ 95) r
one_step i r h = let next : 2 ^ 64 + i * 2 ^ 95 + 2 ^ 95 ≡ 2 ^ 64 + (i + 1) * 2 ^ 95 = omega arith in subst (λ n. IsSmallRange n r) next h
