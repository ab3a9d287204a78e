-- The values of packets.
use Rattle.std.proofs.Common.{◌≡◌, ◌<◌, ◌≤◌, ◌+◌, ℕ, zero, suc, Bool, if◌then◌else◌, refl, sym, ap, ◌∙◌, arith, ℤ, pos, List, [], ◌∷◌, length, drop, slice_index_or}
use Rattle.std.proofs.Math.ListN.{drop_of_length-le}
use Rattle.std.proofs.lemmas.Bool.{ne_eqb}
use Rattle.net_pipe.specs.Works.{value_for}

-- no id is left
pub none_from : (ids : List ℕ) (values : List ℤ) (from id : ℕ) → length ids ≤ from → pos 0 ≡ value_for (drop from ids) (drop from values) id
none_from ids values from id past = sym (ap (λ (xs : List ℕ). value_for xs (drop from values) id) (drop_of_length-le ids past))

-- nor is a value
pub no_value_from : (ids : List ℕ) (values : List ℤ) (from id : ℕ) → length values ≤ from → pos 0 ≡ value_for (drop from ids) (drop from values) id
no_value_from ids values from id past = sym (ap (λ (vs : List ℤ). value_for (drop from ids) vs id) (drop_of_length-le values past) ∙ nothing (drop from ids)) where
  nothing : (xs : List ℕ) → value_for xs [] id ≡ pos 0
  nothing [] = refl
  nothing (x ∷ xs) = refl

-- the next id is another one
pub one_from : (ids : List ℕ) (values : List ℤ) (from id : ℕ) → from < length ids → from < length values → (slice_index_or ids from 0 ≡ id → ⊥)
    → value_for (drop (from + 1) ids) (drop (from + 1) values) id ≡ value_for (drop from ids) (drop from values) id
one_from [] values from id below within other = absurd (omega (arith, below))
one_from (x ∷ ids) [] from id below within other = absurd (omega (arith, within))
one_from (x ∷ ids) (v ∷ values) zero id below within other = sym (ap (λ (b : Bool). if b then v else value_for ids values id) (ne_eqb x id other))
one_from (x ∷ ids) (v ∷ values) (suc from) id below within other =
    ap (λ (k : ℕ). value_for (drop k (x ∷ ids)) (drop k (v ∷ values)) id) (let e : suc from + 1 ≡ suc (from + 1) = omega arith in e)
    ∙ one_from ids values from id (omega (arith, below)) (omega (arith, within)) other
