-- The first numbers of a list are set to one value.
use Rattle.std.proofs.Common.{◌≡◌, ℕ, zero, suc, ◌<◌, ◌≤◌, List, [], ◌∷◌, ◌++◌, length, refl, ap, arith}
use Rattle.std.specs.Prelude.{drop, replicate, slice_set}

-- the first count numbers are z
abbrev pub rested : {A : Type 0} → ℕ → A → List A → List A
rested count z xs = replicate count z ++ drop count xs

pub rested_more : {A : Type 0} (k : ℕ) (z : A) (xs : List A) → k < length xs → slice_set (rested k z xs) k z ≡ rested (suc k) z xs
rested_more zero z [] below = absurd (omega (arith, below))
rested_more zero z (x ∷ xs) below = refl
rested_more (suc k) z [] below = absurd (omega (arith, below))
rested_more (suc k) z (x ∷ xs) below = ap (λ ys. z ∷ ys) (rested_more k z xs (omega (arith, below)))

pub rested_all : {A : Type 0} (count n : ℕ) (z : A) → count ≤ n → rested count z (replicate n z) ≡ replicate n z
rested_all zero n z few = refl
rested_all (suc count) zero z few = absurd (omega (arith, few))
rested_all (suc count) (suc n) z few = ap (λ ys. z ∷ ys) (rested_all count n z (omega (arith, few)))
