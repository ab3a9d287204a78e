-- The greatest of some numbers, where one of them is raised by one.
use Rattle.std.proofs.Common.{◌≡◌, ◌<◌, ◌+◌, ℕ, zero, suc, max, arith, List, [], ◌∷◌, length, get_or, set}
use Rattle.decima.specs.Counts.{greatest}

-- it is the raised number or what it was
pub greatest_set : (xs : List ℕ) (i : ℕ) → i < length xs → greatest (set xs i (get_or xs i 0 + 1)) ≡ max (greatest xs) (get_or xs i 0 + 1)
greatest_set [] i below = absurd (omega (arith, below))
greatest_set (x ∷ xs) zero below = omega arith
greatest_set (x ∷ xs) (suc i) below = let h = greatest_set xs i (omega (arith, below)) in omega (arith, h)
