-- The arrays of a checked program may be made.
use Rattle.std.proofs.Common.{◌<◌, ◌≤◌, ℕ, zero, suc, ℤ, pos, negsuc, ◌≤ℤ◌, List, [], ◌∷◌, length, All, arith}
use Rattle.std.proofs.lemmas.Int.{ints}
use Rattle.std.specs.Prelude.{sum_by, slice_index_or, replicate}
use Rattle.std.proofs.lemmas.List.{length-replicate}
use Rattle.std.proofs.lemmas.List.Elements.{All-map}
use Rattle.std.proofs.lemmas.List.Sums.{sum_by-cons}
use Rattle.nona_tree.specs.declared.trees.ArrayDecl.{ArrayDecl}
use Rattle.nona_tree.specs.Faults.{cell_bound}
use Rattle.nona_tree.specs.declared.trees.Program.{Program}
use Rattle.nona_tree.specs.Run.{count_of, start_of}
use Rattle.nona_store.specs.Arrays.{AreSized, AreFew}

-- each part is at most the sum
part_of_sum : {A : Type 0} (f : A → ℕ) (xs : List A) (k : ℕ) (d : A) → k < length xs → f (slice_index_or xs k d) ≤ sum_by f xs
part_of_sum f [] k d below = absurd (omega (arith, below))
part_of_sum f (x ∷ xs) zero d below = omega (arith, sum_by-cons f x xs)
part_of_sum f (x ∷ xs) (suc k) d below =
    omega (arith, sum_by-cons f x xs, part_of_sum f xs k d (omega (arith, below)))

-- a number of cells from 1 on that is no greater than the bound
sized : (cells : ℤ) → 1 ≤ count_of cells → count_of cells ≤ cell_bound → (pos 1 ≤ℤ cells) × (cells ≤ℤ pos cell_bound)
sized (pos n) least most = (omega (arith, ints, least), omega (arith, ints, most))
sized (negsuc n) least most = absurd (omega (arith, least))

-- arrays with at least one cell each, and together no more than the bound
pub are_sized : (arrays : List ArrayDecl) → All (λ (a : ArrayDecl). 1 ≤ count_of a.cells) arrays
    → sum_by (λ (a : ArrayDecl). count_of a.cells) arrays ≤ cell_bound → AreSized arrays
are_sized arrays least most = λ k d below.
    let part = part_of_sum (λ (a : ArrayDecl). count_of a.cells) arrays k d below in
    sized (slice_index_or arrays k d).cells (least k d below) (omega (arith, part, most))

first_and_rest : {A : Type 0} (P : A → Type 0) (x : A) (xs : List A) → P x → All P xs → All P (x ∷ xs)
first_and_rest P x xs h g zero d below = h
first_and_rest P x xs h g (suc k) d below = g k d (omega (arith, below))

-- no array of the store before the first statement has more cells than there may be
pub start_few : (p : Program) (input : List ℤ) → AreFew input
    → sum_by (λ (a : ArrayDecl). count_of a.cells) p.arrays ≤ cell_bound → All AreFew (start_of p input).arrays
start_few p input few most =
    first_and_rest AreFew input _ few (All-map AreFew (λ (a : ArrayDecl). replicate (count_of a.cells) (pos 0)) p.arrays (λ k d below.
    omega (arith, length-replicate (count_of (slice_index_or p.arrays k d).cells) (pos 0), part_of_sum (λ (a : ArrayDecl). count_of a.cells) p.arrays k d below, most)))
