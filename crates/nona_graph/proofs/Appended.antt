-- Lists that are appended part by part, and what is still to come of a list.
use Rattle.std.proofs.Common.{◌≡◌, ℕ, suc, ◌+◌, ◌<◌, List, ◌∷◌, ◌++◌, length, drop, refl, ap, ◌∙◌, append_assoc, slice_index_or, arith}
use Rattle.std.proofs.Math.Seq.{drop-cons}

pub next_of : {A : Type 0} (xs : List A) (i : ℕ) (d : A) → i < length xs → drop i xs ≡ slice_index_or xs i d ∷ drop (i + 1) xs
next_of xs i d h = let next : suc i ≡ i + 1 = omega arith in drop-cons xs i d h ∙ ap (λ k. slice_index_or xs i d ∷ drop k xs) next

pub two_parts : {A : Type 0} (xs ys old mid new : List A) → mid ≡ old ++ xs → new ≡ mid ++ ys → new ≡ old ++ (xs ++ ys)
two_parts xs ys old mid new h g = g ∙ ap (λ zs. zs ++ ys) h ∙ append_assoc old xs ys
