-- The edges of a loop, one after another.
use Rattle.std.proofs.Common.{◌≡◌, ℕ, suc, ◌+◌, ◌<◌, Bool, true, false, List, [], ◌∷◌, ◌++◌, length, take, map, filter, refl, sym, ap, ◌∙◌, if◌then◌else◌, slice_index_or, arith, append-nil, append_assoc}
use Rattle.std.specs.List.{flat_map}
use Rattle.std.proofs.lemmas.List.{take_more, map-append}
use Rattle.std.proofs.lemmas.List.Elements.{filter-append}
use Rattle.nona_tree.specs.declared.trees.Loop.{Loop}
use Rattle.nona_plans.specs.declared.graphs.Local.{Local}
use Rattle.nona_plans.specs.declared.graphs.Tie.{Tie}
use Rattle.nona_plans.specs.Components.{up_to}
use Rattle.nona_plans.specs.Units.{uses, tie_edges, local_edges}
use Rattle.nona_graph.proofs.TieSteps.{flat_both}

-- what a list gives, with one element more
flat_next : {A B : Type 0} (f : A → List B) (xs : List A) (i : ℕ) (d : A) (old now new : List B) → i < length xs → now ≡ old ++ flat_map f (take i xs) → new ≡ now ++ f (slice_index_or xs i d)
    → new ≡ old ++ flat_map f (take (i + 1) xs)
flat_next f xs i d old now new within h g =
    g ∙ ap (λ ys. ys ++ f (slice_index_or xs i d)) h ∙ append_assoc old (flat_map f (take i xs)) (f (slice_index_or xs i d))
    ∙ ap (λ ys. old ++ (flat_map f (take i xs) ++ ys)) (sym (append-nil (f (slice_index_or xs i d))))
    ∙ ap (λ ys. old ++ ys) (sym (flat_both f (take i xs) (slice_index_or xs i d ∷ [])))
    ∙ ap (λ ys. old ++ flat_map f ys) (sym (take_more xs i d within))

pub tied_next : (ts : List Tie) (i : ℕ) (d : Tie) (old now new : List (ℕ × ℕ)) → i < length ts → now ≡ old ++ flat_map tie_edges (take i ts) → new ≡ now ++ tie_edges (slice_index_or ts i d)
    → new ≡ old ++ flat_map tie_edges (take (i + 1) ts)
tied_next ts i d old now new within h g = flat_next tie_edges ts i d old now new within h g

pub local_next : (l : Loop) (xs : List Local) (i : ℕ) (d : Local) (old now new : List (ℕ × ℕ)) → i < length xs → now ≡ old ++ flat_map (local_edges l) (take i xs) → new ≡ now ++ local_edges l (slice_index_or xs i d)
    → new ≡ old ++ flat_map (local_edges l) (take (i + 1) xs)
local_next l xs i d old now new within h g = flat_next (local_edges l) xs i d old now new within h g

use_if : (v : Local) (n : ℕ) (b : Bool) → map {B = ℕ × ℕ} (λ u. (v.unit, u)) (if b then n ∷ [] else []) ≡ (if b then (v.unit, n) ∷ [] else [])
use_if v n true = refl
use_if v n false = refl

pub uses_next : (l : Loop) (v : Local) (k : ℕ) (old now new : List (ℕ × ℕ)) → now ≡ old ++ map {B = ℕ × ℕ} (λ u. (v.unit, u)) (filter (uses l v) (up_to k)) → new ≡ now ++ (if uses l v (k + 1) then (v.unit, k + 1) ∷ [] else [])
    → new ≡ old ++ map {B = ℕ × ℕ} (λ u. (v.unit, u)) (filter (uses l v) (up_to (k + 1)))
uses_next l v k old now new h g =
    let next : k + 1 ≡ suc k = omega arith in
    let more : List (ℕ × ℕ) = if uses l v (k + 1) then (v.unit, k + 1) ∷ [] else [] in
    let first = map {B = ℕ × ℕ} (λ u. (v.unit, u)) (filter (uses l v) (up_to k)) in
    g ∙ ap (λ xs. xs ++ more) h ∙ append_assoc old first more
    ∙ ap (λ xs. old ++ (first ++ xs)) (sym (use_if v (k + 1) (uses l v (k + 1))))
    ∙ ap (λ xs. old ++ xs) (sym (map-append {B = ℕ × ℕ} (λ u. (v.unit, u)) (filter (uses l v) (up_to k)) (if uses l v (k + 1) then (k + 1) ∷ [] else [])))
    ∙ ap (λ n. old ++ map {B = ℕ × ℕ} (λ u. (v.unit, u)) (filter (uses l v) (up_to k) ++ (if uses l v n then n ∷ [] else []))) next
    ∙ ap (λ xs. old ++ map {B = ℕ × ℕ} (λ u. (v.unit, u)) xs) (sym (filter-append (uses l v) (up_to k) (suc k ∷ [])))
    ∙ ap (λ n. old ++ map {B = ℕ × ℕ} (λ u. (v.unit, u)) (filter (uses l v) (up_to n))) (sym next)
