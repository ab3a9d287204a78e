-- Lists that have something in common.
use Rattle.std.proofs.Common.{◌≡◌, ℕ, ◌==◌, ◌&&◌, ◌||◌, Bool, true, false, List, [], ◌∷◌, ◌++◌, filter, refl, sym, ap, ◌∙◌, subst, if◌then◌else◌, arith}
use Rattle.std.specs.List.{list_any}
use Rattle.nona_forms.specs.Affine.{among}
use Rattle.nona_graph.proofs.Tests.{same_units, either_is, or_true}

-- two tests of which each follows from the other are the same
pub same_tests : (a b : Bool) → (a ≡ true → b ≡ true) → (b ≡ true → a ≡ true) → a ≡ b
same_tests true b h k = sym (h refl)
same_tests false true h k = k refl
same_tests false false h k = refl

and_split : (a b : Bool) → (a && b) ≡ true → (a ≡ true) × (b ≡ true)
and_split true b h = (refl, h)
and_split false b h = cc

pub and_made : (a b : Bool) → a ≡ true → b ≡ true → (a && b) ≡ true
and_made true b h k = k
and_made false b h k = cc

itself : (x : ℕ) → (x == x) ≡ true
itself x = grind arith

-- an element that passes a test
pub record IsWitness (p : ℕ → Bool) (xs : List ℕ) (id : ℕ) : Type 0 where
  pub there : among id xs ≡ true
  pub passes : p id ≡ true

later : (p : ℕ → Bool) (x id : ℕ) (xs : List ℕ) → IsWitness p xs id → IsWitness p (x ∷ xs) id
later p x id xs w = record { there = either_is (id == x) (among id xs) ∙ or_true (id == x) (among id xs) w.there; passes = w.passes }

found_at : (p : ℕ → Bool) (x : ℕ) (xs : List ℕ) (b : Bool) → p x ≡ b → (b || list_any p xs) ≡ true → (list_any p xs ≡ true → (id : ℕ) × IsWitness p xs id) → (id : ℕ) × IsWitness p (x ∷ xs) id
found_at p x xs true e h k = (x, record { there = ap (λ b. if b then true else among x xs) (itself x); passes = e })
found_at p x xs false e h k = let w = k h in (w.0, later p x w.0 xs w.1)

pub any_found : (p : ℕ → Bool) (xs : List ℕ) → list_any p xs ≡ true → (id : ℕ) × IsWitness p xs id
any_found p [] h = cc
any_found p (x ∷ xs) h = found_at p x xs (p x) refl h (any_found p xs)

any_at : (p : ℕ → Bool) (id x : ℕ) (xs : List ℕ) (same : Bool) → (id == x) ≡ same → (if same then true else among id xs) ≡ true → p id ≡ true → (among id xs ≡ true → list_any p xs ≡ true) → (p x || list_any p xs) ≡ true
any_at p id x xs true e h k prior = ap (λ b. b || list_any p xs) (ap p (sym (same_units id x e)) ∙ k)
any_at p id x xs false e h k prior = or_true (p x) (list_any p xs) (prior h)

pub any_of : (p : ℕ → Bool) (xs : List ℕ) (id : ℕ) → among id xs ≡ true → p id ≡ true → list_any p xs ≡ true
any_of p [] id h k = cc
any_of p (x ∷ xs) id h k = any_at p id x xs (id == x) refl h k (λ there. any_of p xs id there k)

-- one of some ids is in both lists exactly where one of the first list is among the ids and in the other
pub shared : (kept ids one other : List ℕ) → ((id : ℕ) → among id kept ≡ among id ids) → list_any (λ id. among id kept && among id other) one ≡ list_any (λ id. among id one && among id other) ids
shared kept ids one other same =
    same_tests (list_any (λ id. among id kept && among id other) one) (list_any (λ id. among id one && among id other) ids)
    (λ h. let w = any_found (λ id. among id kept && among id other) one h in
    let both = and_split (among w.0 kept) (among w.0 other) w.1.passes in
    any_of (λ id. among id one && among id other) ids w.0 (sym (same w.0) ∙ both.0) (and_made (among w.0 one) (among w.0 other) w.1.there both.1))
    (λ h. let w = any_found (λ id. among id one && among id other) ids h in
    let both = and_split (among w.0 one) (among w.0 other) w.1.passes in
    any_of (λ id. among id kept && among id other) one w.0 both.0 (and_made (among w.0 kept) (among w.0 other) (same w.0 ∙ w.1.there) both.1))

-- those that pass a test
filter_at : (p : ℕ → Bool) (id x : ℕ) (xs : List ℕ) (same passes : Bool) → (id == x) ≡ same → p x ≡ passes → among id (filter p xs) ≡ (p id && among id xs)
    → among id (if passes then x ∷ filter p xs else filter p xs) ≡ (p id && (if same then true else among id xs))
filter_at p id x xs true true e h k =
    ap (λ b. if b then true else among id (filter p xs)) e ∙ sym (ap (λ b. b && true) (ap p (same_units id x e) ∙ h))
filter_at p id x xs true false e h k =
    let no : p id ≡ false = ap p (same_units id x e) ∙ h in k ∙ ap (λ b. b && among id xs) no ∙ sym (ap (λ b. b && true) no)
filter_at p id x xs false true e h k = ap (λ b. if b then true else among id (filter p xs)) e ∙ k
filter_at p id x xs false false e h k = k

none : (a : Bool) → false ≡ (a && false)
none true = refl
none false = refl

pub among_kept : (p : ℕ → Bool) (id : ℕ) (xs : List ℕ) → among id (filter p xs) ≡ (p id && among id xs)
among_kept p id [] = none (p id)
among_kept p id (x ∷ xs) = filter_at p id x xs (id == x) (p x) refl refl (among_kept p id xs)
