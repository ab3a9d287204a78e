-- Values that are put on an overlay, and a store under one.
use Rattle.std.proofs.Common.{◌≡◌, ◌≢◌, ◌<◌, ◌≤◌, ◌+◌, ℕ, zero, suc, nat_lt, ◌==◌, ◌&&◌, Bool, true, false, if◌then◌else◌, ℤ, pos, List, [], ◌∷◌, ◌++◌, length, get_or, set, refl, sym, ap, subst, ◌∙◌, arith, Option, None, Some, slice_set, slice_index_or, ◌⊎◌, inl, inr, min}
use Rattle.std.specs.Option.{unwrap_or}
use Rattle.std.proofs.lemmas.Bool.{cases_eq, cases_lt, eq-eqb, ne_eqb, lt-ltb, le-ltb}
use Rattle.std.proofs.lemmas.List.{ext_get_or, get_or-set_same, get_or-set_other, get_or_past}
use Rattle.nona_sparse.specs.Sparse.{at, with_at, cell, changed, changes, cells_under}
use Rattle.nona_tree.specs.Memory.{Memory, cells_of, cell_at, put_cell}
use Rattle.nona_store.specs.Overlays.{over_of, with_cell, arrays_under, under}

-- one more element that is what stands behind a list changes nothing
added : {X : Type 0} (xs : List X) (d : X) (p : ℕ) → get_or (xs ++ d ∷ []) p d ≡ get_or xs p d
added [] d zero = refl
added [] d (suc p) = refl
added (x ∷ xs) d zero = refl
added (x ∷ xs) d (suc p) = added xs d p

-- one more sparse array without values changes nothing
pub array_added : (written : List (List (List (Option ℤ)))) → over_of (written ++ [] ∷ []) ≡ over_of written
array_added written = λ i a. at (added written [] a i)

-- one cell has a value, where its array is this one
in_array : (id place : ℕ) (v : ℤ) (over : ℕ → ℕ → Option ℤ) (a q : ℕ) → (id == a) ≡ true → with_cell id place v over a q ≡ with_at place v (over a) q
in_array id place v over a q is = ap (λ c. if c && place == q then Some v else over a q) is

-- and the cells of another one have what they had
in_other : (id place : ℕ) (v : ℤ) (over : ℕ → ℕ → Option ℤ) (a q : ℕ) → (id == a) ≡ false → with_cell id place v over a q ≡ over a q
in_other id place v over a q is = ap (λ c. if c && place == q then Some v else over a q) is

-- a value that is put at a place of an array's sparse array is put on the cell
pub array_put : (written : List (List (List (Option ℤ)))) (id place : ℕ) (v : ℤ) (pages : List (List (Option ℤ))) → id < length written
    → at pages ≡ with_at place v (at (slice_index_or written id [])) → over_of (slice_set written id pages) ≡ with_cell id place v (over_of written)
array_put written id place v pages within put = λ i a q. by a q (cases_eq id a) i where
  by : (a q : ℕ) → (id ≡ a) ⊎ (id ≡ a → ⊥) → over_of (slice_set written id pages) a q ≡ with_cell id place v (over_of written) a q
  by a q (inl is) =
      ap (λ n. at (get_or (set written id pages) n []) q) (sym is) ∙ ap (λ p. at p q) (get_or-set_same written id pages [] within)
      ∙ (λ i. put i q) ∙ ap (λ n. with_at place v (at (get_or written n [])) q) is ∙ sym (in_array id place v (over_of written) a q (eq-eqb id a is))
  by a q (inr differs) =
      ap (λ p. at p q) (get_or-set_other written id a pages [] (λ is. differs (sym is)))
      ∙ sym (in_other id place v (over_of written) a q (ne_eqb id a differs))

-- a sparse array that has what it had changes nothing
pub array_same : (written : List (List (List (Option ℤ)))) (id : ℕ) (pages : List (List (Option ℤ))) → id < length written
    → at pages ≡ at (slice_index_or written id []) → over_of (slice_set written id pages) ≡ over_of written
array_same written id pages within same = λ i a. by a (cases_eq id a) i where
  by : (a : ℕ) → (id ≡ a) ⊎ (id ≡ a → ⊥) → over_of (slice_set written id pages) a ≡ over_of written a
  by a (inl is) =
      ap (λ n. at (get_or (set written id pages) n [])) (sym is) ∙ ap at (get_or-set_same written id pages [] within)
      ∙ same ∙ ap (λ n. at (get_or written n [])) is
  by a (inr differs) = ap at (get_or-set_other written id a pages [] (λ is. differs (sym is)))

-- which of two numbers another one reaches that reaches the lesser one
pub reached : (a b n : ℕ) → min a b ≤ n → (a ≤ n) ⊎ (b ≤ n)
reached a b n least = by (cases_lt n a) where
  by : (n < a) ⊎ (a ≤ n) → (a ≤ n) ⊎ (b ≤ n)
  by (inl below) = inr (omega (arith, least, below))
  by (inr above) = inl above

-- a choice by a test
pub chosen : {X : Type 0} (b c : Bool) (x y : X) → b ≡ c → (if b then x else y) ≡ (if c then x else y)
chosen b c x y is = ap (λ t. if t then x else y) is

-- one more sparse array is changed
pub next_array : (left : ℕ → (ℕ → Option ℤ) → ℕ → Option ℤ) (was written : List (List (List (Option ℤ)))) (id : ℕ) (pages : List (List (Option ℤ))) → id < length written
    → ((a : ℕ) → over_of written a ≡ (if nat_lt a id then left a (over_of was a) else over_of was a)) → at pages ≡ left id (at (slice_index_or written id []))
    → (a : ℕ) → over_of (slice_set written id pages) a ≡ (if nat_lt a (id + 1) then left a (over_of was a) else over_of was a)
next_array left was written id pages within each new = λ a. by a (cases_eq id a) (cases_lt a id) where
  by : (a : ℕ) → (id ≡ a) ⊎ (id ≡ a → ⊥) → (a < id) ⊎ (id ≤ a)
      → over_of (slice_set written id pages) a ≡ (if nat_lt a (id + 1) then left a (over_of was a) else over_of was a)
  by a (inl is) _ =
      ap (λ n. at (get_or (set written id pages) n [])) (sym is) ∙ ap at (get_or-set_same written id pages [] within) ∙ new
      ∙ ap (left id) (each id ∙ chosen (nat_lt id id) false _ _ (le-ltb id id (omega arith))) ∙ ap (λ n. left n (over_of was n)) is
      ∙ sym (chosen (nat_lt a (id + 1)) true _ _ (lt-ltb a (id + 1) (omega (arith, is))))
  by a (inr differs) (inl below) =
      ap at (get_or-set_other written id a pages [] (λ is. differs (sym is))) ∙ each a ∙ chosen (nat_lt a id) true _ _ (lt-ltb a id below)
      ∙ sym (chosen (nat_lt a (id + 1)) true _ _ (lt-ltb a (id + 1) (omega (arith, below))))
  by a (inr differs) (inr above) =
      let behind : id + 1 ≤ a = omega (arith, above, differs) in
      ap at (get_or-set_other written id a pages [] (λ is. differs (sym is))) ∙ each a ∙ chosen (nat_lt a id) false _ _ (le-ltb a id above)
      ∙ sym (chosen (nat_lt a (id + 1)) false _ _ (le-ltb a (id + 1) behind))

-- a choice between two that are one
pub same_either : {X : Type 0} (b : Bool) (x : X) → (if b then x else x) ≡ x
same_either true x = refl
same_either false x = refl

-- what is written where no cell is stays
no_cells : (written : ℕ → Option ℤ) → changes [] written ≡ written
no_cells written = λ i p. chosen (nat_lt p 0) false (changed (cell [] p) (written p)) (written p) (le-ltb p 0 (omega arith)) i

-- once all sparse arrays, or those of all arrays, are changed, what is left stands for each id
pub all_left : (arrays : List (List ℤ)) (was written : List (List (List (Option ℤ)))) (n : ℕ) → (length was ≤ n) ⊎ (length arrays ≤ n)
    → ((a : ℕ) → over_of written a ≡ (if nat_lt a n then changes (slice_index_or arrays a []) (over_of was a) else over_of was a))
    → (a : ℕ) → over_of written a ≡ changes (slice_index_or arrays a []) (over_of was a)
all_left arrays was written n all each = λ a. each a ∙ by a all (cases_lt a n) where
  by : (a : ℕ) → (length was ≤ n) ⊎ (length arrays ≤ n) → (a < n) ⊎ (n ≤ a)
      → (if nat_lt a n then changes (slice_index_or arrays a []) (over_of was a) else over_of was a) ≡ changes (slice_index_or arrays a []) (over_of was a)
  by a _ (inl below) = chosen (nat_lt a n) true _ _ (lt-ltb a n below)
  by a (inl few) (inr above) =
      let none : get_or was a [] ≡ [] = get_or_past was a [] (omega (arith, few, above)) in
      chosen (nat_lt a n) false _ _ (le-ltb a n above) ∙ ap at none
      ∙ (λ i p. sym (same_either (nat_lt p (length (slice_index_or arrays a []))) None) i)
      ∙ ap (λ w. changes (slice_index_or arrays a []) (at w)) (sym none)
  by a (inr few) (inr above) =
      chosen (nat_lt a n) false _ _ (le-ltb a n above) ∙ sym (no_cells (over_of was a))
      ∙ ap (λ cells. changes cells (over_of was a)) (sym (get_or_past arrays a [] (omega (arith, few, above))))

-- the cells under two overlays that agree on an array are the same
same_cells : (f g : ℕ → Option ℤ) (k : ℕ) (cells : List ℤ) → ((p : ℕ) → k ≤ p → f p ≡ g p) → cells_under f k cells ≡ cells_under g k cells
same_cells f g k [] h = refl
same_cells f g k (v ∷ cells) h = λ i. unwrap_or (h k (omega arith) i) v ∷ same_cells f g (suc k) cells (λ p above. h p (omega (arith, above))) i

same_arrays : (f g : ℕ → ℕ → Option ℤ) (k : ℕ) (arrays : List (List ℤ)) → ((a p : ℕ) → k ≤ a → f a p ≡ g a p) → arrays_under f k arrays ≡ arrays_under g k arrays
same_arrays f g k [] h = refl
same_arrays f g k (cells ∷ arrays) h =
    λ i. same_cells (f k) (g k) 0 cells (λ p above. h k p (omega arith)) i ∷ same_arrays f g (suc k) arrays (λ a p above. h a p (omega (arith, above))) i

-- a test that holds, or doesn't, chooses
pick_true : (b : Bool) (x y : Option ℤ) → b ≡ true → (if b then x else y) ≡ x
pick_true true x y h = refl
pick_true false x y h = cc

pick_false : (b : Bool) (x y : Option ℤ) → b ≡ false → (if b then x else y) ≡ y
pick_false true x y h = cc
pick_false false x y h = refl

-- nothing under an empty overlay changes
pub under_none : (k : ℕ) (cells : List ℤ) → cells_under (λ p. None) k cells ≡ cells
under_none k [] = refl
under_none k (v ∷ cells) = ap (λ (rest : List ℤ). v ∷ rest) (under_none (suc k) cells)

pub arrays_under_none : (k : ℕ) (arrays : List (List ℤ)) → arrays_under (λ a p. None) k arrays ≡ arrays
arrays_under_none k [] = refl
arrays_under_none k (cells ∷ arrays) = λ i. under_none 0 cells i ∷ arrays_under_none (suc k) arrays i

-- an array with a cell is there
pub has_array : (arrays : List (List ℤ)) (a at : ℕ) → at < length (slice_index_or arrays a []) → a < length arrays
has_array [] a at h = absurd (omega (arith, h))
has_array (cells ∷ arrays) zero at h = omega arith
has_array (cells ∷ arrays) (suc a) at h = omega (arith, has_array arrays a at h)

-- what stands under an overlay at a place
under_at : (over : ℕ → Option ℤ) (k p : ℕ) (d : ℤ) (cells : List ℤ) → p < length cells
    → slice_index_or (cells_under over k cells) p d ≡ unwrap_or (over (k + p)) (slice_index_or cells p d)
under_at over k p d [] within = absurd (omega (arith, within))
under_at over k zero d (v ∷ cells) within = ap (λ n. unwrap_or (over n) v) (omega arith)
under_at over k (suc p) d (v ∷ cells) within =
    under_at over (suc k) p d cells (omega (arith, within)) ∙ ap (λ n. unwrap_or (over n) (slice_index_or cells p d)) (omega arith)

under_length : (over : ℕ → Option ℤ) (k : ℕ) (cells : List ℤ) → length (cells_under over k cells) ≡ length cells
under_length over k [] = refl
under_length over k (v ∷ cells) = ap (λ n. suc n) (under_length over (suc k) cells)

pub under_arrays : (over : ℕ → ℕ → Option ℤ) (k a : ℕ) (arrays : List (List ℤ))
    → slice_index_or (arrays_under over k arrays) a [] ≡ cells_under (over (k + a)) 0 (slice_index_or arrays a [])
under_arrays over k a [] = refl
under_arrays over k zero (cells ∷ arrays) = ap (λ n. cells_under (over n) 0 cells) (omega arith)
under_arrays over k (suc a) (cells ∷ arrays) =
    under_arrays over (suc k) a arrays ∙ ap (λ n. cells_under (over n) 0 (slice_index_or arrays a [])) (omega arith)

-- a cell under an overlay has the value that is written over it, or its own
pub covered : (m : Memory) (over : ℕ → ℕ → Option ℤ) (a p : ℕ) → p < length (cells_of m a)
    → cell_at (under over m) a p ≡ unwrap_or (over a p) (cell_at m a p)
covered m over a p within =
    ap (λ (cells : List ℤ). slice_index_or cells p (pos 0)) (under_arrays over 0 a m.arrays ∙ ap (λ n. cells_under (over n) 0 (cells_of m a)) (omega arith))
    ∙ under_at (over a) 0 p (pos 0) (cells_of m a) within
    ∙ ap (λ n. unwrap_or (over a n) (cell_at m a p)) (omega arith)

-- and its array is as long as it was
pub as_long : (m : Memory) (over : ℕ → ℕ → Option ℤ) (a : ℕ) → length (cells_of (under over m) a) ≡ length (cells_of m a)
as_long m over a = ap length (under_arrays over 0 a m.arrays) ∙ under_length (over (0 + a)) 0 (cells_of m a)

-- as many arrays stand under an overlay
pub as_many : (over : ℕ → ℕ → Option ℤ) (k : ℕ) (arrays : List (List ℤ)) → length (arrays_under over k arrays) ≡ length arrays
as_many over k [] = refl
as_many over k (cells ∷ arrays) = ap (λ n. suc n) (as_many over (suc k) arrays)

-- a cell that is set in what stands under an overlay is one that is put on the overlay
over_cells : (over put_there : ℕ → Option ℤ) (k at : ℕ) (v : ℤ) (cells : List ℤ) → put_there (k + at) ≡ Some v
    → ((p : ℕ) → p ≢ k + at → put_there p ≡ over p) → slice_set (cells_under over k cells) at v ≡ cells_under put_there k cells
over_cells over put_there k at v [] there others = refl
over_cells over put_there k zero v (w ∷ cells) there others =
    let here : k + 0 ≡ k = omega arith in
    let new : put_there k ≡ Some v = ap put_there (sym here) ∙ there in
    λ i. ap (λ (o : Option ℤ). unwrap_or o w) (sym new) i
    ∷ same_cells over put_there (suc k) cells (λ p above. sym (others p (λ is. absurd (omega (arith, is, above))))) i
over_cells over put_there k (suc at) v (w ∷ cells) there others =
    let moved : k + suc at ≡ suc k + at = omega arith in
    λ i. unwrap_or (sym (others k (λ is. absurd (omega (arith, is)))) i) w
    ∷ over_cells over put_there (suc k) at v cells (ap put_there (sym moved) ∙ there) (λ p differs. others p (λ is. differs (is ∙ moved))) i

over_arrays : (over put_there : ℕ → ℕ → Option ℤ) (k a at : ℕ) (v : ℤ) (arrays : List (List ℤ)) → put_there (k + a) at ≡ Some v
    → ((p : ℕ) → p ≢ at → put_there (k + a) p ≡ over (k + a) p) → ((b p : ℕ) → b ≢ k + a → put_there b p ≡ over b p)
    → slice_set (arrays_under over k arrays) a (slice_set (slice_index_or (arrays_under over k arrays) a []) at v) ≡ arrays_under put_there k arrays
over_arrays over put_there k a at v [] there near far = refl
over_arrays over put_there k zero at v (cells ∷ arrays) there near far =
    let here : k + 0 ≡ k = omega arith in
    let first : 0 + at ≡ at = omega arith in
    λ i. over_cells (over k) (put_there k) 0 at v cells (ap (put_there k) first ∙ ap (λ n. put_there n at) (sym here) ∙ there)
    (λ p differs. ap (λ n. put_there n p) (sym here) ∙ near p (λ is. differs (is ∙ sym first)) ∙ ap (λ n. over n p) here) i
    ∷ same_arrays over put_there (suc k) arrays (λ b p above. sym (far b p (λ is. absurd (omega (arith, is, above))))) i
over_arrays over put_there k (suc a) at v (cells ∷ arrays) there near far =
    let moved : k + suc a ≡ suc k + a = omega arith in
    λ i. same_cells (over k) (put_there k) 0 cells (λ p above. sym (far k p (λ is. absurd (omega (arith, is))))) i
    ∷ over_arrays over put_there (suc k) a at v arrays (ap (λ n. put_there n at) (sym moved) ∙ there)
    (λ p differs. ap (λ n. put_there n p) (sym moved) ∙ near p differs ∙ ap (λ n. over n p) moved)
    (λ b p differs. far b p (λ is. differs (is ∙ moved))) i

pub put_over_store : (over : ℕ → ℕ → Option ℤ) (a at : ℕ) (v : ℤ) (m : Memory) → put_cell a at v (under over m) ≡ under (with_cell a at v over) m
put_over_store over a at v m = λ i. record m { arrays = same i } where
  there : with_cell a at v over (0 + a) at ≡ Some v
  there = ap (λ n. with_cell a at v over n at) (omega arith) ∙ pick_true (a == a && at == at) (Some v) (over a at) (grind arith)

  near : (p : ℕ) → p ≢ at → with_cell a at v over (0 + a) p ≡ over (0 + a) p
  near p differs = pick_false (a == (0 + a) && at == p) (Some v) (over (0 + a) p) (grind (arith, differs))

  far : (b p : ℕ) → b ≢ 0 + a → with_cell a at v over b p ≡ over b p
  far b p differs = pick_false (a == b && at == p) (Some v) (over b p) (grind (arith, differs))

  same : slice_set (arrays_under over 0 m.arrays) a (slice_set (cells_of (under over m) a) at v) ≡ arrays_under (with_cell a at v over) 0 m.arrays
  same = over_arrays over (with_cell a at v over) 0 a at v m.arrays there near far

-- the arrays up to the last one that has written cells, with their values, are the arrays under what is written
pub each_array : (written : List (List (List (Option ℤ)))) (new old : List (List ℤ)) (n : ℕ) → length new ≡ length old → (length written ≤ n) ⊎ (length old ≤ n)
    → ((a : ℕ) → slice_index_or new a [] ≡ (if nat_lt a n then cells_under (over_of written a) 0 (slice_index_or old a []) else slice_index_or old a []))
    → new ≡ arrays_under (over_of written) 0 old
each_array written new old n long all each =
    ext_get_or [] new (arrays_under (over_of written) 0 old) (long ∙ sym (as_many (over_of written) 0 old))
    (λ a within. each a ∙ by a (omega (arith, within, long)) all (cases_lt a n) ∙ ap (λ k. cells_under (over_of written k) 0 (slice_index_or old a [])) (omega arith) ∙ sym (under_arrays (over_of written) 0 a old)) where
      by : (a : ℕ) → a < length old → (length written ≤ n) ⊎ (length old ≤ n) → (a < n) ⊎ (n ≤ a)
          → (if nat_lt a n then cells_under (over_of written a) 0 (slice_index_or old a []) else slice_index_or old a [])
          ≡ cells_under (over_of written a) 0 (slice_index_or old a [])
      by a within _ (inl below) = chosen (nat_lt a n) true _ _ (lt-ltb a n below)
      by a within (inl few) (inr above) =
          chosen (nat_lt a n) false _ _ (le-ltb a n above)
          ∙ sym (under_none 0 (slice_index_or old a []))
          ∙ ap (λ p. cells_under (at p) 0 (slice_index_or old a [])) (sym (get_or_past written a [] (omega (arith, few, above))))
      by a within (inr behind) (inr above) = absurd (omega (arith, within, behind, above))

-- an array is as long under what is written as it is, so a cell of what a task sees is one of the store
pub within_own : (m : Memory) (over : ℕ → ℕ → Option ℤ) (a at : ℕ) → at < length (cells_of (under over m) a) → at < length (cells_of m a)
within_own m over a at within = subst (λ n. at < n) (as_long m over a) within
