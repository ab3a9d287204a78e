-- One page of what is written on an array, and a store under it.
use Rattle.std.proofs.Common.{◌≡◌, ◌<◌, ◌≤◌, ◌/◌, ◌==◌, ◌&&◌, ℕ, nat_lt, Bool, true, false, if◌then◌else◌, ℤ, List, [], length, get_or, set, slice_index_or, slice_set, Option, None, refl, sym, ap, ◌∙◌, arith, ◌⊎◌, inl, inr}
use Rattle.std.proofs.lemmas.Bool.{cases_eq, eq-eqb, ne_eqb}
use Rattle.std.proofs.lemmas.List.{ext_get_or, length-set, get_or-set_same, get_or-set_other, get_or_past}
use Rattle.nona_sparse.specs.declared.page.TheConstants.{PAGE}
use Rattle.nona_sparse.specs.Sparse.{at, cells_under, change_at, changed, changes_on, on_page}
use Rattle.nona_sparse.proofs.Leaving.{none_changed}
use Rattle.nona_tree.specs.Memory.{Memory, cell_at, cells_of}
use Rattle.nona_store.specs.Arrays.{with_array}
use Rattle.nona_store.specs.Overlays.{over_of, under, arrays_under, changes_of, changes_on_page, written_off, written_on}
use Rattle.nona_store.proofs.Overlaying.{arrays_under_none, as_many, chosen, same_either, under_arrays, under_none}

-- a cell lies on the page of this array with this index
abbrev pub is_on : ℕ → ℕ → ℕ → ℕ → Bool
is_on id index a p = id == a && p / PAGE == index

both_hold : (b c : Bool) (x y z : Option ℤ) → (b && c) ≡ true → (if b then if c then x else y else z) ≡ x
both_hold true true x y z h = refl
both_hold true false x y z h = cc
both_hold false c x y z h = cc

one_fails : (b c : Bool) (x y : Option ℤ) → (b && c) ≡ false → (if b then if c then x else y else y) ≡ y
one_fails true true x y h = cc
one_fails true false x y h = refl
one_fails false c x y h = refl

-- what is written on such a cell, and on another one, of what lies on the page, of the rest, and of what is left on the page
pub on_here : (id index : ℕ) (over : ℕ → ℕ → Option ℤ) (a p : ℕ) → is_on id index a p ≡ true → written_on id index over a p ≡ over a p
on_here id index over a p on = both_hold (id == a) (p / PAGE == index) (over a p) None None on

pub on_elsewhere : (id index : ℕ) (over : ℕ → ℕ → Option ℤ) (a p : ℕ) → is_on id index a p ≡ false → written_on id index over a p ≡ None
on_elsewhere id index over a p off = one_fails (id == a) (p / PAGE == index) (over a p) None off

pub off_here : (id index : ℕ) (over : ℕ → ℕ → Option ℤ) (a p : ℕ) → is_on id index a p ≡ true → written_off id index over a p ≡ None
off_here id index over a p on = both_hold (id == a) (p / PAGE == index) None (over a p) (over a p) on

pub off_elsewhere : (id index : ℕ) (over : ℕ → ℕ → Option ℤ) (a p : ℕ) → is_on id index a p ≡ false → written_off id index over a p ≡ over a p
off_elsewhere id index over a p off = one_fails (id == a) (p / PAGE == index) None (over a p) off

pub left_here : (id index : ℕ) (m : Memory) (over : ℕ → ℕ → Option ℤ) (a p : ℕ) → is_on id index a p ≡ true → changes_on_page id index m over a p ≡ changes_of m over a p
left_here id index m over a p on = both_hold (id == a) (p / PAGE == index) (changes_of m over a p) (over a p) (over a p) on

pub left_elsewhere : (id index : ℕ) (m : Memory) (over : ℕ → ℕ → Option ℤ) (a p : ℕ) → is_on id index a p ≡ false → changes_on_page id index m over a p ≡ over a p
left_elsewhere id index m over a p off = one_fails (id == a) (p / PAGE == index) (changes_of m over a p) (over a p) off

-- of nothing nothing is left, and of the same value beside the same cell the same
pub none_is_left : (m : Memory) (over : ℕ → ℕ → Option ℤ) (a p : ℕ) → over a p ≡ None → changes_of m over a p ≡ None
none_is_left m over a p none = ap (change_at (cells_of m a) p) none ∙ none_changed (cells_of m a) p

pub left_alike : (m n : Memory) (f g : ℕ → ℕ → Option ℤ) (a p : ℕ) → length (cells_of m a) ≡ length (cells_of n a) → cell_at m a p ≡ cell_at n a p → f a p ≡ g a p
    → changes_of m f a p ≡ changes_of n g a p
left_alike m n f g a p long own same = λ i. if nat_lt p (long i) then changed (own i) (same i) else same i

-- what is written on this array is changed, and the rest stays
abbrev pub changed_on : ℕ → (ℕ → (ℕ → Option ℤ) → ℕ → Option ℤ) → (ℕ → ℕ → Option ℤ) → ℕ → ℕ → Option ℤ
changed_on id f over a q = if id == a then f a (over a) q else over a q

-- one sparse array is changed
pub array_changed : (f : ℕ → (ℕ → Option ℤ) → ℕ → Option ℤ) (written : List (List (List (Option ℤ)))) (id : ℕ) (pages : List (List (Option ℤ))) → id < length written
    → at pages ≡ f id (at (slice_index_or written id [])) → over_of (slice_set written id pages) ≡ changed_on id f (over_of written)
array_changed f written id pages within new = λ i a q. by a q (cases_eq id a) i where
  by : (a q : ℕ) → (id ≡ a) ⊎ (id ≡ a → ⊥) → over_of (slice_set written id pages) a q ≡ changed_on id f (over_of written) a q
  by a q (inl is) =
      ap (λ n. at (get_or (set written id pages) n []) q) (sym is) ∙ ap (λ p. at p q) (get_or-set_same written id pages [] within)
      ∙ (λ i. new i q) ∙ ap (λ n. f n (over_of written n) q) is ∙ sym (chosen (id == a) true _ _ (eq-eqb id a is))
  by a q (inr differs) =
      ap (λ p. at p q) (get_or-set_other written id a pages [] (λ is. differs (sym is)))
      ∙ sym (chosen (id == a) false _ _ (ne_eqb id a differs))

-- where it isn't there nothing is
pub none_changed_on : (f : ℕ → (ℕ → Option ℤ) → ℕ → Option ℤ) (written : List (List (List (Option ℤ)))) (id : ℕ) → length written ≤ id
    → ((q : ℕ) → f id (λ p. None) q ≡ None) → over_of written ≡ changed_on id f (over_of written)
none_changed_on f written id past none = λ i a q. by a q (cases_eq id a) i where
  by : (a q : ℕ) → (id ≡ a) ⊎ (id ≡ a → ⊥) → over_of written a q ≡ changed_on id f (over_of written) a q
  by a q (inl is) =
      let nothing : over_of written id ≡ over_of [] id = ap (λ (pages : List (List (Option ℤ))). at pages) (get_or_past written id [] past) in
      ap (λ n. over_of written n q) (sym is) ∙ (λ i. nothing i q) ∙ sym (none q) ∙ (λ i. f id (sym nothing i) q)
      ∙ ap (λ n. f n (over_of written n) q) is ∙ sym (chosen (id == a) true _ _ (eq-eqb id a is))
  by a q (inr differs) = sym (chosen (id == a) false _ _ (ne_eqb id a differs))

-- of nothing nothing is left on a page
pub none_kept : (index : ℕ) (cells : List ℤ) (q : ℕ) → changes_on index cells (λ p. None) q ≡ None
none_kept index cells q = ap (λ (o : Option ℤ). if q / PAGE == index then o else None) (none_changed cells q) ∙ same_either (q / PAGE == index) None

-- a store in one of whose arrays the written values of a page stand is the store under them
pub page_applied : (over : ℕ → ℕ → Option ℤ) (m : Memory) (id index : ℕ) → id < length m.arrays
    → with_array id (cells_under (on_page index (over id)) 0 (cells_of m id)) m ≡ under (written_on id index over) m
page_applied over m id index there = λ i. record m { arrays = same i } where
  put : List (List ℤ)
  put = slice_set m.arrays id (cells_under (on_page index (over id)) 0 (cells_of m id))

  each : (a : ℕ) → (id ≡ a) ⊎ (id ≡ a → ⊥) → slice_index_or put a [] ≡ cells_under (written_on id index over a) 0 (slice_index_or m.arrays a [])
  each a (inl is) =
      ap (λ n. slice_index_or put n []) (sym is)
      ∙ get_or-set_same m.arrays id (cells_under (on_page index (over id)) 0 (cells_of m id)) [] there
      ∙ ap (λ n. cells_under (on_page index (over n)) 0 (cells_of m n)) is
      ∙ ap (λ w. cells_under w 0 (cells_of m a)) (λ i q. sym (chosen (id == a) true (on_page index (over a) q) None (eq-eqb id a is)) i)
  each a (inr differs) =
      get_or-set_other m.arrays id a (cells_under (on_page index (over id)) 0 (cells_of m id)) [] (λ is. differs (sym is))
      ∙ sym (under_none 0 (slice_index_or m.arrays a []))
      ∙ ap (λ w. cells_under w 0 (slice_index_or m.arrays a [])) (λ i q. sym (chosen (id == a) false (on_page index (over a) q) None (ne_eqb id a differs)) i)

  same : put ≡ arrays_under (written_on id index over) 0 m.arrays
  same =
      ext_get_or [] put (arrays_under (written_on id index over) 0 m.arrays)
      (length-set m.arrays id (cells_under (on_page index (over id)) 0 (cells_of m id)) ∙ sym (as_many (written_on id index over) 0 m.arrays))
      (λ a within. each a (cases_eq id a) ∙ ap (λ n. cells_under (written_on id index over n) 0 (slice_index_or m.arrays a [])) (omega arith)
      ∙ sym (under_arrays (written_on id index over) 0 a m.arrays))

-- and where nothing is written on the array, the store stays
pub none_applied : (written : List (List (List (Option ℤ)))) (m : Memory) (id index : ℕ) → length written ≤ id → m ≡ under (written_on id index (over_of written)) m
none_applied written m id index past = λ i. record m { arrays = (sym (arrays_under_none 0 m.arrays) ∙ ap (λ over. arrays_under over 0 m.arrays) (λ j a q. sym (nothing a q (cases_eq id a)) j)) i } where
  nothing : (a q : ℕ) → (id ≡ a) ⊎ (id ≡ a → ⊥) → written_on id index (over_of written) a q ≡ None
  nothing a q (inl is) =
      chosen (id == a) true (on_page index (over_of written a) q) None (eq-eqb id a is)
      ∙ ap (λ n. on_page index (over_of written n) q) (sym is)
      ∙ ap (λ (pages : List (List (Option ℤ))). on_page index (at pages) q) (get_or_past written id [] past)
      ∙ same_either (q / PAGE == index) None
  nothing a q (inr differs) = chosen (id == a) false (on_page index (over_of written a) q) None (ne_eqb id a differs)
