-- Places that are added to pages, values that are put at places, and arrays under them.
use Rattle.std.proofs.Common.{◌≡◌, ◌<◌, ◌≤◌, ◌+◌, ◌*◌, ◌/◌, ◌%◌, ◌==◌, ℕ, zero, suc, nat_lt, if◌then◌else◌, ℤ, List, [], ◌∷◌, ◌++◌, length, get_or, set, slice_index_or, slice_set, Option, None, Some, refl, sym, ap, ◌∙◌, arith, ◌⊎◌, inl, inr}
use Rattle.std.specs.Option.{unwrap_or}
use Rattle.std.proofs.lemmas.Bool.{cases_eq, cases_lt, eq-eqb, ne_eqb, lt-ltb, le-ltb}
use Rattle.std.proofs.lemmas.Nat.{div-add-mod'}
use Rattle.std.proofs.lemmas.List.{get_or-set_same, get_or-set_other, get_or_past}
use Rattle.nona_sparse.specs.declared.page.TheConstants.{PAGE}
use Rattle.nona_sparse.specs.Sparse.{at_page, at, with_at, cell, cells_under}
use Rattle.nona_sparse.proofs.Choosing.{pick_true, pick_false}

-- what stands behind a list is what stands at the place of one more element
at_end : (pages : List (List (Option ℤ))) (page : List (Option ℤ)) (p q : ℕ) → ((q : ℕ) → at_page page q ≡ None)
    → at_page (get_or (pages ++ page ∷ []) p []) q ≡ at_page (get_or pages p []) q
at_end [] page zero q none = none q
at_end [] page (suc p) q none = refl
at_end (first ∷ pages) page zero q none = refl
at_end (first ∷ pages) page (suc p) q none = at_end pages page p q none

-- one more page without values changes nothing
pub page_added : (pages : List (List (Option ℤ))) (page : List (Option ℤ)) → ((q : ℕ) → at_page page q ≡ None) → at (pages ++ page ∷ []) ≡ at pages
page_added pages page none = λ i p. at_end pages page (p / PAGE) (p % PAGE) none i

-- one place has a value
pub here : (place : ℕ) (v : ℤ) (written : ℕ → Option ℤ) (q : ℕ) → place ≡ q → with_at place v written q ≡ Some v
here place v written q is = pick_true (place == q) (Some v) (written q) (eq-eqb place q is)

-- and the others what they had
pub elsewhere : (place : ℕ) (v : ℤ) (written : ℕ → Option ℤ) (q : ℕ) → (place ≡ q → ⊥) → with_at place v written q ≡ written q
elsewhere place v written q differs = pick_false (place == q) (Some v) (written q) (ne_eqb place q differs)

-- what stands in a page that is changed
pub in_page : (pages : List (List (Option ℤ))) (d : ℕ) (page : List (Option ℤ)) (q : ℕ) → d < length pages → q / PAGE ≡ d → at (slice_set pages d page) q ≡ at_page page (q % PAGE)
in_page pages d page q within is =
    ap (λ p. at_page p (q % PAGE)) (ap (λ n. get_or (set pages d page) n []) is ∙ get_or-set_same pages d page [] within)

-- and in another one
pub in_other : (pages : List (List (Option ℤ))) (d : ℕ) (page : List (Option ℤ)) (q : ℕ) → (q / PAGE ≡ d → ⊥) → at (slice_set pages d page) q ≡ at pages q
in_other pages d page q differs = ap (λ p. at_page p (q % PAGE)) (get_or-set_other pages d (q / PAGE) page [] differs)

-- a page that is changed at no place
pub page_same : (pages : List (List (Option ℤ))) (d : ℕ) (page : List (Option ℤ)) → d < length pages → at_page page ≡ at_page (slice_index_or pages d [])
    → at (slice_set pages d page) ≡ at pages
page_same pages d page within same = λ i q. by q (cases_eq (q / PAGE) d) i where
  by : (q : ℕ) → (q / PAGE ≡ d) ⊎ (q / PAGE ≡ d → ⊥) → at (slice_set pages d page) q ≡ at pages q
  by q (inl is) =
      in_page pages d page q within is ∙ (λ i. same i (q % PAGE)) ∙ ap (λ n. at_page (get_or pages n []) (q % PAGE)) (sym is)
  by q (inr differs) = in_other pages d page q differs

-- a value that is put at a place of a page is put at the place
pub page_put : (pages : List (List (Option ℤ))) (place : ℕ) (v : ℤ) (page : List (Option ℤ)) → place / PAGE < length pages
    → at_page page ≡ with_at (place % PAGE) v (at_page (slice_index_or pages (place / PAGE) []))
    → at (slice_set pages (place / PAGE) page) ≡ with_at place v (at pages)
page_put pages place v page within put = λ i q. by q (cases_eq (q / PAGE) (place / PAGE)) (cases_eq (place % PAGE) (q % PAGE)) i where
  own : List (Option ℤ)
  own = slice_index_or pages (place / PAGE) []

  by : (q : ℕ) → (q / PAGE ≡ place / PAGE) ⊎ (q / PAGE ≡ place / PAGE → ⊥) → (place % PAGE ≡ q % PAGE) ⊎ (place % PAGE ≡ q % PAGE → ⊥)
      → at (slice_set pages (place / PAGE) page) q ≡ with_at place v (at pages) q
  by q (inl is) (inl same) =
      in_page pages (place / PAGE) page q within is ∙ (λ i. put i (q % PAGE)) ∙ here (place % PAGE) v (at_page own) (q % PAGE) same
      ∙ sym (here place v (at pages) q (sym (div-add-mod' place PAGE) ∙ (λ i. sym is i * PAGE + same i) ∙ div-add-mod' q PAGE))
  by q (inl is) (inr differs) =
      in_page pages (place / PAGE) page q within is ∙ (λ i. put i (q % PAGE)) ∙ elsewhere (place % PAGE) v (at_page own) (q % PAGE) differs
      ∙ ap (λ n. at_page (get_or pages n []) (q % PAGE)) (sym is)
      ∙ sym (elsewhere place v (at pages) q (λ e. differs (ap (λ n. n % PAGE) e)))
  by q (inr differs) _ =
      in_other pages (place / PAGE) page q differs ∙ sym (elsewhere place v (at pages) q (λ e. differs (ap (λ n. n / PAGE) (sym e))))

-- behind the pages no place has a value
pub all_pages : (pages : List (List (Option ℤ))) (n q : ℕ) → length pages ≤ n → (if nat_lt (q / PAGE) n then at pages q else None) ≡ at pages q
all_pages pages n q long = by (cases_lt (q / PAGE) n) where
  by : (q / PAGE < n) ⊎ (n ≤ q / PAGE) → (if nat_lt (q / PAGE) n then at pages q else None) ≡ at pages q
  by (inl below) = pick_true (nat_lt (q / PAGE) n) (at pages q) None (lt-ltb (q / PAGE) n below)
  by (inr above) =
      pick_false (nat_lt (q / PAGE) n) (at pages q) None (le-ltb (q / PAGE) n above)
      ∙ sym (ap (λ p. at_page p (q % PAGE)) (get_or_past pages (q / PAGE) [] (omega (arith, long, above))))

-- as many cells, each with what is written over it or its own, are the cells under what is written
pub each_under : (over : ℕ → Option ℤ) (k : ℕ) (new old : List ℤ) → length new ≡ length old
    → ((p : ℕ) → p < length old → cell new p ≡ unwrap_or (over (k + p)) (cell old p)) → new ≡ cells_under over k old
each_under over k [] [] long h = refl
each_under over k [] (v ∷ old) long h = absurd (omega (arith, long))
each_under over k (w ∷ new) [] long h = absurd (omega (arith, long))
each_under over k (w ∷ new) (v ∷ old) long h =
    let first : k + 0 ≡ k = omega arith in
    let moved : (p : ℕ) → k + suc p ≡ suc k + p = λ p. omega arith in
    λ i. (h 0 (omega arith) ∙ ap (λ n. unwrap_or (over n) v) first) i
    ∷ each_under over (suc k) new old (omega (arith, long)) (λ p within. h (suc p) (omega (arith, within)) ∙ ap (λ n. unwrap_or (over n) (cell old p)) (moved p)) i
