-- One page of a sparse array that is changed, and an array under it.
use Rattle.std.proofs.Common.{◌≡◌, ◌<◌, ◌≤◌, ◌+◌, ◌*◌, ◌/◌, ◌%◌, ◌==◌, ℕ, if◌then◌else◌, true, false, ℤ, List, [], length, slice_index_or, slice_set, Option, None, refl, sym, ap, ◌∙◌, arith, ◌⊎◌, inl, inr}
use Rattle.std.specs.Option.{unwrap_or}
use Rattle.std.proofs.lemmas.Bool.{cases_eq, eq-eqb, ne_eqb}
use Rattle.std.proofs.lemmas.Nat.{div-add-mod'}
use Rattle.std.proofs.lemmas.List.{get_or_past}
use Rattle.nona_sparse.specs.declared.page.TheConstants.{PAGE}
use Rattle.nona_sparse.specs.Sparse.{at_page, at, cell, cells_under, change_at, changes_on, of_page, off_page, on_page}
use Rattle.nona_sparse.proofs.Choosing.{pick}
use Rattle.nona_sparse.proofs.Leaving.{none_changed}
use Rattle.nona_sparse.proofs.Placing.{each_under, in_page, in_other}

-- behind the pages no place has a value
past_pages : (pages : List (List (Option ℤ))) (index q : ℕ) → length pages ≤ index → q / PAGE ≡ index → at pages q ≡ None
past_pages pages index q past is = ap (λ page. at_page page (q % PAGE)) (get_or_past pages (q / PAGE) [] (omega (arith, past, is)))

-- what is left of a page is left of the sparse array
pub page_kept : (pages : List (List (Option ℤ))) (index : ℕ) (page : List (Option ℤ)) (cells : List ℤ) → index < length pages
    → ((p : ℕ) → at_page page p ≡ change_at cells (index * PAGE + p) (at_page (slice_index_or pages index []) p))
    → at (slice_set pages index page) ≡ changes_on index cells (at pages)
page_kept pages index page cells within left = λ i q. by q (cases_eq (q / PAGE) index) i where
  by : (q : ℕ) → (q / PAGE ≡ index) ⊎ (q / PAGE ≡ index → ⊥) → at (slice_set pages index page) q ≡ changes_on index cells (at pages) q
  by q (inl is) =
      let whole : index * PAGE + q % PAGE ≡ q = ap (λ n. n * PAGE + q % PAGE) (sym is) ∙ div-add-mod' q PAGE in
      in_page pages index page q within is ∙ left (q % PAGE)
      ∙ (λ j. change_at cells (whole j) (at_page (slice_index_or pages (sym is j) []) (q % PAGE)))
      ∙ sym (pick (q / PAGE == index) true (change_at cells q (at pages q)) (at pages q) (eq-eqb (q / PAGE) index is))
  by q (inr differs) =
      in_other pages index page q differs
      ∙ sym (pick (q / PAGE == index) false (change_at cells q (at pages q)) (at pages q) (ne_eqb (q / PAGE) index differs))

-- of a page that isn't there nothing is left
pub none_kept : (pages : List (List (Option ℤ))) (index : ℕ) (cells : List ℤ) → length pages ≤ index → at pages ≡ changes_on index cells (at pages)
none_kept pages index cells past = λ i q. by q (cases_eq (q / PAGE) index) i where
  by : (q : ℕ) → (q / PAGE ≡ index) ⊎ (q / PAGE ≡ index → ⊥) → at pages q ≡ changes_on index cells (at pages) q
  by q (inl is) =
      let none = past_pages pages index q past is in
      none ∙ sym (none_changed cells q) ∙ ap (change_at cells q) (sym none)
      ∙ sym (pick (q / PAGE == index) true (change_at cells q (at pages q)) (at pages q) (eq-eqb (q / PAGE) index is))
  by q (inr differs) = sym (pick (q / PAGE == index) false (change_at cells q (at pages q)) (at pages q) (ne_eqb (q / PAGE) index differs))

-- a page without values has none of the sparse array's
pub page_gone : (pages : List (List (Option ℤ))) (index : ℕ) (page : List (Option ℤ)) → index < length pages → ((p : ℕ) → at_page page p ≡ None)
    → at (slice_set pages index page) ≡ off_page index (at pages)
page_gone pages index page within none = λ i q. by q (cases_eq (q / PAGE) index) i where
  by : (q : ℕ) → (q / PAGE ≡ index) ⊎ (q / PAGE ≡ index → ⊥) → at (slice_set pages index page) q ≡ off_page index (at pages) q
  by q (inl is) =
      in_page pages index page q within is ∙ none (q % PAGE)
      ∙ sym (pick (q / PAGE == index) true None (at pages q) (eq-eqb (q / PAGE) index is))
  by q (inr differs) =
      in_other pages index page q differs ∙ sym (pick (q / PAGE == index) false None (at pages q) (ne_eqb (q / PAGE) index differs))

-- nor has one that isn't there
pub none_gone : (pages : List (List (Option ℤ))) (index : ℕ) → length pages ≤ index → at pages ≡ off_page index (at pages)
none_gone pages index past = λ i q. by q (cases_eq (q / PAGE) index) i where
  by : (q : ℕ) → (q / PAGE ≡ index) ⊎ (q / PAGE ≡ index → ⊥) → at pages q ≡ off_page index (at pages) q
  by q (inl is) = past_pages pages index q past is ∙ sym (pick (q / PAGE == index) true None (at pages q) (eq-eqb (q / PAGE) index is))
  by q (inr differs) = sym (pick (q / PAGE == index) false None (at pages q) (ne_eqb (q / PAGE) index differs))

-- cells with the values of a page are those under what lies on it
pub page_written : (pages : List (List (Option ℤ))) (index : ℕ) (page : List (Option ℤ)) (new old : List ℤ) → length new ≡ length old
    → page ≡ slice_index_or pages index [] → ((q : ℕ) → q < length old → cell new q ≡ unwrap_or (of_page index page q) (cell old q))
    → new ≡ cells_under (on_page index (at pages)) 0 old
page_written pages index page new old long own each =
    each_under (on_page index (at pages)) 0 new old long
    (λ q within.
    let first : q ≡ 0 + q = omega arith in
    each q within ∙ by q (cases_eq (q / PAGE) index) ∙ ap (λ n. unwrap_or (on_page index (at pages) n) (cell old q)) first) where
      by : (q : ℕ) → (q / PAGE ≡ index) ⊎ (q / PAGE ≡ index → ⊥) → unwrap_or (of_page index page q) (cell old q) ≡ unwrap_or (on_page index (at pages) q) (cell old q)
      by q (inl is) =
          ap (λ (o : Option ℤ). unwrap_or (if q / PAGE == index then o else None) (cell old q))
          (ap (λ p. at_page p (q % PAGE)) own ∙ ap (λ n. at_page (slice_index_or pages n []) (q % PAGE)) (sym is))
      by q (inr differs) =
          ap (λ o. unwrap_or o (cell old q)) (pick (q / PAGE == index) false (at_page page (q % PAGE)) None (ne_eqb (q / PAGE) index differs)
          ∙ sym (pick (q / PAGE == index) false (at pages q) None (ne_eqb (q / PAGE) index differs)))

-- and where the page isn't there they stay
pub none_written : (pages : List (List (Option ℤ))) (index : ℕ) (cells : List ℤ) → length pages ≤ index → cells ≡ cells_under (on_page index (at pages)) 0 cells
none_written pages index cells past = each_under (on_page index (at pages)) 0 cells cells refl (λ q within. ap (λ o. unwrap_or o (cell cells q)) (sym (by (0 + q) (cases_eq ((0 + q) / PAGE) index)))) where
  by : (q : ℕ) → (q / PAGE ≡ index) ⊎ (q / PAGE ≡ index → ⊥) → on_page index (at pages) q ≡ None
  by q (inl is) = pick (q / PAGE == index) true (at pages q) None (eq-eqb (q / PAGE) index is) ∙ past_pages pages index q past is
  by q (inr differs) = pick (q / PAGE == index) false (at pages q) None (ne_eqb (q / PAGE) index differs)
