-- Ranks of places among marks, and pages whose marks and values change.
use Rattle.std.proofs.Common.{◌≡◌, ◌≢◌, ◌<◌, ◌≤◌, ◌+◌, ◌-◌, ◌%◌, ◌^◌, ◌==◌, ℕ, zero, suc, Bool, true, false, if◌then◌else◌, ℤ, pos, List, [], ◌∷◌, ◌++◌, length, get_or, slice_set, Option, None, Some, refl, sym, ap, ◌∙◌, arith, ◌⊎◌, inl, inr}
use Rattle.std.specs.Int.{bit_at}
use Rattle.std.specs.Int.RustNames.{count_ones}
use Rattle.std.specs.List.{insert, remove}
use Rattle.std.proofs.lemmas.Bool.{cases_eq, cases_lt, eq-eqb, eqb-true, ne_eqb, false≢true}
use Rattle.std.proofs.lemmas.List.{get_or_append_left, get_or_at, get_or_past, get_or-set_same, get_or-set_other, length-append}
use Rattle.std.proofs.lemmas.List.Edits.{length-insert, length-remove, get_or-insert_below, get_or-insert_at, get_or-insert_above, get_or-remove_below, get_or-remove_above}
use Rattle.std.proofs.lemmas.Nat.{mod-pow-add, pow_pos, ones_cat, ones_le_self, zero_from_ones}
use native.Mathlib.Nat.{mod-lt}
use Rattle.nona_sparse.specs.declared.page.TheConstants.{PAGE}
use Rattle.nona_sparse.specs.Marks.{AreMarked, DifferAt, changed_at, of_marks, rank, up_to, value_at, where_marked}
use Rattle.nona_sparse.specs.Sparse.{at_page, with_at}
use Rattle.nona_sparse.proofs.Placing.{here, elsewhere}

-- one more place has as many marked places below it, or one more
pub rank_next : (marks : ℕ → ℕ) (p : ℕ) → rank marks (suc p) ≡ rank marks p + marks p
unfolding rank
rank_next marks p = refl

pub rank_first : (marks : ℕ → ℕ) → rank marks 0 ≡ 0
unfolding rank
rank_first marks = refl

-- a place is marked or not
pub either : (marks : ℕ → ℕ) (p : ℕ) → (marks p ≡ 0) ⊎ (0 < marks p)
either marks p = by (cases_lt 0 (marks p)) where
  by : (0 < marks p) ⊎ (marks p ≤ 0) → (marks p ≡ 0) ⊎ (0 < marks p)
  by (inl set) = inr set
  by (inr none) = inl (omega (arith, none))

-- a bit is 0 or 1
pub bit_few : (n p : ℕ) → bit_at n p < 2
bit_few n p = omega arith

-- how many bits are set below a place
bit_counted : (b : ℕ) → b < 2 → count_ones b ≡ b
bit_counted zero h = omega (arith, ones_le_self 0)
bit_counted (suc zero) h = by (cases_lt (count_ones 1) 1) where
  by : (count_ones 1 < 1) ⊎ (1 ≤ count_ones 1) → count_ones 1 ≡ 1
  by (inl below) = absurd (omega (arith, zero_from_ones 1 (omega (arith, below))))
  by (inr above) = omega (arith, above, ones_le_self 1)
bit_counted (suc (suc b)) h = absurd (omega (arith, h))

pub counted : (marks p : ℕ) → count_ones (marks % 2 ^ p) ≡ rank (bit_at marks) p
counted marks zero =
    let none : marks % 2 ^ 0 ≡ 0 = omega arith in
    ap count_ones none ∙ omega (arith, ones_le_self 0) ∙ sym (rank_first (bit_at marks))
counted marks (suc p) =
    let next : suc p ≡ 1 + p = omega arith in
    ap (λ n. count_ones (marks % 2 ^ n)) next ∙ ap count_ones (mod-pow-add marks 1 p)
    ∙ ones_cat p (bit_at marks p) (marks % 2 ^ p) (mod-lt marks (pow_pos p))
    ∙ (λ i. bit_counted (bit_at marks p) (omega arith) i + counted marks p i) ∙ omega (arith, rank_next (bit_at marks) p)

-- no more places are marked than there are
pub rank_few : (marks : ℕ → ℕ) (p : ℕ) → ((q : ℕ) → marks q < 2) → rank marks p ≤ p
rank_few marks zero few = omega (arith, rank_first marks)
rank_few marks (suc p) few = omega (arith, rank_next marks p, rank_few marks p few, few p)

-- a later place has no fewer marked places below it
pub rank_up : (marks : ℕ → ℕ) (p k : ℕ) → rank marks p ≤ rank marks (p + k)
rank_up marks p zero = let none : p + 0 ≡ p = omega arith in omega (arith, ap (rank marks) none)
rank_up marks p (suc k) =
    let next : p + suc k ≡ suc (p + k) = omega arith in
    omega (arith, rank_up marks p k, rank_next marks (p + k), ap (rank marks) next)

pub rank_le : (marks : ℕ → ℕ) (p q : ℕ) → p ≤ q → rank marks p ≤ rank marks q
rank_le marks p q below =
    let on : p + (q - p) ≡ q = omega (arith, below) in
    omega (arith, rank_up marks p (q - p), ap (rank marks) on)

-- and more, where the earlier one is marked
pub rank_over : (marks : ℕ → ℕ) (p q : ℕ) → p < q → 0 < marks p → rank marks p < rank marks q
rank_over marks p q below marked = omega (arith, rank_le marks (suc p) q (omega (arith, below)), rank_next marks p, marked)

-- the list of what stands at each place
pub up_to_length : (n : ℕ) (written : ℕ → Option ℤ) → length (up_to n written) ≡ n
unfolding up_to
up_to_length zero written = refl
up_to_length (suc n) written = length-append (up_to n written) (written n ∷ []) ∙ omega (arith, up_to_length n written)

pub up_to_at : (n : ℕ) (written : ℕ → Option ℤ) (q : ℕ) → q < n → get_or (up_to n written) q None ≡ written q
unfolding up_to
up_to_at zero written q within = absurd (omega (arith, within))
up_to_at (suc n) written q within = by (up_to_at n written q) (cases_lt q n) where
  by : (q < n → get_or (up_to n written) q None ≡ written q) → (q < n) ⊎ (n ≤ q) → get_or (up_to n written ++ written n ∷ []) q None ≡ written q
  by first (inl below) =
      get_or_append_left (up_to n written) (written n ∷ []) None q (omega (arith, below, up_to_length n written)) ∙ first below
  by first (inr above) =
      let is : q ≡ n = omega (arith, within, above) in
      get_or_at (up_to n written) (written n) [] None q (up_to_length n written ∙ sym is) ∙ ap written (sym is)

-- what stands at a place of a page with these marks
pub at_within : (marks : ℕ → ℕ) (values : List ℤ) (q : ℕ) → q < PAGE → at_page (of_marks marks values) q ≡ value_at marks values q
at_within marks values q within = up_to_at PAGE (value_at marks values) q within

-- behind its places nothing does
pub at_behind : (marks : ℕ → ℕ) (values : List ℤ) (q : ℕ) → PAGE ≤ q → at_page (of_marks marks values) q ≡ None
at_behind marks values q behind = get_or_past (of_marks marks values) q None (omega (arith, behind, up_to_length PAGE (value_at marks values)))

-- nor at a place that isn't marked
pub unmarked : (marks : ℕ → ℕ) (values : List ℤ) (q : ℕ) → marks q ≡ 0 → value_at marks values q ≡ None
unmarked marks values q is = ap (λ b. where_marked b (get_or values (rank marks q) (pos 0))) is

-- the value of a marked place
pub marked_value : (marks : ℕ → ℕ) (values : List ℤ) (q : ℕ) → 0 < marks q → value_at marks values q ≡ Some (get_or values (rank marks q) (pos 0))
marked_value marks values q set =
    let is : marks q ≡ suc (marks q - 1) = omega (arith, set) in
    ap (λ b. where_marked b (get_or values (rank marks q) (pos 0))) is

-- where no place is marked, nothing stands anywhere
pub none_marked : (marks : ℕ → ℕ) (values : List ℤ) → ((q : ℕ) → marks q ≡ 0) → (q : ℕ) → at_page (of_marks marks values) q ≡ None
none_marked marks values none = λ q. by q (cases_lt q PAGE) where
  by : (q : ℕ) → (q < PAGE) ⊎ (PAGE ≤ q) → at_page (of_marks marks values) q ≡ None
  by q (inl within) = at_within marks values q within ∙ unmarked marks values q (none q)
  by q (inr behind) = at_behind marks values q behind

pub none_ranked : (marks : ℕ → ℕ) (p : ℕ) → ((q : ℕ) → marks q ≡ 0) → rank marks p ≡ 0
none_ranked marks zero none = rank_first marks
none_ranked marks (suc p) none = omega (arith, rank_next marks p, none_ranked marks p none, none p)

module _ (p : ℕ) (old new : ℕ → ℕ) (there : p < PAGE) (others : DifferAt PAGE p old new) where
  -- up to there the same places are marked
  pub rank_before : (q : ℕ) → q ≤ p → rank new q ≡ rank old q
  rank_before zero below = rank_first new ∙ sym (rank_first old)
  rank_before (suc q) below =
      omega (arith, rank_next new q, rank_next old q, rank_before q (omega (arith, below)), others q (omega (arith, below, there)) (λ e. omega (arith, e, below)))

  -- and from there on one more, where the place is marked that wasn't
  pub rank_behind : (k : ℕ) → old p ≡ 0 → new p ≡ 1 → suc (p + k) ≤ PAGE → rank new (suc (p + k)) ≡ rank old (suc (p + k)) + 1
  rank_behind zero was is within =
      let first : p + 0 ≡ p = omega arith in
      ap (λ n. rank new (suc n)) first ∙ omega (arith, rank_next new p, rank_next old p, was, is, rank_before p (omega arith))
      ∙ ap (λ n. rank old (suc n) + 1) (sym first)
  rank_behind (suc k) was is within =
      let next : p + suc k ≡ suc (p + k) = omega arith in
      ap (λ n. rank new (suc n)) next
      ∙ omega (arith, rank_next new (suc (p + k)), rank_next old (suc (p + k)), rank_behind k was is (omega (arith, within)), others (suc (p + k)) (omega (arith, within)) (λ e. omega (arith, e)))
      ∙ ap (λ n. rank old (suc n) + 1) (sym next)

  pub rank_after : (q : ℕ) → old p ≡ 0 → new p ≡ 1 → p < q → q ≤ PAGE → rank new q ≡ rank old q + 1
  rank_after q was is above within =
      let on : q ≡ suc (p + (q - suc p)) = omega (arith, above) in
      ap (rank new) on ∙ rank_behind (q - suc p) was is (omega (arith, on, within)) ∙ ap (λ n. rank old n + 1) (sym on)

-- a value that is put at a marked place
pub value_changed : (marks : ℕ → ℕ) (values : List ℤ) (p : ℕ) (v : ℤ) → AreMarked PAGE marks values → p < PAGE → 0 < marks p
    → at_page (of_marks marks (slice_set values (rank marks p) v)) ≡ with_at p v (at_page (of_marks marks values))
value_changed marks values p v kept there is = λ i q. by q (cases_eq p q) (cases_lt q PAGE) (either marks q) i where
  new : List ℤ
  new = slice_set values (rank marks p) v

  by : (q : ℕ) → (p ≡ q) ⊎ (p ≢ q) → (q < PAGE) ⊎ (PAGE ≤ q) → (marks q ≡ 0) ⊎ (0 < marks q)
      → at_page (of_marks marks new) q ≡ with_at p v (at_page (of_marks marks values)) q
  by q (inl same) _ _ =
      ap (at_page (of_marks marks new)) (sym same) ∙ at_within marks new p there ∙ marked_value marks new p is
      ∙ ap Some (get_or-set_same values (rank marks p) v (pos 0) (omega (arith, kept, rank_over marks p PAGE there is)))
      ∙ sym (here p v (at_page (of_marks marks values)) q same)
  by q (inr differs) (inr behind) _ =
      at_behind marks new q behind ∙ sym (at_behind marks values q behind) ∙ sym (elsewhere p v (at_page (of_marks marks values)) q differs)
  by q (inr differs) (inl within) (inl none) =
      at_within marks new q within ∙ unmarked marks new q none ∙ sym (unmarked marks values q none) ∙ sym (at_within marks values q within)
      ∙ sym (elsewhere p v (at_page (of_marks marks values)) q differs)
  by q (inr differs) (inl within) (inr marked) =
      at_within marks new q within
      ∙ ap (where_marked (marks q)) (get_or-set_other values (rank marks p) (rank marks q) v (pos 0) (apart (cases_lt p q)))
      ∙ sym (at_within marks values q within) ∙ sym (elsewhere p v (at_page (of_marks marks values)) q differs)
    where
      apart : (p < q) ⊎ (q ≤ p) → rank marks q ≢ rank marks p
      apart (inl above) e = omega (arith, rank_over marks p q above is, e)
      apart (inr below) e = omega (arith, rank_over marks q p (omega (arith, below, differs)) marked, e)

-- a value that is put at a place that wasn't marked
pub value_added : (old new : ℕ → ℕ) (values : List ℤ) (p : ℕ) (v : ℤ) → AreMarked PAGE old values → p < PAGE → DifferAt PAGE p old new → old p ≡ 0 → new p ≡ 1
    → at_page (of_marks new (insert values (rank old p) v)) ≡ with_at p v (at_page (of_marks old values))
value_added old new values p v kept there others was is = λ i q. by q (cases_eq p q) (cases_lt q PAGE) (cases_lt q p) (either old q) i where
  r : ℕ
  r = rank old p

  added : List ℤ
  added = insert values r v

  fits : r ≤ length values
  fits = omega (arith, kept, rank_le old p PAGE (omega (arith, there)))

  by : (q : ℕ) → (p ≡ q) ⊎ (p ≢ q) → (q < PAGE) ⊎ (PAGE ≤ q) → (q < p) ⊎ (p ≤ q) → (old q ≡ 0) ⊎ (0 < old q)
      → at_page (of_marks new added) q ≡ with_at p v (at_page (of_marks old values)) q
  by q (inl same) _ _ _ =
      ap (at_page (of_marks new added)) (sym same) ∙ at_within new added p there ∙ marked_value new added p (omega (arith, is))
      ∙ ap (λ n. Some (get_or added n (pos 0))) (rank_before p old new there others p (omega arith))
      ∙ ap Some (get_or-insert_at values r v (pos 0) fits) ∙ sym (here p v (at_page (of_marks old values)) q same)
  by q (inr differs) (inr behind) _ _ =
      at_behind new added q behind ∙ sym (at_behind old values q behind) ∙ sym (elsewhere p v (at_page (of_marks old values)) q differs)
  by q (inr differs) (inl within) _ (inl none) =
      at_within new added q within ∙ unmarked new added q (others q within (λ e. differs (sym e)) ∙ none) ∙ sym (unmarked old values q none)
      ∙ sym (at_within old values q within) ∙ sym (elsewhere p v (at_page (of_marks old values)) q differs)
  by q (inr differs) (inl within) (inl below) (inr marked) =
      at_within new added q within ∙ ap (λ b. where_marked b (get_or added (rank new q) (pos 0))) (others q within (λ e. differs (sym e)))
      ∙ ap (λ n. where_marked (old q) (get_or added n (pos 0))) (rank_before p old new there others q (omega (arith, below)))
      ∙ ap (where_marked (old q)) (get_or-insert_below values r v (pos 0) (rank old q) (rank_over old q p below marked) fits)
      ∙ sym (at_within old values q within) ∙ sym (elsewhere p v (at_page (of_marks old values)) q differs)
  by q (inr differs) (inl within) (inr above) (inr marked) =
      at_within new added q within ∙ ap (λ b. where_marked b (get_or added (rank new q) (pos 0))) (others q within (λ e. differs (sym e)))
      ∙ ap (λ n. where_marked (old q) (get_or added n (pos 0))) (rank_after p old new there others q was is (omega (arith, above, differs)) (omega (arith, within)))
      ∙ ap (where_marked (old q)) (get_or-insert_above values r v (pos 0) (rank old q) (rank_le old p q above) fits)
      ∙ sym (at_within old values q within) ∙ sym (elsewhere p v (at_page (of_marks old values)) q differs)

-- as many values as marks stand then
pub added_kept : (old new : ℕ → ℕ) (values : List ℤ) (p : ℕ) (v : ℤ) → AreMarked PAGE old values → p < PAGE → DifferAt PAGE p old new → old p ≡ 0 → new p ≡ 1
    → AreMarked PAGE new (insert values (rank old p) v)
added_kept old new values p v kept there others was is =
    length-insert values (rank old p) v (omega (arith, kept, rank_le old p PAGE (omega (arith, there)))) ∙ ap (λ n. n + 1) kept
    ∙ sym (rank_after p old new there others PAGE was is there (omega arith))

-- a choice by a test
pub chosen_here : (p q : ℕ) (value : Option ℤ) (written : ℕ → Option ℤ) → p ≡ q → changed_at p value written q ≡ value
chosen_here p q value written is = ap (λ (b : Bool). if b then value else written q) (eq-eqb p q is)

pub chosen_elsewhere : (p q : ℕ) (value : Option ℤ) (written : ℕ → Option ℤ) → p ≢ q → changed_at p value written q ≡ written q
chosen_elsewhere p q value written differs = ap (λ (b : Bool). if b then value else written q) (ne_eqb p q differs)

-- a value that is forgotten
pub value_forgotten : (old new : ℕ → ℕ) (values : List ℤ) (p : ℕ) → AreMarked PAGE old values → p < PAGE → DifferAt PAGE p old new → old p ≡ 1 → new p ≡ 0
    → (q : ℕ) → at_page (of_marks new (remove values (rank old p))) q ≡ changed_at p None (at_page (of_marks old values)) q
value_forgotten old new values p kept there others was is = λ q. by q (cases_eq p q) (cases_lt q PAGE) (cases_lt q p) (either old q) where
  r : ℕ
  r = rank old p

  left : List ℤ
  left = remove values r

  fits : r < length values
  fits = omega (arith, kept, rank_over old p PAGE there (omega (arith, was)))

  back : DifferAt PAGE p new old
  back q within differs = sym (others q within differs)

  by : (q : ℕ) → (p ≡ q) ⊎ (p ≢ q) → (q < PAGE) ⊎ (PAGE ≤ q) → (q < p) ⊎ (p ≤ q) → (old q ≡ 0) ⊎ (0 < old q)
      → at_page (of_marks new left) q ≡ changed_at p None (at_page (of_marks old values)) q
  by q (inl same) _ _ _ =
      ap (at_page (of_marks new left)) (sym same) ∙ at_within new left p there ∙ unmarked new left p is
      ∙ sym (chosen_here p q None (at_page (of_marks old values)) same)
  by q (inr differs) (inr behind) _ _ =
      at_behind new left q behind ∙ sym (at_behind old values q behind) ∙ sym (chosen_elsewhere p q None (at_page (of_marks old values)) differs)
  by q (inr differs) (inl within) _ (inl none) =
      at_within new left q within ∙ unmarked new left q (others q within (λ e. differs (sym e)) ∙ none) ∙ sym (unmarked old values q none)
      ∙ sym (at_within old values q within) ∙ sym (chosen_elsewhere p q None (at_page (of_marks old values)) differs)
  by q (inr differs) (inl within) (inl below) (inr marked) =
      at_within new left q within ∙ ap (λ b. where_marked b (get_or left (rank new q) (pos 0))) (others q within (λ e. differs (sym e)))
      ∙ ap (λ n. where_marked (old q) (get_or left n (pos 0))) (rank_before p old new there others q (omega (arith, below)))
      ∙ ap (where_marked (old q)) (get_or-remove_below values r (pos 0) (rank old q) (rank_over old q p below marked) fits)
      ∙ sym (at_within old values q within) ∙ sym (chosen_elsewhere p q None (at_page (of_marks old values)) differs)
  by q (inr differs) (inl within) (inr above) (inr marked) =
      let least : r ≤ rank new q = omega (arith, rank_before p old new there others p (omega arith), rank_le new p q above) in
      at_within new left q within ∙ ap (λ b. where_marked b (get_or left (rank new q) (pos 0))) (others q within (λ e. differs (sym e)))
      ∙ ap (where_marked (old q)) (get_or-remove_above values r (pos 0) (rank new q) least fits)
      ∙ ap (λ n. where_marked (old q) (get_or values n (pos 0))) (sym (rank_after p new old there back q is was (omega (arith, above, differs)) (omega (arith, within))))
      ∙ sym (at_within old values q within) ∙ sym (chosen_elsewhere p q None (at_page (of_marks old values)) differs)

pub forgotten_kept : (old new : ℕ → ℕ) (values : List ℤ) (p : ℕ) → AreMarked PAGE old values → p < PAGE → DifferAt PAGE p old new → old p ≡ 1 → new p ≡ 0
    → AreMarked PAGE new (remove values (rank old p))
forgotten_kept old new values p kept there others was is =
    omega (
      arith,
      kept,
      length-remove values (rank old p) (omega (arith, kept, rank_over old p PAGE there (omega (arith, was)))),
      rank_after p new old there (λ q within differs. sym (others q within differs)) PAGE is was there (omega arith),
    )

-- a place that keeps what it has
pub value_stays : (p q : ℕ) (value : Option ℤ) (written : ℕ → Option ℤ) → value ≡ written p → written q ≡ changed_at p value written q
value_stays p q value written same = by (cases_eq p q) where
  by : (p ≡ q) ⊎ (p ≢ q) → written q ≡ changed_at p value written q
  by (inl is) = ap written (sym is) ∙ sym same ∙ sym (chosen_here p q value written is)
  by (inr differs) = sym (chosen_elsewhere p q value written differs)

-- what the test of a mark says
pub is_one : (mark : ℕ) (b : Bool) → b ≡ (mark == 1) → b ≡ true → mark ≡ 1
is_one mark b is holds = eqb-true mark 1 (sym is ∙ holds)

pub is_none : (mark : ℕ) (b : Bool) → mark < 2 → b ≡ (mark == 1) → b ≡ false → mark ≡ 0
is_none mark b few is fails = by (cases_lt mark 1) where
  by : (mark < 1) ⊎ (1 ≤ mark) → mark ≡ 0
  by (inl none) = omega (arith, none)
  by (inr set) =
      let one : mark ≡ 1 = omega (arith, few, set) in
      absurd (false≢true (sym fails ∙ is ∙ eq-eqb mark 1 one))

-- where no place from this one on is marked, as many marked places lie below it as below each place behind it
rank_stays : (marks : ℕ → ℕ) (p k : ℕ) → ((q : ℕ) → p ≤ q → q < PAGE → marks q ≡ 0) → p + k ≤ PAGE → rank marks (p + k) ≡ rank marks p
rank_stays marks p zero none within = let same : p + 0 ≡ p = omega arith in ap (rank marks) same
rank_stays marks p (suc k) none within =
    let next : p + suc k ≡ suc (p + k) = omega arith in
    ap (rank marks) next
    ∙ omega (arith, rank_next marks (p + k), none (p + k) (omega arith) (omega (arith, within)), rank_stays marks p k none (omega (arith, within)))

pub rank_last : (marks : ℕ → ℕ) (p : ℕ) → p ≤ PAGE → ((q : ℕ) → p ≤ q → q < PAGE → marks q ≡ 0) → rank marks p ≡ rank marks PAGE
rank_last marks p there none =
    let on : p + (PAGE - p) ≡ PAGE = omega (arith, there) in
    sym (rank_stays marks p (PAGE - p) none (omega (arith, on))) ∙ ap (rank marks) on

-- before the value of the last marked place stand all others
pub position_last : (marks : ℕ → ℕ) (p : ℕ) → p < PAGE → marks p ≡ 1 → ((q : ℕ) → p + 1 ≤ q → q < PAGE → marks q ≡ 0) → rank marks PAGE ≡ rank marks p + 1
position_last marks p there is none =
    let next : p + 1 ≡ suc p = omega arith in
    sym (rank_last marks (p + 1) (omega (arith, there)) none) ∙ ap (rank marks) next ∙ omega (arith, rank_next marks p, is)
