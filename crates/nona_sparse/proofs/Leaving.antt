-- What is left of a page's values beside an array's cells, and what of a group is written, place by place.
use Rattle.std.proofs.Common.{is_some, ◌≡◌, ◌≢◌, ◌<◌, ◌≤◌, ◌+◌, ◌-◌, ◌*◌, ◌/◌, ◌%◌, ◌==◌, ℕ, suc, nat_lt, Bool, true, false, if◌then◌else◌, ℤ, List, length, Option, None, Some, refl, sym, ap, ◌∙◌, arith, ◌⊎◌, inl, inr}
use Rattle.std.specs.Option.{unwrap_or}
use Rattle.std.specs.Ordering.{int_eq}
use Rattle.std.proofs.lemmas.Bool.{cases_eq, cases_lt, eq-eqb, ne_eqb}
use Rattle.nona_sparse.specs.declared.group.TheConstants.{GROUP}
use Rattle.nona_sparse.specs.declared.page.TheConstants.{PAGE}
use Rattle.nona_sparse.specs.Marks.{DifferAt, by_mark, changed_at, of_marks, value_at}
use Rattle.nona_sparse.specs.Sparse.{at_page, cell, change_at, if_left, only_at}
use Rattle.nona_sparse.proofs.Choosing.{same_either}
use Rattle.nona_sparse.proofs.Marking.{at_behind, at_within, chosen_elsewhere, chosen_here, either, unmarked}

-- nothing is left of nothing
pub none_changed : (cells : List ℤ) (at : ℕ) → change_at cells at None ≡ None
none_changed cells at = same_either (nat_lt at (length cells)) None

-- what is left of a value is the value, where anything is
stays_if : (b c : Bool) (v w : ℤ) → (if b then (if c then None else Some v) else Some v) ≡ Some w → (if b then (if c then None else Some v) else Some v) ≡ Some v
stays_if true true v w h = cc
stays_if true false v w h = refl
stays_if false c v w h = refl

pub change_stays : (cells : List ℤ) (at : ℕ) (written : Option ℤ) (w : ℤ) → change_at cells at written ≡ Some w → change_at cells at written ≡ written
change_stays cells at None w h = none_changed cells at
change_stays cells at (Some v) w h = stays_if (nat_lt at (length cells)) (int_eq v (cell cells at)) v w h

-- and nothing is left of it, or it
pub change_is : (cells : List ℤ) (at : ℕ) (written : Option ℤ) (left : Bool) → is_some (change_at cells at written) ≡ left → change_at cells at written ≡ if_left left written
change_is cells at written left is = by (change_at cells at written) left refl is where
  by : (o : Option ℤ) (left : Bool) → change_at cells at written ≡ o → is_some o ≡ left → change_at cells at written ≡ if_left left written
  by None true same is = cc
  by None false same is = same
  by (Some w) true same is = change_stays cells at written w same
  by (Some w) false same is = cc

-- of nothing nothing is left either way
pub none_either : (cells : List ℤ) (at : ℕ) (left : Bool) (written : Option ℤ) → written ≡ None → change_at cells at written ≡ if_left left written
none_either cells at left written none = ap (change_at cells at) none ∙ none_changed cells at ∙ sym (same_either left None) ∙ ap (if_left left) (sym none)

-- behind a page's places nothing is left of nothing
pub none_done : (marks : ℕ → ℕ) (values cells : List ℤ) (first : ℕ) (q : ℕ) → PAGE ≤ q → at_page (of_marks marks values) q ≡ change_at cells (first + q) (at_page (of_marks marks values) q)
none_done marks values cells first q behind =
    at_behind marks values q behind ∙ sym (none_changed cells (first + q)) ∙ ap (change_at cells (first + q)) (sym (at_behind marks values q behind))

-- one more place is done, from the last one down
module _ (left : ℕ → Option ℤ → Option ℤ) (was now next : ℕ → Option ℤ) (p done : ℕ) (last : p + (done + 1) ≡ PAGE)
    (own : (q : ℕ) → next q ≡ changed_at p (left p (now p)) now q) (before : (q : ℕ) → q + done < PAGE → now q ≡ was q) where
  pub next_same : (q : ℕ) → q + (done + 1) < PAGE → next q ≡ was q
  next_same q below =
      own q ∙ chosen_elsewhere p q (left p (now p)) now (λ e. omega (arith, e, last, below)) ∙ before q (omega (arith, below))

  pub next_done : ((q : ℕ) → PAGE ≤ q + done → now q ≡ left q (was q)) → (q : ℕ) → PAGE ≤ q + (done + 1) → next q ≡ left q (was q)
  next_done behind = λ q above. by q above (cases_eq p q) where
    by : (q : ℕ) → PAGE ≤ q + (done + 1) → (p ≡ q) ⊎ (p ≢ q) → next q ≡ left q (was q)
    by q above (inl same) =
        own q ∙ chosen_here p q (left p (now p)) now same ∙ ap (left p) (before p (omega (arith, last))) ∙ ap (λ n. left n (was n)) same
    by q above (inr differs) = own q ∙ chosen_elsewhere p q (left p (now p)) now differs ∙ behind q (omega (arith, above, last, differs))

-- where each value is another one than the cell, all of them are left
pub all_same : (marks : ℕ → ℕ) (values cells : List ℤ) (first : ℕ)
    → ((q : ℕ) → q < PAGE → change_at cells (first + q) (value_at marks values q) ≡ value_at marks values q)
    → (q : ℕ) → at_page (of_marks marks values) q ≡ change_at cells (first + q) (at_page (of_marks marks values) q)
all_same marks values cells first each = λ q. by q (cases_lt q PAGE) where
  by : (q : ℕ) → (q < PAGE) ⊎ (PAGE ≤ q) → at_page (of_marks marks values) q ≡ change_at cells (first + q) (at_page (of_marks marks values) q)
  by q (inl within) =
      at_within marks values q within ∙ sym (each q within) ∙ ap (change_at cells (first + q)) (sym (at_within marks values q within))
  by q (inr behind) = none_done marks values cells first q behind

-- and where each is the same one, none
pub none_same : (marks : ℕ → ℕ) (values cells : List ℤ) (first : ℕ) → ((q : ℕ) → q < PAGE → change_at cells (first + q) (value_at marks values q) ≡ None)
    → (q : ℕ) → None ≡ change_at cells (first + q) (at_page (of_marks marks values) q)
none_same marks values cells first each = λ q. by q (cases_lt q PAGE) where
  by : (q : ℕ) → (q < PAGE) ⊎ (PAGE ≤ q) → None ≡ change_at cells (first + q) (at_page (of_marks marks values) q)
  by q (inl within) = sym (each q within) ∙ ap (change_at cells (first + q)) (sym (at_within marks values q within))
  by q (inr behind) = sym (none_changed cells (first + q)) ∙ ap (change_at cells (first + q)) (sym (at_behind marks values q behind))

-- what of a group is written, but for the places that are marked here
abbrev pub but_marked : ℕ → (ℕ → ℕ) → (ℕ → Option ℤ) → ℕ → Option ℤ
but_marked index rest written q = if q / GROUP == index then by_mark (rest (q % GROUP)) (written (q % GROUP)) None else None

-- before the first one nothing is
pub none_written : (index : ℕ) (marks : ℕ → ℕ) (values : List ℤ) (q : ℕ) (x : ℤ) → unwrap_or (but_marked index marks (value_at marks values) q) x ≡ x
none_written index marks values q x =
    ap (λ (o : Option ℤ). unwrap_or (if q / GROUP == index then o else None) x) (by (either marks (q % GROUP)))
    ∙ ap (λ o. unwrap_or o x) (same_either (q / GROUP == index) None)
  where
    own : Option ℤ
    own = value_at marks values (q % GROUP)

    by : (marks (q % GROUP) ≡ 0) ⊎ (0 < marks (q % GROUP)) → by_mark (marks (q % GROUP)) own None ≡ None
    by (inl none) = ap (λ b. by_mark b own None) none ∙ unmarked marks values (q % GROUP) none
    by (inr set) =
        let is : marks (q % GROUP) ≡ suc (marks (q % GROUP) - 1) = omega (arith, set) in
        ap (λ b. by_mark b own None) is

-- one more place is written
pub next_written : (index p : ℕ) (old new : ℕ → ℕ) (written : ℕ → Option ℤ) → p < GROUP → old p ≡ 1 → new p ≡ 0 → DifferAt GROUP p old new
    → (q : ℕ) (x : ℤ) → unwrap_or (only_at (index * GROUP + p) (written p) q) (unwrap_or (but_marked index old written q) x) ≡ unwrap_or (but_marked index new written q) x
next_written index p old new written there marked cleared others = λ q x. by q x (cases_eq (q / GROUP) index) (cases_eq p (q % GROUP)) where
  by : (q : ℕ) (x : ℤ) → (q / GROUP ≡ index) ⊎ (q / GROUP ≢ index) → (p ≡ q % GROUP) ⊎ (p ≢ q % GROUP)
      → unwrap_or (only_at (index * GROUP + p) (written p) q) (unwrap_or (but_marked index old written q) x) ≡ unwrap_or (but_marked index new written q) x
  by q x (inl is) (inl same) =
      let here : index * GROUP + p ≡ q = omega (arith, is, same) in
      ap (λ (b : Bool). unwrap_or (if b then written p else None) (unwrap_or (but_marked index old written q) x)) (eq-eqb (index * GROUP + p) q here)
      ∙ ap (λ (b : Bool). unwrap_or (written p) (unwrap_or (if b then by_mark (old (q % GROUP)) (written (q % GROUP)) None else None) x)) (eq-eqb (q / GROUP) index is)
      ∙ ap (λ b. unwrap_or (written p) (unwrap_or (by_mark b (written (q % GROUP)) None) x)) (ap old (sym same) ∙ marked)
      ∙ ap (λ n. unwrap_or (written n) x) same
      ∙ ap (λ b. unwrap_or (by_mark b (written (q % GROUP)) None) x) (sym (ap new (sym same) ∙ cleared))
      ∙ ap (λ (b : Bool). unwrap_or (if b then by_mark (new (q % GROUP)) (written (q % GROUP)) None else None) x) (sym (eq-eqb (q / GROUP) index is))
  by q x (inl is) (inr differs) =
      ap (λ (b : Bool). unwrap_or (if b then written p else None) (unwrap_or (but_marked index old written q) x))
      (ne_eqb (index * GROUP + p) q (λ e. differs (omega (arith, e, there))))
      ∙ ap (λ b. unwrap_or (if q / GROUP == index then by_mark b (written (q % GROUP)) None else None) x) (sym (others (q % GROUP) (omega arith) (λ e. differs (sym e))))
  by q x (inr other) _ =
      ap (λ (b : Bool). unwrap_or (if b then written p else None) (unwrap_or (but_marked index old written q) x))
      (ne_eqb (index * GROUP + p) q (λ e. other (omega (arith, e, there))))
      ∙ ap (λ (b : Bool). unwrap_or (if b then by_mark (old (q % GROUP)) (written (q % GROUP)) None else None) x) (ne_eqb (q / GROUP) index other)
      ∙ ap (λ (b : Bool). unwrap_or (if b then by_mark (new (q % GROUP)) (written (q % GROUP)) None else None) x) (sym (ne_eqb (q / GROUP) index other))
