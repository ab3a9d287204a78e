-- Marks of a page that stand in the bits of a number for each group.
use Rattle.std.proofs.Common.{Bool, ◌≡◌, ◌≢◌, ◌<◌, ◌≤◌, ◌+◌, ◌-◌, ◌*◌, ◌/◌, ◌%◌, ℕ, zero, suc, ℤ, pos, List, get_or, slice_range, drop, replicate, sym, ap, ◌∙◌, arith, ◌⊎◌, inl, inr}
use Rattle.std.specs.Int.{bit_at}
use Rattle.std.proofs.lemmas.Bool.{cases_eq, cases_lt}
use Rattle.std.proofs.lemmas.Nat.Bits.{bit_at-zero}
use Rattle.std.proofs.lemmas.List.{get_or-drop, get_or-replicate, get_or-take, get_or_past}
use Rattle.nona_sparse.specs.declared.group.TheConstants.{GROUP}
use Rattle.nona_sparse.specs.declared.block.TheConstants.{WORDS}
use Rattle.nona_sparse.specs.declared.page.TheConstants.{PAGE}
use Rattle.nona_sparse.specs.Marks.{DifferAt, IsEnd, mark_in, rank, value_at, where_marked}
use Rattle.nona_sparse.specs.Sparse.{change_at, if_left}
use Rattle.nona_sparse.proofs.Marking.{bit_few, either, rank_first, rank_le, rank_next, rank_over, unmarked}

-- a mark is 0 or 1
pub in_few : (groups : List ℕ) (q : ℕ) → mark_in groups q < 2
in_few groups q = bit_few (get_or groups (q / GROUP) 0) (q % GROUP)

-- the mark of a place of a group
pub mark_at : (groups : List ℕ) (group p : ℕ) → p < GROUP → mark_in groups (group * GROUP + p) ≡ bit_at (get_or groups group 0) p
mark_at groups group p within =
    let there : (group * GROUP + p) / GROUP ≡ group = omega (arith, within) in
    let place : (group * GROUP + p) % GROUP ≡ p = omega (arith, within) in
    λ i. bit_at (get_or groups (there i) 0) (place i)

-- below a place of a group as many places are marked as below the group and in the group below the place
pub rank_split : (groups : List ℕ) (group p : ℕ) → p ≤ GROUP → rank (mark_in groups) (group * GROUP + p) ≡ rank (mark_in groups) (group * GROUP) + rank (bit_at (get_or groups group 0)) p
rank_split groups group zero within =
    let none : group * GROUP + 0 ≡ group * GROUP = omega arith in
    ap (rank (mark_in groups)) none ∙ omega (arith, rank_first (bit_at (get_or groups group 0)))
rank_split groups group (suc p) within =
    let next : group * GROUP + suc p ≡ suc (group * GROUP + p) = omega arith in
    ap (rank (mark_in groups)) next
    ∙ omega (
      arith,
      rank_next (mark_in groups) (group * GROUP + p),
      rank_next (bit_at (get_or groups group 0)) p,
      rank_split groups group p (omega (arith, within)),
      mark_at groups group p (omega (arith, within)),
    )

-- below a place as many are marked as below its group and in it below the place
pub rank_at : (groups : List ℕ) (q : ℕ) → rank (mark_in groups) q ≡ rank (mark_in groups) (q / GROUP * GROUP) + rank (bit_at (get_or groups (q / GROUP) 0)) (q % GROUP)
rank_at groups q =
    let whole : q ≡ q / GROUP * GROUP + q % GROUP = omega arith in
    ap (rank (mark_in groups)) whole ∙ rank_split groups (q / GROUP) (q % GROUP) (omega arith)

-- and below the next group as below this one and in it
pub next_start : (groups : List ℕ) (group : ℕ) → rank (mark_in groups) ((group + 1) * GROUP) ≡ rank (mark_in groups) (group * GROUP) + rank (bit_at (get_or groups group 0)) GROUP
next_start groups group =
    let next : (group + 1) * GROUP ≡ group * GROUP + GROUP = omega arith in
    ap (rank (mark_in groups)) next ∙ rank_split groups group GROUP (omega arith)

-- the groups of a page have no more marks than it
pub group_within : (groups : List ℕ) (group : ℕ) → group < WORDS → rank (mark_in groups) (group * GROUP) + rank (bit_at (get_or groups group 0)) GROUP ≤ rank (mark_in groups) PAGE
group_within groups group few = omega (arith, next_start groups group, rank_le (mark_in groups) ((group + 1) * GROUP) PAGE (omega (arith, few)))

-- a value of a group is that of the page, whose values stand behind those of the groups before it
pub group_value : (groups : List ℕ) (values : List ℤ) (group start end p : ℕ) → start ≡ rank (mark_in groups) (group * GROUP) → end ≡ start + rank (bit_at (get_or groups group 0)) GROUP
    → p < GROUP → value_at (bit_at (get_or groups group 0)) (slice_range values start end) p ≡ value_at (mark_in groups) values (group * GROUP + p)
group_value groups values group start end p first last within = by (either marks p) where
  marks : ℕ → ℕ
  marks = bit_at (get_or groups group 0)

  by : (marks p ≡ 0) ⊎ (0 < marks p) → value_at marks (slice_range values start end) p ≡ value_at (mark_in groups) values (group * GROUP + p)
  by (inl clear) =
      unmarked marks (slice_range values start end) p clear
      ∙ sym (unmarked (mark_in groups) values (group * GROUP + p) (mark_at groups group p within ∙ clear))
  by (inr set) =
      let inside : rank marks p < end - start = omega (arith, last, rank_over marks p GROUP within set) in
      let behind : start + rank marks p ≡ rank (mark_in groups) (group * GROUP + p) = omega (arith, first, rank_split groups group p (omega (arith, within))) in
      ap (where_marked (marks p)) (get_or-take (end - start) (drop start values) (rank marks p) (pos 0) inside ∙ get_or-drop start values (rank marks p) (pos 0)
      ∙ ap (λ n. get_or values n (pos 0)) behind)
      ∙ ap (λ b. where_marked b (get_or values (rank (mark_in groups) (group * GROUP + p)) (pos 0))) (sym (mark_at groups group p within))

-- one that is marked from the end on moves it
pub end_moved : (end place : ℕ) (old new : List ℕ) → IsEnd end old → end ≤ place → DifferAt PAGE place (mark_in old) (mark_in new) → IsEnd (place + 1) new
end_moved end place old new was from others q behind within =
    others q within (λ e. omega (arith, e, behind)) ∙ was q (omega (arith, from, behind)) within

-- marks that are none elsewhere and gone at one place
pub fewer_marks : (place : ℕ) (old new : ℕ → ℕ) → new place ≡ 0 → DifferAt PAGE place old new → (q : ℕ) → q < PAGE → old q ≡ 0 → new q ≡ 0
fewer_marks place old new cleared others = λ q within clear. by q within clear (cases_eq place q) where
  by : (q : ℕ) → q < PAGE → old q ≡ 0 → (place ≡ q) ⊎ (place ≢ q) → new q ≡ 0
  by q within clear (inl same) = ap new (sym same) ∙ cleared
  by q within clear (inr differs) = others q within (λ e. differs (sym e)) ∙ clear

-- no marks
abbrev pub no_marks : List ℕ
no_marks = replicate WORDS 0

none_there : (n : ℕ) → get_or no_marks n 0 ≡ 0
none_there n = by (cases_lt n WORDS) where
  by : (n < WORDS) ⊎ (WORDS ≤ n) → get_or no_marks n 0 ≡ 0
  by (inl within) = get_or-replicate WORDS n 0 0 within
  by (inr behind) = get_or_past no_marks n 0 behind

pub none_set : (q : ℕ) → mark_in no_marks q ≡ 0
none_set q = ap (λ w. bit_at w (q % GROUP)) (none_there (q / GROUP)) ∙ bit_at-zero (q % GROUP)

-- one more group differs, or is the same
pub group_is : (left : Bool) (groups : List ℕ) (values cells : List ℤ) (first group start end : ℕ) → start ≡ rank (mark_in groups) (group * GROUP)
    → end ≡ start + rank (bit_at (get_or groups group 0)) GROUP
    → ((q : ℕ) → q < group * GROUP → change_at cells (first + q) (value_at (mark_in groups) values q) ≡ if_left left (value_at (mark_in groups) values q))
    → ((p : ℕ) → p < GROUP → change_at cells (first + group * GROUP + p) (value_at (bit_at (get_or groups group 0)) (slice_range values start end) p)
    ≡ if_left left (value_at (bit_at (get_or groups group 0)) (slice_range values start end) p))
    → (q : ℕ) → q < (group + 1) * GROUP → change_at cells (first + q) (value_at (mark_in groups) values q) ≡ if_left left (value_at (mark_in groups) values q)
group_is left groups values cells first group start end begins ends before own = λ q below. by q below (cases_lt q (group * GROUP)) where
  by : (q : ℕ) → q < (group + 1) * GROUP → (q < group * GROUP) ⊎ (group * GROUP ≤ q)
      → change_at cells (first + q) (value_at (mark_in groups) values q) ≡ if_left left (value_at (mark_in groups) values q)
  by q below (inl before_it) = before q before_it
  by q below (inr from) =
      let within : q - group * GROUP < GROUP = omega (arith, below, from) in
      let place : group * GROUP + (q - group * GROUP) ≡ q = omega (arith, from) in
      let moved : first + group * GROUP + (q - group * GROUP) ≡ first + q = omega (arith, from) in
      let value : value_at (bit_at (get_or groups group 0)) (slice_range values start end) (q - group * GROUP) ≡ value_at (mark_in groups) values q =
      group_value groups values group start end (q - group * GROUP) begins ends within ∙ ap (value_at (mark_in groups) values) place in
      (λ i. change_at cells (sym moved i) (sym value i)) ∙ own (q - group * GROUP) within ∙ ap (if_left left) value
