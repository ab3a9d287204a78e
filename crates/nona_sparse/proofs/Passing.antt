-- Values of a group that are gone over in order, with the marks of those that are left.
use Rattle.std.proofs.Common.{Bool, ◌≡◌, ◌≢◌, ◌<◌, ◌≤◌, ◌+◌, ℕ, zero, suc, nat_lt, if◌then◌else◌, ℤ, pos, List, length, map, get_or, None, Some, sym, ap, ◌∙◌, arith, ◌⊎◌, inl, inr}
use Rattle.std.specs.Int.{bit_at}
use Rattle.std.proofs.lemmas.Bool.{cases_eq, cases_lt, lt-ltb, le-ltb}
use Rattle.std.proofs.lemmas.List.{get_or-map}
use Rattle.std.proofs.lemmas.Nat.Bits.{bit_at-zero, bit_at_ones}
use Rattle.nona_sparse.specs.declared.group.TheConstants.{GROUP}
use Rattle.nona_sparse.specs.Marks.{AreBehind, AreMarked, DifferAt, rank, value_at}
use Rattle.nona_sparse.specs.Sparse.{at_page, change_at, if_left}
use Rattle.nona_sparse.proofs.Choosing.{pick_true, pick_false, same_either}
use Rattle.nona_sparse.proofs.Marking.{bit_few, either, marked_value, rank_first, rank_next, rank_over}

-- a mark of a value that is done is gone
gone : (marks : ℕ → ℕ) (done : ℕ) (rest : ℕ → ℕ) (q : ℕ) → AreBehind marks done rest → q < GROUP → rank marks q < done → rest q ≡ 0
gone marks done rest q behind within below = behind q within ∙ pick_true (nat_lt (rank marks q) done) 0 (marks q) (lt-ltb (rank marks q) done below)

-- and that of another one is what it was
stays : (marks : ℕ → ℕ) (done : ℕ) (rest : ℕ → ℕ) (q : ℕ) → AreBehind marks done rest → q < GROUP → done ≤ rank marks q → rest q ≡ marks q
stays marks done rest q behind within above = behind q within ∙ pick_false (nat_lt (rank marks q) done) 0 (marks q) (le-ltb (rank marks q) done above)

-- at first all are left
pub all_behind : (marks : ℕ → ℕ) → AreBehind marks 0 marks
all_behind marks q within = sym (pick_false (nat_lt (rank marks q) 0) 0 (marks q) (le-ltb (rank marks q) 0 (omega arith)))

-- below a place below which none is left no more are marked than are done
pub rank_most : (marks : ℕ → ℕ) (done : ℕ) (rest : ℕ → ℕ) (p : ℕ) → ((q : ℕ) → marks q < 2) → AreBehind marks done rest → p ≤ GROUP → ((q : ℕ) → q < p → rest q ≡ 0)
    → rank marks p ≤ done
rank_most marks done rest zero few behind within none = omega (arith, rank_first marks)
rank_most marks done rest (suc p) few behind within none =
    by (either marks p) (cases_lt (rank marks p) done) (rank_most marks done rest p few behind (omega (arith, within)) (λ q below. none q (omega (arith, below)))) where
      by : (marks p ≡ 0) ⊎ (0 < marks p) → (rank marks p < done) ⊎ (done ≤ rank marks p) → rank marks p ≤ done → rank marks (suc p) ≤ done
      by (inl clear) _ most = omega (arith, rank_next marks p, clear, most)
      by (inr set) (inl below) most = omega (arith, rank_next marks p, few p, below)
      by (inr set) (inr above) most = absurd (omega (arith, none p (omega arith), stays marks done rest p behind (omega (arith, within)) above, set))

-- while values are left, so are marks
pub some_left : (marks done rest : ℕ) (values : List ℤ) → AreMarked GROUP (bit_at marks) values → AreBehind (bit_at marks) done (bit_at rest) → done < length values → 0 < rest
some_left marks done rest values kept behind fewer = by (cases_lt 0 rest) where
  by : (0 < rest) ⊎ (rest ≤ 0) → 0 < rest
  by (inl some) = some
  by (inr none) =
      let nothing : rest ≡ 0 = omega (arith, none) in
      absurd (omega (
        arith,
        fewer,
        kept,
        rank_most (bit_at marks) done (bit_at rest) GROUP (bit_few marks) behind (omega arith) (λ q below. ap (λ n. bit_at n q) nothing ∙ bit_at-zero q),
      ))

module _ (marks : ℕ → ℕ) (done : ℕ) (rest : ℕ → ℕ) (p : ℕ) (few : (q : ℕ) → marks q < 2) (behind : AreBehind marks done rest) (there : p < GROUP) (left : rest p ≡ 1)
    (least : (q : ℕ) → q < p → rest q ≡ 0) where
  -- the lowest mark that is left is that of the next value
  not_done : done ≤ rank marks p
  not_done = by (cases_lt (rank marks p) done) where
    by : (rank marks p < done) ⊎ (done ≤ rank marks p) → done ≤ rank marks p
    by (inl below) = absurd (omega (arith, gone marks done rest p behind there below, left))
    by (inr above) = above

  pub is_next : rank marks p ≡ done
  is_next = omega (arith, not_done, rank_most marks done rest p few behind (omega (arith, there)) least)

  pub next_is_marked : marks p ≡ 1
  next_is_marked = sym (stays marks done rest p behind there not_done) ∙ left

  pub next_value : (values : List ℤ) → Some (get_or values done (pos 0)) ≡ value_at marks values p
  next_value values = ap (λ n. Some (get_or values n (pos 0))) (sym is_next) ∙ sym (marked_value marks values p (omega (arith, next_is_marked)))

  -- without it, those of the values behind it are left
  pub next_behind : (new : ℕ → ℕ) → new p ≡ 0 → DifferAt GROUP p rest new → AreBehind marks (done + 1) new
  next_behind new cleared others = λ q within. by q within (cases_eq p q) (cases_lt (rank marks q) done) (either marks q) where
    by : (q : ℕ) → q < GROUP → (p ≡ q) ⊎ (p ≢ q) → (rank marks q < done) ⊎ (done ≤ rank marks q) → (marks q ≡ 0) ⊎ (0 < marks q)
        → new q ≡ (if nat_lt (rank marks q) (done + 1) then 0 else marks q)
    by q within (inl same) _ _ =
        ap new (sym same) ∙ cleared
        ∙ sym (pick_true (nat_lt (rank marks q) (done + 1)) 0 (marks q) (lt-ltb (rank marks q) (done + 1) (omega (arith, is_next, ap (rank marks) same))))
    by q within (inr differs) (inl below) _ =
        others q within (λ e. differs (sym e)) ∙ gone marks done rest q behind within below
        ∙ sym (pick_true (nat_lt (rank marks q) (done + 1)) 0 (marks q) (lt-ltb (rank marks q) (done + 1) (omega (arith, below))))
    by q within (inr differs) (inr above) (inl clear) =
        others q within (λ e. differs (sym e)) ∙ stays marks done rest q behind within above ∙ clear
        ∙ sym (same_either (nat_lt (rank marks q) (done + 1)) 0) ∙ ap (λ n. if nat_lt (rank marks q) (done + 1) then 0 else n) (sym clear)
    by q within (inr differs) (inr above) (inr set) =
        others q within (λ e. differs (sym e)) ∙ stays marks done rest q behind within above
        ∙ sym (pick_false (nat_lt (rank marks q) (done + 1)) 0 (marks q) (le-ltb (rank marks q) (done + 1) (later (cases_lt p q))))
      where
        later : (p < q) ⊎ (q ≤ p) → done + 1 ≤ rank marks q
        later (inl after) = omega (arith, rank_over marks p q after (omega (arith, next_is_marked)), is_next)
        later (inr before) = absurd (omega (arith, rank_over marks q p (omega (arith, before, differs)) set, is_next, above))

-- once all values are done no mark is left
pub none_left : (marks rest : ℕ → ℕ) (values : List ℤ) (done q : ℕ) → AreMarked GROUP marks values → AreBehind marks done rest → length values ≤ done → q < GROUP → rest q ≡ 0
none_left marks rest values done q kept behind all within = by (either marks q) (cases_lt (rank marks q) done) where
  by : (marks q ≡ 0) ⊎ (0 < marks q) → (rank marks q < done) ⊎ (done ≤ rank marks q) → rest q ≡ 0
  by _ (inl below) = gone marks done rest q behind within below
  by (inl clear) (inr above) = stays marks done rest q behind within above ∙ clear
  by (inr set) (inr above) = absurd (omega (arith, rank_over marks q GROUP within set, kept, all, above))

-- one more value differs, or is the same
pub next_is : (left : Bool) (first p : ℕ) (rest new marks : ℕ → ℕ) (values cells : List ℤ) → DifferAt GROUP p rest new
    → ((q : ℕ) → q < GROUP → rest q ≡ 0 → change_at cells (first + q) (value_at marks values q) ≡ if_left left (value_at marks values q))
    → change_at cells (first + p) (value_at marks values p) ≡ if_left left (value_at marks values p)
    → (q : ℕ) → q < GROUP → new q ≡ 0 → change_at cells (first + q) (value_at marks values q) ≡ if_left left (value_at marks values q)
next_is left first p rest new marks values cells others each this = λ q within clear. by q within clear (cases_eq p q) where
  by : (q : ℕ) → q < GROUP → new q ≡ 0 → (p ≡ q) ⊎ (p ≢ q) → change_at cells (first + q) (value_at marks values q) ≡ if_left left (value_at marks values q)
  by q within clear (inl same) =
      ap (λ n. change_at cells (first + n) (value_at marks values n)) (sym same) ∙ this ∙ ap (λ n. if_left left (value_at marks values n)) same
  by q within clear (inr differs) = each q within (sym (others q within (λ e. differs (sym e))) ∙ clear)

-- where all places are marked, as many lie below a place as its number says
pub full_ranks : (marks p : ℕ) → marks ≡ 18446744073709551615 → p ≤ GROUP → rank (bit_at marks) p ≡ p
full_ranks marks zero all within = rank_first (bit_at marks)
full_ranks marks (suc p) all within =
    omega (arith, rank_next (bit_at marks) p, full_ranks marks p all (omega (arith, within)), ap (λ n. bit_at n p) all, bit_at_ones 64 p (omega (arith, within)))

pub full_long : (marks : ℕ) (values : List ℤ) → AreMarked GROUP (bit_at marks) values → marks ≡ 18446744073709551615 → length values ≡ GROUP
full_long marks values kept all = kept ∙ full_ranks marks GROUP all (omega arith)

-- and each value stands at its place
pub full_at : (marks : ℕ) (values : List ℤ) (q : ℕ) → AreMarked GROUP (bit_at marks) values → marks ≡ 18446744073709551615 → q < GROUP
    → at_page (map Some values) q ≡ value_at (bit_at marks) values q
full_at marks values q kept all within =
    get_or-map Some values q (pos 0) None (omega (arith, full_long marks values kept all, within))
    ∙ ap (λ n. Some (get_or values n (pos 0))) (sym (full_ranks marks q all (omega (arith, within))))
    ∙ sym (marked_value (bit_at marks) values q (omega (arith, ap (λ n. bit_at n q) all, bit_at_ones 64 q within)))
