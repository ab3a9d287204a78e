-- What is printed where a run comes to an entry is printed in the end.
use Rattle.std.proofs.Common.{ℕ, zero, suc, ℤ, pos, ◌+ℤ◌, ◌+◌, Bool, true, false, List, [], ◌∷◌, ◌++◌, if◌then◌else◌}
use Rattle.std.specs.Prelude.{min, nat_le, Result, Ok, Err}
use Rattle.std.specs.List.{AllByRecursion}
use Rattle.std.specs.Int.{int_gap}
use Rattle.nona_tree.specs.declared.outcomes.Trap.{Trap}
use Rattle.nona_tree.specs.declared.outcomes.Outcome.{Outcome}
use Rattle.nona_tree.specs.declared.outcomes.Outcome.TheVariants as outcome
use Rattle.nona_tree.specs.declared.trees.Loop.{Loop}
use Rattle.nona_tree.specs.declared.trees.Stmt.{Stmt, Let, Set, Fold, Put, FoldPut, If', While', For', Print, Row_of-Stmt, end_of-Stmt, more_of-Stmt, items-the_row-Stmt}
use Rattle.nona_tree.specs.Memory.{Memory, declare}
use Rattle.nona_tree.specs.Value.{Answer, is_zero, value_of}
use Rattle.nona_tree.specs.Run.{Ran, done, starved, with_value, then_from, block, turn, while_turns, first_turns, for_turns, run, run_row, run_all}
use Rattle.nona_tree.specs.Beside.{on_ok, on_end, while_gives, first_give}
use Rattle.nona_tree.specs.Entries.{Opened, loop_with, count_in, count_row, entries, entries_row, entries_all}
use Rattle.nona_tree.proofs.Keeps.{IsPreorder, MorePrinted, printed_kept, kept_then, kept_if, kept_while, kept_for, row_kept, all_kept}

order : IsPreorder MorePrinted
order = printed_kept.order

-- all that is printed where an entry begins is printed in this store
abbrev IsIn : Memory → Opened → Type 0
IsIn m o = MorePrinted o.store m

-- of each entry
abbrev AreIn : Memory → List Opened → Type 0
AreIn m os = AllByRecursion (IsIn m) os

are_in_both : (m : Memory) (xs ys : List Opened) → AreIn m xs → AreIn m ys → AreIn m (xs ++ ys)
are_in_both m [] ys h g = g
are_in_both m (x ∷ xs) ys h g = (h.0, are_in_both m xs ys h.1 g)

are_in_more : (m r : Memory) (os : List Opened) → MorePrinted m r → AreIn m os → AreIn r os
are_in_more m r [] more h = tt
are_in_more m r (o ∷ os) more h = (order.chain o.store m r h.0 more, are_in_more m r os more h.1)

are_in_value : {A : Type 0} (o : Result A Trap) (m : Memory) (given : A → List Opened) (go : A → Ran) → ((a : A) → AreIn (go a).store (given a)) → AreIn (with_value o m go).store (on_ok o given)
are_in_value (Ok a) m given go h = h a
are_in_value (Err t) m given go h = tt

are_in_if : (b : Bool) (xs ys : List Opened) (r q : Ran) → AreIn r.store xs → AreIn q.store ys → AreIn (if b then r else q).store (if b then xs else ys)
are_in_if true xs ys r q h g = h
are_in_if false xs ys r q h g = g

are_in_from : (m : Memory) (e : Outcome) (go : Memory → Ran) (xs : List Opened) (given : Memory → List Opened)
    → AreIn m xs → ((x : Memory) → AreIn (go x).store (given x)) → ((x : Memory) → MorePrinted x (go x).store) → AreIn (then_from m e go).store (xs ++ on_end m e given)
are_in_from m outcome.Done go xs given h g prints = are_in_both (go m).store xs (given m) (are_in_more m (go m).store xs (prints m) h) (g m)
are_in_from m (outcome.Trap t) go xs given h g prints = are_in_both m xs [] h tt
are_in_from m (outcome.OutOfTurns at) go xs given h g prints = are_in_both m xs [] h tt

are_in_while : (at : ℕ) (test : Memory → Answer) (body : Memory → Ran) (given : Memory → List Opened)
    → ((x : Memory) → AreIn (body x).store (given x)) → ((x : Memory) → MorePrinted x (body x).store)
    → (n : ℕ) (m : Memory) → AreIn (while_turns at test body n m).store (while_gives test (λ x. []) body given n m)
are_in_while at test body given h prints zero m = tt
are_in_while at test body given h prints (suc n) m =
    are_in_value (test m) m _ _ (λ v. are_in_if (is_zero v) [] _ (done m) _ tt
    (are_in_from (body m).store (body m).end (while_turns at test body n) (given m) (while_gives test (λ x. []) body given n) (h m)
    (λ x. are_in_while at test body given h prints n x) (λ x. kept_while MorePrinted order at test body prints n x)))

are_in_first : (body : ℤ → Memory → Ran) (given : ℤ → Memory → List Opened) (low : ℤ)
    → ((i : ℤ) (x : Memory) → AreIn (body i x).store (given i x)) → ((i : ℤ) (x : Memory) → MorePrinted x (body i x).store)
    → (k : ℕ) (m : Memory) → AreIn (first_turns body low k m).store (first_give body given low k m)
are_in_first body given low h prints zero m = tt
are_in_first body given low h prints (suc k) m =
    are_in_from (first_turns body low k m).store (first_turns body low k m).end (body (low +ℤ pos k)) (first_give body given low k m) (given (low +ℤ pos k))
    (are_in_first body given low h prints k m) (h (low +ℤ pos k)) (prints (low +ℤ pos k))

are_in_for : (at : ℕ) (body : ℤ → Memory → Ran) (given : ℤ → Memory → List Opened) (low : ℤ)
    → ((i : ℤ) (x : Memory) → AreIn (body i x).store (given i x)) → ((i : ℤ) (x : Memory) → MorePrinted x (body i x).store)
    → (count n : ℕ) (m : Memory) → AreIn (for_turns at body low count n m).store (first_give body given low (min count n) m)
are_in_for at body given low h prints count n m =
    let r = first_turns body low (min count n) m in
    are_in_more r.store (for_turns at body low count n m).store (first_give body given low (min count n) m)
    (kept_then MorePrinted order r.store r (λ x. if nat_le count n then done x else starved at x) (order.same r.store) (λ x. kept_if MorePrinted (nat_le count n) x (done x) (starved at x) (order.same x) (order.same x)))
    (are_in_first body given low h prints (min count n) m)

-- a loop that is a region, or isn't
are_in_loop : (region : Bool) (r : Ran) (o : Opened) (os : List Opened) → MorePrinted o.store r.store → AreIn r.store os → AreIn r.store (if region then o ∷ [] else os)
are_in_loop true r o os h g = (h, tt)
are_in_loop false r o os h g = g

mutual
  entries_in : (chosen : Loop → Bool) (s : Stmt) (first n : ℕ) (m : Memory) → AreIn (run s n m).store (entries chosen first s n m)
  entries_in chosen (Let x e) first n m = tt
  entries_in chosen (Set x e) first n m = tt
  entries_in chosen (Fold x f e) first n m = tt
  entries_in chosen (Put c e) first n m = tt
  entries_in chosen (FoldPut c f e) first n m = tt
  entries_in chosen (Print e at) first n m = tt
  entries_in chosen (If' test p then_part q else_part) first n m =
      are_in_value (value_of test m) m _ _ (λ v. are_in_if (is_zero v) _ _ (block (run_row else_part n) m) (block (run_row then_part n) m)
      (row_in chosen else_part (first + count_row chosen then_part) n m) (row_in chosen then_part first n m))
  entries_in chosen (While' test p body at) first n m =
      are_in_while at (value_of test) (block (run_row body n)) (entries_row chosen first body n) (λ x. row_in chosen body first n x) (λ x. row_kept MorePrinted printed_kept body n x) n m
  entries_in chosen (For' x low high p body seq at) first n m =
      are_in_value (value_of low m) m _ _ (λ a. are_in_value (value_of high m) m _ _ (λ b.
      are_in_loop (chosen (loop_with x low high (items-the_row-Stmt _ body) seq at)) (for_turns at (turn (run_row body n)) a (int_gap a b) n m) _ _
      (kept_for MorePrinted order at (turn (run_row body n)) a (λ i r. row_kept MorePrinted printed_kept body n (declare i r)) (int_gap a b) n m)
      (are_in_for at (turn (run_row body n)) (λ i r. entries_row chosen first body n (declare i r)) a (λ i r. row_in chosen body first n (declare i r)) (λ i r. row_kept MorePrinted printed_kept body n (declare i r)) (int_gap a b) n m)))

  row_in : {k : _} (chosen : Loop → Bool) (row : Row_of-Stmt k) (first n : ℕ) (m : Memory) → AreIn (run_row row n m).store (entries_row chosen first row n m)
  row_in chosen end_of-Stmt first n m = tt
  row_in chosen (more_of-Stmt s rest) first n m =
      are_in_from (run s n m).store (run s n m).end (run_row rest n) (entries chosen first s n m) (entries_row chosen (first + count_in chosen s) rest n)
      (entries_in chosen s first n m) (λ x. row_in chosen rest (first + count_in chosen s) n x) (λ x. row_kept MorePrinted printed_kept rest n x)

-- what is printed where a run comes to a region is printed in the end
pub entries_print : (chosen : Loop → Bool) (ss : List Stmt) (first n : ℕ) (m : Memory) → AllByRecursion (λ o. MorePrinted o.store (run_all ss n m).store) (entries_all chosen first ss n m)
entries_print chosen [] first n m = tt
entries_print chosen (s ∷ rest) first n m =
    are_in_from (run s n m).store (run s n m).end (run_all rest n) (entries chosen first s n m) (entries_all chosen (first + count_in chosen s) rest n)
    (entries_in chosen s first n m) (λ x. entries_print chosen rest (first + count_in chosen s) n x) (λ x. all_kept MorePrinted printed_kept rest n x)
