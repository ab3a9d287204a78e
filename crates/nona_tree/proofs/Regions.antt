-- Each entry is to the region of its number.
use Rattle.std.proofs.Common.{◌≡◌, ◌≤◌, ◌<◌, ◌+◌, ◌-◌, ℕ, zero, suc, ℤ, pos, ◌+ℤ◌, Bool, true, false, List, [], ◌∷◌, ◌++◌, length, refl, ap, ◌∙◌, arith, if◌then◌else◌, length-append, Some, slice_get}
use Rattle.std.specs.Prelude.{min, Result, Ok, Err, All}
use Rattle.std.specs.List.{AllByRecursion}
use Rattle.std.specs.Int.{int_gap}
use Rattle.std.proofs.lemmas.List.{get_or_append_left, get_or-append-add}
use Rattle.std.proofs.lemmas.List.Elements.{All-from_recursion}
use Rattle.std.proofs.lemmas.Option.{slice_get_within, slice_get-get_or, get_or_from_slice_get}
use Rattle.nona_tree.specs.declared.outcomes.Trap.{Trap}
use Rattle.nona_tree.specs.declared.outcomes.Outcome.{Outcome}
use Rattle.nona_tree.specs.declared.outcomes.Outcome.TheVariants as outcome
use Rattle.nona_tree.specs.declared.trees.Loop.{Loop}
use Rattle.nona_tree.specs.declared.trees.Stmt.{Stmt, Let, Set, Fold, Put, FoldPut, If', While', For', Print, Row_of-Stmt, end_of-Stmt, more_of-Stmt, items-the_row-Stmt}
use Rattle.nona_tree.specs.Memory.{Memory, declare}
use Rattle.nona_tree.specs.Value.{Answer, is_zero, value_of}
use Rattle.nona_tree.specs.Run.{Ran, run, run_row, block, turn, first_turns}
use Rattle.nona_tree.specs.Beside.{on_ok, on_end, while_gives, first_give}
use Rattle.nona_tree.specs.Entries.{Opened, loop_with, regions_in, regions_row, regions_all, count_in, count_row, entries, entries_row, entries_all, IsEntryOf}

-- what a run gives has a property, where each of its parts gives only such
pub each_of_two : {B : Type 0} (P : B → Type 0) (xs ys : List B) → AllByRecursion P xs → AllByRecursion P ys → AllByRecursion P (xs ++ ys)
each_of_two P [] ys h g = g
each_of_two P (x ∷ xs) ys h g = (h.0, each_of_two P xs ys h.1 g)

each_on_ok : {A B : Type 0} (P : B → Type 0) (o : Result A Trap) (given : A → List B) → ((a : A) → o ≡ Ok a → AllByRecursion P (given a)) → AllByRecursion P (on_ok o given)
each_on_ok P (Ok a) given h = h a refl
each_on_ok P (Err t) given h = tt

each_on_end : {B : Type 0} (P : B → Type 0) (m : Memory) (e : Outcome) (given : Memory → List B) → ((x : Memory) → AllByRecursion P (given x)) → AllByRecursion P (on_end m e given)
each_on_end P m outcome.Done given h = h m
each_on_end P m (outcome.Trap t) given h = tt
each_on_end P m (outcome.OutOfTurns at) given h = tt

each_if : {B : Type 0} (P : B → Type 0) (b : Bool) (xs ys : List B) → AllByRecursion P xs → AllByRecursion P ys → AllByRecursion P (if b then xs else ys)
each_if P true xs ys h g = h
each_if P false xs ys h g = g

each_while : {B : Type 0} (P : B → Type 0) (test : Memory → Answer) (asked : Memory → List B) (body : Memory → Ran) (given : Memory → List B)
    → ((x : Memory) → AllByRecursion P (asked x)) → ((x : Memory) → AllByRecursion P (given x))
    → (n : ℕ) (m : Memory) → AllByRecursion P (while_gives test asked body given n m)
each_while P test asked body given h g zero m = h m
each_while P test asked body given h g (suc n) m =
    each_of_two P (asked m) _ (h m) (each_on_ok P (test m) _ (λ v e. each_if P (is_zero v) [] _ tt (each_of_two P (given m) _ (g m) (each_on_end P (body m).store (body m).end _ (λ x. each_while P test asked body given h g n x)))))

each_first : {B : Type 0} (P : B → Type 0) (body : ℤ → Memory → Ran) (given : ℤ → Memory → List B) (low : ℤ)
    → ((i : ℤ) (x : Memory) → AllByRecursion P (given i x)) → (count : ℕ) (m : Memory) → AllByRecursion P (first_give body given low count m)
each_first P body given low h zero m = tt
each_first P body given low h (suc k) m =
    each_of_two P (first_give body given low k m) _ (each_first P body given low h k m) (each_on_end P (first_turns body low k m).store (first_turns body low k m).end _ (λ x. h (low +ℤ pos k) x))

-- an entry of one of these regions, whose numbers begin with first
abbrev IsEntryAt : ℕ → List Loop → Opened → Type 0
IsEntryAt first regions o =
    (first ≤ o.region) × (slice_get regions (o.region - first) ≡ Some o.looped) × (value_of o.looped.low o.store ≡ Ok o.low) × (value_of o.looped.high o.store ≡ Ok o.high)

found_left : (xs ys : List Loop) (k : ℕ) (l : Loop) → slice_get xs k ≡ Some l → slice_get (xs ++ ys) k ≡ Some l
found_left xs ys k l h =
    let within : k < length xs = slice_get_within xs k l h in
    slice_get-get_or (xs ++ ys) k l (omega (arith, within, length-append xs ys))
    ∙ ap Some (get_or_append_left xs ys l k within ∙ get_or_from_slice_get xs k l l h)

found_right : (xs ys : List Loop) (k : ℕ) (l : Loop) → slice_get ys k ≡ Some l → slice_get (xs ++ ys) (length xs + k) ≡ Some l
found_right xs ys k l h =
    let within : k < length ys = slice_get_within ys k l h in
    slice_get-get_or (xs ++ ys) (length xs + k) l (omega (arith, within, length-append xs ys))
    ∙ ap Some (get_or-append-add xs ys k l ∙ get_or_from_slice_get ys k l l h)

entries_left : (first : ℕ) (xs ys : List Loop) (os : List Opened) → AllByRecursion (IsEntryAt first xs) os → AllByRecursion (IsEntryAt first (xs ++ ys)) os
entries_left first xs ys [] h = tt
entries_left first xs ys (o ∷ os) h =
    ((h.0.0, found_left xs ys (o.region - first) o.looped h.0.1, h.0.2, h.0.3), entries_left first xs ys os h.1)

entries_right : (first : ℕ) (xs ys : List Loop) (os : List Opened) → AllByRecursion (IsEntryAt (first + length xs) ys) os → AllByRecursion (IsEntryAt first (xs ++ ys)) os
entries_right first xs ys [] h = tt
entries_right first xs ys (o ∷ os) h =
    let above : first + length xs ≤ o.region = h.0.0 in
    let further : o.region - first ≡ length xs + (o.region - (first + length xs)) = omega (arith, above) in
    let found = found_right xs ys (o.region - (first + length xs)) o.looped h.0.1 in
    ((omega (arith, above), ap (λ k. slice_get (xs ++ ys) k) further ∙ found, h.0.2, h.0.3), entries_right first xs ys os h.1)

-- the entries of a loop, by whether it is a region
each_of_loop : (first : ℕ) (region : Bool) (l : Loop) (a b : ℤ) (m : Memory) (inside : List Loop) (os : List Opened)
    → value_of l.low m ≡ Ok a → value_of l.high m ≡ Ok b → AllByRecursion (IsEntryAt first inside) os
    → AllByRecursion (IsEntryAt first (if region then l ∷ [] else inside)) (if region then record { region = first; looped = l; low = a; high = b; store = m } ∷ [] else os)
each_of_loop first true l a b m inside os low_is high_is h =
    let at_front : first - first ≡ 0 = omega arith in
    ((omega arith, ap (λ k. slice_get (l ∷ []) k) at_front, low_is, high_is), tt)
each_of_loop first false l a b m inside os low_is high_is h = h

mutual
  pub each_entry : (chosen : Loop → Bool) (s : Stmt) (first n : ℕ) (m : Memory) → AllByRecursion (IsEntryAt first (regions_in chosen s)) (entries chosen first s n m)
  each_entry chosen (Let x e) first n m = tt
  each_entry chosen (Set x e) first n m = tt
  each_entry chosen (Fold x f e) first n m = tt
  each_entry chosen (Put c e) first n m = tt
  each_entry chosen (FoldPut c f e) first n m = tt
  each_entry chosen (Print e at) first n m = tt
  each_entry chosen (If' test p then_part q else_part) first n m =
      each_on_ok (IsEntryAt first (regions_row chosen then_part ++ regions_row chosen else_part)) (value_of test m) _
      (λ v e. each_if (IsEntryAt first (regions_row chosen then_part ++ regions_row chosen else_part)) (is_zero v) _ _
      (entries_right first (regions_row chosen then_part) (regions_row chosen else_part) _ (each_entry_row chosen else_part (first + count_row chosen then_part) n m))
      (entries_left first (regions_row chosen then_part) (regions_row chosen else_part) _ (each_entry_row chosen then_part first n m)))
  each_entry chosen (While' test p body at) first n m =
      each_while (IsEntryAt first (regions_row chosen body)) (value_of test) (λ x. []) (block (run_row body n)) (entries_row chosen first body n)
      (λ x. tt) (λ x. each_entry_row chosen body first n x) n m
  each_entry chosen (For' x low high p body seq at) first n m =
      let l = loop_with x low high (items-the_row-Stmt _ body) seq at in
      let regions = if chosen l then l ∷ [] else regions_row chosen body in
      each_on_ok (IsEntryAt first regions) (value_of low m) _ (λ a low_is. each_on_ok (IsEntryAt first regions) (value_of high m) _ (λ b high_is.
      each_of_loop first (chosen l) l a b m (regions_row chosen body) _ low_is high_is
      (each_first (IsEntryAt first (regions_row chosen body)) (turn (run_row body n)) (λ i r. entries_row chosen first body n (declare i r)) a (λ i r. each_entry_row chosen body first n (declare i r)) (min (int_gap a b) n) m)))

  pub each_entry_row : {k : _} (chosen : Loop → Bool) (row : Row_of-Stmt k) (first n : ℕ) (m : Memory) → AllByRecursion (IsEntryAt first (regions_row chosen row)) (entries_row chosen first row n m)
  each_entry_row chosen end_of-Stmt first n m = tt
  each_entry_row chosen (more_of-Stmt s rest) first n m =
      each_of_two (IsEntryAt first (regions_in chosen s ++ regions_row chosen rest)) (entries chosen first s n m) _
      (entries_left first (regions_in chosen s) (regions_row chosen rest) _ (each_entry chosen s first n m))
      (entries_right first (regions_in chosen s) (regions_row chosen rest) _
      (each_on_end (IsEntryAt (first + count_in chosen s) (regions_row chosen rest)) (run s n m).store (run s n m).end _ (λ x. each_entry_row chosen rest (first + count_in chosen s) n x)))

each_entry_all : (chosen : Loop → Bool) (ss : List Stmt) (first n : ℕ) (m : Memory) → AllByRecursion (IsEntryAt first (regions_all chosen ss)) (entries_all chosen first ss n m)
each_entry_all chosen [] first n m = tt
each_entry_all chosen (s ∷ rest) first n m =
    each_of_two (IsEntryAt first (regions_in chosen s ++ regions_all chosen rest)) (entries chosen first s n m) _
    (entries_left first (regions_in chosen s) (regions_all chosen rest) _ (each_entry chosen s first n m))
    (entries_right first (regions_in chosen s) (regions_all chosen rest) _
    (each_on_end (IsEntryAt (first + count_in chosen s) (regions_all chosen rest)) (run s n m).store (run s n m).end _ (λ x. each_entry_all chosen rest (first + count_in chosen s) n x)))

pub entries_of_regions : (chosen : Loop → Bool) (ss : List Stmt) (n : ℕ) (m : Memory) → All (IsEntryOf (regions_all chosen ss)) (entries_all chosen 1 ss n m)
entries_of_regions chosen ss n m = All-from_recursion (IsEntryOf (regions_all chosen ss)) (entries_all chosen 1 ss n m) (each_entry_all chosen ss 1 n m)
