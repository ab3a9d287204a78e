-- Another test that chooses each region, and no loop besides what the first test chooses, gives the same entries.
use Rattle.std.proofs.Common.{◌≡◌, ◌+◌, ℕ, Bool, true, false, List, [], ◌∷◌, ◌++◌, length, refl, sym, ◌∙◌, if◌then◌else◌}
use Rattle.std.specs.Prelude.{min}
use Rattle.std.specs.Int.{int_gap}
use Rattle.std.specs.List.{AllByRecursion}
use Rattle.nona_tree.specs.declared.trees.Loop.{Loop}
use Rattle.nona_tree.specs.declared.trees.Stmt.{Stmt, Let, Set, Fold, Put, FoldPut, If', While', For', Print, Row_of-Stmt, end_of-Stmt, more_of-Stmt, items-the_row-Stmt}
use Rattle.nona_tree.specs.Memory.{Memory, declare}
use Rattle.nona_tree.specs.Value.{is_zero, value_of}
use Rattle.nona_tree.specs.Run.{run, run_row, block, turn}
use Rattle.nona_tree.specs.Beside.{on_ok, on_done, while_gives, first_give}
use Rattle.nona_tree.specs.Entries.{Opened, is_among, places_of, loop_with, regions_in, regions_row, regions_all, entries, entries_row, entries_all}
use Rattle.nona_tree.proofs.Named.{Passes, chosen_all, front_each, back_each, same_in, same_row, back_among, own_among}

-- a region gives itself by both tests, and another loop what stands in it
same_loop : (chosen other : Loop → Bool) (b c : Bool) (l : Loop) (ls : List Loop) (one : Opened) (there here : List Opened) → chosen l ≡ b → other l ≡ c
    → (c ≡ true → b ≡ true) → (AllByRecursion (Passes other) ls → there ≡ here)
    → AllByRecursion (Passes other) (if b then l ∷ [] else ls) → (if c then one ∷ [] else there) ≡ (if b then one ∷ [] else here)
same_loop chosen other true true l ls one there here p q only h g = refl
same_loop chosen other true false l ls one there here p q only h g = let never : false ≡ true = sym q ∙ g.0 in cc
same_loop chosen other false true l ls one there here p q only h g = let never : false ≡ true = only refl in cc
same_loop chosen other false false l ls one there here p q only h g = h g

-- whichever numbers the regions have
mutual
  same_entries : (chosen other : Loop → Bool) → ((l : Loop) → Passes other l → Passes chosen l) → (s : Stmt)
      → AllByRecursion (Passes other) (regions_in chosen s) → (first n : ℕ) (m : Memory) → entries other first s n m ≡ entries chosen first s n m
  same_entries chosen other only (Let x e) h first n m = refl
  same_entries chosen other only (Set x e) h first n m = refl
  same_entries chosen other only (Fold x f e) h first n m = refl
  same_entries chosen other only (Put c e) h first n m = refl
  same_entries chosen other only (FoldPut c f e) h first n m = refl
  same_entries chosen other only (Print e at) h first n m = refl
  same_entries chosen other only (If' test p then_part q else_part) h first n m =
      let one = front_each (Passes other) (regions_row chosen then_part) (regions_row chosen else_part) h in
      let two = back_each (Passes other) (regions_row chosen then_part) (regions_row chosen else_part) h in
      λ i. on_ok (value_of test m) (λ v. if is_zero v
      then same_entries_row chosen other only else_part two (first + length (same_row chosen other only then_part one i)) n m i
      else same_entries_row chosen other only then_part one first n m i)
  same_entries chosen other only (While' test p body at) h first n m =
      λ i. while_gives (value_of test) (λ k. []) (block (run_row body n)) (λ x. same_entries_row chosen other only body h first n x i) n m
  same_entries chosen other only (For' x low high p body seq at) h first n m =
      let l = loop_with x low high (items-the_row-Stmt _ body) seq at in
      λ i. on_ok (value_of low m) (λ a. on_ok (value_of high m) (λ b.
      same_loop chosen other (chosen l) (other l) l (regions_row chosen body) (record { region = first; looped = l; low = a; high = b; store = m })
      (first_give (turn (run_row body n)) (λ j k. entries_row other first body n (declare j k)) a (min (int_gap a b) n) m)
      (first_give (turn (run_row body n)) (λ j k. entries_row chosen first body n (declare j k)) a (min (int_gap a b) n) m)
      refl refl (only l)
      (λ inside. λ t. first_give (turn (run_row body n)) (λ j k. same_entries_row chosen other only body inside first n (declare j k) t) a (min (int_gap a b) n) m)
      h i))

  same_entries_row : {k : _} (chosen other : Loop → Bool) → ((l : Loop) → Passes other l → Passes chosen l) → (row : Row_of-Stmt k)
      → AllByRecursion (Passes other) (regions_row chosen row) → (first n : ℕ) (m : Memory) → entries_row other first row n m ≡ entries_row chosen first row n m
  same_entries_row chosen other only end_of-Stmt h first n m = refl
  same_entries_row chosen other only (more_of-Stmt s rest) h first n m =
      let one = front_each (Passes other) (regions_in chosen s) (regions_row chosen rest) h in
      let two = back_each (Passes other) (regions_in chosen s) (regions_row chosen rest) h in
      λ i. same_entries chosen other only s one first n m i
      ++ on_done (run s n m) (λ x. same_entries_row chosen other only rest two (first + length (same_in chosen other only s one i)) n x i)

same_entries_all : (chosen other : Loop → Bool) → ((l : Loop) → Passes other l → Passes chosen l) → (ss : List Stmt)
    → AllByRecursion (Passes other) (regions_all chosen ss) → (first n : ℕ) (m : Memory) → entries_all other first ss n m ≡ entries_all chosen first ss n m
same_entries_all chosen other only [] h first n m = refl
same_entries_all chosen other only (s ∷ rest) h first n m =
    let one = front_each (Passes other) (regions_in chosen s) (regions_all chosen rest) h in
    let two = back_each (Passes other) (regions_in chosen s) (regions_all chosen rest) h in
    λ i. same_entries chosen other only s one first n m i
    ++ on_done (run s n m) (λ x. same_entries_all chosen other only rest two (first + length (same_in chosen other only s one i)) n x i)

-- the entries to the regions that places name are those to the regions that the places of these regions name
pub named_entries : (places : List ℕ) (ss : List Stmt) (first n : ℕ) (m : Memory)
    → entries_all (is_among (places_of (regions_all (is_among places) ss))) first ss n m ≡ entries_all (is_among places) first ss n m
named_entries places ss =
    let loops = regions_all (is_among places) ss in
    same_entries_all (is_among places) (is_among (places_of loops)) (λ l. back_among places loops l (chosen_all (is_among places) ss)) ss (own_among loops)
