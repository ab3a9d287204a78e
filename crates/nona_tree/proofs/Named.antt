-- The regions that places name are those that the places of these regions name.
use Rattle.std.proofs.Common.{◌≡◌, ◌==◌, ℕ, Bool, true, false, ◌||◌, List, [], ◌∷◌, ◌++◌, refl, sym, ap, ◌∙◌, if◌then◌else◌, eq-eqb}
use Rattle.std.proofs.lemmas.Bool.{eqb-true}
use Rattle.std.specs.List.{AllByRecursion}
use Rattle.nona_tree.specs.declared.trees.Loop.{Loop}
use Rattle.nona_tree.specs.declared.trees.Stmt.{Stmt, Let, Set, Fold, Put, FoldPut, If', While', For', Print, Row_of-Stmt, end_of-Stmt, more_of-Stmt, items-the_row-Stmt}
use Rattle.nona_tree.specs.Entries.{is_among, places_of, loop_with, regions_in, regions_row, regions_all}
use Rattle.nona_tree.proofs.Regions.{each_of_two}

-- a loop that a test chooses
abbrev pub Passes : (Loop → Bool) → Loop → Type 0
Passes chosen l = chosen l ≡ true

chosen_loop : (chosen : Loop → Bool) (b : Bool) (l : Loop) (inside : List Loop) → chosen l ≡ b → AllByRecursion (Passes chosen) inside
    → AllByRecursion (Passes chosen) (if b then l ∷ [] else inside)
chosen_loop chosen true l inside is h = (is, tt)
chosen_loop chosen false l inside is h = h

mutual
  chosen_in : (chosen : Loop → Bool) (s : Stmt) → AllByRecursion (Passes chosen) (regions_in chosen s)
  chosen_in chosen (Let x e) = tt
  chosen_in chosen (Set x e) = tt
  chosen_in chosen (Fold x f e) = tt
  chosen_in chosen (Put c e) = tt
  chosen_in chosen (FoldPut c f e) = tt
  chosen_in chosen (If' test p then_part q else_part) =
      each_of_two (Passes chosen) (regions_row chosen then_part) (regions_row chosen else_part) (chosen_row chosen then_part) (chosen_row chosen else_part)
  chosen_in chosen (While' test p body at) = chosen_row chosen body
  chosen_in chosen (For' x low high p body seq at) =
      let l = loop_with x low high (items-the_row-Stmt _ body) seq at in
      chosen_loop chosen (chosen l) l (regions_row chosen body) refl (chosen_row chosen body)
  chosen_in chosen (Print e at) = tt

  chosen_row : {k : _} (chosen : Loop → Bool) (row : Row_of-Stmt k) → AllByRecursion (Passes chosen) (regions_row chosen row)
  chosen_row chosen end_of-Stmt = tt
  chosen_row chosen (more_of-Stmt s rest) =
      each_of_two (Passes chosen) (regions_in chosen s) (regions_row chosen rest) (chosen_in chosen s) (chosen_row chosen rest)

pub chosen_all : (chosen : Loop → Bool) (ss : List Stmt) → AllByRecursion (Passes chosen) (regions_all chosen ss)
chosen_all chosen [] = tt
chosen_all chosen (s ∷ rest) =
    each_of_two (Passes chosen) (regions_in chosen s) (regions_all chosen rest) (chosen_in chosen s) (chosen_all chosen rest)

pub front_each : {B : Type 0} (P : B → Type 0) (xs ys : List B) → AllByRecursion P (xs ++ ys) → AllByRecursion P xs
front_each P [] ys h = tt
front_each P (x ∷ xs) ys h = (h.0, front_each P xs ys h.1)

pub back_each : {B : Type 0} (P : B → Type 0) (xs ys : List B) → AllByRecursion P (xs ++ ys) → AllByRecursion P ys
back_each P [] ys h = h
back_each P (x ∷ xs) ys h = back_each P xs ys h.1

same_loop : (chosen other : Loop → Bool) (b c : Bool) (l : Loop) (ls ms : List Loop) → chosen l ≡ b → other l ≡ c → (c ≡ true → b ≡ true)
    → (AllByRecursion (Passes other) ls → ms ≡ ls)
    → AllByRecursion (Passes other) (if b then l ∷ [] else ls) → (if c then l ∷ [] else ms) ≡ (if b then l ∷ [] else ls)
same_loop chosen other true true l ls ms p q only h g = refl
same_loop chosen other true false l ls ms p q only h g = let never : false ≡ true = sym q ∙ g.0 in cc
same_loop chosen other false true l ls ms p q only h g = let never : false ≡ true = only refl in cc
same_loop chosen other false false l ls ms p q only h g = h g

-- where another test chooses each region, and no loop besides what the first test chooses, the regions are the same
mutual
  pub same_in : (chosen other : Loop → Bool) → ((l : Loop) → Passes other l → Passes chosen l) → (s : Stmt)
      → AllByRecursion (Passes other) (regions_in chosen s) → regions_in other s ≡ regions_in chosen s
  same_in chosen other only (Let x e) h = refl
  same_in chosen other only (Set x e) h = refl
  same_in chosen other only (Fold x f e) h = refl
  same_in chosen other only (Put c e) h = refl
  same_in chosen other only (FoldPut c f e) h = refl
  same_in chosen other only (If' test p then_part q else_part) h =
      λ i. same_row chosen other only then_part (front_each (Passes other) (regions_row chosen then_part) (regions_row chosen else_part) h) i
      ++ same_row chosen other only else_part (back_each (Passes other) (regions_row chosen then_part) (regions_row chosen else_part) h) i
  same_in chosen other only (While' test p body at) h = same_row chosen other only body h
  same_in chosen other only (For' x low high p body seq at) h =
      let l = loop_with x low high (items-the_row-Stmt _ body) seq at in
      same_loop chosen other (chosen l) (other l) l (regions_row chosen body) (regions_row other body) refl refl (only l) (same_row chosen other only body) h
  same_in chosen other only (Print e at) h = refl

  pub same_row : {k : _} (chosen other : Loop → Bool) → ((l : Loop) → Passes other l → Passes chosen l) → (row : Row_of-Stmt k)
      → AllByRecursion (Passes other) (regions_row chosen row) → regions_row other row ≡ regions_row chosen row
  same_row chosen other only end_of-Stmt h = refl
  same_row chosen other only (more_of-Stmt s rest) h =
      λ i. same_in chosen other only s (front_each (Passes other) (regions_in chosen s) (regions_row chosen rest) h) i
      ++ same_row chosen other only rest (back_each (Passes other) (regions_in chosen s) (regions_row chosen rest) h) i

same_all : (chosen other : Loop → Bool) → ((l : Loop) → Passes other l → Passes chosen l) → (ss : List Stmt)
    → AllByRecursion (Passes other) (regions_all chosen ss) → regions_all other ss ≡ regions_all chosen ss
same_all chosen other only [] h = refl
same_all chosen other only (s ∷ rest) h =
    λ i. same_in chosen other only s (front_each (Passes other) (regions_in chosen s) (regions_all chosen rest) h) i
    ++ same_all chosen other only rest (back_each (Passes other) (regions_in chosen s) (regions_all chosen rest) h) i

-- a loop that stands at the place of one that is among some places is among them
by_place : (b c : Bool) (places : List ℕ) (r l : Loop) → (r.at == l.at) ≡ b → is_among places r ≡ true → (c ≡ true → is_among places l ≡ true)
    → (b || c) ≡ true → is_among places l ≡ true
by_place true c places r l same is later h =
    ap (λ (at : ℕ). is_among places (record r { at = at })) (sym (eqb-true r.at l.at same)) ∙ is
by_place false c places r l same is later h = later h

pub back_among : (places : List ℕ) (rs : List Loop) (l : Loop) → AllByRecursion (Passes (is_among places)) rs → is_among (places_of rs) l ≡ true → is_among places l ≡ true
back_among places [] l h is = cc
back_among places (r ∷ rs) l h is = by_place (r.at == l.at) (is_among (places_of rs) l) places r l refl h.0 (back_among places rs l h.1) is

more_among : (place : ℕ) (places : List ℕ) (b c : Bool) → c ≡ true → (b || c) ≡ true
more_among place places true c h = refl
more_among place places false c h = h

each_more : (place : ℕ) (places : List ℕ) (rs : List Loop) → AllByRecursion (Passes (is_among places)) rs → AllByRecursion (Passes (is_among (place ∷ places))) rs
each_more place places [] h = tt
each_more place places (r ∷ rs) h = (more_among place places (place == r.at) (is_among places r) h.0, each_more place places rs h.1)

or_true : (b c : Bool) → b ≡ true → (b || c) ≡ true
or_true true c h = refl
or_true false c h = cc

pub own_among : (rs : List Loop) → AllByRecursion (Passes (is_among (places_of rs))) rs
own_among [] = tt
own_among (r ∷ rs) = (or_true (r.at == r.at) (is_among (places_of rs) r) (eq-eqb r.at r.at refl), each_more r.at (places_of rs) rs (own_among rs))

pub named_again : (places : List ℕ) (ss : List Stmt) → regions_all (is_among (places_of (regions_all (is_among places) ss))) ss ≡ regions_all (is_among places) ss
named_again places ss =
    let rs = regions_all (is_among places) ss in
    same_all (is_among places) (is_among (places_of rs)) (λ l h. back_among places rs l (chosen_all (is_among places) ss) h) ss (own_among rs)
