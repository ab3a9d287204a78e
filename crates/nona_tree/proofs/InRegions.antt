-- What is so of statements is so of the regions in them.
use Rattle.std.proofs.Common.{◌≡◌, ◌≢◌, ◌≤◌, ◌<◌, ◌^◌, ◌+◌, ℕ, Bool, true, false, List, [], ◌∷◌, ◌++◌, length, refl, sym, ap, subst, ◌∙◌, arith, if◌then◌else◌, length-append, All}
use Rattle.std.specs.Prelude.{max}
use Rattle.std.proofs.lemmas.List.{get_or_append_left}
use Rattle.std.proofs.lemmas.List.Elements.{All-nil, All-cons, All-append}
use Rattle.nona_tree.specs.declared.trees.Loop.{Loop}
use Rattle.nona_tree.specs.declared.trees.Stmt.{Stmt, Let, Set, Fold, Put, FoldPut, If', While', For', For, Print, Row_of-Stmt, end_of-Stmt, more_of-Stmt, items-the_row-Stmt}
use Rattle.nona_tree.specs.Entries.{loop_with, regions_in, regions_row, regions_all}
use Rattle.nona_tree.specs.Scope.{IsSteady, IsRowSteady, AreSteady}
use Rattle.nona_tree.specs.declared.trees.Program.{Program}
use Rattle.nona_tree.specs.Numbers.{IsI64Stmt, IsI64Row, AreI64Stmts}
use Rattle.nona_tree.specs.Smallness.{size_bound, nesting_bound, IsSmall, IsSmallLoop, expr_size, stmt_size, row_size, all_size, stmt_nesting, row_nesting, all_nesting}
use Rattle.nona_tree.proofs.Equations.{steady-For}
use Rattle.nona_tree.proofs.CheckEquations.{size-For, nesting-For}
use Rattle.nona_tree.proofs.I64.{block_numbers, list_numbers}

-- what is so of a loop and of the regions inside it is so of what the loop gives, whether it is a region or not
of_loop : (P : Loop → Type 0) (region : Bool) (l : Loop) (inside : List Loop) → P l → All P inside → All P (if region then l ∷ [] else inside)
of_loop P true l inside one all = All-cons P l [] one (All-nil P)
of_loop P false l inside one all = all

-- a property of all is one of those in front
front_all : (P : ℕ → Type 0) (xs ys : List ℕ) → All P (xs ++ ys) → All P xs
front_all P xs ys h = λ k d below. subst P (get_or_append_left xs ys d k below) (h k d (omega (arith, below, length-append xs ys)))

mutual
  -- a statement that assigns none of some scalars assigns none of those in front
  front_steady : (s : Stmt) (xs ys : List ℕ) → IsSteady s (xs ++ ys) → IsSteady s xs
  front_steady (Let x e) xs ys h = tt
  front_steady (Set x e) xs ys h = front_all (λ i. x.id ≢ i) xs ys h
  front_steady (Fold x f e) xs ys h = front_all (λ i. x.id ≢ i) xs ys h
  front_steady (Put c e) xs ys h = tt
  front_steady (FoldPut c f e) xs ys h = tt
  front_steady (If' test p then_part q else_part) xs ys h = (front_row then_part xs ys h.0, front_row else_part xs ys h.1)
  front_steady (While' test p body at) xs ys h = front_row body xs ys h
  front_steady (For' x low high p body seq at) xs ys h = front_row body (x.id ∷ xs) ys h
  front_steady (Print e at) xs ys h = tt

  front_row : {k : _} (row : Row_of-Stmt k) (xs ys : List ℕ) → IsRowSteady row (xs ++ ys) → IsRowSteady row xs
  front_row end_of-Stmt xs ys h = tt
  front_row (more_of-Stmt s rest) xs ys h = (front_steady s xs ys h.0, front_row rest xs ys h.1)

-- a block's statements are those of its row
steady_at : {k : _} (row : Row_of-Stmt k) (indices : List ℕ) → IsRowSteady row indices → AreSteady (items-the_row-Stmt _ row) indices
steady_at end_of-Stmt indices h = tt
steady_at (more_of-Stmt s rest) indices h = (h.0, steady_at rest indices h.1)

steady_loop : (l : Loop) (indices : List ℕ) {k : _} (row : Row_of-Stmt k) → l.body ≡ items-the_row-Stmt _ row → IsRowSteady row (l.index.id ∷ indices) → IsSteady (For l) []
steady_loop l indices row body h =
    subst (λ P. P) (sym (steady-For l [] ∙ ap (λ ss. AreSteady ss (l.index.id ∷ [])) body)) (steady_at row (l.index.id ∷ []) (front_row row (l.index.id ∷ []) indices h))

mutual
  steady_regions : (chosen : Loop → Bool) (s : Stmt) (indices : List ℕ) → IsSteady s indices → All (λ l. IsSteady (For l) []) (regions_in chosen s)
  steady_regions chosen (Let x e) indices h = All-nil (λ l. IsSteady (For l) [])
  steady_regions chosen (Set x e) indices h = All-nil (λ l. IsSteady (For l) [])
  steady_regions chosen (Fold x f e) indices h = All-nil (λ l. IsSteady (For l) [])
  steady_regions chosen (Put c e) indices h = All-nil (λ l. IsSteady (For l) [])
  steady_regions chosen (FoldPut c f e) indices h = All-nil (λ l. IsSteady (For l) [])
  steady_regions chosen (If' test p then_part q else_part) indices h =
      All-append (λ l. IsSteady (For l) []) (regions_row chosen then_part) (regions_row chosen else_part) (steady_regions_row chosen then_part indices h.0) (steady_regions_row chosen else_part indices h.1)
  steady_regions chosen (While' test p body at) indices h = steady_regions_row chosen body indices h
  steady_regions chosen (For' x low high p body seq at) indices h =
      let l = loop_with x low high (items-the_row-Stmt _ body) seq at in
      of_loop (λ k. IsSteady (For k) []) (chosen l) l (regions_row chosen body) (steady_loop l indices body refl h) (steady_regions_row chosen body (x.id ∷ indices) h)
  steady_regions chosen (Print e at) indices h = All-nil (λ l. IsSteady (For l) [])

  steady_regions_row : {k : _} (chosen : Loop → Bool) (row : Row_of-Stmt k) (indices : List ℕ) → IsRowSteady row indices → All (λ l. IsSteady (For l) []) (regions_row chosen row)
  steady_regions_row chosen end_of-Stmt indices h = All-nil (λ l. IsSteady (For l) [])
  steady_regions_row chosen (more_of-Stmt s rest) indices h =
      All-append (λ l. IsSteady (For l) []) (regions_in chosen s) (regions_row chosen rest) (steady_regions chosen s indices h.0) (steady_regions_row chosen rest indices h.1)

-- the regions of statements that assign no index
pub steady_regions_all : (chosen : Loop → Bool) (ss : List Stmt) → AreSteady ss [] → All (λ l. IsSteady (For l) []) (regions_all chosen ss)
steady_regions_all chosen [] h = All-nil (λ l. IsSteady (For l) [])
steady_regions_all chosen (s ∷ rest) h =
    All-append (λ l. IsSteady (For l) []) (regions_in chosen s) (regions_all chosen rest) (steady_regions chosen s [] h.0) (steady_regions_all chosen rest h.1)

-- a loop of this size at most, in which no more blocks lie one inside another
abbrev Fits : ℕ → ℕ → Loop → Type 0
Fits size nesting l = (stmt_size (For l) ≤ size) × (stmt_nesting (For l) ≤ nesting)

size_at : {k : _} (row : Row_of-Stmt k) → row_size row ≡ all_size (items-the_row-Stmt _ row)
size_at end_of-Stmt = refl
size_at (more_of-Stmt s rest) = ap (λ n. stmt_size s + n) (size_at rest)

nesting_at : {k : _} (row : Row_of-Stmt k) → row_nesting row ≡ all_nesting (items-the_row-Stmt _ row)
nesting_at end_of-Stmt = refl
nesting_at (more_of-Stmt s rest) = ap (λ n. max (stmt_nesting s) n) (nesting_at rest)

mutual
  fitting_regions : (chosen : Loop → Bool) (s : Stmt) (size nesting : ℕ) → stmt_size s ≤ size → stmt_nesting s ≤ nesting → All (Fits size nesting) (regions_in chosen s)
  fitting_regions chosen (Let x e) size nesting h g = All-nil (Fits size nesting)
  fitting_regions chosen (Set x e) size nesting h g = All-nil (Fits size nesting)
  fitting_regions chosen (Fold x f e) size nesting h g = All-nil (Fits size nesting)
  fitting_regions chosen (Put c e) size nesting h g = All-nil (Fits size nesting)
  fitting_regions chosen (FoldPut c f e) size nesting h g = All-nil (Fits size nesting)
  fitting_regions chosen (If' test p then_part q else_part) size nesting h g =
      All-append (Fits size nesting) (regions_row chosen then_part) (regions_row chosen else_part)
      (fitting_regions_row chosen then_part size nesting (omega (arith, h)) (omega (arith, g)))
      (fitting_regions_row chosen else_part size nesting (omega (arith, h)) (omega (arith, g)))
  fitting_regions chosen (While' test p body at) size nesting h g = fitting_regions_row chosen body size nesting (omega (arith, h)) (omega (arith, g))
  fitting_regions chosen (For' x low high p body seq at) size nesting h g =
      let l = loop_with x low high (items-the_row-Stmt _ body) seq at in
      of_loop (Fits size nesting) (chosen l) l (regions_row chosen body)
      (omega (arith, size-For l, size_at body, h), omega (arith, nesting-For l, nesting_at body, g))
      (fitting_regions_row chosen body size nesting (omega (arith, h)) (omega (arith, g)))
  fitting_regions chosen (Print e at) size nesting h g = All-nil (Fits size nesting)

  fitting_regions_row : {k : _} (chosen : Loop → Bool) (row : Row_of-Stmt k) (size nesting : ℕ) → row_size row ≤ size → row_nesting row ≤ nesting → All (Fits size nesting) (regions_row chosen row)
  fitting_regions_row chosen end_of-Stmt size nesting h g = All-nil (Fits size nesting)
  fitting_regions_row chosen (more_of-Stmt s rest) size nesting h g =
      All-append (Fits size nesting) (regions_in chosen s) (regions_row chosen rest)
      (fitting_regions chosen s size nesting (omega (arith, h)) (omega (arith, g)))
      (fitting_regions_row chosen rest size nesting (omega (arith, h)) (omega (arith, g)))

-- the regions of statements of some size are no larger, and no deeper
pub fitting_regions_all : (chosen : Loop → Bool) (ss : List Stmt) (size nesting : ℕ) → all_size ss ≤ size → all_nesting ss ≤ nesting → All (Fits size nesting) (regions_all chosen ss)
fitting_regions_all chosen [] size nesting h g = All-nil (Fits size nesting)
fitting_regions_all chosen (s ∷ rest) size nesting h g =
    All-append (Fits size nesting) (regions_in chosen s) (regions_all chosen rest)
    (fitting_regions chosen s size nesting (omega (arith, h)) (omega (arith, g)))
    (fitting_regions_all chosen rest size nesting (omega (arith, h)) (omega (arith, g)))

few_of_loop : (region : Bool) (l : Loop) (inside : List Loop) (n : ℕ) → 1 ≤ n → length inside ≤ n → length (if region then l ∷ [] else inside) ≤ n
few_of_loop true l inside n one all = one
few_of_loop false l inside n one all = all

mutual
  few_regions : (chosen : Loop → Bool) (s : Stmt) → length (regions_in chosen s) ≤ stmt_size s
  few_regions chosen (Let x e) = omega arith
  few_regions chosen (Set x e) = omega arith
  few_regions chosen (Fold x f e) = omega arith
  few_regions chosen (Put c e) = omega arith
  few_regions chosen (FoldPut c f e) = omega arith
  few_regions chosen (If' test p then_part q else_part) =
      omega (arith, length-append (regions_row chosen then_part) (regions_row chosen else_part), few_regions_row chosen then_part, few_regions_row chosen else_part)
  few_regions chosen (While' test p body at) = omega (arith, few_regions_row chosen body)
  few_regions chosen (For' x low high p body seq at) =
      let l = loop_with x low high (items-the_row-Stmt _ body) seq at in
      few_of_loop (chosen l) l (regions_row chosen body) (expr_size low + expr_size high + row_size body + 1) (omega arith) (omega (arith, few_regions_row chosen body))
  few_regions chosen (Print e at) = omega arith

  few_regions_row : {k : _} (chosen : Loop → Bool) (row : Row_of-Stmt k) → length (regions_row chosen row) ≤ row_size row
  few_regions_row chosen end_of-Stmt = omega arith
  few_regions_row chosen (more_of-Stmt s rest) =
      omega (arith, length-append (regions_in chosen s) (regions_row chosen rest), few_regions chosen s, few_regions_row chosen rest)

-- statements have no more regions than statements and expressions
pub few_regions_all : (chosen : Loop → Bool) (ss : List Stmt) → length (regions_all chosen ss) ≤ all_size ss
few_regions_all chosen [] = omega arith
few_regions_all chosen (s ∷ rest) = omega (arith, length-append (regions_in chosen s) (regions_all chosen rest), few_regions chosen s, few_regions_all chosen rest)

-- the regions of a small program are small, and few enough to be numbered
pub small_regions : (chosen : Loop → Bool) (p : Program) → IsSmall p → All IsSmallLoop (regions_all chosen p.body)
small_regions chosen p small = fitting_regions_all chosen p.body size_bound nesting_bound (omega (arith, small.0)) small.1

pub numbered_regions : (chosen : Loop → Bool) (p : Program) → IsSmall p → length (regions_all chosen p.body) + 1 < 2 ^ 32
numbered_regions chosen p small = omega (arith, few_regions_all chosen p.body, small.0)

mutual
  numbers_regions : (chosen : Loop → Bool) (s : Stmt) → IsI64Stmt s → All (λ l. IsI64Stmt (For l)) (regions_in chosen s)
  numbers_regions chosen (Let x e) h = All-nil (λ l. IsI64Stmt (For l))
  numbers_regions chosen (Set x e) h = All-nil (λ l. IsI64Stmt (For l))
  numbers_regions chosen (Fold x f e) h = All-nil (λ l. IsI64Stmt (For l))
  numbers_regions chosen (Put c e) h = All-nil (λ l. IsI64Stmt (For l))
  numbers_regions chosen (FoldPut c f e) h = All-nil (λ l. IsI64Stmt (For l))
  numbers_regions chosen (If' test p then_part q else_part) h =
      All-append (λ l. IsI64Stmt (For l)) (regions_row chosen then_part) (regions_row chosen else_part) (numbers_regions_row chosen then_part h.1) (numbers_regions_row chosen else_part h.2)
  numbers_regions chosen (While' test p body at) h = numbers_regions_row chosen body h.1
  numbers_regions chosen (For' x low high p body seq at) h =
      let l = loop_with x low high (items-the_row-Stmt _ body) seq at in
      of_loop (λ k. IsI64Stmt (For k)) (chosen l) l (regions_row chosen body)
      (h.0, h.1, block_numbers (items-the_row-Stmt _ body) (list_numbers _ body h.2))
      (numbers_regions_row chosen body h.2)
  numbers_regions chosen (Print e at) h = All-nil (λ l. IsI64Stmt (For l))

  numbers_regions_row : {k : _} (chosen : Loop → Bool) (row : Row_of-Stmt k) → IsI64Row row → All (λ l. IsI64Stmt (For l)) (regions_row chosen row)
  numbers_regions_row chosen end_of-Stmt h = All-nil (λ l. IsI64Stmt (For l))
  numbers_regions_row chosen (more_of-Stmt s rest) h =
      All-append (λ l. IsI64Stmt (For l)) (regions_in chosen s) (regions_row chosen rest) (numbers_regions chosen s h.0) (numbers_regions_row chosen rest h.1)

-- the regions of statements of numbers of 64 bits are such statements
pub numbers_regions_all : (chosen : Loop → Bool) (ss : List Stmt) → AreI64Stmts ss → All (λ l. IsI64Stmt (For l)) (regions_all chosen ss)
numbers_regions_all chosen [] h = All-nil (λ l. IsI64Stmt (For l))
numbers_regions_all chosen (s ∷ rest) h =
    All-append (λ l. IsI64Stmt (For l)) (regions_in chosen s) (regions_all chosen rest) (numbers_regions chosen s h.0) (numbers_regions_all chosen rest h.1)
