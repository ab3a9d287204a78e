-- Main statements in which no region stands have the code of statements.
use Rattle.std.proofs.Common.{◌≡◌, ℕ, ◌+◌, Bool, true, false, if◌then◌else◌, List, [], ◌∷◌, ◌++◌, length, refl, arith, length-append}
use Rattle.nona_tree.specs.declared.trees.Loop.{Loop}
use Rattle.nona_tree.specs.declared.trees.Stmt.{Stmt, Let, Set, Fold, Put, FoldPut, If', While', For', Print, Row_of-Stmt, end_of-Stmt, more_of-Stmt, items-the_row-Stmt}
use Rattle.nona_tree.specs.Entries.{loop_with, regions_in, regions_row, count_in, count_row}
use Rattle.nona_code.specs.declared.instr.Instr.{Instr}
use Rattle.nona_gen.specs.Code.{expr_code, flip_code, lets_row, block_code, if_code, while_code, bounds_code, turns_code, stmt_code, row_code}
use Rattle.nona_gen.specs.MainCode.{main_code, main_row}

none_before : (xs ys : List Loop) → length (xs ++ ys) ≡ 0 → length xs ≡ 0
none_before xs ys none = omega (arith, length-append xs ys, none)

none_behind : (xs ys : List Loop) → length (xs ++ ys) ≡ 0 → length ys ≡ 0
none_behind xs ys none = omega (arith, length-append xs ys, none)

-- a for that has no region is none itself
not_chosen : (b : Bool) (l : Loop) (ls : List Loop) (xs ys zs : List Instr) → length (if b then l ∷ [] else ls) ≡ 0 → (length ls ≡ 0 → ys ≡ zs) → (if b then xs else ys) ≡ zs
not_chosen true l ls xs ys zs none h = absurd (omega (arith, none))
not_chosen false l ls xs ys zs none h = h none

mutual
  pub main_plain : (chosen : Loop → Bool) (first : ℕ) (s : Stmt) (depth p : ℕ) → count_in chosen s ≡ 0 → main_code chosen first s depth p ≡ stmt_code s depth p
  main_plain chosen first (Let x e) depth p none = refl
  main_plain chosen first (Set x e) depth p none = refl
  main_plain chosen first (Fold x f e) depth p none = refl
  main_plain chosen first (Put c e) depth p none = refl
  main_plain chosen first (FoldPut c f e) depth p none = refl
  main_plain chosen first (Print e at) depth p none = refl
  main_plain chosen first (If' test q then_part r else_part) depth p none =
      let a = none_before (regions_row chosen then_part) (regions_row chosen else_part) none in
      let b = none_behind (regions_row chosen then_part) (regions_row chosen else_part) none in
      λ i. if_code p (expr_code test) (block_code (λ z. row_plain chosen first then_part depth z a i) (lets_row then_part)) (block_code (λ z. row_plain chosen (first + count_row chosen then_part) else_part depth z b i) (lets_row else_part))
  main_plain chosen first (While' test q body at) depth p none =
      λ i. while_code p depth at (flip_code test) (block_code (λ z. row_plain chosen first body (depth + 1) z none i) (lets_row body))
  main_plain chosen first (For' x low high q body seq at) depth p none =
      let l = loop_with x low high (items-the_row-Stmt _ body) seq at in
      let bounds = bounds_code depth (expr_code low) (expr_code high) in
      not_chosen (chosen l) l (regions_row chosen body) _ _ _ none
      (λ inner i. bounds ++ turns_code (p + length bounds) x.id depth at (λ z. row_plain chosen first body (depth + 1) z inner i) (lets_row body))

  pub row_plain : {k : _} (chosen : Loop → Bool) (first : ℕ) (row : Row_of-Stmt k) (depth p : ℕ) → count_row chosen row ≡ 0 → main_row chosen first row depth p ≡ row_code row depth p
  row_plain chosen first end_of-Stmt depth p none = refl
  row_plain chosen first (more_of-Stmt s rest) depth p none =
      let a = none_before (regions_in chosen s) (regions_row chosen rest) none in
      let b = none_behind (regions_in chosen s) (regions_row chosen rest) none in
      let c = main_plain chosen first s depth p a in
      λ i. c i ++ row_plain chosen (first + count_in chosen s) rest depth (p + length (c i)) b i

-- by a test that chooses none

mutual
  pub none_in : (s : Stmt) → count_in (λ l. false) s ≡ 0
  none_in (If' test q then_part r else_part) =
      let no : Loop → Bool = λ l. false in
      omega (arith, length-append (regions_row no then_part) (regions_row no else_part), none_row then_part, none_row else_part)
  none_in (While' test q body at) = none_row body
  none_in (For' x low high q body seq at) = none_row body
  none_in (Let x e) = refl
  none_in (Set x e) = refl
  none_in (Fold x f e) = refl
  none_in (Put c e) = refl
  none_in (FoldPut c f e) = refl
  none_in (Print e at) = refl

  none_row : {k : _} (row : Row_of-Stmt k) → count_row (λ l. false) row ≡ 0
  none_row end_of-Stmt = refl
  none_row (more_of-Stmt s rest) =
      let no : Loop → Bool = λ l. false in
      omega (arith, length-append (regions_in no s) (regions_row no rest), none_in s, none_row rest)

-- a test that chooses no loop
abbrev pub no_loop : Loop → Bool
no_loop l = false

pub code_plain : (s : Stmt) (depth p : ℕ) → main_code no_loop 0 s depth p ≡ stmt_code s depth p
code_plain s depth p = main_plain no_loop 0 s depth p (none_in s)

pub codes_plain : {k : _} (row : Row_of-Stmt k) (depth p : ℕ) → main_row no_loop 0 row depth p ≡ row_code row depth p
codes_plain row depth p = row_plain no_loop 0 row depth p (none_row row)
