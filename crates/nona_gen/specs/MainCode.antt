-- The code of the main statements of a program, which stops at each region.
use Rattle.std.specs.Prelude.{◌≡◌, ℕ, ◌+◌, Bool, if◌then◌else◌, List, [], ◌∷◌, ◌++◌, length}
use Rattle.nona_tree.specs.declared.trees.Loop.{Loop}
use Rattle.nona_tree.specs.declared.trees.Stmt.{Stmt, If', While', For', Row_of-Stmt, end_of-Stmt, more_of-Stmt, items-the_row-Stmt}
use Rattle.nona_tree.specs.Entries.{loop_with, count_in, count_row}
use Rattle.nona_code.specs.declared.instr.Instr.{Instr}
use Rattle.nona_code.specs.declared.instr.Instr.TheVariants as instr
use Rattle.nona_gen.specs.Code.{expr_code, flip_code, lets_row, block_code, if_code, while_code, bounds_code, turns_code, stmt_code}

-- a region with this number: its bounds, and the stop
abbrev pub region_code : ℕ → List Instr → List Instr → List Instr
region_code number low high = low ++ (high ++ (instr.Region number ∷ []))

abbrev mutual
  -- the code of a main statement at p, in as many loops as depth, whose regions are chosen by this test and where the first
  -- in its text has this number
  pub main_code : (Loop → Bool) → ℕ → Stmt → ℕ → ℕ → List Instr
  main_code chosen first (If' test q then_part r else_part) depth p =
      let one = block_code (main_row chosen first then_part depth) (lets_row then_part) in
      let two = block_code (main_row chosen (first + count_row chosen then_part) else_part depth) (lets_row else_part) in
      if_code p (expr_code test) one two
  main_code chosen first (While' test q body at) depth p =
      while_code p depth at (flip_code test) (block_code (main_row chosen first body (depth + 1)) (lets_row body))
  main_code chosen first (For' x low high q body seq at) depth p =
      let l = loop_with x low high (items-the_row-Stmt _ body) seq at in
      let bounds = bounds_code depth (expr_code low) (expr_code high) in
      if chosen l then region_code first (expr_code low) (expr_code high)
      else bounds ++ turns_code (p + length bounds) x.id depth at (main_row chosen first body (depth + 1)) (lets_row body)
  main_code chosen first s depth p = stmt_code s depth p

  -- one main statement after another
  pub main_row : {k : _} → (Loop → Bool) → ℕ → Row_of-Stmt k → ℕ → ℕ → List Instr
  main_row chosen first end_of-Stmt depth p = []
  main_row chosen first (more_of-Stmt s rest) depth p =
      let c = main_code chosen first s depth p in
      c ++ main_row chosen (first + count_in chosen s) rest depth (p + length c)

-- the same of a list of statements
abbrev pub main_all : (Loop → Bool) → ℕ → List Stmt → ℕ → ℕ → List Instr
main_all chosen first [] depth p = []
main_all chosen first (s ∷ rest) depth p =
    let c = main_code chosen first s depth p in
    c ++ main_all chosen (first + count_in chosen s) rest depth (p + length c)

-- the code of the main statements of a program, whose regions have numbers from 1 on
abbrev pub program_code : (Loop → Bool) → List Stmt → List Instr
program_code chosen ss = main_all chosen 1 ss 0 0 ++ (instr.Stop ∷ [])

-- the code of a main statement is that of a statement, wherever it stands
abbrev pub IsPlain : (Loop → Bool) → Stmt → Type 0
IsPlain chosen s = (first depth p : ℕ) → main_code chosen first s depth p ≡ stmt_code s depth p
