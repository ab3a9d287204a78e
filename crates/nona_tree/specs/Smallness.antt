-- How large a program or a loop is, and which are small.
use Rattle.std.specs.Prelude.{ℕ, ◌+◌, ◌≤◌, List, [], ◌∷◌, length, max}
use Rattle.nona_tree.specs.declared.limits.TheConstants.{SIZE, NESTING}
use Rattle.nona_tree.specs.declared.trees.Expr.{Expr, Number, Scalar, Cell', Len, Neg', Not', Binary', more_of-Expr, end_of-Expr}
use Rattle.nona_tree.specs.declared.trees.Expr.TheBlock.{more_of-Access, end_of-Access}
use Rattle.nona_tree.specs.declared.trees.Loop.{Loop}
use Rattle.nona_tree.specs.declared.trees.Stmt.{Stmt, Let, Set, Fold, Put, FoldPut, If', While', For', For, Print, Row_of-Stmt, end_of-Stmt, more_of-Stmt}
use Rattle.nona_tree.specs.declared.trees.Program.{Program}

-- how many expressions an expression has, itself included
abbrev pub expr_size : Expr → ℕ
expr_size (Number v) = 1
expr_size (Scalar x) = 1
expr_size (Cell' p (more_of-Access array wrap index end_of-Access)) = expr_size index + 1
expr_size (Len x) = 1
expr_size (Neg' p (more_of-Expr e end_of-Expr)) = expr_size e + 1
expr_size (Not' p (more_of-Expr e end_of-Expr)) = expr_size e + 1
expr_size (Binary' op at p (more_of-Expr left end_of-Expr) q (more_of-Expr right end_of-Expr)) =
    expr_size left + expr_size right + 1

abbrev mutual
  -- how many statements and expressions a statement has, itself included
  pub stmt_size : Stmt → ℕ
  stmt_size (Let x e) = expr_size e + 1
  stmt_size (Set x e) = expr_size e + 1
  stmt_size (Fold x f e) = expr_size e + 1
  stmt_size (Put c e) = expr_size c.index + expr_size e + 1
  stmt_size (FoldPut c f e) = expr_size c.index + expr_size e + 1
  stmt_size (If' test p then_part q else_part) = expr_size test + row_size then_part + row_size else_part + 1
  stmt_size (While' test p body at) = expr_size test + row_size body + 1
  stmt_size (For' x low high p body seq at) = expr_size low + expr_size high + row_size body + 1
  stmt_size (Print e at) = expr_size e + 1

  -- how many one statement after another has
  pub row_size : {k : _} → Row_of-Stmt k → ℕ
  row_size end_of-Stmt = 0
  row_size (more_of-Stmt s rest) = stmt_size s + row_size rest

-- how many one statement after another has
abbrev pub all_size : List Stmt → ℕ
all_size [] = 0
all_size (s ∷ rest) = stmt_size s + all_size rest

-- how many declarations, statements and expressions a program has
abbrev pub size_of : Program → ℕ
size_of p = length p.arrays + length p.vars + all_size p.body

abbrev mutual
  -- how many blocks of a statement lie one inside another
  pub stmt_nesting : Stmt → ℕ
  stmt_nesting (If' test p then_part q else_part) = max (row_nesting then_part) (row_nesting else_part) + 1
  stmt_nesting (While' test p body at) = row_nesting body + 1
  stmt_nesting (For' x low high p body seq at) = row_nesting body + 1
  stmt_nesting _ = 0

  -- the same of one statement after another
  pub row_nesting : {k : _} → Row_of-Stmt k → ℕ
  row_nesting end_of-Stmt = 0
  row_nesting (more_of-Stmt s rest) = max (stmt_nesting s) (row_nesting rest)

-- the same of one statement after another
abbrev pub all_nesting : List Stmt → ℕ
all_nesting [] = 0
all_nesting (s ∷ rest) = max (stmt_nesting s) (all_nesting rest)

-- how many blocks of a program lie one inside another
abbrev pub nesting_of : Program → ℕ
nesting_of p = all_nesting p.body

-- the most declarations, statements and expressions of what is small
abbrev pub size_bound : ℕ
size_bound = SIZE

-- the most blocks of it that lie one inside another
abbrev pub nesting_bound : ℕ
nesting_bound = NESTING

-- a small program
abbrev pub IsSmall : Program → Type 0
IsSmall p = (size_of p ≤ size_bound) × (nesting_of p ≤ nesting_bound)

-- a small loop
abbrev pub IsSmallLoop : Loop → Type 0
IsSmallLoop l = (stmt_size (For l) ≤ size_bound) × (stmt_nesting (For l) ≤ nesting_bound)
