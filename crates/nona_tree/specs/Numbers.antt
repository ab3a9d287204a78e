-- Which trees and stores have numbers of 64 bits alone.
use Rattle.std.specs.Prelude.{◌<◌, ◌^◌, ℤ, FitsSigned, List, [], ◌∷◌, length, All}
use Rattle.std.specs.Int.{w64}
use Rattle.nona_tree.specs.declared.trees.Expr.{Expr, Number, Cell', Neg', Not', Binary', more_of-Expr, end_of-Expr}
use Rattle.nona_tree.specs.declared.trees.Expr.TheBlock.{more_of-Access, end_of-Access}
use Rattle.nona_tree.specs.declared.trees.Stmt.{Stmt, Let, Set, Fold, Put, FoldPut, If', While', For', Print, Row_of-Stmt, end_of-Stmt, more_of-Stmt}
use Rattle.nona_tree.specs.declared.trees.ArrayDecl.{ArrayDecl}
use Rattle.nona_tree.specs.declared.trees.VarDecl.{VarDecl}
use Rattle.nona_tree.specs.declared.trees.Program.{Program}
use Rattle.nona_tree.specs.Memory.{Memory}

-- a number from -2^63 to 2^63 - 1
abbrev pub IsI64 : ℤ → Type 0
IsI64 v = FitsSigned w64 v

-- cells whose numbers have 64 bits, and whose count is such a number
abbrev pub AreCells : List ℤ → Type 0
AreCells cells = (length cells < 2 ^ 63) × All IsI64 cells

-- a store of numbers of 64 bits
pub record AreI64 (m : Memory) : Type 0 where
  pub scalars : All IsI64 m.scalars
  pub arrays : All AreCells m.arrays
  pub printed : All IsI64 m.printed

-- each number that is written in an expression has 64 bits
abbrev pub IsI64Expr : Expr → Type 0
IsI64Expr (Number v) = IsI64 v
IsI64Expr (Cell' p (more_of-Access array wrap index end_of-Access)) = IsI64Expr index
IsI64Expr (Neg' p (more_of-Expr e end_of-Expr)) = IsI64Expr e
IsI64Expr (Not' p (more_of-Expr e end_of-Expr)) = IsI64Expr e
IsI64Expr (Binary' op at p (more_of-Expr left end_of-Expr) q (more_of-Expr right end_of-Expr)) =
    IsI64Expr left × IsI64Expr right
IsI64Expr _ = Unit {0}

abbrev mutual
  -- each number that is written in a statement has 64 bits
  pub IsI64Stmt : Stmt → Type 0
  IsI64Stmt (Let x e) = IsI64Expr e
  IsI64Stmt (Set x e) = IsI64Expr e
  IsI64Stmt (Fold x f e) = IsI64Expr e
  IsI64Stmt (Put c e) = IsI64Expr c.index × IsI64Expr e
  IsI64Stmt (FoldPut c f e) = IsI64Expr c.index × IsI64Expr e
  IsI64Stmt (If' test p then_part q else_part) = IsI64Expr test × IsI64Row then_part × IsI64Row else_part
  IsI64Stmt (While' test p body at) = IsI64Expr test × IsI64Row body
  IsI64Stmt (For' x low high p body seq at) = IsI64Expr low × IsI64Expr high × IsI64Row body
  IsI64Stmt (Print e at) = IsI64Expr e

  -- the same of one statement after another
  pub IsI64Row : {k : _} → Row_of-Stmt k → Type 0
  IsI64Row end_of-Stmt = Unit {0}
  IsI64Row (more_of-Stmt s rest) = IsI64Stmt s × IsI64Row rest

-- the same of one statement after another
abbrev pub AreI64Stmts : List Stmt → Type 0
AreI64Stmts [] = Unit {0}
AreI64Stmts (s ∷ rest) = IsI64Stmt s × AreI64Stmts rest

-- each number that is written in a program has 64 bits
pub record IsI64Program (p : Program) : Type 0 where
  pub arrays : All (λ (d : ArrayDecl). IsI64 d.cells) p.arrays
  pub vars : All (λ (d : VarDecl). IsI64 d.value) p.vars
  pub body : AreI64Stmts p.body
