-- Compiled statements, as contracts see them.
use Rattle.std.specs.Prelude.{ℕ, List}
use Rattle.nona_tree.specs.declared.trees.Stmt.{Stmt}

-- the statements, and how much room the code of each takes at most on a stack
pub record UnitsView : Type 0 where
  pub body : List Stmt
  pub room : ℕ
