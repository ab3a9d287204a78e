-- Which statements have code that stands alone.
use Rattle.std.specs.Prelude.{ℕ, ◌+◌, ◌≤◌, [], All}
use Rattle.nona_tree.specs.declared.trees.Loop.{Loop}
use Rattle.nona_tree.specs.declared.trees.Stmt.{Stmt}
use Rattle.nona_tree.specs.Numbers.{IsI64Stmt}
use Rattle.nona_tree.specs.Scope.{IsScoped, IsSteady}
use Rattle.nona_tree.specs.Smallness.{stmt_size, stmt_nesting}
use Rattle.nona_code.specs.Machine.{first_hidden, places}

-- a statement whose names have their ids where so many scalars are visible, that assigns no index of a loop, whose numbers
-- have 64 bits, and that is small: none of its ids is that of a hidden scalar, and there is one for each loop in another
pub record HasCode (s : Stmt) : Type 0 where
  pub depth : ℕ
  pub arrays : ℕ
  pub scoped : IsScoped s depth arrays
  pub few : depth + stmt_size s ≤ first_hidden
  pub nested : stmt_nesting s ≤ places
  pub steady : IsSteady s []
  pub numbers : IsI64Stmt s

-- each statement at the top of a loop's body has code
abbrev pub BodyHasCode : Loop → Type 0
BodyHasCode l = All HasCode l.body
