-- The fold arrays of a loop, whose cells its body names only on the left of one fold; and a store with copies of them.
use Rattle.std.specs.Prelude.{ℕ, ◌==◌, List, [], ◌∷◌, ◌++◌, map, filter, slice_set, Some, None}
use Rattle.std.specs.declared.option.Option.{Option}
use Rattle.nona_num.specs.declared.folds.Fold.{Fold as By}
use Rattle.nona_num.specs.Folds.{unit_of}
use Rattle.nona_tree.specs.declared.trees.Expr.{Expr, Cell', Neg', Not', Binary', more_of-Expr, end_of-Expr}
use Rattle.nona_tree.specs.declared.trees.Expr.TheBlock.{more_of-Access, end_of-Access}
use Rattle.nona_tree.specs.declared.trees.Loop.{Loop}
use Rattle.nona_tree.specs.declared.trees.Stmt.{Stmt, Let, Set, Fold, Put, FoldPut, If', While', For', Print, Row_of-Stmt, end_of-Stmt, more_of-Stmt}
use Rattle.nona_tree.specs.Memory.{Memory, cells_of}
use Rattle.nona_plans.specs.declared.graphs.Mention.{Mention}
use Rattle.nona_plans.specs.Mentions.{plainly, only_fold}

-- the arrays of which an expression names a cell, each of them otherwise than on the left of a fold
abbrev pub expr_cell_mentions : Expr → List Mention
expr_cell_mentions (Cell' p (more_of-Access array wrap index end_of-Access)) = plainly array.id ∷ expr_cell_mentions index
expr_cell_mentions (Neg' p (more_of-Expr e end_of-Expr)) = expr_cell_mentions e
expr_cell_mentions (Not' p (more_of-Expr e end_of-Expr)) = expr_cell_mentions e
expr_cell_mentions (Binary' o at p (more_of-Expr left end_of-Expr) q (more_of-Expr right end_of-Expr)) =
    expr_cell_mentions left ++ expr_cell_mentions right
expr_cell_mentions _ = []

abbrev mutual
  -- the arrays of which a statement names a cell; to ask for the length is none
  pub cell_mentions : Stmt → List Mention
  cell_mentions (Let x e) = expr_cell_mentions e
  cell_mentions (Set x e) = expr_cell_mentions e
  cell_mentions (Fold x f e) = expr_cell_mentions e
  cell_mentions (Put c e) = plainly c.array.id ∷ (expr_cell_mentions c.index ++ expr_cell_mentions e)
  cell_mentions (FoldPut c f e) = record { id = c.array.id; by = Some f } ∷ (expr_cell_mentions c.index ++ expr_cell_mentions e)
  cell_mentions (If' test p then_part q else_part) =
      expr_cell_mentions test ++ (cell_mentions_row then_part ++ cell_mentions_row else_part)
  cell_mentions (While' test p body at) = expr_cell_mentions test ++ cell_mentions_row body
  cell_mentions (For' x low high p body seq at) = expr_cell_mentions low ++ (expr_cell_mentions high ++ cell_mentions_row body)
  cell_mentions (Print e at) = expr_cell_mentions e

  -- the same of one statement after another
  pub cell_mentions_row : {k : _} → Row_of-Stmt k → List Mention
  cell_mentions_row end_of-Stmt = []
  cell_mentions_row (more_of-Stmt s rest) = cell_mentions s ++ cell_mentions_row rest

-- the same of one statement after another
abbrev pub cell_mentions_all : List Stmt → List Mention
cell_mentions_all [] = []
cell_mentions_all (s ∷ rest) = cell_mentions s ++ cell_mentions_all rest

-- the fold of a fold array: an array of which the body names cells as the left side of that fold alone
abbrev pub fold_array_of : Loop → ℕ → Option By
fold_array_of l id = only_fold (filter (λ m. m.id == id) (cell_mentions_all l.body))

-- a store in which each cell of an array has a fold's unit, where a fold is given
abbrev pub with_unit_cells : ℕ → Option By → Memory → Memory
with_unit_cells id None m = m
with_unit_cells id (Some f) m = record m { arrays = slice_set m.arrays id (map (λ v. unit_of f) (cells_of m id)) }

-- a store in which each of these arrays of a loop has its fold's unit in each cell
abbrev pub with_copies : Loop → List ℕ → Memory → Memory
with_copies l [] m = m
with_copies l (id ∷ ids) m = with_copies l ids (with_unit_cells id (fold_array_of l id) m)
