-- Which scalars statements name, and which of them are reductions; and whether statements print.
use Rattle.std.specs.Prelude.{ℕ, ◌==◌, Bool, true, false, ◌||◌, if◌then◌else◌, nat_lt, List, [], ◌∷◌, ◌++◌, filter, Some, None}
use Rattle.std.specs.List.{list_all}
use Rattle.std.specs.declared.option.Option.{Option}
use Rattle.nona_num.specs.declared.folds.Fold.{Fold as By}
use Rattle.nona_num.specs.declared.folds.Fold.TheVariants as fold
use Rattle.nona_plans.specs.declared.graphs.Mention.{Mention}
use Rattle.nona_tree.specs.declared.trees.Expr.{Expr, Scalar, Cell', Neg', Not', Binary', more_of-Expr, end_of-Expr}
use Rattle.nona_tree.specs.declared.trees.Expr.TheBlock.{more_of-Access, end_of-Access}
use Rattle.nona_tree.specs.declared.trees.Loop.{Loop}
use Rattle.nona_tree.specs.declared.trees.Stmt.{Stmt, Let, Set, Fold, Put, FoldPut, If', While', For', Print, Row_of-Stmt, end_of-Stmt, more_of-Stmt}

-- a place where a scalar is named otherwise than on the left of a fold
abbrev pub plainly : ℕ → Mention
plainly id = record { id = id; by = None }

-- the scalars that an expression names
abbrev pub expr_mentions : Expr → List Mention
expr_mentions (Scalar x) = plainly x.id ∷ []
expr_mentions (Cell' p (more_of-Access array wrap index end_of-Access)) = expr_mentions index
expr_mentions (Neg' p (more_of-Expr e end_of-Expr)) = expr_mentions e
expr_mentions (Not' p (more_of-Expr e end_of-Expr)) = expr_mentions e
expr_mentions (Binary' o at p (more_of-Expr left end_of-Expr) q (more_of-Expr right end_of-Expr)) =
    expr_mentions left ++ expr_mentions right
expr_mentions _ = []

abbrev mutual
  -- the scalars that a statement names; to declare one is to name it
  pub mentions : Stmt → List Mention
  mentions (Let x e) = plainly x.id ∷ expr_mentions e
  mentions (Set x e) = plainly x.id ∷ expr_mentions e
  mentions (Fold x f e) = record { id = x.id; by = Some f } ∷ expr_mentions e
  mentions (Put c e) = expr_mentions c.index ++ expr_mentions e
  mentions (FoldPut c f e) = expr_mentions c.index ++ expr_mentions e
  mentions (If' test p then_part q else_part) = expr_mentions test ++ (mentions_row then_part ++ mentions_row else_part)
  mentions (While' test p body at) = expr_mentions test ++ mentions_row body
  mentions (For' x low high p body seq at) =
      plainly x.id ∷ (expr_mentions low ++ (expr_mentions high ++ mentions_row body))
  mentions (Print e at) = expr_mentions e

  -- the same of one statement after another
  pub mentions_row : {k : _} → Row_of-Stmt k → List Mention
  mentions_row end_of-Stmt = []
  mentions_row (more_of-Stmt s rest) = mentions s ++ mentions_row rest

-- the same of one statement after another
abbrev pub mentions_all : List Stmt → List Mention
mentions_all [] = []
mentions_all (s ∷ rest) = mentions s ++ mentions_all rest

-- whether two folds are the same
abbrev pub same_fold : By → By → Bool
same_fold fold.Add fold.Add = true
same_fold fold.Mul fold.Mul = true
same_fold fold.And fold.And = true
same_fold fold.Or fold.Or = true
same_fold fold.Xor fold.Xor = true
same_fold fold.Min fold.Min = true
same_fold fold.Max fold.Max = true
same_fold _ _ = false

-- whether a mention is the left side of an assignment by this fold
abbrev pub is_fold : By → Option By → Bool
is_fold f None = false
is_fold f (Some g) = same_fold f g

abbrev pub is_by : By → Mention → Bool
is_by f m = is_fold f m.by

-- the fold by which alone these mentions use a scalar, if there is one
abbrev pub fold_if : Option By → List Mention → Option By
fold_if None ms = None
fold_if (Some f) ms = if list_all (is_by f) ms then Some f else None

abbrev pub only_fold : List Mention → Option By
only_fold [] = None
only_fold (m ∷ ms) = fold_if m.by ms

-- the fold of a reduction: a scalar that is declared outside a loop, and that its body names as the left side of that fold alone
abbrev pub reduction_of : Loop → ℕ → Option By
reduction_of l id =
    if nat_lt id l.index.id then only_fold (filter (λ m. m.id == id) (mentions_all l.body)) else None

abbrev mutual
  -- whether a statement has a print
  pub prints : Stmt → Bool
  prints (If' test p then_part q else_part) = prints_row then_part || prints_row else_part
  prints (While' test p body at) = prints_row body
  prints (For' x low high p body seq at) = prints_row body
  prints (Print e at) = true
  prints _ = false

  -- the same of one statement after another
  pub prints_row : {k : _} → Row_of-Stmt k → Bool
  prints_row end_of-Stmt = false
  prints_row (more_of-Stmt s rest) = prints s || prints_row rest
