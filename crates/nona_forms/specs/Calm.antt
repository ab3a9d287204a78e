-- Which bodies are calm: nothing but an index, an empty array or the turns of an inner loop can end them early.
use Rattle.std.specs.Prelude.{ℕ, Bool, true, false, not, ◌&&◌, nat_le, if◌then◌else◌, List, [], ◌∷◌, length, is_some}
use Rattle.nona_tree.specs.declared.trees.Op.{Op}
use Rattle.nona_tree.specs.declared.trees.Op.TheVariants as op
use Rattle.nona_tree.specs.declared.trees.Access.{Access}
use Rattle.nona_tree.specs.declared.trees.Expr.{Expr, Number, Cell', Neg', Not', Binary', more_of-Expr, end_of-Expr}
use Rattle.nona_tree.specs.declared.trees.Expr.TheBlock.{more_of-Access, end_of-Access}
use Rattle.nona_tree.specs.declared.trees.Loop.{Loop}
use Rattle.nona_tree.specs.declared.trees.Stmt.{Stmt, Let, Set, Fold, Put, FoldPut, If', While', For', Print, Row_of-Stmt, end_of-Stmt, more_of-Stmt}
use Rattle.nona_tree.specs.Value.{is_zero}
use Rattle.nona_forms.specs.declared.limits.TheConstants.{ACCESSES}
use Rattle.nona_forms.specs.Affine.{form_of}
use Rattle.nona_forms.specs.References.{references_all, names_of}

-- whether an operator divides
abbrev pub is_division : Op → Bool
is_division op.Div = true
is_division op.Rem = true
is_division _ = false

-- whether an expression is a number other than 0
abbrev pub is_divisor : Expr → Bool
is_divisor (Number v) = not (is_zero v)
is_divisor _ = false

-- whether an index is wrapped or has a form
abbrev pub is_plain : Bool → Expr → List ℕ → Bool
is_plain wrap index names = if wrap then true else is_some (form_of index names)

-- whether each divisor is a number other than 0, and each index without wrap has a form
abbrev pub is_calm_expr : Expr → List ℕ → Bool
is_calm_expr (Cell' p (more_of-Access array wrap index end_of-Access)) names = is_plain wrap index names && is_calm_expr index names
is_calm_expr (Neg' p (more_of-Expr e end_of-Expr)) names = is_calm_expr e names
is_calm_expr (Not' p (more_of-Expr e end_of-Expr)) names = is_calm_expr e names
is_calm_expr (Binary' o at p (more_of-Expr left end_of-Expr) q (more_of-Expr right end_of-Expr)) names =
    (if is_division o then is_divisor right else true) && (is_calm_expr left names && is_calm_expr right names)
is_calm_expr _ names = true

-- the same of an access that is written
abbrev pub is_calm_cell : Access → List ℕ → Bool
is_calm_cell c names = is_plain c.wrap c.index names && is_calm_expr c.index names

abbrev mutual
  -- the same of a statement, which besides has no while, and inner loops whose bounds have forms
  pub is_calm_stmt : Stmt → List ℕ → Bool
  is_calm_stmt (Let x e) names = is_calm_expr e names
  is_calm_stmt (Set x e) names = is_calm_expr e names
  is_calm_stmt (Fold x f e) names = is_calm_expr e names
  is_calm_stmt (Put c e) names = is_calm_cell c names && is_calm_expr e names
  is_calm_stmt (FoldPut c f e) names = is_calm_cell c names && is_calm_expr e names
  is_calm_stmt (If' test p then_part q else_part) names =
      is_calm_expr test names && (is_calm_row then_part names && is_calm_row else_part names)
  is_calm_stmt (While' test p body at) names = false
  is_calm_stmt (For' x low high p body seq at) names =
      is_some (form_of low names) && (is_some (form_of high names) && is_calm_row body (x.id ∷ names))
  is_calm_stmt (Print e at) names = is_calm_expr e names

  -- the same of one statement after another
  pub is_calm_row : {k : _} → Row_of-Stmt k → List ℕ → Bool
  is_calm_row end_of-Stmt names = true
  is_calm_row (more_of-Stmt s rest) names = is_calm_stmt s names && is_calm_row rest names

-- the same of one statement after another
abbrev pub is_calm_all : List Stmt → List ℕ → Bool
is_calm_all [] names = true
is_calm_all (s ∷ rest) names = is_calm_stmt s names && is_calm_all rest names

-- whether a loop is calm: its body is, and has few accesses
abbrev pub is_calm : Loop → Bool
is_calm l = is_calm_all l.body (names_of l) && nat_le (length (references_all l.body)) ACCESSES
