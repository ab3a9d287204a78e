-- What the guard of a loop asks.
use Rattle.std.specs.Prelude.{ℕ, Bool, if◌then◌else◌, List, [], ◌∷◌, ◌++◌, Some, None}
use Rattle.std.specs.declared.option.Option.{Option}
use Rattle.nona_tree.specs.declared.trees.Access.{Access}
use Rattle.nona_tree.specs.declared.trees.Expr.{Expr, Cell', Neg', Not', Binary', more_of-Expr, end_of-Expr}
use Rattle.nona_tree.specs.declared.trees.Expr.TheBlock.{more_of-Access, end_of-Access}
use Rattle.nona_tree.specs.declared.trees.Stmt.{Stmt, Let, Set, Fold, Put, FoldPut, If', While', For', Print, Row_of-Stmt, end_of-Stmt, more_of-Stmt}
use Rattle.nona_forms.specs.Affine.{Affine, form_of}
use Rattle.nona_guard.specs.declared.checks.Check.{Check, Place, Turns}

-- an access: its form is asked for where it isn't wrapped
abbrev pub asked_place : ℕ → Bool → Expr → List ℕ → Check
asked_place array wrap index names = Place array wrap (if wrap then None else form_of index names)

-- what is asked of an expression, of an access that is written
abbrev pub asked_expr : Expr → List ℕ → List Check
asked_expr (Cell' p (more_of-Access array wrap index end_of-Access)) names = asked_place array.id wrap index names ∷ asked_expr index names
asked_expr (Neg' p (more_of-Expr e end_of-Expr)) names = asked_expr e names
asked_expr (Not' p (more_of-Expr e end_of-Expr)) names = asked_expr e names
asked_expr (Binary' o at p (more_of-Expr left end_of-Expr) q (more_of-Expr right end_of-Expr)) names = asked_expr left names ++ asked_expr right names
asked_expr _ names = []

abbrev pub asked_cell : Access → List ℕ → List Check
asked_cell c names = asked_place c.array.id c.wrap c.index names ∷ asked_expr c.index names

-- an inner loop whose bounds have forms
abbrev pub asked_loop : ℕ → Option Affine → Option Affine → List Check → List Check
asked_loop id (Some f) (Some g) body = Turns id f g body ∷ []
asked_loop id _ _ body = []

abbrev mutual
  -- what is asked of a statement
  pub asked : Stmt → List ℕ → List Check
  asked (Let x e) names = asked_expr e names
  asked (Set x e) names = asked_expr e names
  asked (Fold x f e) names = asked_expr e names
  asked (Put c e) names = asked_cell c names ++ asked_expr e names
  asked (FoldPut c f e) names = asked_cell c names ++ asked_expr e names
  asked (If' test p then_part q else_part) names = asked_expr test names ++ (asked_row then_part names ++ asked_row else_part names)
  asked (While' test p body at) names = []
  asked (For' x low high p body seq at) names = asked_loop x.id (form_of low names) (form_of high names) (asked_row body (x.id ∷ names))
  asked (Print e at) names = asked_expr e names

  -- the same of one statement after another
  pub asked_row : {k : _} → Row_of-Stmt k → List ℕ → List Check
  asked_row end_of-Stmt names = []
  asked_row (more_of-Stmt s rest) names = asked s names ++ asked_row rest names

-- the same of one statement after another
abbrev pub asked_all : List Stmt → List ℕ → List Check
asked_all [] names = []
asked_all (s ∷ rest) names = asked s names ++ asked_all rest names
