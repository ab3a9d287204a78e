-- The ids of all names of a program. A name has the id of what it names, and 0 where it names nothing that is visible.
use Rattle.std.specs.Prelude.{ℕ, ◌+◌, true, List, [], ◌∷◌, length, None, Some}
use Rattle.std.specs.declared.option.Option.{Option}
use Rattle.nona_tree.specs.declared.names.Use.{Use}
use Rattle.nona_tree.specs.declared.trees.Access.{Access}
use Rattle.nona_tree.specs.declared.trees.Expr.{Expr, Number, Scalar, Cell', Cell, Len, Neg', Neg, Not', Not, Binary', Binary, more_of-Expr, end_of-Expr}
use Rattle.nona_tree.specs.declared.trees.Expr.TheBlock.{more_of-Access, end_of-Access}
use Rattle.nona_tree.specs.declared.trees.Stmt.{Stmt, Let, Set, Fold, Put, FoldPut, If', If, While', While, For', For, Print, Row_of-Stmt, end_of-Stmt, more_of-Stmt}
use Rattle.nona_tree.specs.declared.trees.ArrayDecl.{ArrayDecl}
use Rattle.nona_tree.specs.declared.trees.VarDecl.{VarDecl}
use Rattle.nona_tree.specs.declared.trees.Program.{Program}
use Rattle.nona_tree.specs.Seen.{Seen, scalar_id, array_id, with_scalar, seen_after, seen_by_body}

-- an id, or 0 where there is none
abbrev pub or_zero : Option ℕ → ℕ
or_zero (Some id) = id
or_zero None = 0

-- a name with this id
abbrev pub with_id : Use → ℕ → Use
with_id x id = record x { id = id }

-- a name that is used as a scalar, with its id
abbrev pub scalar_ids : Use → Seen → Use
scalar_ids x seen = with_id x (or_zero (scalar_id x.text seen))

-- a name that is used as an array, with its id
abbrev pub array_ids : Use → Seen → Use
array_ids x seen = with_id x (or_zero (array_id x.text seen))

-- a scalar's name where it is declared, with its id: the number of the scalars that are visible there
abbrev pub new_ids : Use → Seen → Use
new_ids x seen = with_id x (length seen.scalars)

-- an expression with its ids
abbrev pub expr_ids : Expr → Seen → Expr
expr_ids (Number v) seen = Number v
expr_ids (Scalar x) seen = Scalar (scalar_ids x seen)
expr_ids (Cell' p (more_of-Access array wrap index end_of-Access)) seen =
    Cell (record { array = array_ids array seen; wrap = wrap; index = expr_ids index seen })
expr_ids (Len x) seen = Len (array_ids x seen)
expr_ids (Neg' p (more_of-Expr e end_of-Expr)) seen = Neg (expr_ids e seen)
expr_ids (Not' p (more_of-Expr e end_of-Expr)) seen = Not (expr_ids e seen)
expr_ids (Binary' op at p (more_of-Expr left end_of-Expr) q (more_of-Expr right end_of-Expr)) seen =
    Binary op at (expr_ids left seen) (expr_ids right seen)

-- an access with its ids
abbrev pub access_ids : Access → Seen → Access
access_ids c seen = record { array = array_ids c.array seen; wrap = c.wrap; index = expr_ids c.index seen }

abbrev mutual
  -- a statement with its ids
  pub stmt_ids : Stmt → Seen → Stmt
  stmt_ids (Let x e) seen = Let (new_ids x seen) (expr_ids e seen)
  stmt_ids (Set x e) seen = Set (scalar_ids x seen) (expr_ids e seen)
  stmt_ids (Fold x f e) seen = Fold (scalar_ids x seen) f (expr_ids e seen)
  stmt_ids (Put c e) seen = Put (access_ids c seen) (expr_ids e seen)
  stmt_ids (FoldPut c f e) seen = FoldPut (access_ids c seen) f (expr_ids e seen)
  stmt_ids (If' test p then_part q else_part) seen =
      If (expr_ids test seen) (row_ids then_part seen) (row_ids else_part seen)
  stmt_ids (While' test p body at) seen = While (expr_ids test seen) (row_ids body seen) at
  stmt_ids (For' x low high p body seq at) seen =
      For (record { index = new_ids x seen; low = expr_ids low seen; high = expr_ids high seen; body = row_ids body (with_scalar x.text true seen); seq = seq; at = at })
  stmt_ids (Print e at) seen = Print (expr_ids e seen) at

  -- one statement after another, with their ids
  pub row_ids : {k : _} → Row_of-Stmt k → Seen → List Stmt
  row_ids end_of-Stmt seen = []
  row_ids (more_of-Stmt s rest) seen = stmt_ids s seen ∷ row_ids rest (seen_after s seen)

-- one statement after another, with their ids
abbrev pub all_ids : List Stmt → Seen → List Stmt
all_ids [] seen = []
all_ids (s ∷ rest) seen = stmt_ids s seen ∷ all_ids rest (seen_after s seen)

-- arrays with their ids in text order from this one on
abbrev pub arrays_ids : List ArrayDecl → ℕ → List ArrayDecl
arrays_ids [] id = []
arrays_ids (a ∷ rest) id = record a { name = with_id a.name id } ∷ arrays_ids rest (id + 1)

-- variables with their ids in text order from this one on
abbrev pub vars_ids : List VarDecl → ℕ → List VarDecl
vars_ids [] id = []
vars_ids (v ∷ rest) id = record v { name = with_id v.name id } ∷ vars_ids rest (id + 1)

-- a program with its ids: the input is array 0, and the declared arrays follow from 1
abbrev pub ids_of : Program → Program
ids_of p =
    record { arrays = arrays_ids p.arrays 1; vars = vars_ids p.vars 0; body = all_ids p.body (seen_by_body p) }
