-- What a statement needs of the store around it.
use Rattle.std.specs.Prelude.{◌≡◌, ◌≢◌, ℕ, ◌+◌, ◌<◌, Bool, true, false, if◌then◌else◌, List, [], ◌∷◌, All}
use Rattle.nona_tree.specs.declared.trees.Access.{Access}
use Rattle.nona_tree.specs.declared.trees.Expr.{Expr, Number, Scalar, Cell', Len, Neg', Not', Binary', more_of-Expr, end_of-Expr}
use Rattle.nona_tree.specs.declared.trees.Expr.TheBlock.{more_of-Access, end_of-Access}
use Rattle.nona_tree.specs.declared.trees.Stmt.{Stmt, Let, Set, Fold, Put, FoldPut, If', While', For', Print, Row_of-Stmt, end_of-Stmt, more_of-Stmt}

-- each scalar that an expression names has an id below depth, and each array one below arrays
abbrev pub IsNamed : Expr → ℕ → ℕ → Type 0
IsNamed (Number v) depth arrays = Unit {0}
IsNamed (Scalar x) depth arrays = x.id < depth
IsNamed (Cell' p (more_of-Access array wrap index end_of-Access)) depth arrays =
    (array.id < arrays) × IsNamed index depth arrays
IsNamed (Len a) depth arrays = a.id < arrays
IsNamed (Neg' p (more_of-Expr e end_of-Expr)) depth arrays = IsNamed e depth arrays
IsNamed (Not' p (more_of-Expr e end_of-Expr)) depth arrays = IsNamed e depth arrays
IsNamed (Binary' op at p (more_of-Expr left end_of-Expr) q (more_of-Expr right end_of-Expr)) depth arrays =
    IsNamed left depth arrays × IsNamed right depth arrays

-- the same of an access
abbrev pub IsCellNamed : Access → ℕ → ℕ → Type 0
IsCellNamed c depth arrays = (c.array.id < arrays) × IsNamed c.index depth arrays

-- whether a statement declares a scalar where it stands
abbrev pub is_let : Stmt → Bool
is_let (Let x e) = true
is_let _ = false

-- how many scalars are visible after a statement, where depth are before it
abbrev pub depth_after : Stmt → ℕ → ℕ
depth_after s depth = if is_let s then depth + 1 else depth

-- how many scalars are visible after one statement after another
abbrev pub depth_after_all : List Stmt → ℕ → ℕ
depth_after_all [] depth = depth
depth_after_all (s ∷ rest) depth = depth_after_all rest (depth_after s depth)

abbrev mutual
  -- a statement names scalars that are among depth and arrays that are among arrays, and whatever it declares,
  -- the index of a loop included, has the number of the scalars that are visible there as its id
  pub IsScoped : Stmt → ℕ → ℕ → Type 0
  IsScoped (Let x e) depth arrays = (x.id ≡ depth) × IsNamed e depth arrays
  IsScoped (Set x e) depth arrays = (x.id < depth) × IsNamed e depth arrays
  IsScoped (Fold x f e) depth arrays = (x.id < depth) × IsNamed e depth arrays
  IsScoped (Put c e) depth arrays = IsCellNamed c depth arrays × IsNamed e depth arrays
  IsScoped (FoldPut c f e) depth arrays = IsCellNamed c depth arrays × IsNamed e depth arrays
  IsScoped (If' test p then_part q else_part) depth arrays =
      IsNamed test depth arrays × IsRowScoped then_part depth arrays × IsRowScoped else_part depth arrays
  IsScoped (While' test p body at) depth arrays = IsNamed test depth arrays × IsRowScoped body depth arrays
  IsScoped (For' x low high p body seq at) depth arrays =
      (x.id ≡ depth) × IsNamed low depth arrays × IsNamed high depth arrays × IsRowScoped body (depth + 1) arrays
  IsScoped (Print e at) depth arrays = IsNamed e depth arrays

  -- the same of one statement after another
  pub IsRowScoped : {k : _} → Row_of-Stmt k → ℕ → ℕ → Type 0
  IsRowScoped end_of-Stmt depth arrays = Unit {0}
  IsRowScoped (more_of-Stmt s rest) depth arrays = IsScoped s depth arrays × IsRowScoped rest (depth_after s depth) arrays

-- the same of one statement after another
abbrev pub AreScoped : List Stmt → ℕ → ℕ → Type 0
AreScoped [] depth arrays = Unit {0}
AreScoped (s ∷ rest) depth arrays = IsScoped s depth arrays × AreScoped rest (depth_after s depth) arrays

abbrev mutual
  -- a statement assigns none of the scalars with these ids, and no index of a loop in it
  pub IsSteady : Stmt → List ℕ → Type 0
  IsSteady (Set x e) indices = All (λ i. x.id ≢ i) indices
  IsSteady (Fold x f e) indices = All (λ i. x.id ≢ i) indices
  IsSteady (If' test p then_part q else_part) indices = IsRowSteady then_part indices × IsRowSteady else_part indices
  IsSteady (While' test p body at) indices = IsRowSteady body indices
  IsSteady (For' x low high p body seq at) indices = IsRowSteady body (x.id ∷ indices)
  IsSteady _ indices = Unit {0}

  -- the same of one statement after another
  pub IsRowSteady : {k : _} → Row_of-Stmt k → List ℕ → Type 0
  IsRowSteady end_of-Stmt indices = Unit {0}
  IsRowSteady (more_of-Stmt s rest) indices = IsSteady s indices × IsRowSteady rest indices

-- the same of one statement after another
abbrev pub AreSteady : List Stmt → List ℕ → Type 0
AreSteady [] indices = Unit {0}
AreSteady (s ∷ rest) indices = IsSteady s indices × AreSteady rest indices
