-- The seven faults of a program, each with its place. They look at the texts of names and at places, and never at ids.
use Rattle.std.specs.Prelude.{◌≡◌, ◌⊎◌, ℕ, zero, suc, ◌+◌, ◌<◌, ◌≤◌, Bool, true, false, if◌then◌else◌, nat_le, List, [], ◌∷◌, ◌++◌, Contains}
use Rattle.std.specs.Str.{bytes_eq}
use Rattle.nona_tree.specs.declared.limits.TheConstants.{CELLS}
use Rattle.nona_tree.specs.declared.faults.ProgramFault.{ProgramFault}
use Rattle.nona_tree.specs.declared.faults.ProgramFault.TheVariants.{Unknown, Twice, KindWrong, IndexAssigned, InputWritten, Cells, Units}
use Rattle.nona_tree.specs.declared.names.Use.{Use}
use Rattle.nona_tree.specs.declared.trees.Access.{Access}
use Rattle.nona_tree.specs.declared.trees.Expr.{Expr, Number, Scalar, Cell', Len, Neg', Not', Binary', more_of-Expr, end_of-Expr}
use Rattle.nona_tree.specs.declared.trees.Expr.TheBlock.{more_of-Access, end_of-Access}
use Rattle.nona_tree.specs.declared.trees.Stmt.{Stmt, Let, Set, Fold, Put, FoldPut, If', While', For', Print, Row_of-Stmt, end_of-Stmt, more_of-Stmt}
use Rattle.nona_tree.specs.declared.trees.Program.{Program}
use Rattle.nona_tree.specs.Names.{is_index, unit_bound}
use Rattle.nona_tree.specs.Run.{count_of}
use Rattle.nona_tree.specs.Seen.{Seen, input_name, seen_first, is_scalar, is_array, is_seen, with_scalar, seen_after, Declaration, array_decl, var_decl, declarations, declared_name, seen_behind, seen_by_body}

-- a fault, where a test says that it stands
abbrev pub fault_where : Bool → ProgramFault → List ProgramFault
fault_where true fault = fault ∷ []
fault_where false fault = []

-- a name that stands for a scalar, or for an array, is none, or one of the other kind
abbrev pub use_faults : Bool → Bool → ℕ → List ProgramFault
use_faults true other at = []
use_faults false true at = KindWrong at ∷ []
use_faults false false at = Unknown at ∷ []

-- the faults of a name that stands for a scalar
abbrev pub scalar_faults : Use → Seen → List ProgramFault
scalar_faults x seen = use_faults (is_scalar x.text seen) (is_array x.text seen) x.at

-- the faults of a name that stands for an array
abbrev pub array_faults : Use → Seen → List ProgramFault
array_faults x seen = use_faults (is_array x.text seen) (is_scalar x.text seen) x.at

-- the faults of a name that is assigned
abbrev pub target_faults : Use → Seen → List ProgramFault
target_faults x seen = scalar_faults x seen ++ fault_where (is_index x.text seen.scalars) (IndexAssigned x.at)

-- the faults of the name of an array of which a cell is written
abbrev pub written_faults : Use → Seen → List ProgramFault
written_faults x seen = array_faults x seen ++ fault_where (bytes_eq x.text input_name) (InputWritten x.at)

-- the faults of a name that is declared
abbrev pub new_faults : Use → Seen → List ProgramFault
new_faults x seen = fault_where (is_seen x.text seen) (Twice x.at)

-- the faults of an expression
abbrev pub expr_faults : Expr → Seen → List ProgramFault
expr_faults (Number v) seen = []
expr_faults (Scalar x) seen = scalar_faults x seen
expr_faults (Cell' p (more_of-Access array wrap index end_of-Access)) seen = array_faults array seen ++ expr_faults index seen
expr_faults (Len x) seen = array_faults x seen
expr_faults (Neg' p (more_of-Expr e end_of-Expr)) seen = expr_faults e seen
expr_faults (Not' p (more_of-Expr e end_of-Expr)) seen = expr_faults e seen
expr_faults (Binary' op at p (more_of-Expr left end_of-Expr) q (more_of-Expr right end_of-Expr)) seen =
    expr_faults left seen ++ expr_faults right seen

-- the faults of a cell that is written
abbrev pub place_faults : Access → Seen → List ProgramFault
place_faults c seen = written_faults c.array seen ++ expr_faults c.index seen

-- how many statements stand in a block
abbrev pub row_length : {k : _} → Row_of-Stmt k → ℕ
row_length end_of-Stmt = 0
row_length (more_of-Stmt s rest) = suc (row_length rest)

-- the fault of a for at this place whose body has too many units
abbrev pub units_faults : Bool → ℕ → ℕ → List ProgramFault
units_faults true count at = []
units_faults false count at = if nat_le count unit_bound then [] else Units at ∷ []

abbrev mutual
  -- the faults of a statement. What a for declares is visible in its block alone
  pub stmt_faults : Stmt → Seen → List ProgramFault
  stmt_faults (Let x e) seen = new_faults x seen ++ expr_faults e seen
  stmt_faults (Set x e) seen = target_faults x seen ++ expr_faults e seen
  stmt_faults (Fold x f e) seen = target_faults x seen ++ expr_faults e seen
  stmt_faults (Put c e) seen = place_faults c seen ++ expr_faults e seen
  stmt_faults (FoldPut c f e) seen = place_faults c seen ++ expr_faults e seen
  stmt_faults (If' test p then_part q else_part) seen =
      expr_faults test seen ++ row_faults then_part seen ++ row_faults else_part seen
  stmt_faults (While' test p body at) seen = expr_faults test seen ++ row_faults body seen
  stmt_faults (For' x low high p body seq at) seen =
      units_faults seq (row_length body) at ++ new_faults x seen ++ expr_faults low seen ++ expr_faults high seen ++ row_faults body (with_scalar x.text true seen)
  stmt_faults (Print e at) seen = expr_faults e seen

  -- the faults of one statement after another
  pub row_faults : {k : _} → Row_of-Stmt k → Seen → List ProgramFault
  row_faults end_of-Stmt seen = []
  row_faults (more_of-Stmt s rest) seen = stmt_faults s seen ++ row_faults rest (seen_after s seen)

-- the faults of one statement after another
abbrev pub all_faults : List Stmt → Seen → List ProgramFault
all_faults [] seen = []
all_faults (s ∷ rest) seen = stmt_faults s seen ++ all_faults rest (seen_after s seen)

-- the most cells that the arrays of a program have together
abbrev pub cell_bound : ℕ
cell_bound = CELLS

-- how many cells a declaration asks for
abbrev pub cells_in : Declaration → ℕ
cells_in (array_decl a) = count_of a.cells
cells_in (var_decl v) = 0

-- whether an array may not have so many cells, where there are so many with its own
abbrev pub are_wrong : ℕ → ℕ → Bool
are_wrong zero total = true
are_wrong (suc k) total = if nat_le total cell_bound then false else true

-- the fault of a declaration's cells, where there are so many with its own
abbrev pub cells_faults : Declaration → ℕ → List ProgramFault
cells_faults (array_decl a) total = fault_where (are_wrong (count_of a.cells) total) (Cells a.cells_at)
cells_faults (var_decl v) total = []

-- the faults of declarations, where so many cells were declared before them
abbrev pub declarations_faults : List Declaration → Seen → ℕ → List ProgramFault
declarations_faults [] seen cells = []
declarations_faults (d ∷ rest) seen cells =
    new_faults (declared_name d) seen ++ cells_faults d (cells + cells_in d) ++ declarations_faults rest (seen_behind d seen) (cells + cells_in d)

-- all faults of a program, in the order of its text
abbrev pub faults_of : Program → List ProgramFault
faults_of p = declarations_faults (declarations p.arrays p.vars) seen_first 0 ++ all_faults p.body (seen_by_body p)

-- a fault stands in a program
abbrev pub Stands : ProgramFault → Program → Type 0
Stands fault p = Contains (faults_of p) fault

-- the place of a fault
abbrev pub place_of_fault : ProgramFault → ℕ
place_of_fault (Unknown at) = at
place_of_fault (Twice at) = at
place_of_fault (KindWrong at) = at
place_of_fault (IndexAssigned at) = at
place_of_fault (InputWritten at) = at
place_of_fault (Cells at) = at
place_of_fault (Units at) = at

-- the number of a fault's kind: at one place the kind with the least one counts
abbrev pub rank_of : ProgramFault → ℕ
rank_of (Unknown at) = 1
rank_of (Twice at) = 2
rank_of (KindWrong at) = 3
rank_of (IndexAssigned at) = 4
rank_of (InputWritten at) = 5
rank_of (Cells at) = 6
rank_of (Units at) = 7

-- a fault stands before another one, or they are the same
abbrev pub IsNoLater : ProgramFault → ProgramFault → Type 0
IsNoLater f g =
    (place_of_fault f < place_of_fault g) ⊎ ((place_of_fault f ≡ place_of_fault g) × (rank_of f ≤ rank_of g))

-- the first fault of a program: it stands, and none that stands is before it
abbrev pub IsFirstFault : ProgramFault → Program → Type 0
IsFirstFault fault p = Stands fault p × ((other : ProgramFault) → Stands other p → IsNoLater fault other)
