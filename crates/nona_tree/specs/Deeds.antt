-- What a run reads, writes, folds and prints, in order.
use Rattle.std.specs.Prelude.{◌≡◌, ◌≢◌, ℕ, if◌then◌else◌, List, [], ◌∷◌, ◌++◌, length, min}
use Rattle.std.specs.Int.{int_gap}
use Rattle.nona_num.specs.declared.folds.Fold.{Fold}
use Rattle.nona_tree.specs.declared.trees.Expr.{Expr, Number, Scalar, Cell', Len, Neg', Not', Binary', more_of-Expr, end_of-Expr}
use Rattle.nona_tree.specs.declared.trees.Expr.TheBlock.{more_of-Access, end_of-Access}
use Rattle.nona_tree.specs.declared.trees.Access.{Access}
use Rattle.nona_tree.specs.declared.trees.Stmt.{Stmt, Let, Set, Fold as FoldInto, Put, FoldPut, If', While', For', Print, Row_of-Stmt, end_of-Stmt, more_of-Stmt}
use Rattle.nona_tree.specs.Memory.{Memory, scalar_at, cells_of, cell_at, declare}
use Rattle.nona_tree.specs.Value.{is_zero, value_of, cell_of}
use Rattle.nona_tree.specs.Run.{run, run_row, block, turn}
use Rattle.nona_tree.specs.Beside.{on_ok, on_done, while_gives, first_give}

-- one deed: to read, set or fold the scalar with this id, to load, store or join the cell of this array at this place,
-- or to print; an `op=` folds a scalar and joins a cell, and doesn't read it besides
pub data Deed : Type 0 where
  reads : ℕ → Deed
  sets : ℕ → Deed
  folds : Fold → ℕ → Deed
  loads : ℕ → ℕ → Deed
  stores : ℕ → ℕ → Deed
  joins : Fold → ℕ → ℕ → Deed
  prints : Deed

-- what the value of an expression reads and loads, up to its trap
abbrev pub value_deeds : Expr → Memory → List Deed
value_deeds (Number v) m = []
value_deeds (Scalar x) m = reads x.id ∷ []
value_deeds (Cell' p (more_of-Access array wrap index end_of-Access)) m =
    value_deeds index m ++ on_ok (cell_of (record { array = array; wrap = wrap; index = index }) m) (λ place. loads array.id place ∷ [])
value_deeds (Len a) m = []
value_deeds (Neg' p (more_of-Expr e end_of-Expr)) m = value_deeds e m
value_deeds (Not' p (more_of-Expr e end_of-Expr)) m = value_deeds e m
value_deeds (Binary' op at p (more_of-Expr left end_of-Expr) q (more_of-Expr right end_of-Expr)) m =
    value_deeds left m ++ on_ok (value_of left m) (λ v. value_deeds right m)

-- an expression's deeds, and then a deed where it has a value
abbrev pub value_then : Expr → Memory → Deed → List Deed
value_then e m deed = value_deeds e m ++ on_ok (value_of e m) (λ v. deed ∷ [])

-- the deeds of naming a cell, then those of an expression, and then a deed on that cell
abbrev pub cell_then : Access → Expr → Memory → (ℕ → Deed) → List Deed
cell_then c e m deed = value_deeds c.index m ++ on_ok (cell_of c m) (λ place. value_then e m (deed place))

abbrev mutual
  -- the deeds of a statement's run, in order; to declare a scalar is none
  pub deeds : Stmt → ℕ → Memory → List Deed
  deeds (Let x e) n m = value_deeds e m
  deeds (Set x e) n m = value_then e m (sets x.id)
  deeds (FoldInto x f e) n m = value_then e m (folds f x.id)
  deeds (Put c e) n m = cell_then c e m (stores c.array.id)
  deeds (FoldPut c f e) n m = cell_then c e m (joins f c.array.id)
  deeds (If' test p then_part q else_part) n m =
      value_deeds test m ++ on_ok (value_of test m) (λ v. if is_zero v then deeds_row else_part n m else deeds_row then_part n m)
  deeds (While' test p body at) n m =
      while_gives (value_of test) (value_deeds test) (block (run_row body n)) (deeds_row body n) n m
  deeds (For' x low high p body seq at) n m =
      value_deeds low m ++ on_ok (value_of low m) (λ a. value_deeds high m ++ on_ok (value_of high m) (λ b. first_give (turn (run_row body n)) (λ i k. deeds_row body n (declare i k)) a (min (int_gap a b) n) m))
  deeds (Print e at) n m = value_then e m prints

  -- the same of one statement after another
  pub deeds_row : {k : _} → Row_of-Stmt k → ℕ → Memory → List Deed
  deeds_row end_of-Stmt n m = []
  deeds_row (more_of-Stmt s rest) n m = deeds s n m ++ on_done (run s n m) (deeds_row rest n)

-- the same of one statement after another
abbrev pub deeds_all : List Stmt → ℕ → Memory → List Deed
deeds_all [] n m = []
deeds_all (s ∷ rest) n m = deeds s n m ++ on_done (run s n m) (deeds_all rest n)

-- a deed that doesn't change the scalar with this id
abbrev pub SparesScalar : ℕ → Deed → Type 0
SparesScalar id (sets x) = x ≢ id
SparesScalar id (folds f x) = x ≢ id
SparesScalar id _ = Unit {0}

-- a deed that doesn't change the cell of this array at this place
abbrev pub SparesCell : ℕ → ℕ → Deed → Type 0
SparesCell array place (stores a p) = a ≡ array → p ≢ place
SparesCell array place (joins f a p) = a ≡ array → p ≢ place
SparesCell array place _ = Unit {0}

-- a deed that doesn't print
abbrev pub SparesPrinted : Deed → Type 0
SparesPrinted prints = ⊥
SparesPrinted _ = Unit {0}

-- a deed that reads or loads the same number in both stores
abbrev pub SeesSame : Memory → Memory → Deed → Type 0
SeesSame m k (reads x) = scalar_at k x ≡ scalar_at m x
SeesSame m k (loads a p) = cell_at k a p ≡ cell_at m a p
SeesSame m k _ = Unit {0}

-- the arrays of two stores have the same lengths
abbrev pub SameSizes : Memory → Memory → Type 0
SameSizes m k = (array : ℕ) → length (cells_of k array) ≡ length (cells_of m array)
