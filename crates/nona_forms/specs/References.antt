-- The accesses of a loop's body, and the cells that each may name.
use Rattle.std.specs.Prelude.{◌≡◌, ℕ, zero, suc, Bool, true, false, if◌then◌else◌, ℤ, ◌≤ℤ◌, ◌<ℤ◌, List, [], ◌∷◌, ◌++◌, map, Ok}
use Rattle.std.specs.List.{AllByRecursion}
use Rattle.nona_tree.specs.declared.trees.Access.{Access}
use Rattle.nona_tree.specs.declared.trees.Expr.{Expr, Cell', Neg', Not', Binary', more_of-Expr, end_of-Expr}
use Rattle.nona_tree.specs.declared.trees.Expr.TheBlock.{more_of-Access, end_of-Access}
use Rattle.nona_tree.specs.declared.trees.Loop.{Loop}
use Rattle.nona_tree.specs.declared.trees.Stmt.{Stmt, Let, Set, Fold, Put, FoldPut, If', While', For', Print, Row_of-Stmt, end_of-Stmt, more_of-Stmt}
use Rattle.nona_tree.specs.Memory.{Memory, scalar_at}
use Rattle.nona_tree.specs.Value.{value_of, cell_of}
use Rattle.nona_tree.specs.Numbers.{AreI64}
use Rattle.nona_tree.specs.Deeds.{SameSizes}
use Rattle.nona_forms.specs.Affine.{among}

-- an inner loop around a place: its index and its bounds
pub record Inner : Type 0 where
  pub id : ℕ
  pub low : Expr
  pub high : Expr

-- an access, whether it writes, and the inner loops around it from outside in
pub record Reference : Type 0 where
  pub access : Access
  pub write : Bool
  pub inner : List Inner

-- the accesses of an expression in text order, which all read
abbrev pub expr_references : Expr → List Reference
expr_references (Cell' p (more_of-Access array wrap index end_of-Access)) =
    record { access = record { array = array; wrap = wrap; index = index }; write = false; inner = [] } ∷ expr_references index
expr_references (Neg' p (more_of-Expr e end_of-Expr)) = expr_references e
expr_references (Not' p (more_of-Expr e end_of-Expr)) = expr_references e
expr_references (Binary' o at p (more_of-Expr left end_of-Expr) q (more_of-Expr right end_of-Expr)) =
    expr_references left ++ expr_references right
expr_references _ = []

-- an access that writes, and those of its index
abbrev pub written_references : Access → List Reference
written_references c = record { access = c; write = true; inner = [] } ∷ expr_references c.index

-- a place inside one more loop
abbrev pub inside : Inner → Reference → Reference
inside l x = record x { inner = l ∷ x.inner }

abbrev mutual
  -- the accesses of a statement in text order
  pub references : Stmt → List Reference
  references (Let x e) = expr_references e
  references (Set x e) = expr_references e
  references (Fold x f e) = expr_references e
  references (Put c e) = written_references c ++ expr_references e
  references (FoldPut c f e) = written_references c ++ expr_references e
  references (If' test p then_part q else_part) = expr_references test ++ (references_row then_part ++ references_row else_part)
  references (While' test p body at) = expr_references test ++ references_row body
  references (For' x low high p body seq at) =
      expr_references low ++ (expr_references high ++ map (inside (record { id = x.id; low = low; high = high })) (references_row body))
  references (Print e at) = expr_references e

  -- the same of one statement after another
  pub references_row : {k : _} → Row_of-Stmt k → List Reference
  references_row end_of-Stmt = []
  references_row (more_of-Stmt s rest) = references s ++ references_row rest

-- the same of one statement after another
abbrev pub references_all : List Stmt → List Reference
references_all [] = []
references_all (s ∷ rest) = references s ++ references_all rest

abbrev mutual
  -- the ids of the scalars that a statement assigns
  pub assigned : Stmt → List ℕ
  assigned (Set x e) = x.id ∷ []
  assigned (Fold x f e) = x.id ∷ []
  assigned (If' test p then_part q else_part) = assigned_row then_part ++ assigned_row else_part
  assigned (While' test p body at) = assigned_row body
  assigned (For' x low high p body seq at) = assigned_row body
  assigned _ = []

  -- the same of one statement after another
  pub assigned_row : {k : _} → Row_of-Stmt k → List ℕ
  assigned_row end_of-Stmt = []
  assigned_row (more_of-Stmt s rest) = assigned s ++ assigned_row rest

-- the same of one statement after another
abbrev pub assigned_all : List Stmt → List ℕ
assigned_all [] = []
assigned_all (s ∷ rest) = assigned s ++ assigned_all rest

-- the numbers below n that aren't among others, from the greatest on
abbrev pub missing_below : ℕ → List ℕ → List ℕ
missing_below zero xs = []
missing_below (suc n) xs = if among n xs then missing_below n xs else n ∷ missing_below n xs

-- the invariants of a loop: the scalars that are declared outside it and not assigned in its body
abbrev pub invariants_of : Loop → List ℕ
invariants_of l = missing_below l.index.id (assigned_all l.body)

-- the scalars that may occur in the forms of a loop, outside its inner loops
abbrev pub names_of : Loop → List ℕ
names_of l = l.index.id ∷ invariants_of l

-- a scalar has this value
pub record Fixed : Type 0 where
  pub id : ℕ
  pub value : ℤ

abbrev pub HasValue : Memory → Fixed → Type 0
HasValue m x = scalar_at m x.id ≡ x.value

-- a store of 64-bit numbers whose arrays are as long as those of the entry, in which some scalars have given values
pub record IsStoreWith (entry : Memory) (fixed : List Fixed) (m : Memory) : Type 0 where
  pub numbers : AreI64 m
  pub sizes : SameSizes entry m
  pub values : AllByRecursion (HasValue m) fixed

-- the value that the scalar with this id has in the store of the entry
abbrev pub as_in : Memory → ℕ → Fixed
as_in entry id = record { id = id; value = scalar_at entry id }

-- inside these loops a run may come to a store m: each index has one of the values that its bounds allow in some store
-- that the run may be in where the loop begins, and keeps it
abbrev pub IsPossible : Memory → List Inner → List Fixed → Memory → Type 0
IsPossible entry [] fixed m = IsStoreWith entry fixed m
IsPossible entry (l ∷ inner) fixed m =
    (k : Memory) × (low : ℤ) × (high : ℤ) × (j : ℤ) × IsStoreWith entry fixed k × (value_of l.low k ≡ Ok low) × (value_of l.high k ≡ Ok high)
    × (low ≤ℤ j) × (j <ℤ high) × IsPossible entry inner (record { id = l.id; value = j } ∷ fixed) m

-- what is given in iteration i of a loop: the index and the invariants
abbrev pub given_in : Loop → Memory → ℤ → List Fixed
given_in l entry i = record { id = l.index.id; value = i } ∷ map (as_in entry) (invariants_of l)

-- an access may be evaluated in the store m in iteration i
abbrev pub IsPossibleAt : Loop → Memory → Reference → ℤ → Memory → Type 0
IsPossibleAt l entry x i m = IsPossible entry x.inner (given_in l entry i) m

-- the cells that an access of a loop may name in iteration i, for every choice of the inner indices within their
-- bounds, and whether or not it is skipped
abbrev pub Touches : Loop → Memory → Reference → ℤ → ℕ → Type 0
Touches l entry x i cell = (m : Memory) × IsPossibleAt l entry x i m × (cell_of x.access m ≡ Ok cell)
