-- The trees that were read so far, and what is made of them.
use Rattle.std.specs.Prelude.{ℕ, Bool, List, [], ◌∷◌, ◌++◌, None, Some}
use Rattle.std.specs.declared.option.Option.{Option}
use Rattle.nona_num.specs.declared.folds.Fold.{Fold}
use Rattle.nona_tree.specs.declared.names.Use.{Use}
use Rattle.nona_tree.specs.declared.trees.Op.{Op}
use Rattle.nona_tree.specs.declared.trees.Access.{Access}
use Rattle.nona_tree.specs.declared.trees.Expr.{Expr}
use Rattle.nona_tree.specs.declared.trees.Expr.TheVariants as expr
use Rattle.nona_tree.specs.declared.trees.Stmt.{Stmt}
use Rattle.nona_tree.specs.declared.trees.Stmt.TheVariants as stmt
use Rattle.nona_tree.specs.declared.trees.ArrayDecl.{ArrayDecl}
use Rattle.nona_tree.specs.declared.trees.VarDecl.{VarDecl}
use Rattle.nona_tree.specs.declared.trees.Program.{Program}

-- the newest expression, the newest place of a cell and the newest block first; the statements of a block, the arrays and the variables in order
pub record Trees : Type 0 where
  pub exprs : List Expr
  pub places : List Access
  pub blocks : List (List Stmt)
  pub arrays : List ArrayDecl
  pub vars : List VarDecl

-- what is made: a leaf, an expression of the newest or of the two newest, the place of a cell, the cell of the newest place, each
-- statement, the beginning of a block, an array, a variable
pub data Act : Type 0 where
  Leaf : Expr → Act
  Negate : Act
  Invert : Act
  Join : Op → ℕ → Act
  Reach : Use → Bool → Act
  Fetch : Act
  Bind : Use → Act
  Assign : Use → Act
  Merge : Use → Fold → Act
  Store : Option Fold → Act
  Begin : Act
  Branch : Act
  Repeat : ℕ → Act
  Each : Use → Bool → ℕ → Act
  Show : ℕ → Act
  Array : ArrayDecl → Act
  Var : VarDecl → Act

-- an expression that was read
abbrev pub push : Expr → Trees → Trees
push e v = record v { exprs = e ∷ v.exprs }

-- a block that was begun, or read to its end
abbrev pub with_block : List Stmt → Trees → Trees
with_block b v = record v { blocks = b ∷ v.blocks }

-- statements at the end of the first block
abbrev pub more_of : List (List Stmt) → List Stmt → List (List Stmt)
more_of (b ∷ bs) ss = (b ++ ss) ∷ bs
more_of [] ss = []

-- statements at the end of the newest block
abbrev pub adds : List Stmt → Trees → Trees
adds ss v = record v { blocks = more_of v.blocks ss }

-- the first expression, changed
abbrev pub one_of : (Expr → Expr) → List Expr → List Expr
one_of f (e ∷ es) = f e ∷ es
one_of f [] = []

-- one expression of the first two, of which the second was read first
abbrev pub two_of : (Expr → Expr → Expr) → List Expr → List Expr
two_of f (b ∷ a ∷ es) = f a b ∷ es
two_of f (b ∷ []) = []
two_of f [] = []

-- the place of a cell, by the newest expression
abbrev pub reach_of : Use → Bool → List Expr → Trees → Trees
reach_of u wrap (e ∷ es) v = record v { exprs = es; places = record { array = u; wrap = wrap; index = e } ∷ v.places }
reach_of u wrap [] v = v

-- the cell at the newest place
abbrev pub fetch_of : List Access → Trees → Trees
fetch_of (p ∷ ps) v = record v { exprs = expr.Cell p ∷ v.exprs; places = ps }
fetch_of [] v = v

-- a statement of the newest expression
abbrev pub makes_of : (Expr → Stmt) → List Expr → Trees → Trees
makes_of f (e ∷ es) v = record v { exprs = es; blocks = more_of v.blocks (f e ∷ []) }
makes_of f [] v = v

-- an assignment to a cell, or what a fold makes of it
abbrev pub put : Option Fold → Access → Expr → Stmt
put None p e = stmt.Put p e
put (Some f) p e = stmt.FoldPut p f e

-- the same at the newest place, with the newest expression
abbrev pub store_of : Option Fold → List Access → Trees → Trees
store_of f (p ∷ ps) v = makes_of (λ e. put f p e) v.exprs (record v { places = ps })
store_of f [] v = v

-- an if of the newest expression and the two newest blocks
abbrev pub branch_of : List (List Stmt) → Trees → Trees
branch_of (else_part ∷ then_part ∷ bs) v = makes_of (λ e. stmt.If e then_part else_part) v.exprs (record v { blocks = bs })
branch_of (b ∷ []) v = v
branch_of [] v = v

-- a while of the newest expression and the newest block
abbrev pub repeat_of : ℕ → List (List Stmt) → Trees → Trees
repeat_of at (b ∷ bs) v = makes_of (λ e. stmt.While e b at) v.exprs (record v { blocks = bs })
repeat_of at [] v = v

-- a loop of the two newest expressions and the newest block
abbrev pub each_of : Use → Bool → ℕ → List Expr → List (List Stmt) → Trees → Trees
each_of u seq at (high ∷ low ∷ es) (b ∷ bs) v =
    record v { exprs = es; blocks = more_of bs (stmt.For (record { index = u; low = low; high = high; body = b; seq = seq; at = at }) ∷ []) }
each_of u seq at (high ∷ []) (b ∷ bs) v = v
each_of u seq at [] (b ∷ bs) v = v
each_of u seq at es [] v = v

-- what an act makes of the trees
abbrev pub act : Act → Trees → Trees
act (Leaf e) v = push e v
act Negate v = record v { exprs = one_of (λ e. expr.Neg e) v.exprs }
act Invert v = record v { exprs = one_of (λ e. expr.Not e) v.exprs }
act (Join o at) v = record v { exprs = two_of (λ a b. expr.Binary o at a b) v.exprs }
act (Reach u wrap) v = reach_of u wrap v.exprs v
act Fetch v = fetch_of v.places v
act (Bind u) v = makes_of (λ e. stmt.Let u e) v.exprs v
act (Assign u) v = makes_of (λ e. stmt.Set u e) v.exprs v
act (Merge u f) v = makes_of (λ e. stmt.Fold u f e) v.exprs v
act (Store f) v = store_of f v.places v
act Begin v = with_block [] v
act Branch v = branch_of v.blocks v
act (Repeat at) v = repeat_of at v.blocks v
act (Each u seq at) v = each_of u seq at v.exprs v.blocks v
act (Show at) v = makes_of (λ e. stmt.Print e at) v.exprs v
act (Array d) v = record v { arrays = v.arrays ++ d ∷ [] }
act (Var d) v = record v { vars = v.vars ++ d ∷ [] }

-- nothing was read yet
abbrev pub empty : Trees
empty = record { exprs = []; places = []; blocks = [] ∷ []; arrays = []; vars = [] }

-- a whole program was read
abbrev pub whole_of : Program → Trees
whole_of p = record { exprs = []; places = []; blocks = p.body ∷ []; arrays = p.arrays; vars = p.vars }
