-- The code of a statement.
use Rattle.std.specs.Prelude.{ℕ, zero, suc, ◌+◌, if◌then◌else◌, pos, List, [], ◌∷◌, ◌++◌, length}
use Rattle.nona_num.specs.declared.folds.Fold.TheVariants as fold
use Rattle.nona_tree.specs.declared.trees.Op.{Op}
use Rattle.nona_tree.specs.declared.trees.Op.TheVariants as op
use Rattle.nona_tree.specs.declared.trees.Access.{Access}
use Rattle.nona_tree.specs.declared.trees.Loop.{Loop}
use Rattle.nona_tree.specs.declared.trees.Expr.{Expr, Number, Scalar, Cell', Len, Neg', Not', Binary', more_of-Expr, end_of-Expr}
use Rattle.nona_tree.specs.declared.trees.Expr.TheBlock.{more_of-Access, end_of-Access}
use Rattle.nona_tree.specs.declared.trees.Stmt.{Stmt, Let, Set, Fold, Put, FoldPut, If', While', For', Print, Row_of-Stmt, end_of-Stmt, more_of-Stmt}
use Rattle.nona_tree.specs.Scope.{is_let}
use Rattle.nona_code.specs.declared.instr.Instr.{Instr}
use Rattle.nona_code.specs.declared.instr.Instr.TheVariants as instr
use Rattle.nona_code.specs.Machine.{first_hidden}

-- the value of an expression, on the stack
abbrev pub expr_code : Expr → List Instr
expr_code (Number v) = instr.Push v ∷ []
expr_code (Scalar x) = instr.Load x.id ∷ []
expr_code (Cell' p (more_of-Access array wrap index end_of-Access)) =
    expr_code index ++ (instr.Bound array.id wrap array.at ∷ instr.Get array.id ∷ [])
expr_code (Len a) = instr.Len a.id ∷ []
expr_code (Neg' p (more_of-Expr e end_of-Expr)) = expr_code e ++ (instr.Neg ∷ [])
expr_code (Not' p (more_of-Expr e end_of-Expr)) = expr_code e ++ (instr.Not ∷ [])
expr_code (Binary' op at p (more_of-Expr left end_of-Expr) q (more_of-Expr right end_of-Expr)) =
    expr_code left ++ (expr_code right ++ (instr.Binary op at ∷ []))

-- the place of an access's cell, on the stack
abbrev pub place_code : Access → List Instr
place_code c = expr_code c.index ++ (instr.Bound c.array.id c.wrap c.array.at ∷ [])

-- how many scalars a row of statements declares where it stands
abbrev pub lets_row : {k : _} → Row_of-Stmt k → ℕ
lets_row end_of-Stmt = 0
lets_row (more_of-Stmt s rest) = (if is_let s then 1 else 0) + lets_row rest

-- what leaves so many scalars
abbrev pub leave_code : ℕ → List Instr
leave_code zero = []
leave_code (suc lets) = instr.Leave (suc lets) ∷ []

-- a block, which leaves what it declares
abbrev pub block_code : (ℕ → List Instr) → ℕ → ℕ → List Instr
block_code row lets p = row p ++ leave_code lets

-- a choice at p
abbrev pub if_code : ℕ → List Instr → (ℕ → List Instr) → (ℕ → List Instr) → List Instr
if_code p test first second =
    let a = p + length test + 1 in
    let b = a + length (first a) + 1 in
    test ++ (instr.Zero b ∷ (first a ++ (instr.Jump (b + length (second b)) ∷ second b)))

-- the same test turned round, in place of the operator of a value: 0 where that is not 0, else 1
abbrev pub flip_last : Op → ℕ → List Instr
flip_last op.Eq at = instr.Binary op.Ne at ∷ []
flip_last op.Ne at = instr.Binary op.Eq at ∷ []
flip_last op.Lt at = instr.Binary op.Ge at ∷ []
flip_last op.Le at = instr.Binary op.Gt at ∷ []
flip_last op.Gt at = instr.Binary op.Le at ∷ []
flip_last op.Ge at = instr.Binary op.Lt at ∷ []
flip_last op.Add at = instr.Binary op.Add at ∷ instr.Not ∷ []
flip_last op.Sub at = instr.Binary op.Sub at ∷ instr.Not ∷ []
flip_last op.Mul at = instr.Binary op.Mul at ∷ instr.Not ∷ []
flip_last op.Div at = instr.Binary op.Div at ∷ instr.Not ∷ []
flip_last op.Rem at = instr.Binary op.Rem at ∷ instr.Not ∷ []
flip_last op.And at = instr.Binary op.And at ∷ instr.Not ∷ []
flip_last op.Or at = instr.Binary op.Or at ∷ instr.Not ∷ []
flip_last op.Xor at = instr.Binary op.Xor at ∷ instr.Not ∷ []
flip_last op.Shl at = instr.Binary op.Shl at ∷ instr.Not ∷ []
flip_last op.Shr at = instr.Binary op.Shr at ∷ instr.Not ∷ []

-- a value turned round, on the stack: 0 where it is not 0, else 1
abbrev pub flip_code : Expr → List Instr
flip_code (Binary' op at p (more_of-Expr left end_of-Expr) q (more_of-Expr right end_of-Expr)) =
    expr_code left ++ (expr_code right ++ flip_last op at)
flip_code (Number v) = instr.Push v ∷ instr.Not ∷ []
flip_code (Scalar x) = instr.Load x.id ∷ instr.Not ∷ []
flip_code (Cell' p (more_of-Access array wrap index end_of-Access)) = expr_code (Cell' p (more_of-Access array wrap index end_of-Access)) ++ (instr.Not ∷ [])
flip_code (Len a) = instr.Len a.id ∷ instr.Not ∷ []
flip_code (Neg' p (more_of-Expr e end_of-Expr)) = expr_code (Neg' p (more_of-Expr e end_of-Expr)) ++ (instr.Not ∷ [])
flip_code (Not' p (more_of-Expr e end_of-Expr)) = expr_code (Not' p (more_of-Expr e end_of-Expr)) ++ (instr.Not ∷ [])

-- a while at p, whose word stands at at, with this counter: its test, turned round, stands behind its body
abbrev pub while_code : ℕ → ℕ → ℕ → List Instr → (ℕ → List Instr) → List Instr
while_code p counter at test body =
    let b = p + 3 in
    instr.Enter counter ∷ instr.Jump (b + length (body b)) ∷ instr.Turn counter at ∷ (body b ++ (test ++ (instr.Zero (p + 2) ∷ [])))

-- the hidden scalar of the loop with this counter: its high bound
abbrev pub high_of : ℕ → ℕ
high_of counter = first_hidden + counter

-- the bounds of a for, whose index is declared once
abbrev pub bounds_code : ℕ → List Instr → List Instr → List Instr
bounds_code counter low high = low ++ (high ++ (instr.Save (high_of counter) ∷ instr.Declare ∷ instr.Enter counter ∷ []))

-- the next index, from where a for goes back to its turn at p; and then the index goes
abbrev pub next_code : ℕ → ℕ → ℕ → ℕ → List Instr
next_code p id counter at =
    instr.Push (pos 1)
    ∷ instr.FoldSave id fold.Add
    ∷ instr.Load id
    ∷ instr.Load (high_of counter)
    ∷ instr.Binary op.Ge at
    ∷ instr.Zero p
    ∷ instr.Leave 1
    ∷ []

-- the turns of a for at p with this index, with a body that leaves so many scalars besides the index
abbrev pub turns_code : ℕ → ℕ → ℕ → ℕ → (ℕ → List Instr) → ℕ → List Instr
turns_code p id counter at body lets =
    let b = p + 5 in
    instr.Load id
    ∷ instr.Load (high_of counter)
    ∷ instr.Binary op.Lt at
    ∷ instr.Zero (b + length (body b) + length (leave_code lets) + 6)
    ∷ instr.Turn counter at
    ∷ (body b ++ (leave_code lets ++ next_code (p + 4) id counter at))

abbrev mutual
  -- the code of a statement at p, in as many loops as depth
  pub stmt_code : Stmt → ℕ → ℕ → List Instr
  stmt_code (Let x e) depth p = expr_code e ++ (instr.Declare ∷ [])
  stmt_code (Set x e) depth p = expr_code e ++ (instr.Save x.id ∷ [])
  stmt_code (Fold x f e) depth p = expr_code e ++ (instr.FoldSave x.id f ∷ [])
  stmt_code (Put c e) depth p = place_code c ++ (expr_code e ++ (instr.Put c.array.id ∷ []))
  stmt_code (FoldPut c f e) depth p = place_code c ++ (expr_code e ++ (instr.FoldPut c.array.id f ∷ []))
  stmt_code (If' test q then_part r else_part) depth p =
      if_code p (expr_code test) (block_code (row_code then_part depth) (lets_row then_part)) (block_code (row_code else_part depth) (lets_row else_part))
  stmt_code (While' test q body at) depth p = while_code p depth at (flip_code test) (block_code (row_code body (depth + 1)) (lets_row body))
  stmt_code (For' x low high q body seq at) depth p =
      let bounds = bounds_code depth (expr_code low) (expr_code high) in
      bounds ++ turns_code (p + length bounds) x.id depth at (row_code body (depth + 1)) (lets_row body)
  stmt_code (Print e at) depth p = expr_code e ++ (instr.Print ∷ [])

  -- one statement after another
  pub row_code : {k : _} → Row_of-Stmt k → ℕ → ℕ → List Instr
  row_code end_of-Stmt depth p = []
  row_code (more_of-Stmt s rest) depth p =
      stmt_code s depth p ++ row_code rest depth (p + length (stmt_code s depth p))

-- the same of a list of statements
abbrev pub lets_all : List Stmt → ℕ
lets_all [] = 0
lets_all (s ∷ rest) = (if is_let s then 1 else 0) + lets_all rest

abbrev pub all_code : List Stmt → ℕ → ℕ → List Instr
all_code [] depth p = []
all_code (s ∷ rest) depth p = stmt_code s depth p ++ all_code rest depth (p + length (stmt_code s depth p))

-- a block of a list of statements
abbrev pub body_code : List Stmt → ℕ → ℕ → List Instr
body_code body depth p = block_code (all_code body depth) (lets_all body) p

-- a while of these parts
abbrev pub loop_code : Expr → List Stmt → ℕ → ℕ → ℕ → List Instr
loop_code test body at depth p = while_code p depth at (flip_code test) (body_code body (depth + 1))

-- the bounds of a for
abbrev pub loop_bounds : Expr → Expr → ℕ → List Instr
loop_bounds low high depth = bounds_code depth (expr_code low) (expr_code high)

-- a for of these parts
abbrev pub for_code : Loop → ℕ → ℕ → List Instr
for_code l depth p =
    loop_bounds l.low l.high depth
    ++ turns_code (p + length (loop_bounds l.low l.high depth)) l.index.id depth l.at (all_code l.body (depth + 1)) (lets_all l.body)

-- what a for does before its first turn
abbrev pub head_code : ℕ → ℕ → ℕ → ℕ → List Instr
head_code target id counter at =
    instr.Load id ∷ instr.Load (high_of counter) ∷ instr.Binary op.Lt at ∷ instr.Zero target ∷ instr.Turn counter at ∷ []

-- what a while does before its body, where the jump to its test isn't written yet
abbrev pub while_head : ℕ → ℕ → List Instr
while_head counter at = instr.Enter counter ∷ instr.Jump 0 ∷ instr.Turn counter at ∷ []

-- the code of a unit, which stands alone
abbrev pub unit_code : Stmt → List Instr
unit_code s = stmt_code s 0 0 ++ (instr.Stop ∷ [])
