-- The grammar, as relations: the tokens `ss` begin with one of a kind, which has this tree, and `rest` is left behind it.
use Rattle.std.specs.Prelude.{◌≡◌, ℕ, zero, suc, ℤ, pos, Bool, true, false, List, [], ◌∷◌}
use Rattle.nona_num.specs.declared.folds.Fold.{Fold}
use Rattle.nona_lex.specs.declared.tokens.Keyword.TheVariants as w
use Rattle.nona_lex.specs.declared.tokens.Sign.TheVariants as s
use Rattle.nona_lex.specs.declared.tokens.Operator.TheVariants as operator
use Rattle.nona_lex.specs.declared.tokens.Token.TheVariants as token
use Rattle.nona_lex.specs.declared.tokens.Spot.{Spot}
use Rattle.nona_tree.specs.declared.trees.Op.{Op}
use Rattle.nona_tree.specs.declared.trees.Access.{Access}
use Rattle.nona_tree.specs.declared.trees.Expr.{Expr}
use Rattle.nona_tree.specs.declared.trees.Expr.TheVariants as expr
use Rattle.nona_tree.specs.declared.trees.Loop.{Loop}
use Rattle.nona_tree.specs.declared.trees.Stmt.{Stmt}
use Rattle.nona_tree.specs.declared.trees.Stmt.TheVariants as stmt
use Rattle.nona_tree.specs.declared.trees.ArrayDecl.{ArrayDecl}
use Rattle.nona_tree.specs.declared.trees.VarDecl.{VarDecl}
use Rattle.nona_tree.specs.declared.trees.Program.{Program}
use Rattle.nona_grammar.specs.Levels.{spot, word, sign, name, number, named, joining, level, loosest, comparisons}

mutual
  -- cell := NAME [ index ]
  pub data IsCell : List Spot → List Spot → Access → Type 0 where
    indexed-is : (n : List ℕ) (a b c : ℕ) (ss rest : List Spot) (wrap : Bool) (e : Expr) → IsIndex ss (sign s.CloseIndex c ∷ rest) wrap e
        → IsCell (name n a ∷ sign s.OpenIndex b ∷ ss) rest (record { array = named n a; wrap = wrap; index = e })

  -- index := expr | wrap expr
  pub data IsIndex : List Spot → List Spot → Bool → Expr → Type 0 where
    plain-is : (ss rest : List Spot) (e : Expr) → IsExpr ss rest e → IsIndex ss rest false e
    wrap-is : (a : ℕ) (ss rest : List Spot) (e : Expr) → IsExpr ss rest e → IsIndex (word w.Wrap a ∷ ss) rest true e

  -- primary := NUMBER | NAME | cell | len ( NAME ) | ( expr )
  pub data IsPrimary : List Spot → List Spot → Expr → Type 0 where
    number-is : (n : ℤ) (a : ℕ) (rest : List Spot) → IsPrimary (number n a ∷ rest) rest (expr.Number n)
    scalar-is : (n : List ℕ) (a : ℕ) (rest : List Spot) → IsPrimary (name n a ∷ rest) rest (expr.Scalar (named n a))
    cell-is : (ss rest : List Spot) (p : Access) → IsCell ss rest p → IsPrimary ss rest (expr.Cell p)
    len-is : (n : List ℕ) (a b c d : ℕ) (rest : List Spot)
        → IsPrimary (word w.Len a ∷ sign s.Open b ∷ name n c ∷ sign s.Close d ∷ rest) rest (expr.Len (named n c))
    brackets-are : (a b : ℕ) (ss rest : List Spot) (e : Expr) → IsExpr ss (sign s.Close b ∷ rest) e → IsPrimary (sign s.Open a ∷ ss) rest e

  -- level 0 := primary | - primary | ! primary
  -- level m + 1 := level m | level (m + 1) OPERATOR (level m): operators of a level group to the left
  pub data IsLevel : ℕ → List Spot → List Spot → Expr → Type 0 where
    primary-is : (ss rest : List Spot) (e : Expr) → IsPrimary ss rest e → IsLevel zero ss rest e
    negated-is : (a : ℕ) (ss rest : List Spot) (e : Expr) → IsPrimary ss rest e
        → IsLevel zero (spot (token.Operator operator.Sub) a ∷ ss) rest (expr.Neg e)
    inverted-is : (a : ℕ) (ss rest : List Spot) (e : Expr) → IsPrimary ss rest e
        → IsLevel zero (spot (token.Operator operator.Not) a ∷ ss) rest (expr.Not e)
    lower-is : (m : ℕ) (ss rest : List Spot) (e : Expr) → IsLevel m ss rest e → IsLevel (suc m) ss rest e
    joined-is : (m : ℕ) (o : Op) (at : ℕ) (ss mid rest : List Spot) (a b : Expr) → level o ≡ suc m
        → IsLevel (suc m) ss (joining o at ∷ mid) a → IsLevel m mid rest b → IsLevel (suc m) ss rest (expr.Binary o at a b)

  -- expr := level 6 | level 6 COMPARISON (level 6)
  pub data IsExpr : List Spot → List Spot → Expr → Type 0 where
    level-is : (ss rest : List Spot) (e : Expr) → IsLevel loosest ss rest e → IsExpr ss rest e
    compared-is : (o : Op) (at : ℕ) (ss mid rest : List Spot) (a b : Expr) → level o ≡ comparisons
        → IsLevel loosest ss (joining o at ∷ mid) a → IsLevel loosest mid rest b → IsExpr ss rest (expr.Binary o at a b)

mutual
  pub data IsStmt : List Spot → List Spot → Stmt → Type 0 where
    -- let NAME = expr ;
    let-is : (n : List ℕ) (a b c d : ℕ) (ss rest : List Spot) (e : Expr) → IsExpr ss (sign s.Semicolon d ∷ rest) e
        → IsStmt (word w.Let a ∷ name n b ∷ sign s.Set c ∷ ss) rest (stmt.Let (named n b) e)
    -- NAME = expr ;
    set-is : (n : List ℕ) (a b c : ℕ) (ss rest : List Spot) (e : Expr) → IsExpr ss (sign s.Semicolon c ∷ rest) e
        → IsStmt (name n a ∷ sign s.Set b ∷ ss) rest (stmt.Set (named n a) e)
    -- NAME FOLD expr ;
    fold-is : (n : List ℕ) (a b c : ℕ) (f : Fold) (ss rest : List Spot) (e : Expr) → IsExpr ss (sign s.Semicolon c ∷ rest) e
        → IsStmt (name n a ∷ spot (token.Fold f) b ∷ ss) rest (stmt.Fold (named n a) f e)
    -- cell = expr ;
    put-is : (a b : ℕ) (ss mid rest : List Spot) (p : Access) (e : Expr) → IsCell ss (sign s.Set a ∷ mid) p
        → IsExpr mid (sign s.Semicolon b ∷ rest) e → IsStmt ss rest (stmt.Put p e)
    -- cell FOLD expr ;
    fold-put-is : (a b : ℕ) (f : Fold) (ss mid rest : List Spot) (p : Access) (e : Expr) → IsCell ss (spot (token.Fold f) a ∷ mid) p
        → IsExpr mid (sign s.Semicolon b ∷ rest) e → IsStmt ss rest (stmt.FoldPut p f e)
    -- if expr block   or   if expr block else block
    if-is : (a : ℕ) (ss mid more rest : List Spot) (e : Expr) (then_part else_part : List Stmt) → IsExpr ss mid e → IsBlock mid more then_part
        → IsElse more rest else_part → IsStmt (word w.If a ∷ ss) rest (stmt.If e then_part else_part)
    -- while expr block
    while-is : (a : ℕ) (ss mid rest : List Spot) (e : Expr) (body : List Stmt) → IsExpr ss mid e → IsBlock mid rest body
        → IsStmt (word w.While a ∷ ss) rest (stmt.While e body a)
    -- loop
    for-is : (ss rest : List Spot) (l : Loop) → IsLoop ss rest false l → IsStmt ss rest (stmt.For l)
    -- seq loop
    seq-for-is : (a : ℕ) (ss rest : List Spot) (l : Loop) → IsLoop ss rest true l → IsStmt (word w.Seq a ∷ ss) rest (stmt.For l)
    -- print expr ;
    print-is : (a b : ℕ) (ss rest : List Spot) (e : Expr) → IsExpr ss (sign s.Semicolon b ∷ rest) e
        → IsStmt (word w.Print a ∷ ss) rest (stmt.Print e a)

  -- loop := for NAME in expr .. expr block
  pub data IsLoop : List Spot → List Spot → Bool → Loop → Type 0 where
    loop-is : (n : List ℕ) (a b c d : ℕ) (seq : Bool) (ss mid more rest : List Spot) (low high : Expr) (body : List Stmt)
        → IsExpr ss (sign s.Range d ∷ mid) low → IsExpr mid more high → IsBlock more rest body
        → IsLoop (word w.For a ∷ name n b ∷ word w.In c ∷ ss) rest seq
        (record { index = named n b; low = low; high = high; body = body; seq = seq; at = a })

  -- block := { stmt* }
  pub data IsBlock : List Spot → List Spot → List Stmt → Type 0 where
    block-is : (a b : ℕ) (ss rest : List Spot) (body : List Stmt) → IsStmts ss (sign s.CloseBlock b ∷ rest) body
        → IsBlock (sign s.OpenBlock a ∷ ss) rest body

  -- what may stand behind the first block of an if: nothing, or   else block
  pub data IsElse : List Spot → List Spot → List Stmt → Type 0 where
    no-else : (rest : List Spot) → IsElse rest rest []
    else-is : (a : ℕ) (ss rest : List Spot) (body : List Stmt) → IsBlock ss rest body → IsElse (word w.Else a ∷ ss) rest body

  -- stmt*
  pub data IsStmts : List Spot → List Spot → List Stmt → Type 0 where
    no-more : (rest : List Spot) → IsStmts rest rest []
    one-more : (ss mid rest : List Spot) (first : Stmt) (later : List Stmt) → IsStmt ss mid first → IsStmts mid rest later
        → IsStmts ss rest (first ∷ later)

-- decl*,   decl := array NAME [ NUMBER ] ; | var NAME ; | var NAME = NUMBER ;
pub data IsDecls : List Spot → List Spot → List ArrayDecl → List VarDecl → Type 0 where
  no-decl : (rest : List Spot) → IsDecls rest rest [] []
  array-is : (n : List ℕ) (m : ℤ) (a b c d e f : ℕ) (ss rest : List Spot) (arrays : List ArrayDecl) (vars : List VarDecl) → IsDecls ss rest arrays vars
      → IsDecls (word w.Array a ∷ name n b ∷ sign s.OpenIndex c ∷ number m d ∷ sign s.CloseIndex e ∷ sign s.Semicolon f ∷ ss) rest
      (record { name = named n b; cells = m; cells_at = d } ∷ arrays) vars
  var-is : (n : List ℕ) (a b c : ℕ) (ss rest : List Spot) (arrays : List ArrayDecl) (vars : List VarDecl) → IsDecls ss rest arrays vars
      → IsDecls (word w.Var a ∷ name n b ∷ sign s.Semicolon c ∷ ss) rest arrays
      (record { name = named n b; value = pos 0 } ∷ vars)
  var-value-is : (n : List ℕ) (m : ℤ) (a b c d e : ℕ) (ss rest : List Spot) (arrays : List ArrayDecl) (vars : List VarDecl) → IsDecls ss rest arrays vars
      → IsDecls (word w.Var a ∷ name n b ∷ sign s.Set c ∷ number m d ∷ sign s.Semicolon e ∷ ss) rest arrays
      (record { name = named n b; value = m } ∷ vars)

-- program := decl* stmt*
abbrev pub IsProgram : List Spot → Program → Type 0
IsProgram ss p = (mid : List Spot) × IsDecls ss mid p.arrays p.vars × IsStmts mid [] p.body
