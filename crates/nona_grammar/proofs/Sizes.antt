-- A program has at least as many tokens as declarations, statements and expressions.
use Rattle.std.proofs.Common.{ℕ, ◌+◌, ◌≤◌, Bool, List, length, arith}
use Rattle.nona_lex.specs.declared.tokens.Spot.{Spot}
use Rattle.nona_tree.specs.declared.trees.Access.{Access}
use Rattle.nona_tree.specs.declared.trees.Expr.{Expr}
use Rattle.nona_tree.specs.declared.trees.Loop.{Loop}
use Rattle.nona_tree.specs.declared.trees.Stmt.{Stmt}
use Rattle.nona_tree.specs.declared.trees.Stmt.TheVariants as stmt
use Rattle.nona_tree.specs.declared.trees.ArrayDecl.{ArrayDecl}
use Rattle.nona_tree.specs.declared.trees.VarDecl.{VarDecl}
use Rattle.nona_tree.specs.declared.trees.Program.{Program}
use Rattle.nona_tree.specs.Smallness.{expr_size, stmt_size, all_size, size_of}
use Rattle.nona_tree.proofs.CheckEquations.{size-Cell, size-Neg, size-Not, size-Binary, size-If, size-While, size-For}
use Rattle.nona_grammar.specs.Grammar.{IsCell, IsIndex, IsPrimary, IsLevel, IsExpr, IsStmt, IsLoop, IsBlock, IsElse, IsStmts, IsDecls, IsProgram, indexed-is, plain-is, wrap-is, number-is, scalar-is, cell-is, len-is, brackets-are, primary-is, negated-is, inverted-is, lower-is, joined-is, level-is, compared-is, let-is, set-is, fold-is, put-is, fold-put-is, if-is, while-is, for-is, seq-for-is, print-is, loop-is, block-is, no-else, else-is, no-more, one-more, no-decl, array-is, var-is, var-value-is}

mutual
  -- a place has two tokens and more beside those of its index
  place_size : {ss rest : List Spot} {p : Access} → IsCell ss rest p → expr_size p.index + length rest + 2 ≤ length ss
  place_size (indexed-is n a b c ss rest wrap e i) = omega (arith, index_size i)

  -- an index has those of its expression
  index_size : {ss rest : List Spot} {wrap : Bool} {e : Expr} → IsIndex ss rest wrap e → expr_size e + length rest ≤ length ss
  index_size (plain-is ss rest e d) = expr_size_within d
  index_size (wrap-is a ss rest e d) = omega (arith, expr_size_within d)

  -- each expression of a primary has a token
  primary_size : {ss rest : List Spot} {e : Expr} → IsPrimary ss rest e → expr_size e + length rest ≤ length ss
  primary_size (number-is n a rest) = omega arith
  primary_size (scalar-is n a rest) = omega arith
  primary_size (cell-is ss rest p i) = omega (arith, size-Cell p, place_size i)
  primary_size (len-is n a b c d rest) = omega arith
  primary_size (brackets-are a b ss rest e d) = omega (arith, expr_size_within d)

  -- and each of a level
  level_size : {m : ℕ} {ss rest : List Spot} {e : Expr} → IsLevel m ss rest e → expr_size e + length rest ≤ length ss
  level_size (primary-is ss rest e d) = primary_size d
  level_size (negated-is a ss rest e d) = omega (arith, size-Neg e, primary_size d)
  level_size (inverted-is a ss rest e d) = omega (arith, size-Not e, primary_size d)
  level_size (lower-is m ss rest e d) = level_size d
  level_size (joined-is m o at ss mid rest a b is d1 d2) = omega (arith, size-Binary o at a b, level_size d1, level_size d2)

  -- and each of an expression
  expr_size_within : {ss rest : List Spot} {e : Expr} → IsExpr ss rest e → expr_size e + length rest ≤ length ss
  expr_size_within (level-is ss rest e d) = level_size d
  expr_size_within (compared-is o at ss mid rest a b is d1 d2) = omega (arith, size-Binary o at a b, level_size d1, level_size d2)

mutual
  -- each statement and each expression of a statement has a token
  stmt_size_within : {ss rest : List Spot} {x : Stmt} → IsStmt ss rest x → stmt_size x + length rest ≤ length ss
  stmt_size_within (let-is n a b c d ss rest e i) = omega (arith, expr_size_within i)
  stmt_size_within (set-is n a b c ss rest e i) = omega (arith, expr_size_within i)
  stmt_size_within (fold-is n a b c f ss rest e i) = omega (arith, expr_size_within i)
  stmt_size_within (put-is a b ss mid rest p e i j) = omega (arith, place_size i, expr_size_within j)
  stmt_size_within (fold-put-is a b f ss mid rest p e i j) = omega (arith, place_size i, expr_size_within j)
  stmt_size_within (if-is a ss mid more rest e then_part else_part i j l) =
      omega (arith, size-If e then_part else_part, expr_size_within i, block_size j, else_size l)
  stmt_size_within (while-is a ss mid rest e body i j) = omega (arith, size-While e body a, expr_size_within i, block_size j)
  stmt_size_within (for-is ss rest l i) = loop_size i
  stmt_size_within (seq-for-is a ss rest l i) = omega (arith, loop_size i)
  stmt_size_within (print-is a b ss rest e i) = omega (arith, expr_size_within i)

  -- and each of a loop
  loop_size : {ss rest : List Spot} {seq : Bool} {l : Loop} → IsLoop ss rest seq l → stmt_size (stmt.For l) + length rest ≤ length ss
  loop_size {l = l} (loop-is n a b c d seq ss mid more rest low high body i j m) =
      omega (arith, size-For l, expr_size_within i, expr_size_within j, block_size m)

  -- and each of a block
  block_size : {ss rest : List Spot} {l : List Stmt} → IsBlock ss rest l → all_size l + length rest ≤ length ss
  block_size (block-is a b ss rest body d) = omega (arith, stmts_size d)

  -- and each of the other part of an if
  else_size : {ss rest : List Spot} {l : List Stmt} → IsElse ss rest l → all_size l + length rest ≤ length ss
  else_size (no-else rest) = omega arith
  else_size (else-is a ss rest body d) = omega (arith, block_size d)

  -- and each of one statement after another
  stmts_size : {ss rest : List Spot} {l : List Stmt} → IsStmts ss rest l → all_size l + length rest ≤ length ss
  stmts_size (no-more rest) = omega arith
  stmts_size (one-more ss mid rest first later d ds) = omega (arith, stmt_size_within d, stmts_size ds)

-- each declaration has a token
decls_size : {ss rest : List Spot} {arrays : List ArrayDecl} {vars : List VarDecl} → IsDecls ss rest arrays vars
    → length arrays + length vars + length rest ≤ length ss
decls_size (no-decl rest) = omega arith
decls_size (array-is n m a b c d e f ss rest arrays vars i) = omega (arith, decls_size i)
decls_size (var-is n a b c ss rest arrays vars i) = omega (arith, decls_size i)
decls_size (var-value-is n m a b c d e ss rest arrays vars i) = omega (arith, decls_size i)

-- a program is no larger than its tokens
pub program_size : (ss : List Spot) (p : Program) → IsProgram ss p → size_of p ≤ length ss
program_size ss p (mid, ds, is) = omega (arith, decls_size ds, stmts_size is)
