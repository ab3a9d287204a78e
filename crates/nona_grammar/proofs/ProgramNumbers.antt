-- The numbers of a program are those of its tokens.
use Rattle.std.proofs.Common.{ℕ, pos, Bool, List, arith}
use Rattle.std.specs.List.{AllByRecursion}
use Rattle.std.proofs.lemmas.List.Elements.{All-from_recursion}
use denote.Hole.Carrier.{hidden}
use Rattle.nona_lex.specs.declared.tokens.Spot.{Spot}
use Rattle.nona_lex.specs.Laws.{AreI64Tokens}
use Rattle.nona_tree.specs.declared.trees.Access.{Access}
use Rattle.nona_tree.specs.declared.trees.Expr.{Expr}
use Rattle.nona_tree.specs.declared.trees.Expr.TheBlock.{hidden-the_row-Expr-1, hidden-the_row-Access-0}
use Rattle.nona_tree.specs.declared.trees.Loop.{Loop}
use Rattle.nona_tree.specs.declared.trees.Stmt.{Stmt}
use Rattle.nona_tree.specs.declared.trees.Stmt.TheVariants as stmt
use Rattle.nona_tree.specs.declared.trees.ArrayDecl.{ArrayDecl}
use Rattle.nona_tree.specs.declared.trees.VarDecl.{VarDecl}
use Rattle.nona_tree.specs.declared.trees.Program.{Program}
use Rattle.nona_tree.specs.Numbers.{IsI64, IsI64Expr, IsI64Stmt, AreI64Stmts, IsI64Program}
use Rattle.nona_tree.proofs.I64.{block_numbers}
use Rattle.nona_grammar.specs.Grammar.{IsCell, IsIndex, IsPrimary, IsLevel, IsExpr, IsStmt, IsLoop, IsBlock, IsElse, IsStmts, IsDecls, IsProgram, indexed-is, plain-is, wrap-is, number-is, scalar-is, cell-is, len-is, brackets-are, primary-is, negated-is, inverted-is, lower-is, joined-is, level-is, compared-is, let-is, set-is, fold-is, put-is, fold-put-is, if-is, while-is, for-is, seq-for-is, print-is, loop-is, block-is, no-else, else-is, no-more, one-more, no-decl, array-is, var-is, var-value-is}

mutual
  unfolding hidden-the_row-Expr-1 hidden-the_row-Access-0 hidden

  -- of the index of a cell, and of the tokens behind the cell
  place_numbers : {ss rest : List Spot} {p : Access} → IsCell ss rest p → AreI64Tokens ss → IsI64Expr p.index × AreI64Tokens rest
  place_numbers (indexed-is n a b c ss rest wrap e i) h = let x = index_numbers i h.1.1 in (x.0, x.1.1)

  index_numbers : {ss rest : List Spot} {wrap : Bool} {e : Expr} → IsIndex ss rest wrap e → AreI64Tokens ss → IsI64Expr e × AreI64Tokens rest
  index_numbers (plain-is ss rest e d) h = expr_numbers d h
  index_numbers (wrap-is a ss rest e d) h = expr_numbers d h.1

  -- of a primary
  primary_numbers : {ss rest : List Spot} {e : Expr} → IsPrimary ss rest e → AreI64Tokens ss → IsI64Expr e × AreI64Tokens rest
  primary_numbers (number-is n a rest) h = h
  primary_numbers (scalar-is n a rest) h = (tt, h.1)
  primary_numbers (cell-is ss rest p i) h = place_numbers i h
  primary_numbers (len-is n a b c d rest) h = (tt, h.1.1.1.1)
  primary_numbers (brackets-are a b ss rest e d) h = let x = expr_numbers d h.1 in (x.0, x.1.1)

  -- of a level
  level_numbers : {m : ℕ} {ss rest : List Spot} {e : Expr} → IsLevel m ss rest e → AreI64Tokens ss → IsI64Expr e × AreI64Tokens rest
  level_numbers (primary-is ss rest e d) h = primary_numbers d h
  level_numbers (negated-is a ss rest e d) h = primary_numbers d h.1
  level_numbers (inverted-is a ss rest e d) h = primary_numbers d h.1
  level_numbers (lower-is m ss rest e d) h = level_numbers d h
  level_numbers (joined-is m o at ss mid rest a b is d1 d2) h =
      let x = level_numbers d1 h in let y = level_numbers d2 x.1.1 in ((x.0, y.0), y.1)

  -- of an expression
  expr_numbers : {ss rest : List Spot} {e : Expr} → IsExpr ss rest e → AreI64Tokens ss → IsI64Expr e × AreI64Tokens rest
  expr_numbers (level-is ss rest e d) h = level_numbers d h
  expr_numbers (compared-is o at ss mid rest a b is d1 d2) h =
      let x = level_numbers d1 h in let y = level_numbers d2 x.1.1 in ((x.0, y.0), y.1)

mutual
  -- of a statement
  stmt_numbers : {ss rest : List Spot} {x : Stmt} → IsStmt ss rest x → AreI64Tokens ss → IsI64Stmt x × AreI64Tokens rest
  stmt_numbers (let-is n a b c d ss rest e i) h = let x = expr_numbers i h.1.1.1 in (x.0, x.1.1)
  stmt_numbers (set-is n a b c ss rest e i) h = let x = expr_numbers i h.1.1 in (x.0, x.1.1)
  stmt_numbers (fold-is n a b c f ss rest e i) h = let x = expr_numbers i h.1.1 in (x.0, x.1.1)
  stmt_numbers (put-is a b ss mid rest p e i j) h =
      let x = place_numbers i h in let y = expr_numbers j x.1.1 in ((x.0, y.0), y.1.1)
  stmt_numbers (fold-put-is a b f ss mid rest p e i j) h =
      let x = place_numbers i h in let y = expr_numbers j x.1.1 in ((x.0, y.0), y.1.1)
  stmt_numbers (if-is a ss mid more rest e then_part else_part i j l) h =
      let x = expr_numbers i h.1 in let y = body_numbers j x.1 in let z = else_numbers l y.1 in
      ((x.0, block_numbers then_part y.0, block_numbers else_part z.0), z.1)
  stmt_numbers (while-is a ss mid rest e body i j) h =
      let x = expr_numbers i h.1 in let y = body_numbers j x.1 in ((x.0, block_numbers body y.0), y.1)
  stmt_numbers (for-is ss rest l i) h = loop_numbers i h
  stmt_numbers (seq-for-is a ss rest l i) h = loop_numbers i h.1
  stmt_numbers (print-is a b ss rest e i) h = let x = expr_numbers i h.1 in (x.0, x.1.1)

  -- of a loop
  loop_numbers : {ss rest : List Spot} {seq : Bool} {l : Loop} → IsLoop ss rest seq l → AreI64Tokens ss → IsI64Stmt (stmt.For l) × AreI64Tokens rest
  loop_numbers (loop-is n a b c d seq ss mid more rest low high body i j m) h =
      let x = expr_numbers i h.1.1.1 in let y = expr_numbers j x.1.1 in let z = body_numbers m y.1 in
      ((x.0, y.0, block_numbers body z.0), z.1)

  -- of a block
  body_numbers : {ss rest : List Spot} {l : List Stmt} → IsBlock ss rest l → AreI64Tokens ss → AreI64Stmts l × AreI64Tokens rest
  body_numbers (block-is a b ss rest body d) h = let x = stmts_numbers d h.1 in (x.0, x.1.1)

  -- of the other part of an if
  else_numbers : {ss rest : List Spot} {l : List Stmt} → IsElse ss rest l → AreI64Tokens ss → AreI64Stmts l × AreI64Tokens rest
  else_numbers (no-else rest) h = (tt, h)
  else_numbers (else-is a ss rest body d) h = body_numbers d h.1

  -- of one statement after another
  stmts_numbers : {ss rest : List Spot} {l : List Stmt} → IsStmts ss rest l → AreI64Tokens ss → AreI64Stmts l × AreI64Tokens rest
  stmts_numbers (no-more rest) h = (tt, h)
  stmts_numbers (one-more ss mid rest first later d ds) h =
      let x = stmt_numbers d h in let y = stmts_numbers ds x.1 in ((x.0, y.0), y.1)

-- arrays and variables whose numbers have 64 bits
abbrev pub AreI64Arrays : List ArrayDecl → Type 0
AreI64Arrays arrays = AllByRecursion (λ (d : ArrayDecl). IsI64 d.cells) arrays

abbrev pub AreI64Vars : List VarDecl → Type 0
AreI64Vars vars = AllByRecursion (λ (d : VarDecl). IsI64 d.value) vars

zero_fits : IsI64 (pos 0)
zero_fits = record { sfits = omega arith }

-- of declarations
decls_numbers : {ss rest : List Spot} {arrays : List ArrayDecl} {vars : List VarDecl} → IsDecls ss rest arrays vars → AreI64Tokens ss
    → AreI64Arrays arrays × AreI64Vars vars × AreI64Tokens rest
decls_numbers (no-decl rest) h = (tt, tt, h)
decls_numbers (array-is n m a b c d e f ss rest arrays vars i) h =
    let x = decls_numbers i h.1.1.1.1.1.1 in ((h.1.1.1.0, x.0), x.1, x.2)
decls_numbers (var-is n a b c ss rest arrays vars i) h = let x = decls_numbers i h.1.1.1 in (x.0, (zero_fits, x.1), x.2)
decls_numbers (var-value-is n m a b c d e ss rest arrays vars i) h =
    let x = decls_numbers i h.1.1.1.1.1 in (x.0, (h.1.1.1.0, x.1), x.2)

pub program_numbers : (ss : List Spot) (p : Program) → IsProgram ss p → AreI64Tokens ss → IsI64Program p
program_numbers ss p (mid, ds, is) h =
    let x = decls_numbers ds h in let y = stmts_numbers is x.2 in
    record {
      arrays = All-from_recursion (λ (d : ArrayDecl). IsI64 d.cells) p.arrays x.0;
      vars = All-from_recursion (λ (d : VarDecl). IsI64 d.value) p.vars x.1;
      body = y.0;
    }
