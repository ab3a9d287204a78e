-- The words `for` of a program are some of its tokens, in the order of these.
use Rattle.std.proofs.Common.{ℕ, ◌<◌, Bool, List, [], ◌∷◌, ◌++◌, ap, sym, subst, ◌∙◌, append_assoc, append-nil}
use Rattle.std.specs.List.{AllByRecursion}
use Rattle.nona_lex.specs.declared.tokens.Keyword.TheVariants as w
use Rattle.nona_lex.specs.declared.tokens.Spot.{Spot}
use Rattle.nona_tree.specs.declared.trees.Access.{Access}
use Rattle.nona_tree.specs.declared.trees.Expr.{Expr}
use Rattle.nona_tree.specs.declared.trees.Loop.{Loop}
use Rattle.nona_tree.specs.declared.trees.Stmt.{Stmt}
use Rattle.nona_tree.specs.declared.trees.Stmt.TheVariants as stmt
use Rattle.nona_tree.specs.declared.trees.ArrayDecl.{ArrayDecl}
use Rattle.nona_tree.specs.declared.trees.VarDecl.{VarDecl}
use Rattle.nona_tree.specs.declared.trees.Program.{Program}
use Rattle.nona_tree.specs.Places.{fors_in, fors_all, AreRising, HasOwnPlaces}
use Rattle.nona_tree.proofs.IdsPlaces.{fors-If, fors-While, fors-For}
use Rattle.nona_grammar.specs.Places.{token_places}
use Rattle.nona_grammar.specs.Levels.{word, name, named}
use Rattle.nona_grammar.specs.Grammar.{IsCell, IsIndex, IsPrimary, IsLevel, IsExpr, IsStmt, IsLoop, IsBlock, IsElse, IsStmts, IsDecls, IsProgram, indexed-is, plain-is, wrap-is, number-is, scalar-is, cell-is, len-is, brackets-are, primary-is, negated-is, inverted-is, lower-is, joined-is, level-is, compared-is, let-is, set-is, fold-is, put-is, fold-put-is, if-is, while-is, for-is, seq-for-is, print-is, loop-is, block-is, no-else, else-is, no-more, one-more, no-decl, array-is, var-is, var-value-is}

-- numbers are some of a list's, in its order
pub data IsPart : List ℕ → List ℕ → Type 0 where
  nothing : IsPart [] []
  left-out : (x : ℕ) (part whole : List ℕ) → IsPart part whole → IsPart part (x ∷ whole)
  taken : (x : ℕ) (part whole : List ℕ) → IsPart part whole → IsPart (x ∷ part) (x ∷ whole)

past : {x : ℕ} {part whole : List ℕ} → IsPart part whole → IsPart part (x ∷ whole)
past {x} {part} {whole} h = left-out x part whole h

-- some of numbers that rise do so too
part_above : (n : ℕ) {part whole : List ℕ} → IsPart part whole → AllByRecursion (λ y. n < y) whole → AllByRecursion (λ y. n < y) part
part_above n nothing h = tt
part_above n (left-out x part whole i) h = part_above n i h.1
part_above n (taken x part whole i) h = (h.0, part_above n i h.1)

part_rises : {part whole : List ℕ} → IsPart part whole → AreRising whole → AreRising part
part_rises nothing h = tt
part_rises (left-out x part whole i) h = part_rises i h.1
part_rises (taken x part whole i) h = (part_above x i h.0, part_rises i h.1)

-- the places l are among those of the tokens
abbrev pub Among : List ℕ → List Spot → Type 0
Among l ss = IsPart l (token_places ss)

mutual
  -- what is among the tokens behind a cell is among those from its first on
  cell_among : {ss rest : List Spot} {p : Access} → IsCell ss rest p → (l : List ℕ) → Among l rest → Among l ss
  cell_among (indexed-is n a b c ss rest wrap e i) l h = past (past (index_among i l (past h)))

  index_among : {ss rest : List Spot} {wrap : Bool} {e : Expr} → IsIndex ss rest wrap e → (l : List ℕ) → Among l rest → Among l ss
  index_among (plain-is ss rest e i) l h = expr_among i l h
  index_among (wrap-is a ss rest e i) l h = past (expr_among i l h)

  -- behind a primary
  primary_among : {ss rest : List Spot} {e : Expr} → IsPrimary ss rest e → (l : List ℕ) → Among l rest → Among l ss
  primary_among (number-is n a rest) l h = past h
  primary_among (scalar-is n a rest) l h = past h
  primary_among (cell-is ss rest p i) l h = cell_among i l h
  primary_among (len-is n a b c d rest) l h = past (past (past (past h)))
  primary_among (brackets-are a b ss rest e i) l h = past (expr_among i l (past h))

  -- behind a level
  level_among : {m : ℕ} {ss rest : List Spot} {e : Expr} → IsLevel m ss rest e → (l : List ℕ) → Among l rest → Among l ss
  level_among (primary-is ss rest e i) l h = primary_among i l h
  level_among (negated-is a ss rest e i) l h = past (primary_among i l h)
  level_among (inverted-is a ss rest e i) l h = past (primary_among i l h)
  level_among (lower-is m ss rest e i) l h = level_among i l h
  level_among (joined-is m o at ss mid rest a b is i j) l h = level_among i l (past (level_among j l h))

  -- behind an expression
  expr_among : {ss rest : List Spot} {e : Expr} → IsExpr ss rest e → (l : List ℕ) → Among l rest → Among l ss
  expr_among (level-is ss rest e i) l h = level_among i l h
  expr_among (compared-is o at ss mid rest a b is i j) l h = level_among i l (past (level_among j l h))

mutual
  -- the places in a statement, before some behind it
  stmt_among : {ss rest : List Spot} {x : Stmt} → IsStmt ss rest x → (l : List ℕ) → Among l rest → Among (fors_in x ++ l) ss
  stmt_among (let-is n a b c d ss rest e i) l h = past (past (past (expr_among i l (past h))))
  stmt_among (set-is n a b c ss rest e i) l h = past (past (expr_among i l (past h)))
  stmt_among (fold-is n a b c f ss rest e i) l h = past (past (expr_among i l (past h)))
  stmt_among (put-is a b ss mid rest p e i j) l h = cell_among i l (past (expr_among j l (past h)))
  stmt_among (fold-put-is a b f ss mid rest p e i j) l h = cell_among i l (past (expr_among j l (past h)))
  stmt_among (if-is a ss mid more rest e then_part else_part i j k) l h =
      subst (λ m. Among m (word w.If a ∷ ss)) (sym (ap (λ m. m ++ l) (fors-If e then_part else_part) ∙ append_assoc (fors_all then_part) (fors_all else_part) l))
      (past (expr_among i _ (block_among j _ (else_among k l h))))
  stmt_among (while-is a ss mid rest e body i j) l h =
      subst (λ m. Among (m ++ l) (word w.While a ∷ ss)) (sym (fors-While e body a)) (past (expr_among i _ (block_among j l h)))
  stmt_among (for-is ss rest x i) l h = loop_among i l h
  stmt_among (seq-for-is a ss rest x i) l h = past (loop_among i l h)
  stmt_among (print-is a b ss rest e i) l h = past (expr_among i l (past h))

  -- in a loop, whose own is the first
  loop_among : {ss rest : List Spot} {seq : Bool} {x : Loop} → IsLoop ss rest seq x → (l : List ℕ) → Among l rest → Among (fors_in (stmt.For x) ++ l) ss
  loop_among (loop-is n a b c d seq ss mid more rest low high body i j k) l h =
      let x : Loop = record { index = named n b; low = low; high = high; body = body; seq = seq; at = a } in
      subst (λ m. Among (m ++ l) (word w.For a ∷ name n b ∷ word w.In c ∷ ss)) (sym (fors-For x))
      (taken a _ _ (past (past (expr_among i _ (past (expr_among j _ (block_among k l h)))))))

  -- in a block
  block_among : {ss rest : List Spot} {body : List Stmt} → IsBlock ss rest body → (l : List ℕ) → Among l rest → Among (fors_all body ++ l) ss
  block_among (block-is a b ss rest body i) l h = past (stmts_among i l (past h))

  -- in the other part of an if
  else_among : {ss rest : List Spot} {body : List Stmt} → IsElse ss rest body → (l : List ℕ) → Among l rest → Among (fors_all body ++ l) ss
  else_among (no-else rest) l h = h
  else_among (else-is a ss rest body i) l h = past (block_among i l h)

  -- in one statement after another
  stmts_among : {ss rest : List Spot} {body : List Stmt} → IsStmts ss rest body → (l : List ℕ) → Among l rest → Among (fors_all body ++ l) ss
  stmts_among (no-more rest) l h = h
  stmts_among (one-more ss mid rest first later i j) l h =
      subst (λ m. Among m ss) (sym (append_assoc (fors_in first) (fors_all later) l)) (stmt_among i _ (stmts_among j l h))

-- behind declarations
decls_among : {ss rest : List Spot} {arrays : List ArrayDecl} {vars : List VarDecl} → IsDecls ss rest arrays vars → (l : List ℕ) → Among l rest → Among l ss
decls_among (no-decl rest) l h = h
decls_among (array-is n m a b c d e f ss rest arrays vars i) l h = past (past (past (past (past (past (decls_among i l h))))))
decls_among (var-is n a b c ss rest arrays vars i) l h = past (past (past (decls_among i l h)))
decls_among (var-value-is n m a b c d e ss rest arrays vars i) l h = past (past (past (past (past (decls_among i l h)))))

pub program_places : (ss : List Spot) (p : Program) → IsProgram ss p → AreRising (token_places ss) → HasOwnPlaces p
program_places ss p (mid, ds, is) h =
    part_rises (subst (λ l. Among l ss) (append-nil (fors_all p.body)) (decls_among ds _ (stmts_among is [] nothing))) h
