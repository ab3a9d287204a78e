-- The blocks of a program are nested no deeper than brackets may be.
use Rattle.std.proofs.Common.{◌≡◌, ℕ, zero, suc, ◌+◌, ◌-◌, ◌<◌, ◌≤◌, nat_lt, max, Bool, true, false, List, [], ◌∷◌, length, refl, ap, sym, ◌∙◌, subst, Some, None, if◌then◌else◌, arith}
use Rattle.std.proofs.lemmas.Bool.{ltb-true}
use Rattle.std.proofs.Math.Nat.{max-le}
use Rattle.std.specs.declared.option.Option.{Option}
use Rattle.nona_lex.specs.declared.tokens.Sign.{Sign}
use Rattle.nona_lex.specs.declared.tokens.Sign.TheVariants as s
use Rattle.nona_lex.specs.declared.tokens.Token.{Token}
use Rattle.nona_lex.specs.declared.tokens.Token.TheVariants as token
use Rattle.nona_lex.specs.declared.tokens.Spot.{Spot}
use Rattle.nona_lex.specs.declared.tokens.Cut.{Cut}
use Rattle.nona_lex.specs.declared.tokens.Tokens.{Tokens}
use Rattle.nona_lex.specs.declared.bounds.TheConstants.{BRACKETS}
use Rattle.nona_lex.specs.Bounds.{Counts, no_counts, behind_opening, closed_to, behind_sign, behind_token, admitted, bounded_from, bounded}
use Rattle.nona_tree.specs.declared.trees.Access.{Access}
use Rattle.nona_tree.specs.declared.trees.Expr.{Expr}
use Rattle.nona_tree.specs.declared.trees.Loop.{Loop}
use Rattle.nona_tree.specs.declared.trees.Stmt.{Stmt}
use Rattle.nona_tree.specs.declared.trees.Stmt.TheVariants as stmt
use Rattle.nona_tree.specs.declared.trees.ArrayDecl.{ArrayDecl}
use Rattle.nona_tree.specs.declared.trees.VarDecl.{VarDecl}
use Rattle.nona_tree.specs.declared.trees.Program.{Program}
use Rattle.nona_tree.specs.Smallness.{stmt_nesting, all_nesting, nesting_of}
use Rattle.nona_tree.proofs.CheckEquations.{nesting-If, nesting-While, nesting-For}
use Rattle.nona_grammar.specs.Grammar.{IsCell, IsIndex, IsPrimary, IsLevel, IsExpr, IsStmt, IsLoop, IsBlock, IsElse, IsStmts, IsDecls, IsProgram, indexed-is, plain-is, wrap-is, number-is, scalar-is, cell-is, len-is, brackets-are, primary-is, negated-is, inverted-is, lower-is, joined-is, level-is, compared-is, let-is, set-is, fold-is, put-is, fold-put-is, if-is, while-is, for-is, seq-for-is, print-is, loop-is, block-is, no-else, else-is, no-more, one-more, no-decl, array-is, var-is, var-value-is}

-- ---- brackets

-- how many brackets are open behind a closing one
abbrev closing : ℕ → ℕ
closing zero = zero
closing (suc n) = n

-- what holds of a sign where n brackets are open: one more may be, if it opens one, and the rest holds of as many as are open behind it
abbrev AtSign : Sign → ℕ → (ℕ → Type 0) → Type 0
AtSign s.Open n later = (suc n ≤ BRACKETS) × later (suc n)
AtSign s.OpenIndex n later = (suc n ≤ BRACKETS) × later (suc n)
AtSign s.OpenBlock n later = (suc n ≤ BRACKETS) × later (suc n)
AtSign s.Close n later = later (closing n)
AtSign s.CloseIndex n later = later (closing n)
AtSign s.CloseBlock n later = later (closing n)
AtSign _ n later = later n

-- the same of a token
abbrev AtToken : Token → ℕ → (ℕ → Type 0) → Type 0
AtToken (token.Sign x) n later = AtSign x n later
AtToken _ n later = later n

-- no more brackets are open at once than the bound, where n are before the tokens
abbrev IsShallow : ℕ → List Spot → Type 0
IsShallow n [] = Unit {0}
IsShallow n (x ∷ ss) = AtToken x.token n (λ m. IsShallow m ss)

-- ---- tokens that were let through

-- what is there only where a test holds
some_if : {A : Type 0} (b : Bool) (x d : A) → (if b then Some x else None) ≡ Some d → (b ≡ true) × (x ≡ d)
some_if true x d e = (refl, cc)
some_if false x d e = absurd (cc)

-- where one more bracket may be open, it is the newest
one_opened : (c d : Counts) (P : ℕ → Type 0) → behind_opening c ≡ Some d → P (length d.outside) → (suc (length c.outside) ≤ BRACKETS) × P (suc (length c.outside))
one_opened c d P e h =
    let o : Counts = record { operators = 0; outside = c.operators ∷ c.outside } in
    let r = some_if (nat_lt (length c.outside) BRACKETS) o d e in
    let below : length c.outside < BRACKETS = ltb-true (length c.outside) BRACKETS r.0 in
    (omega (arith, below), subst (λ (u : Counts). P (length u.outside)) (sym r.1) h)

-- where one is closed, the others are left
one_closed : (n : ℕ) (outside : List ℕ) → length (closed_to n outside).outside ≡ closing (length outside)
one_closed n [] = refl
one_closed n (m ∷ outside) = refl

-- two that are there are the same
same_some : {A : Type 0} (x d : A) → Some x ≡ Some d → x ≡ d
same_some x d e = cc

-- what holds behind a sign that was let through holds at it
at_sign : (x : Sign) (c d : Counts) (P : ℕ → Type 0) → behind_sign x c ≡ Some d → P (length d.outside) → AtSign x (length c.outside) P
at_sign s.Open c d P e h = one_opened c d P e h
at_sign s.OpenIndex c d P e h = one_opened c d P e h
at_sign s.OpenBlock c d P e h = one_opened c d P e h
at_sign s.Close c d P e h = subst P (ap (λ u. length u.outside) (sym (same_some _ d e)) ∙ one_closed c.operators c.outside) h
at_sign s.CloseIndex c d P e h = subst P (ap (λ u. length u.outside) (sym (same_some _ d e)) ∙ one_closed c.operators c.outside) h
at_sign s.CloseBlock c d P e h = subst P (ap (λ u. length u.outside) (sym (same_some _ d e)) ∙ one_closed c.operators c.outside) h
at_sign s.Semicolon c d P e h = subst P (ap (λ u. length u.outside) (sym (same_some _ d e))) h
at_sign s.Set c d P e h = subst P (ap (λ u. length u.outside) (sym (same_some _ d e))) h
at_sign s.Comma c d P e h = subst P (ap (λ u. length u.outside) (sym (same_some _ d e))) h
at_sign s.Range c d P e h = subst P (ap (λ u. length u.outside) (sym (same_some _ d e))) h

-- and so it does of a token
at_token : (t : Token) (c d : Counts) (P : ℕ → Type 0) → behind_token t c ≡ Some d → P (length d.outside) → AtToken t (length c.outside) P
at_token (token.Sign x) c d P e h = at_sign x c d P e h
at_token (token.Operator o) c d P e h = subst P (ap (λ u. length u.outside) (sym (some_if _ _ d e).1)) h
at_token (token.Word k) c d P e h = subst P (ap (λ u. length u.outside) (sym (same_some c d e))) h
at_token (token.Name n) c d P e h = subst P (ap (λ u. length u.outside) (sym (same_some c d e))) h
at_token (token.Number v) c d P e h = subst P (ap (λ u. length u.outside) (sym (same_some c d e))) h
at_token (token.Fold f) c d P e h = subst P (ap (λ u. length u.outside) (sym (same_some c d e))) h

-- a token and those behind it, where it was let through
shallow_admitted : (o : Option Counts) (x : Spot) (c : Counts) (later : Counts → Tokens) → behind_token x.token c ≡ o
    → ((d : Counts) → IsShallow (length d.outside) (later d).spots) → IsShallow (length c.outside) (admitted o x later).spots
shallow_admitted None x c later e h = tt
shallow_admitted (Some d) x c later e h = at_token x.token c d (λ m. IsShallow m (later d).spots) e (h d)

-- what was let through is shallow
shallow_bounded : (c : Counts) (ss : List Spot) (cut : Option Cut) → IsShallow (length c.outside) (bounded_from c ss cut).spots
unfolding bounded_from
shallow_bounded c [] cut = tt
shallow_bounded c (x ∷ ss) cut = shallow_admitted (behind_token x.token c) x c (λ d. bounded_from d ss cut) refl (λ d. shallow_bounded d ss cut)

-- ---- expressions

mutual
  -- behind a place as many brackets are open as before it
  place_shallow : {ss rest : List Spot} {p : Access} → IsCell ss rest p → (n : ℕ) → IsShallow n ss → IsShallow n rest
  place_shallow (indexed-is n a b c ss rest wrap e i) m h = index_shallow i (suc m) h.1

  -- and behind an index
  index_shallow : {ss rest : List Spot} {wrap : Bool} {e : Expr} → IsIndex ss rest wrap e → (n : ℕ) → IsShallow n ss → IsShallow n rest
  index_shallow (plain-is ss rest e d) n h = expr_shallow d n h
  index_shallow (wrap-is a ss rest e d) n h = expr_shallow d n h

  -- and behind a primary
  primary_shallow : {ss rest : List Spot} {e : Expr} → IsPrimary ss rest e → (n : ℕ) → IsShallow n ss → IsShallow n rest
  primary_shallow (number-is m a rest) n h = h
  primary_shallow (scalar-is m a rest) n h = h
  primary_shallow (cell-is ss rest p i) n h = place_shallow i n h
  primary_shallow (len-is m a b c d rest) n h = h.1
  primary_shallow (brackets-are a b ss rest e d) n h = expr_shallow d (suc n) h.1

  -- and behind a level
  level_shallow : {m : ℕ} {ss rest : List Spot} {e : Expr} → IsLevel m ss rest e → (n : ℕ) → IsShallow n ss → IsShallow n rest
  level_shallow (primary-is ss rest e d) n h = primary_shallow d n h
  level_shallow (negated-is a ss rest e d) n h = primary_shallow d n h
  level_shallow (inverted-is a ss rest e d) n h = primary_shallow d n h
  level_shallow (lower-is m ss rest e d) n h = level_shallow d n h
  level_shallow (joined-is m o at ss mid rest a b is d1 d2) n h = level_shallow d2 n (level_shallow d1 n h)

  -- and behind an expression
  expr_shallow : {ss rest : List Spot} {e : Expr} → IsExpr ss rest e → (n : ℕ) → IsShallow n ss → IsShallow n rest
  expr_shallow (level-is ss rest e d) n h = level_shallow d n h
  expr_shallow (compared-is o at ss mid rest a b is d1 d2) n h = level_shallow d2 n (level_shallow d1 n h)

-- ---- statements

-- the greater of two that fit fits
max_fits : (a b n : ℕ) → a + n ≤ BRACKETS → b + n ≤ BRACKETS → max a b + n ≤ BRACKETS
max_fits a b n p q = let m : max a b ≤ BRACKETS - n = max-le (omega (arith, p)) (omega (arith, q)) in omega (arith, m, p)

mutual
  -- behind a statement as many brackets are open as before it, and its blocks are nested no deeper than more may be
  stmt_shallow : {ss rest : List Spot} {x : Stmt} → IsStmt ss rest x → (n : ℕ) → n ≤ BRACKETS → IsShallow n ss
      → IsShallow n rest × (stmt_nesting x + n ≤ BRACKETS)
  stmt_shallow (let-is m a b c d ss rest e i) n le h = (expr_shallow i n h, omega (arith, le))
  stmt_shallow (set-is m a b c ss rest e i) n le h = (expr_shallow i n h, omega (arith, le))
  stmt_shallow (fold-is m a b c f ss rest e i) n le h = (expr_shallow i n h, omega (arith, le))
  stmt_shallow (put-is a b ss mid rest p e i j) n le h = (expr_shallow j n (place_shallow i n h), omega (arith, le))
  stmt_shallow (fold-put-is a b f ss mid rest p e i j) n le h = (expr_shallow j n (place_shallow i n h), omega (arith, le))
  stmt_shallow (if-is a ss mid more rest e then_part else_part i j l) n le h =
      let r = block_shallow j n (expr_shallow i n h) in
      let q = else_shallow l n (omega (arith, r.1)) r.0 in
      (q.0, omega (arith, nesting-If e then_part else_part, max_fits (all_nesting then_part) (all_nesting else_part) (suc n) r.1 q.1))
  stmt_shallow (while-is a ss mid rest e body i j) n le h =
      let r = block_shallow j n (expr_shallow i n h) in (r.0, omega (arith, nesting-While e body a, r.1))
  stmt_shallow (for-is ss rest l i) n le h = loop_shallow i n h
  stmt_shallow (seq-for-is a ss rest l i) n le h = loop_shallow i n h
  stmt_shallow (print-is a b ss rest e i) n le h = (expr_shallow i n h, omega (arith, le))

  -- the same of a loop
  loop_shallow : {ss rest : List Spot} {seq : Bool} {l : Loop} → IsLoop ss rest seq l → (n : ℕ) → IsShallow n ss
      → IsShallow n rest × (stmt_nesting (stmt.For l) + n ≤ BRACKETS)
  loop_shallow {l = l} (loop-is m a b c d seq ss mid more rest low high body i j k) n h =
      let r = block_shallow k n (expr_shallow j n (expr_shallow i n h)) in (r.0, omega (arith, nesting-For l, r.1))

  -- a block opens one more
  block_shallow : {ss rest : List Spot} {l : List Stmt} → IsBlock ss rest l → (n : ℕ) → IsShallow n ss
      → IsShallow n rest × (all_nesting l + suc n ≤ BRACKETS)
  block_shallow (block-is a b ss rest body d) n h = stmts_shallow d (suc n) h.0 h.1

  -- and so does the other part of an if, where it is there
  else_shallow : {ss rest : List Spot} {l : List Stmt} → IsElse ss rest l → (n : ℕ) → suc n ≤ BRACKETS → IsShallow n ss
      → IsShallow n rest × (all_nesting l + suc n ≤ BRACKETS)
  else_shallow (no-else rest) n le h = (h, omega (arith, le))
  else_shallow (else-is a ss rest body d) n le h = block_shallow d n h

  -- one statement after another
  stmts_shallow : {ss rest : List Spot} {l : List Stmt} → IsStmts ss rest l → (n : ℕ) → n ≤ BRACKETS → IsShallow n ss
      → IsShallow n rest × (all_nesting l + n ≤ BRACKETS)
  stmts_shallow (no-more rest) n le h = (h, omega (arith, le))
  stmts_shallow (one-more ss mid rest first later d ds) n le h =
      let r = stmt_shallow d n le h in
      let q = stmts_shallow ds n le r.0 in
      (q.0, max_fits (stmt_nesting first) (all_nesting later) n r.1 q.1)

-- behind declarations as many brackets are open as before them
decls_shallow : {ss rest : List Spot} {arrays : List ArrayDecl} {vars : List VarDecl} → IsDecls ss rest arrays vars → (n : ℕ) → IsShallow n ss → IsShallow n rest
decls_shallow (no-decl rest) n h = h
decls_shallow (array-is m x a b c d e f ss rest arrays vars i) n h = decls_shallow i n h.1
decls_shallow (var-is m a b c ss rest arrays vars i) n h = decls_shallow i n h
decls_shallow (var-value-is m x a b c d e ss rest arrays vars i) n h = decls_shallow i n h

-- the blocks of a program whose tokens were let through are nested no deeper than brackets may be
pub program_nesting : (tokens : Tokens) (p : Program) → IsProgram (bounded tokens).spots p → nesting_of p ≤ BRACKETS
program_nesting tokens p (mid, ds, is) =
    let r = stmts_shallow is 0 (omega arith) (decls_shallow ds 0 (shallow_bounded no_counts tokens.spots tokens.cut)) in
    omega (arith, r.1)
