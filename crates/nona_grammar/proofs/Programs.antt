-- The machine reads each program of the grammar, and nothing else.
use Rattle.std.proofs.Common.{◌≡◌, ℕ, pos, List, [], ◌∷◌, ◌++◌, refl, ap, sym, ◌∙◌, subst, Some, None, Ok, false, true, append_assoc, append-nil}
use Rattle.std.specs.declared.option.Option.{Option}
use Rattle.std.specs.declared.result.Result.{Result}
use Rattle.nona_lex.specs.declared.tokens.Keyword.TheVariants as w
use Rattle.nona_lex.specs.declared.tokens.Sign.TheVariants as s
use Rattle.nona_lex.specs.declared.tokens.Token.{Token}
use Rattle.nona_lex.specs.declared.tokens.Token.TheVariants as token
use Rattle.nona_lex.specs.declared.tokens.Spot.{Spot}
use Rattle.nona_tree.specs.declared.trees.Stmt.{Stmt}
use Rattle.nona_tree.specs.declared.trees.ArrayDecl.{ArrayDecl}
use Rattle.nona_tree.specs.declared.trees.VarDecl.{VarDecl}
use Rattle.nona_tree.specs.declared.trees.Program.{Program}
use Rattle.nona_grammar.specs.Levels.{sign, named}
use Rattle.nona_grammar.specs.Stack.{Trees, Reach, Bind, Assign, Merge, Store, Begin, Branch, Repeat, Each, Show, Array, Var, act, push, with_block, adds, empty, whole_of}
use Rattle.nona_grammar.specs.Machine
use Rattle.nona_grammar.specs.Machine.{Sym, Do, Want, Decls, Stmts, Statement, AfterCell, Else, ForName, Block, Whole, behind, expanded, step, behind_step, build}
use Rattle.nona_grammar.specs.Grammar.{IsStmt, IsBlock, IsElse, IsStmts, IsDecls, IsProgram, indexed-is, let-is, set-is, fold-is, put-is, fold-put-is, if-is, while-is, for-is, seq-for-is, print-is, loop-is, block-is, no-else, else-is, no-more, one-more, no-decl, array-is, var-is, var-value-is}
use Rattle.nona_grammar.proofs.Machining.{passed, acted}
use Rattle.nona_grammar.proofs.Meaning.{AllMean, declared, array_of}
use Rattle.nona_grammar.proofs.Taking.{adds_more}
use Rattle.nona_grammar.proofs.Sound.{Ends, adds_none, all_sound}
use Rattle.nona_grammar.proofs.Complete.{Ended, index_built, expr_built}

-- ---- first tokens

-- something comes in the place of a symbol
abbrev IsSome : Option (List Sym) → Type 0
IsSome None = ⊥
IsSome (Some new) = Unit {0}

-- the first token begins a statement
abbrev Starts : List Spot → Type 0
Starts [] = ⊥
Starts (x ∷ ss) = IsSome (Machine.statement x.token x.at)

-- each statement starts as one does
stmt_first : {ss rest : List Spot} {x : Stmt} → IsStmt ss rest x → Starts ss
stmt_first (let-is n a b c d ss rest e i) = tt
stmt_first (set-is n a b c ss rest e i) = tt
stmt_first (fold-is n a b c f ss rest e i) = tt
stmt_first (put-is a b ss mid rest p e (indexed-is n a' b' c' ss' rest' wrap e' i') i) = tt
stmt_first (fold-put-is a b f ss mid rest p e (indexed-is n a' b' c' ss' rest' wrap e' i') i) = tt
stmt_first (if-is a ss mid more rest e then_part else_part i j l) = tt
stmt_first (while-is a ss mid rest e body i j) = tt
stmt_first (for-is ss rest l (loop-is n a b c d seq ss' mid more rest' low high body i j m)) = tt
stmt_first (seq-for-is a ss rest l i) = tt
stmt_first (print-is a b ss rest e i) = tt

-- a token that is not the word `else`
abbrev pub NoElseToken : Token → Type 0
NoElseToken (token.Word w.Else) = ⊥
NoElseToken _ = Unit {0}

-- tokens that don't begin with it: an if may end before them
abbrev pub NoElse : List Spot → Type 0
NoElse [] = Unit {0}
NoElse (x ∷ ss) = NoElseToken x.token

-- what begins a statement is no `else`
no_else_token : (t : Token) (at : ℕ) → IsSome (Machine.statement t at) → NoElseToken t
no_else_token (token.Word w.Else) at h = h
no_else_token _ at h = tt

-- so an if may end before a statement
starts_no_else : (ss : List Spot) → Starts ss → NoElse ss
starts_no_else [] h = tt
starts_no_else (x ∷ ss) h = no_else_token x.token x.at h

-- and before statements, where one may end behind them
stmts_no_else : {ss rest : List Spot} {l : List Stmt} → IsStmts ss rest l → NoElse rest → NoElse ss
stmts_no_else (no-more rest) n = n
stmts_no_else (one-more ss mid rest first later d ds) n = starts_no_else ss (stmt_first d)

-- a token that is not `else` begins no other part of an if
else_none : (t : Token) → NoElseToken t → Machine.else_next t ≡ None
else_none (token.Word w.Else) n = absurd n
else_none _ n = refl

-- so the if has an empty one
pub past_else : (end : ℕ) (k : List Sym) (v : Trees) (rest : List Spot) → NoElse rest → build end (Else ∷ k) v rest ≡ build end k (act Branch (with_block [] v)) rest
past_else end k v [] n = refl
past_else end k v (x ∷ ss) n = passed end Else k v x ss (else_none x.token n) refl

-- an expression may end before a block
block_first : {ss rest : List Spot} {l : List Stmt} → IsBlock ss rest l → Ended ss
block_first (block-is a b ss rest body d) = tt

-- a token that is taken is taken with more behind
behind_some : (o : Option (List Sym)) (b : Sym) (k : List Sym) (v : Trees) (x y : Option (List Sym × Trees)) → IsSome o
    → expanded (behind o b) k v x ≡ expanded o (b ∷ k) v y
behind_some None b k v x y h = absurd h
behind_some (Some new) b k v x y h = ap (λ (l : List Sym). Some (l, v)) (append_assoc new (b ∷ []) k)

-- before a statement, statements are one and more
stmts_are : (end : ℕ) (k : List Sym) (v : Trees) (ss : List Spot) → Starts ss → build end (Stmts ∷ k) v ss ≡ build end (Statement ∷ Stmts ∷ k) v ss
stmts_are end k v [] h = absurd h
stmts_are end k v (x ∷ ss) h = ap (λ o. behind_step o x.at (λ l u. build end l u ss)) (behind_some (Machine.statement x.token x.at) Stmts k v (step k v x) None h)

-- what begins a statement begins no declaration
no_decl_token : (t : Token) (at : ℕ) → IsSome (Machine.statement t at) → Machine.decls t ≡ None
no_decl_token (token.Word w.Array) at h = absurd h
no_decl_token (token.Word w.Var) at h = absurd h
no_decl_token _ at h = refl

-- so declarations end before a statement
decls_end : (end : ℕ) (k : List Sym) (v : Trees) (ss : List Spot) → Starts ss → build end (Decls ∷ k) v ss ≡ build end k v ss
decls_end end k v [] h = absurd h
decls_end end k v (x ∷ ss) h = passed end Decls k v x ss (no_decl_token x.token x.at h) refl

-- before statements to the end of the text, the declarations are over
past_decls : {ss rest : List Spot} {l : List Stmt} → IsStmts ss rest l → rest ≡ [] → (end : ℕ) (k : List Sym) (v : Trees)
    → build end (Decls ∷ k) v ss ≡ build end k v ss
past_decls (no-more rest) e end k v = ap (λ (ts : List Spot). build end (Decls ∷ k) v ts) e ∙ ap (λ (ts : List Spot). build end k v ts) (sym e)
past_decls (one-more ss mid rest first later d ds) e end k v = decls_end end k v ss (stmt_first d)

-- ---- statements

mutual
  -- a statement is read where an if may end
  pub stmt_built : {ss rest : List Spot} {x : Stmt} → IsStmt ss rest x → (end : ℕ) (k : List Sym) (v : Trees) → NoElse rest
      → build end (Statement ∷ k) v ss ≡ build end k (adds (x ∷ []) v) rest
  stmt_built (let-is n a b c d ss rest e i) end k v _ =
      expr_built i end (Want s.Semicolon ∷ Do (Bind (named n b)) ∷ k) v tt ∙ acted end (Bind (named n b)) k (push e v) rest
  stmt_built (set-is n a b c ss rest e i) end k v _ =
      expr_built i end (Want s.Semicolon ∷ Do (Assign (named n a)) ∷ k) v tt ∙ acted end (Assign (named n a)) k (push e v) rest
  stmt_built (fold-is n a b c f ss rest e i) end k v _ =
      expr_built i end (Want s.Semicolon ∷ Do (Merge (named n a) f) ∷ k) v tt ∙ acted end (Merge (named n a) f) k (push e v) rest
  stmt_built (put-is a b ss mid rest p e (indexed-is n a' b' c' ss' rest' wrap e' i') i) end k v _ =
      let u : Trees = act (Reach (named n a') wrap) (push e' v) in
      index_built i' end n a' (Want s.CloseIndex ∷ AfterCell ∷ k) v tt ∙ expr_built i end (Want s.Semicolon ∷ Do (Store None) ∷ k) u tt
      ∙ acted end (Store None) k (push e u) rest
  stmt_built (fold-put-is a b f ss mid rest p e (indexed-is n a' b' c' ss' rest' wrap e' i') i) end k v _ =
      let u : Trees = act (Reach (named n a') wrap) (push e' v) in
      index_built i' end n a' (Want s.CloseIndex ∷ AfterCell ∷ k) v tt ∙ expr_built i end (Want s.Semicolon ∷ Do (Store (Some f)) ∷ k) u tt
      ∙ acted end (Store (Some f)) k (push e u) rest
  stmt_built (if-is a ss mid more rest e then_part else_part i j l) end k v c =
      expr_built i end (Block ∷ Else ∷ k) v (block_first j) ∙ block_built j end (Else ∷ k) (push e v) ∙ else_built l end k (with_block then_part (push e v)) c
  stmt_built (while-is a ss mid rest e body i j) end k v _ =
      expr_built i end (Block ∷ Do (Repeat a) ∷ k) v (block_first j) ∙ block_built j end (Do (Repeat a) ∷ k) (push e v)
      ∙ acted end (Repeat a) k (with_block body (push e v)) rest
  stmt_built (for-is ss rest l (loop-is n a b c d seq ss' mid more rest' low high body i j m)) end k v _ =
      let each = Each (named n b) false a in
      let bounds : Trees = push high (push low v) in
      expr_built i end (Want s.Range ∷ Whole ∷ Block ∷ Do each ∷ k) v tt ∙ expr_built j end (Block ∷ Do each ∷ k) (push low v) (block_first m)
      ∙ block_built m end (Do each ∷ k) bounds ∙ acted end each k (with_block body bounds) rest
  stmt_built (seq-for-is a' ss rest l (loop-is n a b c d seq ss' mid more rest' low high body i j m)) end k v _ =
      let each = Each (named n b) true a in
      let bounds : Trees = push high (push low v) in
      expr_built i end (Want s.Range ∷ Whole ∷ Block ∷ Do each ∷ k) v tt ∙ expr_built j end (Block ∷ Do each ∷ k) (push low v) (block_first m)
      ∙ block_built m end (Do each ∷ k) bounds ∙ acted end each k (with_block body bounds) rest
  stmt_built (print-is a b ss rest e i) end k v _ =
      expr_built i end (Want s.Semicolon ∷ Do (Show a) ∷ k) v tt ∙ acted end (Show a) k (push e v) rest

  -- a block is read whatever is left behind it
  pub block_built : {ss rest : List Spot} {l : List Stmt} → IsBlock ss rest l → (end : ℕ) (k : List Sym) (v : Trees)
      → build end (Block ∷ k) v ss ≡ build end k (with_block l v) rest
  block_built (block-is a b ss rest body d) end k v =
      acted end Begin (Stmts ∷ Want s.CloseBlock ∷ k) v ss ∙ stmts_built d end (Want s.CloseBlock ∷ k) (with_block [] v) tt

  -- the other part of an if ends it
  pub else_built : {ss rest : List Spot} {l : List Stmt} → IsElse ss rest l → (end : ℕ) (k : List Sym) (v : Trees) → NoElse rest
      → build end (Else ∷ k) v ss ≡ build end k (act Branch (with_block l v)) rest
  else_built (no-else rest) end k v c = past_else end k v rest c
  else_built (else-is a ss rest body d) end k v c = block_built d end (Do Branch ∷ k) v ∙ acted end Branch k (with_block body v) rest

  -- statements are read up to where more may follow
  pub stmts_built : {ss rest : List Spot} {l : List Stmt} → IsStmts ss rest l → (end : ℕ) (k : List Sym) (v : Trees) → NoElse rest
      → build end (Stmts ∷ k) v ss ≡ build end (Stmts ∷ k) (adds l v) rest
  stmts_built (no-more rest) end k v c = ap (λ (bs : List (List Stmt)). build end (Stmts ∷ k) (record v { blocks = bs }) rest) (sym (adds_none v.blocks))
  stmts_built (one-more ss mid rest first later d ds) end k v c =
      stmts_are end k v ss (stmt_first d) ∙ stmt_built d end (Stmts ∷ k) v (stmts_no_else ds c) ∙ stmts_built ds end k (adds (first ∷ []) v) c
      ∙ ap (λ (bs : List (List Stmt)). build end (Stmts ∷ k) (record v { blocks = bs }) rest) (adds_more first later v.blocks)

-- ---- declarations and programs

-- one more array
array_more : (x : ArrayDecl) (arrays : List ArrayDecl) (vars : List VarDecl) (v : Trees) → declared arrays vars (act (Array x) v) ≡ declared (x ∷ arrays) vars v
array_more x arrays vars v = ap (λ (l : List ArrayDecl). let u : Trees = record v { arrays = l; vars = v.vars ++ vars } in u) (append_assoc v.arrays (x ∷ []) arrays)

-- one more variable
var_more : (x : VarDecl) (arrays : List ArrayDecl) (vars : List VarDecl) (v : Trees) → declared arrays vars (act (Var x) v) ≡ declared arrays (x ∷ vars) v
var_more x arrays vars v = ap (λ (l : List VarDecl). let u : Trees = record v { arrays = v.arrays ++ arrays; vars = l } in u) (append_assoc v.vars (x ∷ []) vars)

-- no more of either
declared_none : (v : Trees) → v ≡ declared [] [] v
declared_none v =
    ap (λ (l : List ArrayDecl). let u : Trees = record v { arrays = l } in u) (sym (append-nil v.arrays))
    ∙ ap (λ (l : List VarDecl). let u : Trees = record v { arrays = v.arrays ++ []; vars = l } in u) (sym (append-nil v.vars))

-- declarations are read up to where more may follow
decls_built : {ss rest : List Spot} {arrays : List ArrayDecl} {vars : List VarDecl} → IsDecls ss rest arrays vars → (end : ℕ) (k : List Sym) (v : Trees)
    → build end (Decls ∷ k) v ss ≡ build end (Decls ∷ k) (declared arrays vars v) rest
decls_built (no-decl rest) end k v = ap (λ (u : Trees). build end (Decls ∷ k) u rest) (declared_none v)
decls_built (array-is n m a b c d e f ss rest arrays vars i) end k v =
    let x : ArrayDecl = array_of n b (m, d) in
    acted end (Array x) (Want s.CloseIndex ∷ Want s.Semicolon ∷ Decls ∷ k) v (sign s.CloseIndex e ∷ sign s.Semicolon f ∷ ss)
    ∙ decls_built i end k (act (Array x) v) ∙ ap (λ (u : Trees). build end (Decls ∷ k) u rest) (array_more x arrays vars v)
decls_built (var-is n a b c ss rest arrays vars i) end k v =
    let x : VarDecl = record { name = named n b; value = pos 0 } in
    acted end (Var x) (Decls ∷ k) v ss ∙ decls_built i end k (act (Var x) v) ∙ ap (λ (u : Trees). build end (Decls ∷ k) u rest) (var_more x arrays vars v)
decls_built (var-value-is n m a b c d e ss rest arrays vars i) end k v =
    let x : VarDecl = record { name = named n b; value = m } in
    acted end (Var x) (Want s.Semicolon ∷ Decls ∷ k) v (sign s.Semicolon e ∷ ss) ∙ decls_built i end k (act (Var x) v)
    ∙ ap (λ (u : Trees). build end (Decls ∷ k) u rest) (var_more x arrays vars v)

-- each program is read to its trees
pub program_complete : (end : ℕ) (ss : List Spot) (p : Program) → IsProgram ss p → build end (Decls ∷ Stmts ∷ []) empty ss ≡ Ok (whole_of p)
program_complete end ss p (mid, ds, is) =
    let u : Trees = declared p.arrays p.vars empty in
    decls_built ds end (Stmts ∷ []) empty ∙ past_decls is refl end (Stmts ∷ []) u ∙ stmts_built is end [] u tt

-- what is read is a program, and the trees are its trees
pub program_sound : (end : ℕ) (ss : List Spot) (out : Trees) → build end (Decls ∷ Stmts ∷ []) empty ss ≡ Ok out
    → (p : Program) × IsProgram ss p × (out ≡ whole_of p)
program_sound end ss out h = by_meaning (all_sound end ss out (Decls ∷ Stmts ∷ []) empty h)
  where
    by_meaning : AllMean (Decls ∷ Stmts ∷ []) empty ss (Ends out) → (p : Program) × IsProgram ss p × (out ≡ whole_of p)
    by_meaning ((arrays, vars), mid, ds, (l, rest, is, (none, same))) =
        (record { arrays = arrays; vars = vars; body = l }, (mid, ds, subst (λ (ts : List Spot). IsStmts mid ts l) none is), sym same)

-- the program of the trees at the end
program_of : Trees → Program
program_of out = record { arrays = out.arrays; vars = out.vars; body = first_of out.blocks }
  where
    first_of : List (List Stmt) → List Stmt
    first_of [] = []
    first_of (b ∷ bs) = b

-- a result has one value
same_ok : {A B : Type 0} (r : Result A B) (x y : A) → r ≡ Ok x → r ≡ Ok y → x ≡ y
same_ok r x y e f = cc

-- both programs are what the machine makes of the tokens
pub one_tree : (ss : List Spot) (p q : Program) → IsProgram ss p → IsProgram ss q → p ≡ q
unfolding program_of
one_tree ss p q a b =
    ap program_of (same_ok (build 0 (Decls ∷ Stmts ∷ []) empty ss) (whole_of p) (whole_of q) (program_complete 0 ss p a) (program_complete 0 ss q b))
