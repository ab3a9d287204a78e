-- Where the machine is stuck, the tokens before can still become a program, and with the next they can't.
use Rattle.std.proofs.Common.{◌≡◌, ℕ, zero, suc, pos, List, [], ◌∷◌, ◌++◌, refl, ap, sym, ◌∙◌, subst, Ok, Err, Some, None, Bool, true, false, inl, inr}
use Rattle.std.proofs.lemmas.Bool.{eq-eqb}
use Rattle.std.specs.declared.option.Option.{Option}
use Rattle.std.specs.declared.result.Result.{Result}
use Rattle.nona_lex.specs.declared.tokens.Keyword.TheVariants as w
use Rattle.nona_lex.specs.declared.tokens.Sign.{Sign}
use Rattle.nona_lex.specs.declared.tokens.Sign.TheVariants as s
use Rattle.nona_lex.specs.declared.tokens.Token.{Token}
use Rattle.nona_lex.specs.declared.tokens.Token.TheVariants as token
use Rattle.nona_lex.specs.declared.tokens.Spot.{Spot}
use Rattle.nona_tree.specs.declared.trees.Expr.{Expr}
use Rattle.nona_tree.specs.declared.trees.Expr.TheVariants as expr
use Rattle.nona_grammar.specs.Levels.{word, sign, name, number, named, loosest}
use Rattle.nona_grammar.specs.Stack.{Trees, Act, Leaf, Bind, Assign, Store, Each, Array, Var, act, push, with_block, empty, whole_of}
use Rattle.nona_grammar.specs.Machine
use Rattle.nona_grammar.specs.Machine.{Sym, Do, Want, In, Decls, ArrayName, CellsOpen, Cells, VarName, Init, InitNumber, Stmts, Statement, LetName, AfterName, AfterCell, Else, ForWord, ForName, Block, Index, Whole, Compare, Level, Tail, Primary, MaybeCell, LenOpen, LenName, sign_code, choice, optional, skip, past, step, finish, behind_step, build}
use Rattle.nona_grammar.specs.Grammar.{IsLevel, IsExpr, IsBlock, plain-is, number-is, primary-is, lower-is, level-is, print-is, block-is, no-more}
use Rattle.nona_grammar.specs.Faults.{FirstFault, IsText, FaultAt}
use Rattle.nona_grammar.proofs.Machining.{took, passed, acted}
use Rattle.nona_grammar.proofs.Meaning.{array_of}
use Rattle.nona_grammar.proofs.Complete.{Calm, CalmToken, past_tail, past_compare, past_cell, closes, primary_built, index_built, level_built, expr_built}
use Rattle.nona_grammar.proofs.Programs.{NoElse, NoElseToken, past_else, stmt_built, block_built, program_complete, program_sound}
use Rattle.nona_grammar.proofs.Kept.{Mild, AllMild, Kept, LeftKept, mild_map, mild_kept, kept_step}

-- what is to come takes the tokens to the end of the text
abbrev Accepts : ℕ → List Sym → Trees → List Spot → Type 0
Accepts end k v ss = (out : Trees) × (build end k v ss ≡ Ok out)

-- ---- the shortest text of what is to come

-- a token that no symbol takes which may stand for none
abbrev SoftToken : Token → Type 0
SoftToken (token.Number n) = Unit {0}
SoftToken (token.Word w.In) = Unit {0}
SoftToken (token.Sign s.OpenIndex) = ⊥
SoftToken (token.Sign x) = Unit {0}
SoftToken _ = ⊥

-- tokens that begin with none of those
abbrev Soft : List Spot → Type 0
Soft [] = Unit {0}
Soft (x ∷ ss) = SoftToken x.token

-- the number 0
abbrev nought : Expr
nought = expr.Number (pos 0)

-- the number 0 before later tokens
abbrev zero_to : List Spot → List Spot
zero_to later = number (pos 0) 0 ∷ later

-- a block of no statements before later tokens
abbrev no_stmts_to : List Spot → List Spot
no_stmts_to later = sign s.OpenBlock 0 ∷ sign s.CloseBlock 0 ∷ later

-- an expression and its end before later tokens
abbrev ended_to : List Spot → List Spot
ended_to later = zero_to (sign s.Semicolon 0 ∷ later)

-- a loop behind the word `for` before later tokens
abbrev loop_to : List Spot → List Spot
loop_to later = name [] 0 ∷ word w.In 0 ∷ zero_to (sign s.Range 0 ∷ zero_to (no_stmts_to later))

-- the shortest text of a symbol, before later tokens
abbrev filled : Sym → List Spot → List Spot
filled (Do a) later = later
filled (Want x) later = sign x 0 ∷ later
filled In later = word w.In 0 ∷ later
filled Decls later = later
filled ArrayName later = name [] 0 ∷ sign s.OpenIndex 0 ∷ zero_to (sign s.CloseIndex 0 ∷ sign s.Semicolon 0 ∷ later)
filled (CellsOpen n a) later = sign s.OpenIndex 0 ∷ zero_to later
filled (Cells n a) later = zero_to later
filled VarName later = name [] 0 ∷ sign s.Semicolon 0 ∷ later
filled (Init n a) later = sign s.Semicolon 0 ∷ later
filled (InitNumber n a) later = zero_to later
filled Stmts later = later
filled Statement later = word w.Print 0 ∷ ended_to later
filled LetName later = name [] 0 ∷ sign s.Set 0 ∷ ended_to later
filled (AfterName n a) later = sign s.Set 0 ∷ ended_to later
filled AfterCell later = sign s.Set 0 ∷ ended_to later
filled Else later = later
filled ForWord later = word w.For 0 ∷ loop_to later
filled (ForName seq a) later = loop_to later
filled Block later = no_stmts_to later
filled (Index n a) later = zero_to later
filled Whole later = zero_to later
filled Compare later = later
filled (Level m) later = zero_to later
filled (Tail m) later = later
filled Primary later = zero_to later
filled (MaybeCell n a) later = later
filled LenOpen later = sign s.Open 0 ∷ name [] 0 ∷ later
filled LenName later = name [] 0 ∷ later

-- the shortest text of all that is to come
abbrev completion : List Sym → List Spot
completion [] = []
completion (a ∷ k) = filled a (completion k)

-- a symbol that may stand behind others has a soft text
soft_filled : (a : Sym) (later : List Spot) → Mild a (Soft later) → Soft (filled a later)
soft_filled (Do a) later h = h
soft_filled (Want s.OpenIndex) later h = absurd h
soft_filled Decls later h = h
soft_filled ArrayName later h = absurd h
soft_filled (CellsOpen n a) later h = absurd h
soft_filled VarName later h = absurd h
soft_filled Stmts later h = h
soft_filled Statement later h = absurd h
soft_filled LetName later h = absurd h
soft_filled Else later h = h
soft_filled ForWord later h = absurd h
soft_filled (ForName seq a) later h = absurd h
soft_filled Compare later h = h
soft_filled (Tail m) later h = h
soft_filled (MaybeCell n a) later h = h
soft_filled LenName later h = absurd h
soft_filled _ later h = tt

-- and so have all of them
soft : (k : List Sym) → AllMild k → Soft (completion k)
soft [] h = tt
soft (a ∷ k) h = soft_filled a (completion k) (mild_map a (soft k) h)

-- a soft token is no operator, and opens no index
calm_token : (m : ℕ) (t : Token) → SoftToken t → CalmToken m t
calm_token m (token.Operator x) h = absurd h
calm_token m (token.Sign s.OpenIndex) h = absurd h
calm_token m _ h = tt

-- so soft tokens end an expression of each level
soft_calm : (m : ℕ) (ss : List Spot) → Soft ss → Calm m ss
soft_calm m [] h = tt
soft_calm m (x ∷ ss) h = calm_token m x.token h

-- a soft token is not the word `else`
no_else_token : (t : Token) → SoftToken t → NoElseToken t
no_else_token (token.Word w.Else) h = absurd h
no_else_token _ h = tt

-- so an if may end before soft tokens
soft_no_else : (ss : List Spot) → Soft ss → NoElse ss
soft_no_else [] h = tt
soft_no_else (x ∷ ss) h = no_else_token x.token h

-- a soft token begins no statement
no_statement : (t : Token) (at : ℕ) → SoftToken t → Machine.statement t at ≡ None
no_statement (token.Name n) at h = absurd h
no_statement (token.Word w.In) at h = refl
no_statement (token.Word x) at h = absurd h
no_statement _ at h = refl

-- and no declaration
no_decl : (t : Token) → SoftToken t → Machine.decls t ≡ None
no_decl (token.Word w.Array) h = absurd h
no_decl (token.Word w.Var) h = absurd h
no_decl _ h = refl

-- statements end before soft tokens
past_stmts : (end : ℕ) (k : List Sym) (v : Trees) (ss : List Spot) → Soft ss → build end (Stmts ∷ k) v ss ≡ build end k v ss
past_stmts end k v [] h = refl
past_stmts end k v (x ∷ ss) h = passed end Stmts k v x ss (ap (λ o. Machine.behind o Stmts) (no_statement x.token x.at h)) refl

-- declarations end before soft tokens
past_decls : (end : ℕ) (k : List Sym) (v : Trees) (ss : List Spot) → Soft ss → build end (Decls ∷ k) v ss ≡ build end k v ss
past_decls end k v [] h = refl
past_decls end k v (x ∷ ss) h = passed end Decls k v x ss (no_decl x.token h) refl

-- 0 is an operand of each level
zero_level : (m : ℕ) (later : List Spot) → IsLevel m (zero_to later) later nought
zero_level zero later = primary-is (zero_to later) later nought (number-is (pos 0) 0 later)
zero_level (suc m) later = lower-is m (zero_to later) later nought (zero_level m later)

-- 0 is an expression
zero_expr : (later : List Spot) → IsExpr (zero_to later) later nought
zero_expr later = level-is (zero_to later) later nought (zero_level loosest later)

-- brackets with nothing between are a block
no_block : (later : List Spot) → IsBlock (no_stmts_to later) later []
no_block later = block-is 0 0 (sign s.CloseBlock 0 ∷ later) later [] (no-more (sign s.CloseBlock 0 ∷ later))

-- a sign that is wanted is taken
want_is : (end : ℕ) (x : Sign) (k : List Sym) (v : Trees) (ss : List Spot) → build end (Want x ∷ k) v (sign x 0 ∷ ss) ≡ build end k v ss
want_is end x k v ss = took end (Want x) k v (sign x 0) ss [] (ap (λ b. choice b (Some []) None) (eq-eqb (sign_code x) (sign_code x) refl))

-- a variable of value 0
abbrev zero_var : List ℕ → ℕ → Act
zero_var n a = Var (record { name = named n a; value = pos 0 })

-- what goes on to a result that is accepted is accepted
goes : {r q : Result Trees ℕ} → r ≡ q → (out : Trees) × (q ≡ Ok out) → (out : Trees) × (r ≡ Ok out)
goes p h = (h.0, p ∙ h.1)

-- an array of no cells
abbrev zero_array : List ℕ → ℕ → Act
zero_array n a = Array (array_of n a (pos 0, 0))

-- a loop behind the word `for` is read
looped : (end : ℕ) (seq : Bool) (a : ℕ) (k : List Sym) (v : Trees) (later : List Spot)
    → build end (ForName seq a ∷ k) v (loop_to later) ≡ build end k (act (Each (named [] 0) seq a) (with_block [] (push nought (push nought v)))) later
looped end seq a k v later =
    let each = Each (named [] 0) seq a in
    let bounds : Trees = push nought (push nought v) in
    expr_built (zero_expr (sign s.Range 0 ∷ zero_to (no_stmts_to later))) end (Want s.Range ∷ Whole ∷ Block ∷ Do each ∷ k) v tt
    ∙ expr_built (zero_expr (no_stmts_to later)) end (Block ∷ Do each ∷ k) (push nought v) tt
    ∙ block_built (no_block later) end (Do each ∷ k) bounds ∙ acted end each k (with_block [] bounds) later

-- an expression and what is made of it are read
made : (end : ℕ) (a : Act) (k : List Sym) (v : Trees) (later : List Spot)
    → build end (Whole ∷ Want s.Semicolon ∷ Do a ∷ k) v (ended_to later) ≡ build end k (act a (push nought v)) later
made end a k v later = expr_built (zero_expr (sign s.Semicolon 0 ∷ later)) end (Want s.Semicolon ∷ Do a ∷ k) v tt ∙ acted end a k (push nought v) later

-- some text completes whatever is to come
completes : (end : ℕ) (k : List Sym) (v : Trees) → Kept k → Accepts end k v (completion k)
completes end [] v h = (v, refl)
completes end (Do a ∷ k) v h = goes (acted end a k v (completion k)) (completes end k (act a v) (mild_kept k h))
completes end (Want x ∷ k) v h = goes (want_is end x k v (completion k)) (completes end k v (mild_kept k h))
completes end (In ∷ k) v h = completes end k v (mild_kept k h)
completes end (Decls ∷ k) v h = goes (past_decls end k v (completion k) (soft k h)) (completes end k v (mild_kept k h))
completes end (ArrayName ∷ k) v h =
    goes (acted end (zero_array [] 0) (Want s.CloseIndex ∷ Want s.Semicolon ∷ k) v (sign s.CloseIndex 0 ∷ sign s.Semicolon 0 ∷ completion k))
    (completes end k _ (mild_kept k h))
completes end (CellsOpen n a ∷ k) v h = goes (acted end (zero_array n a) k v (completion k)) (completes end k _ (mild_kept k h))
completes end (Cells n a ∷ k) v h = goes (acted end (zero_array n a) k v (completion k)) (completes end k _ (mild_kept k h))
completes end (VarName ∷ k) v h = goes (acted end (zero_var [] 0) k v (completion k)) (completes end k _ (mild_kept k h))
completes end (Init n a ∷ k) v h = goes (acted end (zero_var n a) k v (completion k)) (completes end k _ (mild_kept k h))
completes end (InitNumber n a ∷ k) v h = goes (acted end (zero_var n a) k v (completion k)) (completes end k _ (mild_kept k h))
completes end (Stmts ∷ k) v h = goes (past_stmts end k v (completion k) (soft k h)) (completes end k v (mild_kept k h))
completes end (Statement ∷ k) v h =
    let later = completion k in
    let ending = sign s.Semicolon 0 ∷ later in
    goes (stmt_built (print-is 0 0 (zero_to ending) later nought (zero_expr ending)) end k v (soft_no_else later (soft k h))) (completes end k _ (mild_kept k h))
completes end (LetName ∷ k) v h = goes (made end (Bind (named [] 0)) k v (completion k)) (completes end k _ (mild_kept k h))
completes end (AfterName n a ∷ k) v h = goes (made end (Assign (named n a)) k v (completion k)) (completes end k _ (mild_kept k h))
completes end (AfterCell ∷ k) v h = goes (made end (Store None) k v (completion k)) (completes end k _ (mild_kept k h))
completes end (Else ∷ k) v h = goes (past_else end k v (completion k) (soft_no_else (completion k) (soft k h))) (completes end k _ (mild_kept k h))
completes end (ForWord ∷ k) v h = goes (looped end true 0 k v (completion k)) (completes end k _ (mild_kept k h))
completes end (ForName seq a ∷ k) v h = goes (looped end seq a k v (completion k)) (completes end k _ (mild_kept k h))
completes end (Block ∷ k) v h = goes (block_built (no_block (completion k)) end k v) (completes end k _ (mild_kept k h))
completes end (Index n a ∷ k) v h =
    let later = completion k in
    goes (index_built (plain-is (zero_to later) later nought (zero_expr later)) end n a k v (soft_calm 8 later (soft k h))) (completes end k _ (mild_kept k h))
completes end (Whole ∷ k) v h = goes (expr_built (zero_expr (completion k)) end k v (soft_calm 8 (completion k) (soft k h))) (completes end k _ (mild_kept k h))
completes end (Compare ∷ k) v h = goes (past_compare end k v (completion k) (soft_calm 8 (completion k) (soft k h))) (completes end k v (mild_kept k h))
completes end (Level m ∷ k) v h =
    goes (level_built (zero_level m (completion k)) end k v (soft_calm m (completion k) (soft k h))
    ∙ closes end m k (push nought v) (completion k) (soft_calm (suc m) (completion k) (soft k h))) (completes end k _ (mild_kept k h))
completes end (Tail m ∷ k) v h =
    goes (past_tail end m k v (completion k) (soft_calm (suc (suc m)) (completion k) (soft k h))) (completes end k v (mild_kept k h))
completes end (Primary ∷ k) v h =
    goes (primary_built (number-is (pos 0) 0 (completion k)) end k v (soft_calm 0 (completion k) (soft k h))) (completes end k _ (mild_kept k h))
completes end (MaybeCell n a ∷ k) v h =
    goes (past_cell end n a 0 k v (completion k) (soft_calm 0 (completion k) (soft k h))) (completes end k _ (mild_kept k h))
completes end (LenOpen ∷ k) v h = goes (acted end (Leaf (expr.Len (named [] 0))) k v (completion k)) (completes end k _ (mild_kept k h))
completes end (LenName ∷ k) v h = goes (acted end (Leaf (expr.Len (named [] 0))) k v (completion k)) (completes end k _ (mild_kept k h))

-- ---- faults

-- a fault at the end behind a symbol is at the end, whether or not that symbol may stand for no token
past_fault : (b : Bool) (end at : ℕ) (r : Result Trees ℕ) → past b r (Err end) ≡ Err at → (r ≡ Err at → at ≡ end) → at ≡ end
past_fault true end at r e f = f e
past_fault false end at r e f = cc

-- at the end of the text a fault is there
finish_fault : (end : ℕ) (k : List Sym) (v : Trees) (at : ℕ) → finish end k v ≡ Err at → at ≡ end
finish_fault end [] v at e = cc
finish_fault end (a ∷ k) v at e = past_fault (optional a) end at (finish end k (skip a v)) e (finish_fault end k (skip a v) at)

-- no result is both
not_both : {A B : Type 0} (r : Result A B) (x : A) (y : B) → r ≡ Ok x → r ≡ Err y → ⊥
not_both r x y e f = cc

-- a token that is taken is taken before whatever comes then
one : (end : ℕ) (k : List Sym) (v : Trees) (s : Spot) (x : List Sym × Trees) → step k v s ≡ Some x
    → (ss : List Spot) → build end k v (s ∷ ss) ≡ build end x.0 x.1 ss
one end k v s x e ss = ap (λ o. behind_step o s.at (λ l u. build end l u ss)) e

-- a fault behind a token that is taken
fault_behind : (end : ℕ) (k : List Sym) (v : Trees) (s : Spot) (ss : List Spot) (at : ℕ) (x : List Sym × Trees) → step k v s ≡ Some x
    → FirstFault (Accepts end x.0 x.1) end ss at → FirstFault (Accepts end k v) end (s ∷ ss) at
fault_behind end k v s ss at x e (inl (front, y, later, is, place, (more, ok), no')) =
    inl (
      s ∷ front,
      y,
      later,
      ap (λ (l : List Spot). s ∷ l) is,
      place,
      (more, goes (one end k v s x e (front ++ more)) ok),
      λ g. no' (g.0, goes (sym (one end k v s x e ((front ++ y ∷ []) ++ g.0))) g.1),
    )
fault_behind end k v s ss at x e (inr (place, ((more, ok), no'))) =
    inr (place, ((more, goes (one end k v s x e (ss ++ more)) ok), λ g. no' (goes (sym (one end k v s x e ss)) g)))

-- the first fault is at the first token, where no step is for it, or else behind it
by_step : (end : ℕ) (k : List Sym) (v : Trees) (s : Spot) (ss : List Spot) (at : ℕ) (o : Option (List Sym × Trees)) → Kept k → step k v s ≡ o
    → ((x : List Sym × Trees) → o ≡ Some x → build end x.0 x.1 ss ≡ Err at → FirstFault (Accepts end x.0 x.1) end ss at)
    → behind_step o s.at (λ l u. build end l u ss) ≡ Err at → FirstFault (Accepts end k v) end (s ∷ ss) at
by_step end k v s ss at None kept e behind' h =
    inl (
      [],
      s,
      ss,
      refl,
      cc,
      (completion k, completes end k v kept),
      λ g. not_both (build end k v (s ∷ g.0)) g.1.0 s.at g.1.1 (ap (λ o. behind_step o s.at (λ l u. build end l u g.0)) e),
    )
by_step end k v s ss at (Some x) kept e behind' h = fault_behind end k v s ss at x e (behind' x refl h)

-- where the machine is stuck is the first fault of the tokens, for whatever is to come
stuck : (end : ℕ) (ss : List Spot) (at : ℕ) (k : List Sym) (v : Trees) → Kept k → build end k v ss ≡ Err at → FirstFault (Accepts end k v) end ss at
stuck end [] at k v kept h = inr (finish_fault end k v at h, ((completion k, completes end k v kept), λ a. not_both (build end k v []) a.0 at a.1 h))
stuck end (s ∷ ss) at k v kept h =
    by_step end k v s ss at (step k v s) kept refl
    (λ x e g. stuck end ss at x.0 x.1 (subst LeftKept e (kept_step k v s kept)) g) h

-- ---- in the words of the grammar

-- the first fault depends only on which texts are of the kind
same_fault : (A B : List Spot → Type 0) (end : ℕ) (ss : List Spot) (at : ℕ) → ((l : List Spot) → A l → B l) → ((l : List Spot) → B l → A l)
    → FirstFault A end ss at → FirstFault B end ss at
same_fault A B end ss at f g (inl (front, x, later, is, place, (more, a), no')) =
    inl (front, x, later, is, place, (more, f (front ++ more) a), λ b. no' (b.0, g ((front ++ x ∷ []) ++ b.0) b.1))
same_fault A B end ss at f g (inr (place, ((more, a), no'))) = inr (place, ((more, f (ss ++ more) a), λ b. no' (g ss b)))

-- what the machine accepts is a program
text_of : (end : ℕ) (ss : List Spot) → Accepts end (Decls ∷ Stmts ∷ []) empty ss → IsText ss
text_of end ss a = let r = program_sound end ss a.0 a.1 in (r.0, r.1)

-- and it accepts each program
accepts_of : (end : ℕ) (ss : List Spot) → IsText ss → Accepts end (Decls ∷ Stmts ∷ []) empty ss
accepts_of end ss (p, is) = (whole_of p, program_complete end ss p is)

-- where the machine is stuck is the first fault of the tokens
pub fault_at : (end : ℕ) (ss : List Spot) (at : ℕ) → build end (Decls ∷ Stmts ∷ []) empty ss ≡ Err at → FaultAt end ss at
fault_at end ss at h =
    same_fault (Accepts end (Decls ∷ Stmts ∷ []) empty) IsText end ss at (text_of end) (accepts_of end) (stuck end ss at (Decls ∷ Stmts ∷ []) empty tt h)
