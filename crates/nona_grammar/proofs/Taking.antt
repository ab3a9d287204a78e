-- Each symbol's meaning holds of a token that it takes, where it holds of what comes in its place.
use Rattle.std.proofs.Common.{◌≡◌, ℕ, zero, suc, pos, eqb, List, [], ◌∷◌, ◌++◌, refl, ap, sym, ◌∙◌, subst, Some, None, Bool, true, false, append_assoc}
use Rattle.std.proofs.lemmas.Bool.{eqb-true}
use Rattle.std.specs.declared.option.Option.{Option}
use Rattle.nona_lex.specs.declared.tokens.Keyword.TheVariants as w
use Rattle.nona_lex.specs.declared.tokens.Sign.{Sign}
use Rattle.nona_lex.specs.declared.tokens.Sign.TheVariants as s
use Rattle.nona_lex.specs.declared.tokens.Operator.{Operator}
use Rattle.nona_lex.specs.declared.tokens.Operator.TheVariants as operator
use Rattle.nona_lex.specs.declared.tokens.Token.{Token}
use Rattle.nona_lex.specs.declared.tokens.Token.TheVariants as token
use Rattle.nona_lex.specs.declared.tokens.Spot.{Spot}
use Rattle.nona_tree.specs.declared.trees.Op.{Op}
use Rattle.nona_tree.specs.declared.trees.Access.{Access}
use Rattle.nona_tree.specs.declared.trees.Expr.{Expr}
use Rattle.nona_tree.specs.declared.trees.Expr.TheVariants as expr
use Rattle.nona_tree.specs.declared.trees.Loop.{Loop}
use Rattle.nona_tree.specs.declared.trees.Stmt.{Stmt}
use Rattle.nona_tree.specs.declared.trees.Stmt.TheVariants as stmt
use Rattle.nona_tree.specs.declared.trees.ArrayDecl.{ArrayDecl}
use Rattle.nona_tree.specs.declared.trees.VarDecl.{VarDecl}
use Rattle.nona_grammar.specs.Levels.{spot, word, sign, name, number, named, written, op_of, joining, level, loosest, comparisons}
use Rattle.nona_grammar.specs.Stack.{Trees, Join, Reach, more_of, one_of, two_of, put}
use Rattle.nona_grammar.specs.Machine
use Rattle.nona_grammar.specs.Machine.{Sym, Do, Want, In, Decls, ArrayName, CellsOpen, Cells, VarName, Init, InitNumber, Stmts, Statement, LetName, AfterName, AfterCell, Else, ForWord, ForName, Block, Index, Whole, Compare, Level, Tail, Primary, MaybeCell, LenOpen, LenName, sign_code, choice, behind, level_next, next}
use Rattle.nona_grammar.specs.Grammar.{IsCell, IsIndex, IsPrimary, IsExpr, IsStmt, IsStmts, IsDecls, IsLoop, indexed-is, plain-is, wrap-is, number-is, cell-is, len-is, brackets-are, primary-is, negated-is, inverted-is, lower-is, joined-is, compared-is, let-is, set-is, fold-is, put-is, fold-put-is, if-is, while-is, for-is, seq-for-is, print-is, loop-is, block-is, else-is, one-more, array-is, var-is, var-value-is}
use Rattle.nona_grammar.proofs.Meaning.{Then, Means, Taken, array_of, taken_behind}

-- ---- signs

-- the sign of a code
sign_of : ℕ → Sign
sign_of zero = s.Set
sign_of (suc zero) = s.Semicolon
sign_of (suc (suc zero)) = s.Comma
sign_of (suc (suc (suc zero))) = s.Range
sign_of (suc (suc (suc (suc zero)))) = s.Open
sign_of (suc (suc (suc (suc (suc zero))))) = s.Close
sign_of (suc (suc (suc (suc (suc (suc zero)))))) = s.OpenIndex
sign_of (suc (suc (suc (suc (suc (suc (suc zero))))))) = s.CloseIndex
sign_of (suc (suc (suc (suc (suc (suc (suc (suc zero)))))))) = s.OpenBlock
sign_of (suc (suc (suc (suc (suc (suc (suc (suc (suc n))))))))) = s.CloseBlock

-- the code of a sign leads back to it
sign_back : (x : Sign) → sign_of (sign_code x) ≡ x
unfolding sign_of
sign_back s.Set = refl
sign_back s.Semicolon = refl
sign_back s.Comma = refl
sign_back s.Range = refl
sign_back s.Open = refl
sign_back s.Close = refl
sign_back s.OpenIndex = refl
sign_back s.CloseIndex = refl
sign_back s.OpenBlock = refl
sign_back s.CloseBlock = refl

-- the code of a sign tells it from the others
same_sign : (x y : Sign) → sign_code x ≡ sign_code y → x ≡ y
same_sign x y h = sym (sign_back x) ∙ ap sign_of h ∙ sign_back y

-- a sign that is taken is the one that was wanted
want_by : (b : Bool) (x y : Sign) (at : ℕ) (v : Trees) (ss : List Spot) (q : Then) → (b ≡ true → sign_code x ≡ sign_code y)
    → Taken (choice b (Some []) None) v ss q → Means (Want x) v (sign y at ∷ ss) q
want_by false x y at v ss q e g = absurd g
want_by true x y at v ss q e g = (at, ss, ap (λ z. sign z at ∷ ss) (sym (same_sign x y (e refl))), g)

-- only a sign is taken for one
want_taken : (x : Sign) (t : Token) (at : ℕ) (v : Trees) (ss : List Spot) (q : Then) → Taken (Machine.want x t) v ss q → Means (Want x) v (spot t at ∷ ss) q
want_taken x (token.Sign y) at v ss q g = want_by (eqb (sign_code x) (sign_code y)) x y at v ss q (eqb-true (sign_code x) (sign_code y)) g
want_taken x _ at v ss q g = absurd g

-- ---- expressions

-- an expression up to a sign
up_to : (x : Sign) (at : ℕ) (ss mid rest : List Spot) (e : Expr) → mid ≡ sign x at ∷ rest → IsExpr ss mid e → IsExpr ss (sign x at ∷ rest) e
up_to x at ss mid rest e is d = subst (λ (l : List Spot). IsExpr ss l e) is d

-- a number, a name with or without an index, a length, or an expression in brackets
primary_taken : (t : Token) (at : ℕ) (v : Trees) (ss : List Spot) (q : Then) → Taken (Machine.primary t at) v ss q → Means Primary v (spot t at ∷ ss) q
primary_taken (token.Number n) at v ss q g = (expr.Number n, ss, number-is n at ss, g)
primary_taken (token.Name n) at v ss q g = g
primary_taken (token.Word w.Len) at v ss q ((n, c), r1, (b, r2, is1, is2), (d, rest, is3, g)) =
    let is : sign s.Open b ∷ name n c ∷ sign s.Close d ∷ rest ≡ ss = cc in
    (expr.Len (named n c), rest, subst (λ (l : List Spot). IsPrimary (word w.Len at ∷ l) rest (expr.Len (named n c))) is (len-is n at b c d rest), g)
primary_taken (token.Sign s.Open) at v ss q (e, mid, d, (b, rest, is, g)) = (e, rest, brackets-are at b ss rest e (up_to s.Close b ss mid rest e is d), g)
primary_taken _ at v ss q g = absurd g

-- an index in its brackets makes the place of a cell of the name before it
place_of : (n : List ℕ) (a b c : ℕ) (ss mid rest : List Spot) (wrap : Bool) (e : Expr) → mid ≡ sign s.CloseIndex c ∷ rest → IsIndex ss mid wrap e
    → IsCell (name n a ∷ sign s.OpenIndex b ∷ ss) rest (record { array = named n a; wrap = wrap; index = e })
place_of n a b c ss mid rest wrap e is i = indexed-is n a b c ss rest wrap e (subst (λ (l : List Spot). IsIndex ss l wrap e) is i)

-- an index makes a cell of the name before it
maybe_cell_taken : (n : List ℕ) (a : ℕ) (t : Token) (at : ℕ) (v : Trees) (ss : List Spot) (q : Then)
    → Taken (Machine.maybe_cell n a t) v ss q → Means (MaybeCell n a) v (spot t at ∷ ss) q
maybe_cell_taken n a (token.Sign s.OpenIndex) at v ss q ((wrap, e), mid, i, (c, rest, is, g)) =
    let p : Access = record { array = named n a; wrap = wrap; index = e } in
    (expr.Cell p, rest, cell-is (name n a ∷ sign s.OpenIndex at ∷ ss) rest p (place_of n a at c ss mid rest wrap e is i), g)
maybe_cell_taken n a _ at v ss q g = absurd g

-- the bracket before an array's name
len_open_taken : (t : Token) (at : ℕ) (v : Trees) (ss : List Spot) (q : Then) → Taken (Machine.len_open t) v ss q → Means LenOpen v (spot t at ∷ ss) q
len_open_taken (token.Sign s.Open) at v ss q (x, rest, is, g) = (x, rest, (at, ss, refl, is), g)
len_open_taken _ at v ss q g = absurd g

-- the name of an array whose length it is
len_name_taken : (t : Token) (at : ℕ) (v : Trees) (ss : List Spot) (q : Then) → Taken (Machine.len_name t at) v ss q → Means LenName v (spot t at ∷ ss) q
len_name_taken (token.Name n) at v ss q g = ((n, at), ss, refl, g)
len_name_taken _ at v ss q g = absurd g

-- a primary, and one sign before it at most
unary_taken : (t : Token) (at : ℕ) (v : Trees) (ss : List Spot) (q : Then) → Taken (Machine.unary t at) v ss q → Means (Level zero) v (spot t at ∷ ss) q
unary_taken (token.Operator operator.Sub) at v ss q (e, rest, d, g) = (expr.Neg e, rest, negated-is at ss rest e d, g)
unary_taken (token.Operator operator.Not) at v ss q (e, rest, d, g) = (expr.Not e, rest, inverted-is at ss rest e d, g)
unary_taken t at v ss q g = let r = primary_taken t at v ss q g in (r.0, r.1, primary-is (spot t at ∷ ss) r.1 r.0 r.2, r.3)

-- a level's tail goes on from what the level below has read
level_taken : (m : ℕ) (t : Token) (at : ℕ) (v : Trees) (ss : List Spot) (q : Then) → Taken (level_next m t at) v ss q → Means (Level m) v (spot t at ∷ ss) q
level_taken zero t at v ss q g = unary_taken t at v ss q g
level_taken (suc m) t at v ss q g =
    let r = level_taken m t at v ss (λ u rest. Means (Tail m) u rest q) (taken_behind (level_next m t at) (Tail m) v ss q g) in
    (r.3.0 r.0, r.3.1, r.3.2 (spot t at ∷ ss) r.0 (lower-is m (spot t at ∷ ss) r.1 r.0 r.2), r.3.3)

-- an expression is of the loosest level, or a comparison of two of them
whole_taken : (t : Token) (at : ℕ) (v : Trees) (ss : List Spot) (q : Then) → Taken (Machine.whole t at) v ss q → Means Whole v (spot t at ∷ ss) q
whole_taken t at v ss q g =
    let r = level_taken loosest t at v ss (λ u rest. Means Compare u rest q) (taken_behind (level_next loosest t at) Compare v ss q g) in
    (r.3.0 r.0, r.3.1, r.3.2 (spot t at ∷ ss) r.0 r.2, r.3.3)

-- a join, changed by what stands behind it
join_is : (f : Expr → Expr) (o : Op) (at : ℕ) (b : Expr) (es : List Expr)
    → one_of f (two_of (λ x y. expr.Binary o at x y) (b ∷ es)) ≡ one_of (λ a. f (expr.Binary o at a b)) es
join_is f o at b [] = refl
join_is f o at b (a ∷ es) = refl

-- what stood before a tail is the left operand: operators of a level group to the left
tail_by : (c : Bool) (m : ℕ) (o : Op) (at : ℕ) (v : Trees) (ss : List Spot) (q : Then) → (c ≡ true → level o ≡ suc m)
    → Taken (choice c (Some (Level m ∷ Do (Join o at) ∷ Tail m ∷ [])) None) v ss q → Means (Tail m) v (joining o at ∷ ss) q
tail_by false m o at v ss q e g = absurd g
tail_by true m o at v ss q e (b, mid, d, (f, rest, h, g)) = (
  λ a. f (expr.Binary o at a b),
  rest,
  λ before a is. h before (expr.Binary o at a b) (joined-is m o at before ss mid a b (e refl) is d),
  subst (λ (es : List Expr). q (record v { exprs = es }) rest) (join_is f o at b v.exprs) g,
)

-- the token of an operator, or the one that is none of a binary operator
written_of : Option Op → Operator
written_of (Some o) = written o
written_of None = operator.Not

-- the operator of a token leads back to it
operator_back : (x : Operator) → written_of (op_of x) ≡ x
unfolding written_of
operator_back operator.Add = refl
operator_back operator.Sub = refl
operator_back operator.Mul = refl
operator_back operator.Div = refl
operator_back operator.Rem = refl
operator_back operator.And = refl
operator_back operator.Or = refl
operator_back operator.Xor = refl
operator_back operator.Shl = refl
operator_back operator.Shr = refl
operator_back operator.Eq = refl
operator_back operator.Ne = refl
operator_back operator.Lt = refl
operator_back operator.Le = refl
operator_back operator.Gt = refl
operator_back operator.Ge = refl
operator_back operator.Not = refl

-- a token is that of its operator
written_back : (x : Operator) (o : Op) → op_of x ≡ Some o → written o ≡ x
unfolding written_of
written_back x o e = sym (ap written_of e) ∙ operator_back x

-- what a symbol means of an operator's token it means of the token of its operator
means_operator : (a : Sym) (x : Operator) (o : Op) (at : ℕ) (v : Trees) (ss : List Spot) (q : Then) → op_of x ≡ Some o
    → Means a v (joining o at ∷ ss) q → Means a v (spot (token.Operator x) at ∷ ss) q
means_operator a x o at v ss q e h = subst (λ y. Means a v (spot (token.Operator y) at ∷ ss) q) (written_back x o e) h

-- an operator that a tail takes is of its level
joins_taken : (m : ℕ) (x : Operator) (r : Option Op) (at : ℕ) (v : Trees) (ss : List Spot) (q : Then) → op_of x ≡ r
    → Taken (Machine.joins m r at) v ss q → Means (Tail m) v (spot (token.Operator x) at ∷ ss) q
joins_taken m x None at v ss q e g = absurd g
joins_taken m x (Some o) at v ss q e g =
    means_operator (Tail m) x o at v ss q e (tail_by (eqb (level o) (suc m)) m o at v ss q (eqb-true (level o) (suc m)) g)

-- a tail begins with an operator
tail_taken : (m : ℕ) (t : Token) (at : ℕ) (v : Trees) (ss : List Spot) (q : Then) → Taken (Machine.tail m t at) v ss q → Means (Tail m) v (spot t at ∷ ss) q
tail_taken m (token.Operator x) at v ss q g = joins_taken m x (op_of x) at v ss q refl g
tail_taken m _ at v ss q g = absurd g

-- what stood before a comparison is its left operand
compare_by : (c : Bool) (o : Op) (at : ℕ) (v : Trees) (ss : List Spot) (q : Then) → (c ≡ true → level o ≡ comparisons)
    → Taken (choice c (Some (Level loosest ∷ Do (Join o at) ∷ [])) None) v ss q → Means Compare v (joining o at ∷ ss) q
compare_by false o at v ss q e g = absurd g
compare_by true o at v ss q e (b, rest, d, g) = (
  λ a. expr.Binary o at a b,
  rest,
  λ before a is. compared-is o at before ss rest a b (e refl) is d,
  subst (λ (es : List Expr). q (record v { exprs = es }) rest) (compared_of o at b v.exprs) g,
)
  where
    compared_of : (o : Op) (at : ℕ) (b : Expr) (es : List Expr) → two_of (λ x y. expr.Binary o at x y) (b ∷ es) ≡ one_of (λ a. expr.Binary o at a b) es
    compared_of o at b [] = refl
    compared_of o at b (a ∷ es) = refl

-- an operator that is compared by is a comparison
compares_taken : (x : Operator) (r : Option Op) (at : ℕ) (v : Trees) (ss : List Spot) (q : Then) → op_of x ≡ r
    → Taken (Machine.compares r at) v ss q → Means Compare v (spot (token.Operator x) at ∷ ss) q
compares_taken x None at v ss q e g = absurd g
compares_taken x (Some o) at v ss q e g =
    means_operator Compare x o at v ss q e (compare_by (eqb (level o) comparisons) o at v ss q (eqb-true (level o) comparisons) g)

-- what is compared stands behind an operator
compare_taken : (t : Token) (at : ℕ) (v : Trees) (ss : List Spot) (q : Then) → Taken (Machine.compare t at) v ss q → Means Compare v (spot t at ∷ ss) q
compare_taken (token.Operator x) at v ss q g = compares_taken x (op_of x) at v ss q refl g
compare_taken _ at v ss q g = absurd g

-- an index is an expression, or the word `wrap` and an expression
index_taken : (n : List ℕ) (a : ℕ) (t : Token) (at : ℕ) (v : Trees) (ss : List Spot) (q : Then)
    → Taken (Machine.index n a t at) v ss q → Means (Index n a) v (spot t at ∷ ss) q
index_taken n a (token.Word w.Wrap) at v ss q (e, rest, d, g) = ((true, e), rest, wrap-is at ss rest e d, g)
index_taken n a t at v ss q g =
    let r = whole_taken t at v ss (λ u rest. Means (Do (Reach (named n a) false)) u rest q)
    (taken_behind (Machine.whole t at) (Do (Reach (named n a) false)) v ss q g) in
    ((false, r.0), r.1, plain-is (spot t at ∷ ss) r.1 r.0 r.2, r.3)

-- ---- statements

-- the name, `=` and an expression make the declaration of a scalar
let_name_taken : (t : Token) (at : ℕ) (v : Trees) (ss : List Spot) (q : Then) → Taken (Machine.let_name t at) v ss q → Means LetName v (spot t at ∷ ss) q
let_name_taken (token.Name n) at v ss q (b, r1, is1, (e, mid, d, (c, rest, is2, g))) = (
  stmt.Let (named n at) e,
  rest,
  λ a. subst (λ (ts : List Spot). IsStmt (word w.Let a ∷ name n at ∷ ts) rest (stmt.Let (named n at) e)) (sym is1)
      (let-is n a at b c r1 rest e (up_to s.Semicolon c r1 mid rest e is2 d)),
  g,
)
let_name_taken _ at v ss q g = absurd g

-- `=`, a fold or an index makes a statement of the name before it
after_name_taken : (n : List ℕ) (a : ℕ) (t : Token) (at : ℕ) (v : Trees) (ss : List Spot) (q : Then)
    → Taken (Machine.after_name n a t) v ss q → Means (AfterName n a) v (spot t at ∷ ss) q
after_name_taken n a (token.Sign s.Set) at v ss q (e, mid, d, (c, rest, is, g)) =
    (stmt.Set (named n a) e, rest, set-is n a at c ss rest e (up_to s.Semicolon c ss mid rest e is d), g)
after_name_taken n a (token.Fold f) at v ss q (e, mid, d, (c, rest, is, g)) =
    (stmt.Fold (named n a) f e, rest, fold-is n a at c f ss rest e (up_to s.Semicolon c ss mid rest e is d), g)
after_name_taken n a (token.Sign s.OpenIndex) at v ss q ((wrap, e), mid, i, (c, more, is, ((f, value), rest, h, g))) =
    let p : Access = record { array = named n a; wrap = wrap; index = e } in
    (put f p value, rest, h (name n a ∷ sign s.OpenIndex at ∷ ss) p (place_of n a at c ss mid more wrap e is i), g)
after_name_taken n a _ at v ss q g = absurd g

-- `=` or a fold makes a statement of the cell before it
after_cell_taken : (t : Token) (at : ℕ) (v : Trees) (ss : List Spot) (q : Then) → Taken (Machine.after_cell t) v ss q → Means AfterCell v (spot t at ∷ ss) q
after_cell_taken (token.Sign s.Set) at v ss q (e, mid, d, (c, rest, is, g)) =
    ((None, e), rest, λ before p i. put-is at c before ss rest p e i (up_to s.Semicolon c ss mid rest e is d), g)
after_cell_taken (token.Fold f) at v ss q (e, mid, d, (c, rest, is, g)) =
    ((Some f, e), rest, λ before p i. fold-put-is at c f before ss rest p e i (up_to s.Semicolon c ss mid rest e is d), g)
after_cell_taken _ at v ss q g = absurd g

-- the word `else` and a block
else_taken : (t : Token) (at : ℕ) (v : Trees) (ss : List Spot) (q : Then) → Taken (Machine.else_next t) v ss q → Means Else v (spot t at ∷ ss) q
else_taken (token.Word w.Else) at v ss q (l, rest, d, g) = (l, rest, else-is at ss rest l d, g)
else_taken _ at v ss q g = absurd g

-- the word `in`
in_taken : (t : Token) (at : ℕ) (v : Trees) (ss : List Spot) (q : Then) → Taken (Machine.in_word t) v ss q → Means In v (spot t at ∷ ss) q
in_taken (token.Word w.In) at v ss q g = (at, ss, refl, g)
in_taken _ at v ss q g = absurd g

-- the word `for` behind the word `seq`
for_word_taken : (t : Token) (at : ℕ) (v : Trees) (ss : List Spot) (q : Then) → Taken (Machine.for_word t at) v ss q → Means ForWord v (spot t at ∷ ss) q
for_word_taken (token.Word w.For) at v ss q g = g
for_word_taken _ at v ss q g = absurd g

-- the index, both bounds and the block make the loop
for_name_taken : (seq : Bool) (a : ℕ) (t : Token) (at : ℕ) (v : Trees) (ss : List Spot) (q : Then)
    → Taken (Machine.for_name seq a t at) v ss q → Means (ForName seq a) v (spot t at ∷ ss) q
for_name_taken seq a (token.Name n) at v ss q (c, r1, is1, (low, mid, d, (b, r2, is2, (high, more, d2, (body, rest, i, g))))) =
    let l : Loop = record { index = named n at; low = low; high = high; body = body; seq = seq; at = a } in (
      l,
      rest,
      subst (λ (ts : List Spot). IsLoop (word w.For a ∷ name n at ∷ ts) rest seq l) (sym is1)
          (loop-is n a at c b seq r1 r2 more rest low high body (up_to s.Range b r1 mid r2 low is2 d) d2 i),
      g,
    )
for_name_taken seq a _ at v ss q g = absurd g

-- a block stands between its brackets
block_taken : (t : Token) (at : ℕ) (v : Trees) (ss : List Spot) (q : Then) → Taken (Machine.block_next t) v ss q → Means Block v (spot t at ∷ ss) q
block_taken (token.Sign s.OpenBlock) at v ss q (l, mid, d, (b, rest, is, g)) =
    (l, rest, block-is at b ss rest l (subst (λ (ts : List Spot). IsStmts ss ts l) is d), g)
block_taken _ at v ss q g = absurd g

-- a statement by its first token
statement_taken : (t : Token) (at : ℕ) (v : Trees) (ss : List Spot) (q : Then) → Taken (Machine.statement t at) v ss q → Means Statement v (spot t at ∷ ss) q
statement_taken (token.Name n) at v ss q g = g
statement_taken (token.Word w.Let) at v ss q (x, rest, h, g) = (x, rest, h at, g)
statement_taken (token.Word w.If) at v ss q (e, mid, d, (then_part, more, i, (else_part, rest, j, g))) =
    (stmt.If e then_part else_part, rest, if-is at ss mid more rest e then_part else_part d i j, g)
statement_taken (token.Word w.While) at v ss q (e, mid, d, (body, rest, i, g)) = (stmt.While e body at, rest, while-is at ss mid rest e body d i, g)
statement_taken (token.Word w.Seq) at v ss q (l, rest, d, g) = (stmt.For l, rest, seq-for-is at ss rest l d, g)
statement_taken (token.Word w.For) at v ss q (l, rest, d, g) = (stmt.For l, rest, for-is (word w.For at ∷ ss) rest l d, g)
statement_taken (token.Word w.Print) at v ss q (e, mid, d, (b, rest, is, g)) =
    (stmt.Print e at, rest, print-is at b ss rest e (up_to s.Semicolon b ss mid rest e is d), g)
statement_taken _ at v ss q g = absurd g

-- statements added one after the other are added together
pub adds_more : (x : Stmt) (l : List Stmt) (bs : List (List Stmt)) → more_of (more_of bs (x ∷ [])) l ≡ more_of bs (x ∷ l)
adds_more x l [] = refl
adds_more x l (b ∷ bs) = ap (λ (m : List Stmt). m ∷ bs) (append_assoc b (x ∷ []) l)

-- a statement, and those that follow it
stmts_taken : (t : Token) (at : ℕ) (v : Trees) (ss : List Spot) (q : Then)
    → Taken (behind (Machine.statement t at) Stmts) v ss q → Means Stmts v (spot t at ∷ ss) q
stmts_taken t at v ss q g =
    let h = taken_behind (Machine.statement t at) Stmts v ss q g in
    let (first, mid, d, (later, rest, ds, g')) = statement_taken t at v ss (λ u rest. Means Stmts u rest q) h in (
      first ∷ later,
      rest,
      one-more (spot t at ∷ ss) mid rest first later d ds,
      subst (λ (bs : List (List Stmt)). q (record v { blocks = bs }) rest) (adds_more first later v.blocks) g',
    )

-- ---- declarations

-- the name of an array, and the number of its cells in brackets
array_name_taken : (t : Token) (at : ℕ) (v : Trees) (ss : List Spot) (q : Then) → Taken (Machine.array_name t at) v ss q → Means ArrayName v (spot t at ∷ ss) q
array_name_taken (token.Name n) at v ss q ((m, d), r1, (c, r2, is1, is2), (e, r3, is3, (f, rest, is4, g))) =
    let x : ArrayDecl = array_of n at (m, d) in
    let is : sign s.OpenIndex c ∷ number m d ∷ sign s.CloseIndex e ∷ sign s.Semicolon f ∷ rest ≡ ss = cc in (
      x,
      rest,
      λ a end arrays vars i. subst (λ (ts : List Spot). IsDecls (word w.Array a ∷ name n at ∷ ts) end (x ∷ arrays) vars) is
          (array-is n m a at c d e f rest end arrays vars i),
      g,
    )
array_name_taken _ at v ss q g = absurd g

-- the bracket before the number of an array's cells
cells_open_taken : (n : List ℕ) (a : ℕ) (t : Token) (at : ℕ) (v : Trees) (ss : List Spot) (q : Then)
    → Taken (Machine.cells_open n a t) v ss q → Means (CellsOpen n a) v (spot t at ∷ ss) q
cells_open_taken n a (token.Sign s.OpenIndex) at v ss q (x, rest, is, g) = (x, rest, (at, ss, refl, is), g)
cells_open_taken n a _ at v ss q g = absurd g

-- the number of an array's cells
cells_taken : (n : List ℕ) (a : ℕ) (t : Token) (at : ℕ) (v : Trees) (ss : List Spot) (q : Then)
    → Taken (Machine.cells n a t at) v ss q → Means (Cells n a) v (spot t at ∷ ss) q
cells_taken n a (token.Number m) at v ss q g = ((m, at), ss, refl, g)
cells_taken n a _ at v ss q g = absurd g

-- the name of a variable
var_name_taken : (t : Token) (at : ℕ) (v : Trees) (ss : List Spot) (q : Then) → Taken (Machine.var_name t at) v ss q → Means VarName v (spot t at ∷ ss) q
var_name_taken (token.Name n) at v ss q g = g
var_name_taken _ at v ss q g = absurd g

-- a variable's declaration ends with `;`, or has a number before it
init_taken : (n : List ℕ) (a : ℕ) (t : Token) (at : ℕ) (v : Trees) (ss : List Spot) (q : Then)
    → Taken (Machine.init n a t) v ss q → Means (Init n a) v (spot t at ∷ ss) q
init_taken n a (token.Sign s.Semicolon) at v ss q g =
    (record { name = named n a; value = pos 0 }, ss, λ x end arrays vars i. var-is n x a at ss end arrays vars i, g)
init_taken n a (token.Sign s.Set) at v ss q (m, mid, (d, is1), (e, rest, is2, g)) =
    let x : VarDecl = record { name = named n a; value = m } in
    let is : number m d ∷ sign s.Semicolon e ∷ rest ≡ ss = cc in
    let front : ℕ → List Spot → List Spot = λ b ts. word w.Var b ∷ name n a ∷ sign s.Set at ∷ ts in (
      x,
      rest,
      λ b end arrays vars i. subst (λ (ts : List Spot). IsDecls (front b ts) end arrays (x ∷ vars)) is (var-value-is n m b a at d e rest end arrays vars i),
      g,
    )
init_taken n a _ at v ss q g = absurd g

-- the number of a variable
init_number_taken : (n : List ℕ) (a : ℕ) (t : Token) (at : ℕ) (v : Trees) (ss : List Spot) (q : Then)
    → Taken (Machine.init_number n a t) v ss q → Means (InitNumber n a) v (spot t at ∷ ss) q
init_number_taken n a (token.Number m) at v ss q g = (m, ss, (at, refl), g)
init_number_taken n a _ at v ss q g = absurd g

-- a declaration, and those that follow it
decls_taken : (t : Token) (at : ℕ) (v : Trees) (ss : List Spot) (q : Then) → Taken (Machine.decls t) v ss q → Means Decls v (spot t at ∷ ss) q
decls_taken (token.Word w.Array) at v ss q (d, mid, h, ((arrays, vars), rest, ds, g)) = (
  (d ∷ arrays, vars),
  rest,
  h at rest arrays vars ds,
  subst (λ (l : List ArrayDecl). q (record v { arrays = l; vars = v.vars ++ vars }) rest) (append_assoc v.arrays (d ∷ []) arrays) g,
)
decls_taken (token.Word w.Var) at v ss q (d, mid, h, ((arrays, vars), rest, ds, g)) = (
  (arrays, d ∷ vars),
  rest,
  h at rest arrays vars ds,
  subst (λ (l : List VarDecl). q (record v { arrays = v.arrays ++ arrays; vars = l }) rest) (append_assoc v.vars (d ∷ []) vars) g,
)
decls_taken _ at v ss q g = absurd g

-- ---- all symbols

-- each symbol means what its token and what comes in its place mean
pub means_taken : (a : Sym) (x : Spot) (v : Trees) (ss : List Spot) (q : Then) → Taken (next a x) v ss q → Means a v (x ∷ ss) q
means_taken (Do a) x v ss q g = absurd g
means_taken (Want a) x v ss q g = want_taken a x.token x.at v ss q g
means_taken In x v ss q g = in_taken x.token x.at v ss q g
means_taken Decls x v ss q g = decls_taken x.token x.at v ss q g
means_taken ArrayName x v ss q g = array_name_taken x.token x.at v ss q g
means_taken (CellsOpen n a) x v ss q g = cells_open_taken n a x.token x.at v ss q g
means_taken (Cells n a) x v ss q g = cells_taken n a x.token x.at v ss q g
means_taken VarName x v ss q g = var_name_taken x.token x.at v ss q g
means_taken (Init n a) x v ss q g = init_taken n a x.token x.at v ss q g
means_taken (InitNumber n a) x v ss q g = init_number_taken n a x.token x.at v ss q g
means_taken Stmts x v ss q g = stmts_taken x.token x.at v ss q g
means_taken Statement x v ss q g = statement_taken x.token x.at v ss q g
means_taken LetName x v ss q g = let_name_taken x.token x.at v ss q g
means_taken (AfterName n a) x v ss q g = after_name_taken n a x.token x.at v ss q g
means_taken AfterCell x v ss q g = after_cell_taken x.token x.at v ss q g
means_taken Else x v ss q g = else_taken x.token x.at v ss q g
means_taken ForWord x v ss q g = for_word_taken x.token x.at v ss q g
means_taken (ForName seq a) x v ss q g = for_name_taken seq a x.token x.at v ss q g
means_taken Block x v ss q g = block_taken x.token x.at v ss q g
means_taken (Index n a) x v ss q g = index_taken n a x.token x.at v ss q g
means_taken Whole x v ss q g = whole_taken x.token x.at v ss q g
means_taken Compare x v ss q g = compare_taken x.token x.at v ss q g
means_taken (Level m) x v ss q g = level_taken m x.token x.at v ss q g
means_taken (Tail m) x v ss q g = tail_taken m x.token x.at v ss q g
means_taken Primary x v ss q g = primary_taken x.token x.at v ss q g
means_taken (MaybeCell n a) x v ss q g = maybe_cell_taken n a x.token x.at v ss q g
means_taken LenOpen x v ss q g = len_open_taken x.token x.at v ss q g
means_taken LenName x v ss q g = len_name_taken x.token x.at v ss q g
