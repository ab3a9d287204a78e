-- The machine reads each expression of the grammar.
use Rattle.std.proofs.Common.{◌≡◌, ℕ, zero, suc, ◌≤◌, eqb, Bool, List, [], ◌∷◌, refl, ap, ◌∙◌, subst, sym, Some, None, inl, inr, false, true, arith}
use Rattle.std.proofs.lemmas.Bool.{eq-eqb}
use Rattle.std.proofs.lemmas.Bool.Decides.{eqb_tells}
use Rattle.std.specs.declared.option.Option.{Option}
use Rattle.nona_lex.specs.declared.tokens.Keyword.TheVariants as w
use Rattle.nona_lex.specs.declared.tokens.Sign.TheVariants as s
use Rattle.nona_lex.specs.declared.tokens.Operator.TheVariants as operator
use Rattle.nona_lex.specs.declared.tokens.Token.{Token}
use Rattle.nona_lex.specs.declared.tokens.Token.TheVariants as token
use Rattle.nona_lex.specs.declared.tokens.Spot.{Spot}
use Rattle.nona_tree.specs.declared.trees.Op.{Op}
use Rattle.nona_tree.specs.declared.trees.Op.TheVariants as op
use Rattle.nona_tree.specs.declared.trees.Expr.{Expr}
use Rattle.nona_tree.specs.declared.trees.Expr.TheVariants as expr
use Rattle.nona_grammar.specs.Levels.{sign, named, written, op_of, joining, level, loosest, comparisons}
use Rattle.nona_grammar.specs.Stack.{Trees, Leaf, Negate, Invert, Join, Reach, Fetch, act, push}
use Rattle.nona_grammar.specs.Machine
use Rattle.nona_grammar.specs.Machine.{Sym, Do, Want, Index, Whole, Compare, Level, Tail, Primary, MaybeCell, choice, behind, joins, tail, compares, compare, maybe_cell, expanded, behind_step, build}
use Rattle.nona_grammar.specs.Grammar.{IsPrimary, IsIndex, IsLevel, IsExpr, indexed-is, plain-is, wrap-is, number-is, scalar-is, cell-is, len-is, brackets-are, primary-is, negated-is, inverted-is, lower-is, joined-is, level-is, compared-is}
use Rattle.nona_grammar.proofs.Machining.{took, passed, acted, behind_chosen, level_is, whole_is}

-- ---- what may stand behind an expression

-- an operator whose level is not below m
abbrev CalmOp : ℕ → Option Op → Type 0
CalmOp m (Some o) = m ≤ level o
CalmOp m None = Unit {0}

-- a token that opens no index, and is no operator of a level below m
abbrev pub CalmToken : ℕ → Token → Type 0
CalmToken m (token.Operator x) = CalmOp m (op_of x)
CalmToken m (token.Sign s.OpenIndex) = ⊥
CalmToken m _ = Unit {0}

-- tokens that begin with no opening of an index and no operator of a level below m: an operand of level m may end before them
abbrev pub Calm : ℕ → List Spot → Type 0
Calm m [] = Unit {0}
Calm m (x ∷ ss) = CalmToken m x.token

-- tokens that begin with no opening of an index and no binary operator: an expression may end before them
abbrev pub Ended : List Spot → Type 0
Ended ss = Calm 8 ss

-- an operator that is calm for a level is so for those below
calmer_op : (m n : ℕ) → m ≤ n → (o : Option Op) → CalmOp n o → CalmOp m o
calmer_op m n le (Some o) c = omega (arith, le, c)
calmer_op m n le None c = tt

-- and so is a token
calmer_token : (m n : ℕ) → m ≤ n → (t : Token) → CalmToken n t → CalmToken m t
calmer_token m n le (token.Operator x) c = calmer_op m n le (op_of x) c
calmer_token m n le (token.Sign s.OpenIndex) c = c
calmer_token m n le _ c = tt

-- what is calm for a level is so for those below
pub calmer : (m n : ℕ) → m ≤ n → (ss : List Spot) → Calm n ss → Calm m ss
calmer m n le [] c = tt
calmer m n le (x ∷ ss) c = calmer_token m n le x.token c

-- for the next one below
calm_below : (m : ℕ) (ss : List Spot) → Calm (suc m) ss → Calm m ss
calm_below m ss c = calmer m (suc m) (omega arith) ss c

-- the token of an operator is that operator's
pub op_back : (o : Op) → op_of (written o) ≡ Some o
op_back op.Add = refl
op_back op.Sub = refl
op_back op.Mul = refl
op_back op.Div = refl
op_back op.Rem = refl
op_back op.And = refl
op_back op.Or = refl
op_back op.Xor = refl
op_back op.Shl = refl
op_back op.Shr = refl
op_back op.Eq = refl
op_back op.Ne = refl
op_back op.Lt = refl
op_back op.Le = refl
op_back op.Gt = refl
op_back op.Ge = refl

-- an operator is calm for each level that is not above its own
calm_joining : (m : ℕ) (o : Op) → m ≤ level o → CalmOp m (op_of (written o))
calm_joining m o le = subst (λ x. CalmOp m x) (sym (op_back o)) le

-- a tail takes each operator of its level
tail_some : (m : ℕ) (o : Op) (at : ℕ) → level o ≡ suc m → joins m (op_of (written o)) at ≡ Some (Level m ∷ Do (Join o at) ∷ Tail m ∷ [])
tail_some m o at is =
    ap (λ x. joins m x at) (op_back o) ∙ ap (λ b. choice b (Some (Level m ∷ Do (Join o at) ∷ Tail m ∷ [])) None) (eq-eqb (level o) (suc m) is)

-- a comparison is taken behind the loosest level
compare_some : (o : Op) (at : ℕ) → level o ≡ comparisons → compares (op_of (written o)) at ≡ Some (Level loosest ∷ Do (Join o at) ∷ [])
compare_some o at is =
    ap (λ x. compares x at) (op_back o) ∙ ap (λ b. choice b (Some (Level loosest ∷ Do (Join o at) ∷ [])) None) (eq-eqb (level o) comparisons is)

-- an operator isn't taken at a level below its own
other_level : (m n : ℕ) (x : Option (List Sym)) → suc n ≤ m → choice (eqb m n) x None ≡ None
other_level m n x le = elim (eqb_tells m n) [ inl h ↦ absurd (omega (arith, h.1)) | inr h ↦ ap (λ b. choice b x None) h.0 ]

-- a tail leaves the operators of looser levels
joins_none : (m : ℕ) (o : Option Op) (at : ℕ) → CalmOp (suc (suc m)) o → joins m o at ≡ None
joins_none m (Some o) at c = other_level (level o) (suc m) (Some (Level m ∷ Do (Join o at) ∷ Tail m ∷ [])) c
joins_none m None at c = refl

-- and each token that is no operator
tail_none : (m : ℕ) (t : Token) (at : ℕ) → CalmToken (suc (suc m)) t → tail m t at ≡ None
tail_none m (token.Operator x) at c = joins_none m (op_of x) at c
tail_none m _ at c = refl

-- so it stands for no token there
pub past_tail : (end m : ℕ) (k : List Sym) (v : Trees) (rest : List Spot) → Calm (suc (suc m)) rest → build end (Tail m ∷ k) v rest ≡ build end k v rest
past_tail end m k v [] c = refl
past_tail end m k v (x ∷ ss) c = passed end (Tail m) k v x ss (tail_none m x.token x.at c) refl

-- no operator is looser than the comparisons
compares_none : (o : Option Op) (at : ℕ) → CalmOp 8 o → compares o at ≡ None
compares_none (Some o) at c = other_level (level o) comparisons (Some (Level loosest ∷ Do (Join o at) ∷ [])) c
compares_none None at c = refl

-- so behind an expression nothing is compared
compare_none : (t : Token) (at : ℕ) → CalmToken 8 t → compare t at ≡ None
compare_none (token.Operator x) at c = compares_none (op_of x) at c
compare_none _ at c = refl

-- and what may be compared stands for no token there
pub past_compare : (end : ℕ) (k : List Sym) (v : Trees) (rest : List Spot) → Ended rest → build end (Compare ∷ k) v rest ≡ build end k v rest
past_compare end k v [] c = refl
past_compare end k v (x ∷ ss) c = passed end Compare k v x ss (compare_none x.token x.at c) refl

-- a token that opens no index makes no cell of a name
cell_none : (n : List ℕ) (a m : ℕ) (t : Token) → CalmToken m t → maybe_cell n a t ≡ None
cell_none n a m (token.Sign s.OpenIndex) c = absurd c
cell_none n a m _ c = refl

-- so a name before it is a scalar
pub past_cell : (end : ℕ) (n : List ℕ) (a m : ℕ) (k : List Sym) (v : Trees) (rest : List Spot) → Calm m rest
    → build end (MaybeCell n a ∷ k) v rest ≡ build end k (push (expr.Scalar (named n a)) v) rest
past_cell end n a m k v [] c = refl
past_cell end n a m k v (x ∷ ss) c = passed end (MaybeCell n a) k v x ss (cell_none n a m x.token c) refl

-- behind the first operand of a level its tail is to come
abbrev pub opened : ℕ → List Sym → List Sym
opened zero k = k
opened (suc m) k = Tail m ∷ k

-- the tail ends where no operator of its level comes
pub closes : (end m : ℕ) (k : List Sym) (v : Trees) (rest : List Spot) → Calm (suc m) rest → build end (opened m k) v rest ≡ build end k v rest
closes end zero k v rest c = refl
closes end (suc m) k v rest c = past_tail end m k v rest c

-- ---- first tokens

-- a token that is no sign before a primary
abbrev pub PlainToken : Token → Type 0
PlainToken (token.Operator operator.Sub) = ⊥
PlainToken (token.Operator operator.Not) = ⊥
PlainToken _ = Unit {0}

-- tokens that begin with none
abbrev pub Plain : List Spot → Type 0
Plain [] = Unit {0}
Plain (x ∷ ss) = PlainToken x.token

-- a token that is not the word `wrap`
abbrev pub UnwrappedToken : Token → Type 0
UnwrappedToken (token.Word w.Wrap) = ⊥
UnwrappedToken _ = Unit {0}

-- tokens that don't begin with it
abbrev pub Unwrapped : List Spot → Type 0
Unwrapped [] = Unit {0}
Unwrapped (x ∷ ss) = UnwrappedToken x.token

-- a primary begins with no sign and no `wrap`
primary_first : {ss rest : List Spot} {e : Expr} → IsPrimary ss rest e → Plain ss × Unwrapped ss
primary_first (number-is n a rest) = (tt, tt)
primary_first (scalar-is n a rest) = (tt, tt)
primary_first (cell-is ss rest p (indexed-is n a b c ss' rest' wrap e i)) = (tt, tt)
primary_first (len-is n a b c d rest) = (tt, tt)
primary_first (brackets-are a b ss rest e d) = (tt, tt)

-- nor does a level begin with `wrap`
level_first : {m : ℕ} {ss rest : List Spot} {e : Expr} → IsLevel m ss rest e → Unwrapped ss
level_first (primary-is ss rest e d) = (primary_first d).1
level_first (negated-is a ss rest e d) = tt
level_first (inverted-is a ss rest e d) = tt
level_first (lower-is m ss rest e d) = level_first d
level_first (joined-is m o at ss mid rest a b is d1 d2) = level_first d1

-- nor does an expression
expr_first : {ss rest : List Spot} {e : Expr} → IsExpr ss rest e → Unwrapped ss
expr_first (level-is ss rest e d) = level_first d
expr_first (compared-is o at ss mid rest a b is d1 d2) = level_first d1

-- where no sign stands, a unary is a primary
pub unary_plain : (t : Token) (at : ℕ) → PlainToken t → Machine.unary t at ≡ Machine.primary t at
unary_plain (token.Operator operator.Sub) at p = absurd p
unary_plain (token.Operator operator.Not) at p = absurd p
unary_plain _ at p = refl

-- and so is level 0
pub level_zero : (end : ℕ) (k : List Sym) (v : Trees) (ss : List Spot) → Plain ss → build end (Level zero ∷ k) v ss ≡ build end (Primary ∷ k) v ss
level_zero end k v [] p = refl
level_zero end k v (x ∷ ss) p = ap (λ o. behind_step (expanded o k v None) x.at (λ l u. build end l u ss)) (unary_plain x.token x.at p)

-- where no `wrap` stands, an index is an expression
pub index_plain : (n : List ℕ) (a : ℕ) (t : Token) (at : ℕ) → UnwrappedToken t
    → Machine.index n a t at ≡ behind (Machine.whole t at) (Do (Reach (named n a) false))
index_plain n a (token.Word w.Wrap) at p = absurd p
index_plain n a _ at p = refl

-- so it is read as one
pub index_is : (end : ℕ) (n : List ℕ) (a : ℕ) (k : List Sym) (v : Trees) (ss : List Spot) → Unwrapped ss
    → build end (Index n a ∷ k) v ss ≡ build end (Whole ∷ Do (Reach (named n a) false) ∷ k) v ss
index_is end n a k v [] p = refl
index_is end n a k v (x ∷ ss) p =
    ap (λ o. behind_step o x.at (λ l u. build end l u ss))
    (ap (λ o. expanded o k v None) (index_plain n a x.token x.at p) ∙ behind_chosen (Machine.whole x.token x.at) (Do (Reach (named n a) false)) k v)

-- ---- expressions

mutual
  -- a primary is read where no index is left behind it
  pub primary_built : {ss rest : List Spot} {e : Expr} → IsPrimary ss rest e → (end : ℕ) (k : List Sym) (v : Trees) → Calm zero rest
      → build end (Primary ∷ k) v ss ≡ build end k (push e v) rest
  primary_built (number-is n a rest) end k v c = acted end (Leaf (expr.Number n)) k v rest
  primary_built (scalar-is n a rest) end k v c = past_cell end n a zero k v rest c
  primary_built (cell-is ss rest p (indexed-is n a b d ss' rest' wrap e i)) end k v c =
      index_built i end n a (Want s.CloseIndex ∷ Do Fetch ∷ k) v tt ∙ acted end Fetch k (act (Reach (named n a) wrap) (push e v)) rest
  primary_built (len-is n a b d f rest) end k v c = acted end (Leaf (expr.Len (named n d))) (Want s.Close ∷ k) v (sign s.Close f ∷ rest)
  primary_built (brackets-are a b ss rest e d) end k v c = expr_built d end (Want s.Close ∷ k) v tt

  -- an index is read where an expression may end
  pub index_built : {ss rest : List Spot} {wrap : Bool} {e : Expr} → IsIndex ss rest wrap e → (end : ℕ) (n : List ℕ) (a : ℕ) (k : List Sym) (v : Trees)
      → Ended rest → build end (Index n a ∷ k) v ss ≡ build end k (act (Reach (named n a) wrap) (push e v)) rest
  index_built (plain-is ss rest e d) end n a k v c =
      index_is end n a k v ss (expr_first d) ∙ expr_built d end (Do (Reach (named n a) false) ∷ k) v c
      ∙ acted end (Reach (named n a) false) k (push e v) rest
  index_built (wrap-is b ss rest e d) end n a k v c =
      expr_built d end (Do (Reach (named n a) true) ∷ k) v c ∙ acted end (Reach (named n a) true) k (push e v) rest

  -- a level is read up to its own tail, which may go on with what is left
  pub level_built : {m : ℕ} {ss rest : List Spot} {e : Expr} → IsLevel m ss rest e → (end : ℕ) (k : List Sym) (v : Trees) → Calm m rest
      → build end (Level m ∷ k) v ss ≡ build end (opened m k) (push e v) rest
  level_built (primary-is ss rest e d) end k v c = level_zero end k v ss (primary_first d).0 ∙ primary_built d end k v c
  level_built (negated-is a ss rest e d) end k v c = primary_built d end (Do Negate ∷ k) v c ∙ acted end Negate k (push e v) rest
  level_built (inverted-is a ss rest e d) end k v c = primary_built d end (Do Invert ∷ k) v c ∙ acted end Invert k (push e v) rest
  level_built (lower-is m ss rest e d) end k v c =
      level_is end m k v ss ∙ level_built d end (Tail m ∷ k) v (calm_below m rest c) ∙ closes end m (Tail m ∷ k) (push e v) rest c
  level_built (joined-is m o at ss mid rest a b is d1 d2) end k v c =
      level_built d1 end k v (calm_joining (suc m) o (omega (arith, is)))
      ∙ took end (Tail m) k (push a v) (joining o at) mid (Level m ∷ Do (Join o at) ∷ Tail m ∷ []) (tail_some m o at is)
      ∙ level_built d2 end (Do (Join o at) ∷ Tail m ∷ k) (push a v) (calm_below m rest c)
      ∙ closes end m (Do (Join o at) ∷ Tail m ∷ k) (push b (push a v)) rest c
      ∙ acted end (Join o at) (Tail m ∷ k) (push b (push a v)) rest

  -- an expression is read where one may end
  pub expr_built : {ss rest : List Spot} {e : Expr} → IsExpr ss rest e → (end : ℕ) (k : List Sym) (v : Trees) → Ended rest
      → build end (Whole ∷ k) v ss ≡ build end k (push e v) rest
  expr_built (level-is ss rest e d) end k v c =
      whole_is end k v ss ∙ level_built d end (Compare ∷ k) v (calmer 6 8 (omega arith) rest c)
      ∙ closes end 6 (Compare ∷ k) (push e v) rest (calmer 7 8 (omega arith) rest c) ∙ past_compare end k (push e v) rest c
  expr_built (compared-is o at ss mid rest a b is d1 d2) end k v c =
      whole_is end k v ss ∙ level_built d1 end (Compare ∷ k) v (calm_joining 6 o (omega (arith, is)))
      ∙ closes end 6 (Compare ∷ k) (push a v) (joining o at ∷ mid) (calm_joining 7 o (omega (arith, is)))
      ∙ took end Compare k (push a v) (joining o at) mid (Level loosest ∷ Do (Join o at) ∷ []) (compare_some o at is)
      ∙ level_built d2 end (Do (Join o at) ∷ k) (push a v) (calmer 6 8 (omega arith) rest c)
      ∙ closes end 6 (Do (Join o at) ∷ k) (push b (push a v)) rest (calmer 7 8 (omega arith) rest c)
      ∙ acted end (Join o at) k (push b (push a v)) rest
