-- What the machine reads to its end, the grammar has.
use Rattle.std.proofs.Common.{◌≡◌, ℕ, List, [], ◌∷◌, ◌++◌, refl, sym, subst, Some, None, Ok, Err, Bool, true, false, ap, append-nil}
use Rattle.std.specs.declared.option.Option.{Option}
use Rattle.std.specs.declared.result.Result.{Result}
use Rattle.nona_lex.specs.declared.tokens.Spot.{Spot}
use Rattle.nona_tree.specs.declared.trees.Expr.{Expr}
use Rattle.nona_tree.specs.declared.trees.Expr.TheVariants as expr
use Rattle.nona_tree.specs.declared.trees.Stmt.{Stmt}
use Rattle.nona_tree.specs.declared.trees.ArrayDecl.{ArrayDecl}
use Rattle.nona_tree.specs.declared.trees.VarDecl.{VarDecl}
use Rattle.nona_grammar.specs.Levels.{named}
use Rattle.nona_grammar.specs.Stack.{Trees, more_of, one_of}
use Rattle.nona_grammar.specs.Machine.{Sym, Do, Decls, Stmts, Else, Compare, Tail, MaybeCell, next, optional, skip, past, expanded, step, finish, behind_step, build}
use Rattle.nona_grammar.specs.Grammar.{scalar-is, level-is, no-more, no-else, no-decl}
use Rattle.nona_grammar.proofs.Meaning.{Then, Means, AllMean, Taken, all_append}
use Rattle.nona_grammar.proofs.Taking.{means_taken}

-- no statements change nothing
pub adds_none : (bs : List (List Stmt)) → more_of bs [] ≡ bs
adds_none [] = refl
adds_none (b ∷ bs) = ap (λ (m : List Stmt). m ∷ bs) (append-nil b)

-- an expression that is not changed is the same
one_same : (es : List Expr) → one_of (λ a. a) es ≡ es
one_same [] = refl
one_same (e ∷ es) = refl

-- what is known where a symbol may stand for no token
abbrev OnlyIf : Bool → Type 0 → Type 0
OnlyIf true X = X
OnlyIf false X = ⊥

-- a symbol that may stand for no token means that too
means_none : (a : Sym) (v : Trees) (ss : List Spot) (q : Then) → OnlyIf (optional a) (q (skip a v) ss) → Means a v ss q
means_none (Do a) v ss q g = g
means_none Decls v ss q g = (
  ([], []),
  ss,
  no-decl ss,
  subst (λ (l : List ArrayDecl). q (record v { arrays = l; vars = v.vars ++ [] }) ss) (sym (append-nil v.arrays))
      (subst (λ (l : List VarDecl). q (record v { vars = l }) ss) (sym (append-nil v.vars)) g),
)
means_none Stmts v ss q g = ([], ss, no-more ss, subst (λ (bs : List (List Stmt)). q (record v { blocks = bs }) ss) (sym (adds_none v.blocks)) g)
means_none Else v ss q g = ([], ss, no-else ss, g)
means_none Compare v ss q g =
    (λ a. a, ss, λ before a d. level-is before ss a d, subst (λ (es : List Expr). q (record v { exprs = es }) ss) (sym (one_same v.exprs)) g)
means_none (MaybeCell n a) v ss q g = (expr.Scalar (named n a), ss, scalar-is n a ss, g)
means_none (Tail m) v ss q g = (λ a. a, ss, λ before a d. d, subst (λ (es : List Expr). q (record v { exprs = es }) ss) (sym (one_same v.exprs)) g)
means_none _ v ss q g = absurd g

-- what a step leaves, where there is one
abbrev Left : Option (List Sym × Trees) → List Spot → Then → Type 0
Left None ss q = ⊥
Left (Some x) ss q = AllMean x.0 x.1 ss q

-- a symbol that is passed over may stand for no token
left_past : (b : Bool) (o : Option (List Sym × Trees)) (ss : List Spot) (q : Then) (X : Type 0) → (Left o ss q → X) → Left (past b o None) ss q → OnlyIf b X
left_past true o ss q X f g = f g
left_past false o ss q X f g = g

-- a step is the first symbol's, or one of those behind it
left_chosen : (o : Option (List Sym)) (k : List Sym) (v : Trees) (ss : List Spot) (q : Then) (other : Option (List Sym × Trees)) (X : Type 0)
    → (Taken o v ss (λ u rest. AllMean k u rest q) → X) → (Left other ss q → X) → Left (expanded o k v other) ss q → X
left_chosen None k v ss q other X f g h = g h
left_chosen (Some new) k v ss q other X f g h = f (subst (λ (Y : Type 0). Y) (all_append new k v ss q) h)

-- a step keeps what the symbols say
stepped : (k : List Sym) (v : Trees) (x : Spot) (ss : List Spot) (q : Then) → Left (step k v x) ss q → AllMean k v (x ∷ ss) q
stepped [] v x ss q h = absurd h
stepped (a ∷ k) v x ss q h =
    left_chosen (next a x) k v ss q (past (optional a) (step k (skip a v) x) None) (AllMean (a ∷ k) v (x ∷ ss) q)
    (means_taken a x v ss (λ u rest. AllMean k u rest q))
    (λ g. means_none a v (x ∷ ss) (λ u rest. AllMean k u rest q)
    (left_past (optional a) (step k (skip a v) x) ss q (AllMean k (skip a v) (x ∷ ss) q) (stepped k (skip a v) x ss q) g)) h

-- the tokens end, and these are the trees
abbrev pub Ends : Trees → Then
Ends out v rest = (rest ≡ []) × (v ≡ out)

-- a symbol that is passed over at the end may stand for no token
finish_past : (b : Bool) (end : ℕ) (r : Result Trees ℕ) (out : Trees) (X : Type 0) → (r ≡ Ok out → X) → past b r (Err end) ≡ Ok out → OnlyIf b X
finish_past true end r out X f h = f h
finish_past false end r out X f h = cc

-- at the end of the text all that is to come stands for no token
finished : (end : ℕ) (k : List Sym) (v out : Trees) → finish end k v ≡ Ok out → AllMean k v [] (Ends out)
finished end [] v out h = (refl, cc)
finished end (a ∷ k) v out h =
    means_none a v [] (λ u rest. AllMean k u rest (Ends out))
    (finish_past (optional a) end (finish end k (skip a v)) out (AllMean k (skip a v) [] (Ends out)) (finished end k (skip a v) out) h)

-- behind a step the rest is read to its end
after_some : (o : Option (List Sym × Trees)) (at end : ℕ) (ss : List Spot) (out : Trees)
    → ((k : List Sym) (v : Trees) → build end k v ss ≡ Ok out → AllMean k v ss (Ends out))
    → behind_step o at (λ l u. build end l u ss) ≡ Ok out → Left o ss (Ends out)
after_some None at end ss out f h = cc
after_some (Some x) at end ss out f h = f x.0 x.1 h

-- what is read to its end is what the symbols say
pub all_sound : (end : ℕ) (ss : List Spot) (out : Trees) (k : List Sym) (v : Trees) → build end k v ss ≡ Ok out → AllMean k v ss (Ends out)
all_sound end [] out k v h = finished end k v out h
all_sound end (x ∷ ss) out k v h = stepped k v x ss (Ends out) (after_some (step k v x) x.at end ss out (all_sound end ss out) h)
