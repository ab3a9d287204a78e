-- What each symbol of the machine stands for in the grammar: its tokens, and what they make of the trees.
use Rattle.std.proofs.Common.{◌≡◌, ℕ, suc, ℤ, Bool, true, List, [], ◌∷◌, ◌++◌, refl, subst, Some, None}
use Rattle.std.specs.declared.option.Option.{Option}
use Rattle.nona_num.specs.declared.folds.Fold.{Fold}
use Rattle.nona_lex.specs.declared.tokens.Keyword.TheVariants as w
use Rattle.nona_lex.specs.declared.tokens.Sign.TheVariants as s
use Rattle.nona_lex.specs.declared.tokens.Spot.{Spot}
use Rattle.nona_tree.specs.declared.trees.Access.{Access}
use Rattle.nona_tree.specs.declared.trees.Expr.{Expr}
use Rattle.nona_tree.specs.declared.trees.Expr.TheVariants as expr
use Rattle.nona_tree.specs.declared.trees.Stmt.TheVariants as stmt
use Rattle.nona_tree.specs.declared.trees.ArrayDecl.{ArrayDecl}
use Rattle.nona_tree.specs.declared.trees.VarDecl.{VarDecl}
use Rattle.nona_grammar.specs.Levels.{word, sign, name, number, named, loosest}
use Rattle.nona_grammar.specs.Stack.{Trees, Reach, Store, Branch, Array, Var, act, push, with_block, adds, one_of, put}
use Rattle.nona_grammar.specs.Machine.{Sym, Do, Want, In, Decls, ArrayName, CellsOpen, Cells, VarName, Init, InitNumber, Stmts, Statement, LetName, AfterName, AfterCell, Else, ForWord, ForName, Block, Index, Whole, Compare, Level, Tail, Primary, MaybeCell, LenOpen, LenName, behind}
use Rattle.nona_grammar.specs.Grammar.{IsCell, IsIndex, IsPrimary, IsLevel, IsExpr, IsStmt, IsLoop, IsBlock, IsElse, IsStmts, IsDecls}

-- what holds of the trees and of the tokens that are left
abbrev pub Then : Type 1
Then = Trees → List Spot → Type 0

-- the tokens begin with one of a kind, and what it makes of the trees meets what is to hold then
abbrev pub Reads : {X : Type 0} → (List Spot → List Spot → X → Type 0) → (X → Trees → Trees) → Trees → List Spot → Then → Type 0
Reads {X} kind make v ss q = (x : X) × (rest : List Spot) × kind ss rest x × q (make x v) rest

-- trees whose newest expression is changed
abbrev pub changed : (Expr → Expr) → Trees → Trees
changed f v = record v { exprs = one_of f v.exprs }

-- arrays and variables at the end
abbrev pub declared : List ArrayDecl → List VarDecl → Trees → Trees
declared arrays vars v = record v { arrays = v.arrays ++ arrays; vars = v.vars ++ vars }

-- one token of its kind, in some place
abbrev IsNumber : List Spot → List Spot → ℤ → Type 0
IsNumber ss rest n = (at : ℕ) × (ss ≡ number n at ∷ rest)

-- a number and its place
abbrev IsPlacedNumber : List Spot → List Spot → ℤ × ℕ → Type 0
IsPlacedNumber ss rest x = ss ≡ number x.0 x.1 ∷ rest

-- a name and its place
abbrev IsName : List Spot → List Spot → List ℕ × ℕ → Type 0
IsName ss rest x = ss ≡ name x.0 x.1 ∷ rest

-- what turns an operand of level m + 1 that ends where these tokens begin into one that ends where they end
abbrev IsTail : ℕ → List Spot → List Spot → (Expr → Expr) → Type 0
IsTail m ss rest f = (before : List Spot) (a : Expr) → IsLevel (suc m) before ss a → IsLevel (suc m) before rest (f a)

-- what turns an operand of the loosest level into an expression
abbrev IsCompared : List Spot → List Spot → (Expr → Expr) → Type 0
IsCompared ss rest f = (before : List Spot) (a : Expr) → IsLevel loosest before ss a → IsExpr before rest (f a)

-- what makes an assignment to a cell, or what a fold makes of it, of the place before the tokens
abbrev IsStored : List Spot → List Spot → Option Fold × Expr → Type 0
IsStored ss rest x = (before : List Spot) (p : Access) → IsCell before ss p → IsStmt before rest (put x.0 p x.1)

-- what makes a declaration, behind such tokens, of the tokens
abbrev IsArray : (List Spot → List Spot) → List Spot → List Spot → ArrayDecl → Type 0
IsArray front ss rest d =
    (end : List Spot) (arrays : List ArrayDecl) (vars : List VarDecl) → IsDecls rest end arrays vars → IsDecls (front ss) end (d ∷ arrays) vars

-- the same for a variable
abbrev IsVar : (List Spot → List Spot) → List Spot → List Spot → VarDecl → Type 0
IsVar front ss rest d =
    (end : List Spot) (arrays : List ArrayDecl) (vars : List VarDecl) → IsDecls rest end arrays vars → IsDecls (front ss) end arrays (d ∷ vars)

-- an array with so many cells
abbrev pub array_of : List ℕ → ℕ → ℤ × ℕ → ArrayDecl
array_of n at x = record { name = named n at; cells = x.0; cells_at = x.1 }

-- the length of the array of this name
abbrev len_of : List ℕ × ℕ → Expr
len_of x = expr.Len (named x.0 x.1)

-- what a symbol says of the tokens
abbrev pub Means : Sym → Trees → List Spot → Then → Type 0
Means (Do a) v ss q = q (act a v) ss
Means (Want x) v ss q = Reads (λ l rest at. l ≡ sign x at ∷ rest) (λ (at : ℕ) u. u) v ss q
Means In v ss q = Reads (λ l rest at. l ≡ word w.In at ∷ rest) (λ (at : ℕ) u. u) v ss q
Means Decls v ss q = Reads (λ l rest d. IsDecls l rest d.0 d.1) (λ (d : List ArrayDecl × List VarDecl). declared d.0 d.1) v ss q
Means ArrayName v ss q = Reads (λ l rest d. (a : ℕ) → IsArray (λ ts. word w.Array a ∷ ts) l rest d) (λ d. act (Array d)) v ss q
Means (CellsOpen n at) v ss q =
    Reads (λ l rest x. (c : ℕ) × (ts : List Spot) × (l ≡ sign s.OpenIndex c ∷ ts) × IsPlacedNumber ts rest x) (λ x. act (Array (array_of n at x))) v ss q
Means (Cells n at) v ss q = Reads IsPlacedNumber (λ x. act (Array (array_of n at x))) v ss q
Means VarName v ss q = Reads (λ l rest d. (a : ℕ) → IsVar (λ ts. word w.Var a ∷ ts) l rest d) (λ d. act (Var d)) v ss q
Means (Init n at) v ss q = Reads (λ l rest d. (a : ℕ) → IsVar (λ ts. word w.Var a ∷ name n at ∷ ts) l rest d) (λ d. act (Var d)) v ss q
Means (InitNumber n at) v ss q = Reads IsNumber (λ m. act (Var (record { name = named n at; value = m }))) v ss q
Means Stmts v ss q = Reads IsStmts adds v ss q
Means Statement v ss q = Reads IsStmt (λ x. adds (x ∷ [])) v ss q
Means LetName v ss q = Reads (λ l rest x. (a : ℕ) → IsStmt (word w.Let a ∷ l) rest x) (λ x. adds (x ∷ [])) v ss q
Means (AfterName n at) v ss q = Reads (λ l rest x. IsStmt (name n at ∷ l) rest x) (λ x. adds (x ∷ [])) v ss q
Means AfterCell v ss q = Reads IsStored (λ x u. act (Store x.0) (push x.1 u)) v ss q
Means Else v ss q = Reads IsElse (λ l u. act Branch (with_block l u)) v ss q
Means ForWord v ss q = Reads (λ l rest x. IsLoop l rest true x) (λ x. adds (stmt.For x ∷ [])) v ss q
Means (ForName seq at) v ss q = Reads (λ l rest x. IsLoop (word w.For at ∷ l) rest seq x) (λ x. adds (stmt.For x ∷ [])) v ss q
Means Block v ss q = Reads IsBlock with_block v ss q
Means (Index n at) v ss q =
    Reads (λ l rest x. IsIndex l rest x.0 x.1) (λ (x : Bool × Expr) u. act (Reach (named n at) x.0) (push x.1 u)) v ss q
Means Whole v ss q = Reads IsExpr push v ss q
Means Compare v ss q = Reads IsCompared changed v ss q
Means (Level m) v ss q = Reads (IsLevel m) push v ss q
Means (Tail m) v ss q = Reads (IsTail m) changed v ss q
Means Primary v ss q = Reads IsPrimary push v ss q
Means (MaybeCell n at) v ss q = Reads (λ l rest e. IsPrimary (name n at ∷ l) rest e) push v ss q
Means LenOpen v ss q = Reads (λ l rest x. (b : ℕ) × (ts : List Spot) × (l ≡ sign s.Open b ∷ ts) × IsName ts rest x) (λ x. push (len_of x)) v ss q
Means LenName v ss q = Reads IsName (λ x. push (len_of x)) v ss q

-- what a list of symbols says: each of the tokens that the one before it leaves
abbrev pub AllMean : List Sym → Trees → List Spot → Then → Type 0
AllMean [] v ss q = q v ss
AllMean (a ∷ k) v ss q = Means a v ss (λ u rest. AllMean k u rest q)

-- what the symbols that come in the place of one say; where none come, the token is not taken
abbrev pub Taken : Option (List Sym) → Trees → List Spot → Then → Type 0
Taken None v ss q = ⊥
Taken (Some new) v ss q = AllMean new v ss q

-- a list behind another goes on where that ends
pub all_append : (new k : List Sym) (v : Trees) (ss : List Spot) (q : Then) → AllMean (new ++ k) v ss q ≡ AllMean new v ss (λ u rest. AllMean k u rest q)
all_append [] k v ss q = refl
all_append (a ∷ new) k v ss q = λ i. Means a v ss (λ u rest. all_append new k u rest q i)

-- one more symbol goes on where those before it end
pub taken_behind : (o : Option (List Sym)) (a : Sym) (v : Trees) (ss : List Spot) (q : Then)
    → Taken (behind o a) v ss q → Taken o v ss (λ u rest. Means a u rest q)
taken_behind None a v ss q g = g
taken_behind (Some new) a v ss q g = subst (λ (X : Type 0). X) (all_append new (a ∷ []) v ss q) g
