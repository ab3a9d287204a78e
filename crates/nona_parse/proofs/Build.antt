-- How the machine goes on at the tokens that a function takes.
use Rattle.std.proofs.Common.{◌≡◌, ℕ, zero, suc, ◌≤◌, ◌-◌, List, [], ◌∷◌, ◌++◌, refl, ap, ◌∙◌, None, Some, arith}
use Rattle.nona_lex.specs.declared.tokens.Sign.TheVariants as sign
use Rattle.nona_lex.specs.declared.tokens.Token.{Token}
use Rattle.nona_lex.specs.declared.tokens.Token.TheVariants as token
use Rattle.nona_lex.specs.declared.tokens.Spot.{Spot}
use Rattle.nona_tree.specs.declared.trees.Expr.{Expr}
use Rattle.nona_grammar.specs.Levels.{spot}
use Rattle.nona_grammar.specs.Stack.{Trees, Begin, Negate, Invert, push}
use Rattle.nona_grammar.specs.Machine.{Sym, Do, Want, Block, Stmts, CellsOpen, Cells, LenOpen, LenName, Level, Tail, want, block_next, cells_open, len_open, next, expanded, behind_step, build}
use Rattle.nona_grammar.proofs.Machining.{took, acted, level_is}
use Rattle.nona_parse.specs.declared.fault.ReadFault.{ReadFault}
use Rattle.nona_parse.specs.declared.fault.ReadFault.TheVariants.{Syntax, Ended, NoMemory}
use Rattle.nona_parse.specs.declared.operators.Prefix.{Prefix}
use Rattle.nona_parse.specs.declared.operators.Prefix.TheVariants.{Minus, Not, Nothing}
use Rattle.nona_parse.specs.Prefixes.{acts_of, prefixed_of}
use Rattle.nona_parse.specs.Steps.{Fails}

-- the first token is taken
pub taken : (end : ℕ) (a : Sym) (k : List Sym) (v : Trees) (ss : List Spot) (x : Spot) (rest : List Spot) (t : Token) (new : List Sym)
    → ss ≡ x ∷ rest → x.token ≡ t → next a (spot t x.at) ≡ Some new → build end (a ∷ k) v ss ≡ build end (new ++ k) v rest
taken end a k v ss x rest t new is token next_is =
    ap (λ (l : List Spot). build end (a ∷ k) v l) is ∙ took end a k v x rest new (ap (λ t. next a (spot t x.at)) token ∙ next_is)

-- a fault of what comes first is a fault of the whole
pub fails_in : (f : ReadFault) (new part : List Sym) (ss rest : List Spot)
    → ((end : ℕ) (k : List Sym) (v : Trees) → (l : List Sym) × (u : Trees) × (build end (new ++ k) v ss ≡ build end (part ++ l) u rest))
    → Fails f part rest → Fails f new ss
fails_in NoMemory new part ss rest to stuck = tt
fails_in Ended new part ss rest to stuck = λ end k v. let p = to end k v in p.2 ∙ stuck end p.0 p.1
fails_in (Syntax at) new part ss rest to stuck = λ end k v. let p = to end k v in p.2 ∙ stuck end p.0 p.1

-- a level above 0 is the level below and a tail
pub level_down : (end m : ℕ) (k : List Sym) (v : Trees) (ss : List Spot)
    → 1 ≤ m → build end (Level m ∷ k) v ss ≡ build end (Level (m - 1) ∷ Tail (m - 1) ∷ k) v ss
level_down end zero k v ss above = absurd (omega (arith, above))
level_down end (suc m) k v ss above =
    let e : m ≡ suc m - 1 = omega arith in
    level_is end m k v ss ∙ ap (λ i. build end (Level i ∷ Tail i ∷ k) v ss) e

-- what stands before a primary is made of it
pub prefix_done : (p : Prefix) (e : Expr) (end : ℕ) (k : List Sym) (v : Trees) (ss : List Spot)
    → build end (acts_of p ++ k) (push e v) ss ≡ build end k (push (prefixed_of p e) v) ss
prefix_done Minus e end k v ss = acted end Negate k (push e v) ss
prefix_done Not e end k v ss = acted end Invert k (push e v) ss
prefix_done Nothing e end k v ss = refl

-- a block is its bracket, and what comes behind it
block_opened : (t : Token) (k : List Sym) (v : Trees) → expanded (block_next t) k v None ≡ expanded (want sign.OpenBlock t) (Do Begin ∷ Stmts ∷ Want sign.CloseBlock ∷ k) v None
block_opened (token.Sign sign.OpenBlock) k v = refl
block_opened _ k v = refl

pub block_is : (end : ℕ) (k : List Sym) (v : Trees) (ss : List Spot)
    → build end (Block ∷ k) v ss ≡ build end (Want sign.OpenBlock ∷ Do Begin ∷ Stmts ∷ Want sign.CloseBlock ∷ k) v ss
block_is end k v [] = refl
block_is end k v (s ∷ ss) = ap (λ o. behind_step o s.at (λ l u. build end l u ss)) (block_opened s.token k v)

-- the number of cells stands behind a bracket
cells_opened : (n : List ℕ) (a : ℕ) (t : Token) (k : List Sym) (v : Trees) → expanded (cells_open n a t) k v None ≡ expanded (want sign.OpenIndex t) (Cells n a ∷ k) v None
cells_opened n a (token.Sign sign.OpenIndex) k v = refl
cells_opened n a _ k v = refl

pub cells_are : (n : List ℕ) (a end : ℕ) (k : List Sym) (v : Trees) (ss : List Spot)
    → build end (CellsOpen n a ∷ k) v ss ≡ build end (Want sign.OpenIndex ∷ Cells n a ∷ k) v ss
cells_are n a end k v [] = refl
cells_are n a end k v (s ∷ ss) = ap (λ o. behind_step o s.at (λ l u. build end l u ss)) (cells_opened n a s.token k v)

-- the name of an array stands behind a bracket
len_opened : (t : Token) (k : List Sym) (v : Trees) → expanded (len_open t) k v None ≡ expanded (want sign.Open t) (LenName ∷ k) v None
len_opened (token.Sign sign.Open) k v = refl
len_opened _ k v = refl

pub len_is : (end : ℕ) (k : List Sym) (v : Trees) (ss : List Spot) → build end (LenOpen ∷ k) v ss ≡ build end (Want sign.Open ∷ LenName ∷ k) v ss
len_is end k v [] = refl
len_is end k v (s ∷ ss) = ap (λ o. behind_step o s.at (λ l u. build end l u ss)) (len_opened s.token k v)
