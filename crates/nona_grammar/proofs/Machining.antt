-- How the machine goes on.
use Rattle.std.proofs.Common.{◌≡◌, ℕ, suc, List, [], ◌∷◌, ◌++◌, refl, ap, ◌∙◌, Some, None, true, append_assoc}
use Rattle.std.specs.declared.option.Option.{Option}
use Rattle.nona_lex.specs.declared.tokens.Spot.{Spot}
use Rattle.nona_grammar.specs.Levels.{loosest}
use Rattle.nona_grammar.specs.Stack.{Trees, Act, act}
use Rattle.nona_grammar.specs.Machine.{Sym, Do, Level, Tail, Whole, Compare, behind, next, level_next, optional, skip, past, expanded, step, behind_step, build}

-- a token that the first symbol takes
pub took : (end : ℕ) (a : Sym) (k : List Sym) (v : Trees) (s : Spot) (ss : List Spot) (new : List Sym) → next a s ≡ Some new
    → build end (a ∷ k) v (s ∷ ss) ≡ build end (new ++ k) v ss
took end a k v s ss new e = ap (λ o. behind_step (expanded o k v (past (optional a) (step k (skip a v) s) None)) s.at (λ l u. build end l u ss)) e

-- a token that the first symbol leaves to those behind it
pub passed : (end : ℕ) (a : Sym) (k : List Sym) (v : Trees) (s : Spot) (ss : List Spot) → next a s ≡ None → optional a ≡ true
    → build end (a ∷ k) v (s ∷ ss) ≡ build end k (skip a v) (s ∷ ss)
passed end a k v s ss e o =
    ap (λ n. behind_step (expanded n k v (past (optional a) (step k (skip a v) s) None)) s.at (λ l u. build end l u ss)) e
    ∙ ap (λ b. behind_step (past b (step k (skip a v) s) None) s.at (λ l u. build end l u ss)) o

-- an act is done before the next token
pub acted : (end : ℕ) (a : Act) (k : List Sym) (v : Trees) (ss : List Spot) → build end (Do a ∷ k) v ss ≡ build end k (act a v) ss
acted end a k v [] = refl
acted end a k v (s ∷ ss) = refl

-- what comes behind others may as well be to come already
pub behind_chosen : (o : Option (List Sym)) (b : Sym) (k : List Sym) (v : Trees) → expanded (behind o b) k v None ≡ expanded o (b ∷ k) v None
behind_chosen (Some new) b k v = ap (λ (l : List Sym). Some (l, v)) (append_assoc new (b ∷ []) k)
behind_chosen None b k v = refl

-- a level is the level below and a tail
pub level_is : (end m : ℕ) (k : List Sym) (v : Trees) (ss : List Spot) → build end (Level (suc m) ∷ k) v ss ≡ build end (Level m ∷ Tail m ∷ k) v ss
level_is end m k v [] = refl
level_is end m k v (s ∷ ss) = ap (λ o. behind_step o s.at (λ l u. build end l u ss)) (behind_chosen (level_next m s.token s.at) (Tail m) k v)

-- an expression is one of the loosest level and what may stand behind it
pub whole_is : (end : ℕ) (k : List Sym) (v : Trees) (ss : List Spot) → build end (Whole ∷ k) v ss ≡ build end (Level loosest ∷ Compare ∷ k) v ss
whole_is end k v [] = refl
whole_is end k v (s ∷ ss) = ap (λ o. behind_step o s.at (λ l u. build end l u ss)) (behind_chosen (level_next loosest s.token s.at) Compare k v)
