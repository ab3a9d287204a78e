-- One statement after another.
use Rattle.std.proofs.Common.{◌≡◌, ◌≢◌, ◌<◌, ◌+◌, ℕ, List, [], ◌∷◌, drop, length, refl, sym, ap, subst, subst₂, ◌∙◌, arith, get_or}
use Rattle.std.proofs.lemmas.List.{length-map, drop_more}
use Rattle.nona_tree.specs.declared.trees.Stmt.{Stmt}
use Rattle.nona_tree.specs.Memory.{Memory}
use Rattle.nona_tree.specs.declared.outcomes.Outcome.{Outcome}
use Rattle.nona_tree.specs.declared.outcomes.Outcome.TheVariants as outcome
use Rattle.nona_tree.specs.Run.{Ran, done, then_do, run, run_all, Reaches}
use Rattle.nona_tree.specs.Scope.{AreScoped, depth_after}
use Rattle.nona_units.specs.Units.{FirstReaches}
use Rattle.nona_tree.proofs.Keeps.{SameArrays, arrays_kept, run_kept}
use Rattle.nona_tree.proofs.Depth.{depth_where_done}

as_many : (m r : Memory) → SameArrays m r → length r.arrays ≡ length m.arrays
as_many m r same = sym (length-map r.arrays length) ∙ ap length same ∙ length-map m.arrays length

-- what is so of the counts after a statement is so where it is done
pub after_statement : (P : ℕ → ℕ → Type 0) (s : Stmt) (n : ℕ) (m r : Memory)
    → run s n m ≡ done r → P (depth_after s (length m.scalars)) (length m.arrays) → P (length r.scalars) (length r.arrays)
after_statement P s n m r ran holds =
    let scalars : length r.scalars ≡ depth_after s (length m.scalars) = sym (ap (λ q. length q.store.scalars) ran) ∙ depth_where_done s n m (ap (λ q. q.end) ran) in
    let arrays : length r.arrays ≡ length m.arrays = sym (ap (λ q. length q.store.arrays) ran) ∙ as_many m (run s n m).store (run_kept SameArrays arrays_kept s n m) in
    subst₂ (λ d a. P d a) (sym scalars) (sym arrays) holds

-- one more statement
pub next_statement : (s : Stmt) (rest all : List Stmt) (n : ℕ) (m r : Memory)
    → all ≡ s ∷ rest → run s n m ≡ done r → run_all all n m ≡ run_all rest n r
next_statement s rest all n m r is ran = ap (λ ss. run_all ss n m) is ∙ ap (λ q. then_do q (run_all rest n)) ran

-- a list that isn't at its end has a first statement
pub record BeginsWith (units : List Stmt) (at : ℕ) : Type 0 where
  pub statement : Stmt
  pub here : drop at units ≡ statement ∷ drop (at + 1) units

pub begins_with : (units : List Stmt) (at : ℕ) → at < length units → BeginsWith units at
begins_with [] at within = absurd (omega (arith, within))
begins_with (s ∷ rest) at within =
    record { statement = get_or (s ∷ rest) at s; here = drop_more (s ∷ rest) at s within }

-- one more unit is done
pub next_unit : (units : List Stmt) (at n : ℕ) (m r : Memory) (b : BeginsWith units at) → FirstReaches (drop at units) n m r outcome.Done
    → run_all (drop at units) n m ≡ run_all (drop (at + 1) units) n r
next_unit units at n m r b reached =
    next_statement b.statement (drop (at + 1) units) (drop at units) n m r b.here
    (subst (λ (ss : List Stmt). FirstReaches ss n m r outcome.Done) b.here reached)

-- and what is left has its scalars and arrays
pub next_scoped : (units : List Stmt) (at n : ℕ) (m r : Memory) (b : BeginsWith units at) → FirstReaches (drop at units) n m r outcome.Done
    → AreScoped (drop at units) (length m.scalars) (length m.arrays) → AreScoped (drop (at + 1) units) (length r.scalars) (length r.arrays)
next_scoped units at n m r b reached scoped =
    let both : AreScoped (b.statement ∷ drop (at + 1) units) (length m.scalars) (length m.arrays) = subst (λ (ss : List Stmt). AreScoped ss (length m.scalars) (length m.arrays)) b.here scoped in
    after_statement (AreScoped (drop (at + 1) units)) b.statement n m r
    (subst (λ (ss : List Stmt). FirstReaches ss n m r outcome.Done) b.here reached) both.1

ends_there : (r : Ran) (go : Memory → Ran) (m : Memory) (end : Outcome) → end ≢ outcome.Done → r ≡ record { store = m; end = end } → then_do r go ≡ record { store = m; end = end }
ends_there r go m outcome.Done ended is = absurd (ended refl)
ends_there r go m (outcome.Trap t) ended is = ap (λ q. then_do q go) is
ends_there r go m (outcome.OutOfTurns at) ended is = ap (λ q. then_do q go) is

-- a unit that ends otherwise ends all
pub last_unit : (units : List Stmt) (at n : ℕ) (m r : Memory) (end : Outcome) (b : BeginsWith units at) → end ≢ outcome.Done
    → FirstReaches (drop at units) n m r end → Reaches (run_all (drop at units) n m) r end
last_unit units at n m r end b ended reached =
    ap (λ ss. run_all ss n m) b.here
    ∙ ends_there (run b.statement n m) (run_all (drop (at + 1) units) n) r end ended (subst (λ (ss : List Stmt). FirstReaches ss n m r end) b.here reached)
