-- How many scalars a run leaves.
use Rattle.std.proofs.Common.{◌≡◌, ◌+◌, ℕ, ℤ, false, List, [], ◌∷◌, length, refl, sym, ap, ◌∙◌, arith, length-append}
use Rattle.std.proofs.lemmas.List.{length-set}
use Rattle.std.specs.Int.{int_gap}
use Rattle.std.specs.Prelude.{Ok, Err}
use Rattle.nona_tree.specs.declared.outcomes.Outcome.{Outcome}
use Rattle.nona_tree.specs.declared.outcomes.Outcome.TheVariants as outcome
use Rattle.nona_tree.specs.declared.trees.Stmt.{Stmt, Let, Set, Fold, Put, FoldPut, If', While', For', Print, Row_of-Stmt}
use Rattle.nona_tree.specs.Memory.{Memory, declare}
use Rattle.nona_tree.specs.Value.{Answer, is_zero, value_of, cell_of}
use Rattle.nona_tree.specs.Run.{Ran, done, with_value, then_from, block, turn, first_turns, run, run_row, run_all}
use Rattle.nona_tree.specs.Scope.{is_let, depth_after, depth_after_all}
use Rattle.nona_tree.proofs.Keeps.{IsPreorder, NoFewer, kept_value, kept_if, kept_while, kept_first, kept_for, row_kept, all_kept, scalars_kept, cut_length}

-- as many scalars
abbrev pub SameDepth : Memory → Memory → Type 0
SameDepth m r = length r.scalars ≡ length m.scalars

same_depth : IsPreorder SameDepth
same_depth = record { same = λ m. refl; chain = λ a b c h g. g ∙ h }

block_depth : (body : Memory → Ran) → ((x : Memory) → NoFewer x (body x).store) → (m : Memory) → SameDepth m (block body m).store
block_depth body h m = cut_length m (body m).store (h m)

turn_depth : (body : Memory → Ran) → ((x : Memory) → NoFewer x (body x).store) → (i : ℤ) (m : Memory) → SameDepth m (turn body i m).store
turn_depth body h i m =
    cut_length m (body (declare i m)).store (omega (arith, h (declare i m), length-append m.scalars (i ∷ [])))

row_grows : {j : _} (row : Row_of-Stmt j) (n : ℕ) (m : Memory) → NoFewer m (run_row row n m).store
row_grows row n m = row_kept NoFewer scalars_kept row n m

pub all_grow : (ss : List Stmt) (n : ℕ) (m : Memory) → NoFewer m (run_all ss n m).store
all_grow ss n m = all_kept NoFewer scalars_kept ss n m

-- a block leaves as many scalars as there were, however it ends, and a turn of a for as well
pub all_block_depth : (ss : List Stmt) (n : ℕ) (m : Memory) → SameDepth m (block (run_all ss n) m).store
all_block_depth ss n m = block_depth (run_all ss n) (all_grow ss n) m

pub all_turn_depth : (ss : List Stmt) (n : ℕ) (i : ℤ) (m : Memory) → SameDepth m (turn (run_all ss n) i m).store
all_turn_depth ss n i m = turn_depth (run_all ss n) (all_grow ss n) i m

-- a statement other than let leaves as many scalars as there were, however it ends
pub same_if_no_let : (s : Stmt) (n : ℕ) (m : Memory) → is_let s ≡ false → SameDepth m (run s n m).store
same_if_no_let (Let x e) n m h = cc
same_if_no_let (Set x e) n m h = kept_value SameDepth same_depth (value_of e m) m _ (λ v. length-set m.scalars x.id v)
same_if_no_let (Fold x f e) n m h = kept_value SameDepth same_depth (value_of e m) m _ (λ v. length-set m.scalars x.id _)
same_if_no_let (Put c e) n m h =
    kept_value SameDepth same_depth (cell_of c m) m _ (λ place. kept_value SameDepth same_depth (value_of e m) m _ (λ v. refl))
same_if_no_let (FoldPut c f e) n m h =
    kept_value SameDepth same_depth (cell_of c m) m _ (λ place. kept_value SameDepth same_depth (value_of e m) m _ (λ v. refl))
same_if_no_let (If' test p then_part q else_part) n m h =
    kept_value SameDepth same_depth (value_of test m) m _ (λ v. kept_if SameDepth (is_zero v) m (block (run_row else_part n) m) (block (run_row then_part n) m) (block_depth (run_row else_part n) (λ x. row_grows else_part n x) m) (block_depth (run_row then_part n) (λ x. row_grows then_part n x) m))
same_if_no_let (While' test p body at) n m h =
    kept_while SameDepth same_depth at (value_of test) (block (run_row body n)) (block_depth (run_row body n) (λ x. row_grows body n x)) n m
same_if_no_let (For' x low high p body seq at) n m h =
    kept_value SameDepth same_depth (value_of low m) m _ (λ a. kept_value SameDepth same_depth (value_of high m) m _ (λ b. kept_for SameDepth same_depth at (turn (run_row body n)) a (turn_depth (run_row body n) (λ x. row_grows body n x)) (int_gap a b) n m))
same_if_no_let (Print e at) n m h = kept_value SameDepth same_depth (value_of e m) m _ (λ v. refl)

let_depth : (o : Answer) (m : Memory) → (with_value o m (λ v. done (declare v m))).end ≡ outcome.Done
    → length (with_value o m (λ v. done (declare v m))).store.scalars ≡ length m.scalars + 1
let_depth (Ok v) m h = length-append m.scalars (v ∷ [])
let_depth (Err t) m h = cc

-- where a statement is done, a let left one scalar more, and every other as many as there were
pub depth_where_done : (s : Stmt) (n : ℕ) (m : Memory) → (run s n m).end ≡ outcome.Done → length (run s n m).store.scalars ≡ depth_after s (length m.scalars)
depth_where_done (Let x e) n m h = let_depth (value_of e m) m h
depth_where_done (Set x e) n m h = same_if_no_let (Set x e) n m refl
depth_where_done (Fold x f e) n m h = same_if_no_let (Fold x f e) n m refl
depth_where_done (Put c e) n m h = same_if_no_let (Put c e) n m refl
depth_where_done (FoldPut c f e) n m h = same_if_no_let (FoldPut c f e) n m refl
depth_where_done (If' test p then_part q else_part) n m h = same_if_no_let (If' test p then_part q else_part) n m refl
depth_where_done (While' test p body at) n m h = same_if_no_let (While' test p body at) n m refl
depth_where_done (For' x low high p body seq at) n m h = same_if_no_let (For' x low high p body seq at) n m refl
depth_where_done (Print e at) n m h = same_if_no_let (Print e at) n m refl

-- what goes on and is done began where a run was done
pub was_done : (m : Memory) (e : Outcome) (go : Memory → Ran) → (then_from m e go).end ≡ outcome.Done → (e ≡ outcome.Done) × (then_from m e go ≡ go m)
was_done m outcome.Done go h = (refl, refl)
was_done m (outcome.Trap t) go h = cc
was_done m (outcome.OutOfTurns at) go h = cc

pub depths_where_done : (ss : List Stmt) (n : ℕ) (m : Memory) → (run_all ss n m).end ≡ outcome.Done → length (run_all ss n m).store.scalars ≡ depth_after_all ss (length m.scalars)
depths_where_done [] n m h = refl
depths_where_done (s ∷ rest) n m h =
    let w = was_done (run s n m).store (run s n m).end (run_all rest n) h in
    ap (λ r. length r.store.scalars) w.1
    ∙ depths_where_done rest n (run s n m).store (ap (λ r. r.end) (sym w.1) ∙ h)
    ∙ ap (depth_after_all rest) (depth_where_done s n m w.0)

-- the first turns of a for leave as many scalars as there were
pub turns_depth : (ss : List Stmt) (n : ℕ) (low : ℤ) (k : ℕ) (m : Memory) → SameDepth m (first_turns (turn (run_all ss n)) low k m).store
turns_depth ss n low k m = kept_first SameDepth same_depth (turn (run_all ss n)) low (all_turn_depth ss n) k m
