-- A run keeps each scalar that its text doesn't assign, and a local of an iteration has its value to the end.
use Rattle.std.proofs.Common.{◌≡◌, ◌≢◌, ℕ, suc, ◌<◌, ◌+◌, ℤ, pos, ◌+ℤ◌, List, [], ◌∷◌, ◌++◌, length, refl, sym, ap, ◌∙◌, subst, arith, length-append}
use Rattle.std.proofs.lemmas.List.{length-set, length-take, get_or-take, get_or-set_other, get_or_append_left, get_or-append-add}
use Rattle.std.specs.Int.{int_gap}
use Rattle.std.specs.List.{Contains}
use Rattle.std.specs.Prelude.{All, Result, Ok, Err, slice_index_or}
use Rattle.nona_num.specs.Folds.{join_of}
use Rattle.nona_tree.specs.declared.names.Use.{Use}
use Rattle.nona_tree.specs.declared.outcomes.Trap.{Trap}
use Rattle.nona_tree.specs.declared.outcomes.Outcome.{Outcome}
use Rattle.nona_tree.specs.declared.outcomes.Outcome.TheVariants as outcome
use Rattle.nona_tree.specs.declared.trees.Expr.{Expr}
use Rattle.nona_tree.specs.declared.trees.Stmt.{Stmt, Let, Set, Fold, Put, FoldPut, If', While', For', Print, Row_of-Stmt, end_of-Stmt, more_of-Stmt}
use Rattle.nona_tree.specs.Memory.{Memory, scalar_at, declare, assign, cut_to}
use Rattle.nona_tree.specs.Run.{Ran, done, with_value, then_from, then_do, run, run_row, run_all, block, turn}
use Rattle.nona_tree.specs.Scope.{AreScoped, IsSteady, IsRowSteady, AreSteady, depth_after, depth_after_all}
use Rattle.nona_tree.specs.Value.{is_zero, value_of, cell_of}
use Rattle.nona_tree.specs.Entries.{Entry, IsLocal, after, behind_front, in_iteration, local_at}
use Rattle.nona_tree.proofs.Keeps.{IsPreorder, kept_value, kept_then, kept_if, kept_while, kept_for}
use Rattle.nona_tree.proofs.Depth.{turns_depth, depths_where_done}
use Rattle.nona_tree.proofs.Equations.{scoped-For}

-- a scalar that is there stays there, with its value
abbrev KeepsScalar : ℕ → Memory → Memory → Type 0
KeepsScalar id m r = id < length m.scalars → (id < length r.scalars) × (scalar_at r id ≡ scalar_at m id)

scalar_order : (id : ℕ) → IsPreorder (KeepsScalar id)
scalar_order id = record {
  same = λ m there. (there, refl);
  chain = λ a b c h g there. let k = h there in let j = g k.0 in (j.0, (j.1 ∙ k.1));
}

keeps_declared : (id : ℕ) (v : ℤ) (m : Memory) → KeepsScalar id m (declare v m)
keeps_declared id v m there =
    (omega (arith, there, length-append m.scalars (v ∷ [])), get_or_append_left m.scalars (v ∷ []) (pos 0) id there)

keeps_assigned : (id other : ℕ) (v : ℤ) (m : Memory) → other ≢ id → KeepsScalar id m (assign other v m)
keeps_assigned id other v m h there =
    (omega (arith, there, length-set m.scalars other v), get_or-set_other m.scalars other id v (pos 0) (λ e. h (sym e)))

keeps_cut : (id : ℕ) (outer m : Memory) → KeepsScalar id outer m → KeepsScalar id outer (cut_to (length outer.scalars) m)
keeps_cut id outer m h there =
    (omega (arith, there, (h there).0, length-take (length outer.scalars) m.scalars), get_or-take (length outer.scalars) m.scalars id (pos 0) there ∙ (h there).1)

keeps_block : (id : ℕ) (body : Memory → Ran) → ((x : Memory) → KeepsScalar id x (body x).store) → (m : Memory) → KeepsScalar id m (block body m).store
keeps_block id body h m = keeps_cut id m (body m).store (h m)

keeps_turn : (id : ℕ) (body : Memory → Ran) → ((x : Memory) → KeepsScalar id x (body x).store) → (i : ℤ) (m : Memory) → KeepsScalar id m (turn body i m).store
keeps_turn id body h i m =
    keeps_cut id m (body (declare i m)).store ((scalar_order id).chain m (declare i m) (body (declare i m)).store (keeps_declared id i m) (h (declare i m)))

other_than : (x id : ℕ) (indices : List ℕ) → Contains indices id → All (λ i. x ≢ i) indices → x ≢ id
other_than x id indices (k, within, is) h e = h k id within (e ∙ sym is)

contained_more : (x id : ℕ) (indices : List ℕ) → Contains indices id → Contains (x ∷ indices) id
contained_more x id indices (k, within, is) = (suc k, omega (arith, within), is)

mutual
  -- a statement keeps each scalar of these that it doesn't assign
  pub steady_keeps : (id : ℕ) (s : Stmt) (indices : List ℕ) → Contains indices id → IsSteady s indices → (n : ℕ) (m : Memory) → KeepsScalar id m (run s n m).store
  steady_keeps id (Let x e) indices h t n m = kept_value (KeepsScalar id) (scalar_order id) (value_of e m) m _ (λ v. keeps_declared id v m)
  steady_keeps id (Set x e) indices h t n m =
      kept_value (KeepsScalar id) (scalar_order id) (value_of e m) m _ (λ v. keeps_assigned id x.id v m (other_than x.id id indices h t))
  steady_keeps id (Fold x f e) indices h t n m =
      kept_value (KeepsScalar id) (scalar_order id) (value_of e m) m _ (λ v. keeps_assigned id x.id (join_of f (scalar_at m x.id) v) m (other_than x.id id indices h t))
  steady_keeps id (Put c e) indices h t n m =
      kept_value (KeepsScalar id) (scalar_order id) (cell_of c m) m _ (λ place. kept_value (KeepsScalar id) (scalar_order id) (value_of e m) m _ (λ v there. (there, refl)))
  steady_keeps id (FoldPut c f e) indices h t n m =
      kept_value (KeepsScalar id) (scalar_order id) (cell_of c m) m _ (λ place. kept_value (KeepsScalar id) (scalar_order id) (value_of e m) m _ (λ v there. (there, refl)))
  steady_keeps id (If' test p then_part q else_part) indices h t n m =
      kept_value (KeepsScalar id) (scalar_order id) (value_of test m) m _ (λ v. kept_if (KeepsScalar id) (is_zero v) m (block (run_row else_part n) m) (block (run_row then_part n) m) (keeps_block id (run_row else_part n) (λ x. steady_row_keeps id else_part indices h t.1 n x) m) (keeps_block id (run_row then_part n) (λ x. steady_row_keeps id then_part indices h t.0 n x) m))
  steady_keeps id (While' test p body at) indices h t n m =
      kept_while (KeepsScalar id) (scalar_order id) at (value_of test) (block (run_row body n)) (keeps_block id (run_row body n) (λ x. steady_row_keeps id body indices h t n x)) n m
  steady_keeps id (For' x low high p body seq at) indices h t n m =
      kept_value (KeepsScalar id) (scalar_order id) (value_of low m) m _ (λ a. kept_value (KeepsScalar id) (scalar_order id) (value_of high m) m _ (λ b. kept_for (KeepsScalar id) (scalar_order id) at (turn (run_row body n)) a (keeps_turn id (run_row body n) (λ y. steady_row_keeps id body (x.id ∷ indices) (contained_more x.id id indices h) t n y)) (int_gap a b) n m))
  steady_keeps id (Print e at) indices h t n m = kept_value (KeepsScalar id) (scalar_order id) (value_of e m) m _ (λ v there. (there, refl))

  steady_row_keeps : {k : _} (id : ℕ) (row : Row_of-Stmt k) (indices : List ℕ) → Contains indices id → IsRowSteady row indices → (n : ℕ) (m : Memory) → KeepsScalar id m (run_row row n m).store
  steady_row_keeps id end_of-Stmt indices h t n m = λ there. (there, refl)
  steady_row_keeps id (more_of-Stmt s rest) indices h t n m =
      kept_then (KeepsScalar id) (scalar_order id) m (run s n m) (run_row rest n) (steady_keeps id s indices h t.0 n m) (λ x. steady_row_keeps id rest indices h t.1 n x)

steady_all_keeps : (id : ℕ) (ss : List Stmt) (indices : List ℕ) → Contains indices id → AreSteady ss indices → (n : ℕ) (m : Memory) → KeepsScalar id m (run_all ss n m).store
steady_all_keeps id [] indices h t n m = λ there. (there, refl)
steady_all_keeps id (s ∷ rest) indices h t n m =
    kept_then (KeepsScalar id) (scalar_order id) m (run s n m) (run_all rest n) (steady_keeps id s indices h t.0 n m) (λ x. steady_all_keeps id rest indices h t.1 n x)

pub unassigned_stays : (s : Stmt) (indices : List ℕ) (id : ℕ) → Contains indices id → IsSteady s indices → (n : ℕ) (m : Memory) → id < length m.scalars → scalar_at (run s n m).store id ≡ scalar_at m id
unassigned_stays s indices id h t n m there = (steady_keeps id s indices h t n m there).1

pub all_unassigned_stays : (ss : List Stmt) (indices : List ℕ) (id : ℕ) → Contains indices id → AreSteady ss indices → (n : ℕ) (m : Memory) → id < length m.scalars → scalar_at (run_all ss n m).store id ≡ scalar_at m id
all_unassigned_stays ss indices id h t n m there = (steady_all_keeps id ss indices h t n m there).1

-- what is done was done up to each of its parts

record IsBehind (r : Ran) (go : Memory → Ran) : Type 0 where
  first : r.end ≡ outcome.Done
  rest : then_do r go ≡ go r.store

behind_at : (m : Memory) (e : Outcome) (go : Memory → Ran) → (then_from m e go).end ≡ outcome.Done → IsBehind (record { store = m; end = e }) go
behind_at m outcome.Done go h = record { first = refl; rest = refl }
behind_at m (outcome.Trap t) go h = record { first = h; rest = cc }
behind_at m (outcome.OutOfTurns at) go h = record { first = h; rest = cc }

behind_done : (r : Ran) (go : Memory → Ran) → (then_do r go).end ≡ outcome.Done → IsBehind r go
behind_done r go h = behind_at r.store r.end go h

record HasGiven (o : Result ℤ Trap) (m : Memory) (go : ℤ → Ran) : Type 0 where
  value : ℤ
  is : o ≡ Ok value
  ran : with_value o m go ≡ go value

given_done : (o : Result ℤ Trap) (m : Memory) (go : ℤ → Ran) → (with_value o m go).end ≡ outcome.Done → HasGiven o m go
given_done (Ok v) m go h = record { value = v; is = refl; ran = refl }
given_done (Err t) m go h = cc

from_more : (m : Memory) (e : Outcome) (f g : Memory → Ran) → then_do (then_from m e f) g ≡ then_from m e (λ x. then_do (f x) g)
from_more m outcome.Done f g = refl
from_more m (outcome.Trap t) f g = refl
from_more m (outcome.OutOfTurns at) f g = refl

-- statements are run, and then those behind them
pub run_in_parts : (front rest : List Stmt) (n : ℕ) (m : Memory) → run_all (front ++ rest) n m ≡ then_do (run_all front n m) (run_all rest n)
run_in_parts [] rest n m = refl
run_in_parts (s ∷ front) rest n m =
    (λ i. then_do (run s n m) (λ x. run_in_parts front rest n x i))
    ∙ sym (from_more (run s n m).store (run s n m).end (run_all front n) (run_all rest n))

scoped_behind : (front rest : List Stmt) (depth arrays : ℕ) → AreScoped (front ++ rest) depth arrays → AreScoped rest (depth_after_all front depth) arrays
scoped_behind [] rest depth arrays h = h
scoped_behind (s ∷ front) rest depth arrays h = scoped_behind front rest (depth_after s depth) arrays h.1

last_declared : (v : ℤ) (m : Memory) → scalar_at (declare v m) (length m.scalars) ≡ v
last_declared v m =
    ap (λ (k : ℕ). slice_index_or (m.scalars ++ v ∷ []) k (pos 0)) (omega arith) ∙ get_or-append-add m.scalars (v ∷ []) 0 (pos 0)

-- a local has its value from where it is declared to the end of its iteration
pub local_holds : (e : Entry) (k : ℕ) (front rest : List Stmt) (x : Use) (value : Expr) (arrays : ℕ) → IsLocal e front rest x value arrays
    → (in_iteration e k).end ≡ outcome.Done → value_of value (behind_front e k front).store ≡ Ok (local_at e k x.id)
local_holds e k front rest x value arrays local is_done =
    let n = e.turns in
    let m0 = declare (e.low +ℤ pos k) (after e k).store in
    let whole : in_iteration e k ≡ then_do (run_all front n m0) (run_all (Let x value ∷ rest) n) =
    ap (λ (ss : List Stmt). run_all ss n m0) local.body ∙ run_in_parts front (Let x value ∷ rest) n m0 in
    let m = (run_all front n m0).store in
    let first = behind_done (run_all front n m0) (run_all (Let x value ∷ rest) n) (sym (ap (λ (r : Ran). r.end) whole) ∙ is_done) in
    let after_front : in_iteration e k ≡ then_do (run (Let x value) n m) (run_all rest n) = whole ∙ first.rest in
    let second = behind_done (run (Let x value) n m) (run_all rest n) (sym (ap (λ (r : Ran). r.end) after_front) ∙ is_done) in
    let given = given_done (value_of value m) m (λ v. done (declare v m)) second.first in
    let at_end : in_iteration e k ≡ run_all rest n (declare given.value m) =
    after_front ∙ second.rest ∙ ap (λ (r : Ran). run_all rest n r.store) given.ran in
    let scopes : AreScoped (front ++ Let x value ∷ rest) (length e.store.scalars + 1) arrays =
    subst (λ (ss : List Stmt). AreScoped ss (length e.store.scalars + 1) arrays) local.body
    (subst (λ (P : Type 0). P) (scoped-For e.looped (length e.store.scalars) arrays) local.scoped).3 in
    let depth : x.id ≡ depth_after_all front (length e.store.scalars + 1) = (scoped_behind front (Let x value ∷ rest) (length e.store.scalars + 1) arrays scopes).0.0 in
    let around : length m0.scalars ≡ length e.store.scalars + 1 =
    length-append (after e k).store.scalars ((e.low +ℤ pos k) ∷ []) ∙ ap (λ (j : ℕ). j + 1) (turns_depth e.looped.body n e.low k e.store) in
    let there : x.id ≡ length m.scalars =
    depth ∙ sym (depths_where_done front n m0 first.first ∙ ap (depth_after_all front) around) in
    let declared : scalar_at (declare given.value m) x.id ≡ given.value =
    ap (scalar_at (declare given.value m)) there ∙ last_declared given.value m in
    let within : x.id < length (declare given.value m).scalars = omega (arith, there, length-append m.scalars (given.value ∷ [])) in
    let stays = all_unassigned_stays rest (x.id ∷ []) x.id (0, omega arith, refl) local.steady n (declare given.value m) within in
    given.is ∙ ap Ok (sym (ap (λ (r : Ran). scalar_at r.store x.id) at_end ∙ stays ∙ declared))
