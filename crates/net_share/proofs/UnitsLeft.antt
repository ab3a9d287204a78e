-- A task's store within an iteration: at its beginning, behind a unit, and at its end.
use Rattle.std.proofs.Common.{◌≡◌, ℕ, zero, suc, ◌+◌, ◌<◌, ℤ, pos, ◌+ℤ◌, List, [], ◌∷◌, ◌++◌, length, drop, refl, sym, ap, ◌∙◌, subst, subst₂, arith, length-append}
use Rattle.std.proofs.Math.Seq.{drop-length}
use Rattle.std.proofs.lemmas.Int.{ints}
use Rattle.nona_tree.specs.declared.outcomes.Outcome.TheVariants as outcome
use Rattle.nona_tree.specs.declared.trees.Stmt.{Stmt}
use Rattle.nona_tree.specs.Entries.{Entry}
use Rattle.nona_tree.specs.Memory.{Memory, declare, cut_to}
use Rattle.nona_tree.specs.Numbers.{AreI64Stmts}
use Rattle.nona_tree.specs.Run.{Ran, done, then_do, run, run_all}
use Rattle.nona_tree.specs.Scope.{AreScoped}
use Rattle.nona_tree.proofs.Depth.{depth_where_done, was_done}
use Rattle.nona_tree.proofs.Equations.{scoped_body}
use Rattle.nona_tree.proofs.I64.{run_fits}
use Rattle.nona_tree.proofs.Keeps.{SameArrays, arrays_kept, run_kept}
use Rattle.nona_fission.specs.Sharing.{index_of, iteration, turns_over}
use Rattle.nona_fission.proofs.Tasks.{declare_numbers}
use Rattle.nona_fission.proofs.Whole.{goes_on}
use Rattle.net_flow.specs.Sharing.{claimed_by}
use Rattle.net_share.specs.Entries.{MayShare, IsWithin, begun_in}
use Rattle.net_share.specs.May.{MayRunFirst}
use Rattle.net_share.specs.Works.{run_first}
use Rattle.net_share.proofs.SharedOut.{same_count, numbers_behind, depth_behind, arrays_behind, index_behind}

-- the beginning

body_scoped : (e : Entry) (first limit : ℕ) (m : Memory) → MayShare e first limit → length m.scalars ≡ length e.store.scalars → length m.arrays ≡ length e.store.arrays → (i : ℤ)
    → AreScoped e.looped.body (length (declare i m).scalars) (length (declare i m).arrays)
body_scoped e first limit m h depth arrays i =
    let inside : AreScoped e.looped.body (length e.store.scalars + 1) (length e.store.arrays) = subst (λ (S : Type 0). S) (scoped_body e.looped.body (length e.store.scalars + 1) (length e.store.arrays)) h.entered.scoped.3 in
    let longer = length-append m.scalars (i ∷ []) in
    subst₂ (AreScoped e.looped.body) (omega (arith, depth, longer)) (sym arrays) inside

pub entered : (e : Entry) (first limit t : ℕ) (cs : List ℕ) (m : Memory) → MayShare e first limit → length cs < limit → turns_over e first (claimed_by cs t) (begun_in e first) ≡ done m
    → IsWithin e first (claimed_by cs t) (length cs) 0 (declare ((e.low +ℤ pos first) +ℤ pos (length cs)) m)
entered e first limit t cs m h below ready =
    let same : index_of e first (length cs) ≡ (e.low +ℤ pos first) +ℤ pos (length cs) = omega (arith, ints) in
    let begin : IsWithin e first (claimed_by cs t) (length cs) 0 (declare (index_of e first (length cs)) m) = record {
      begun = m;
      ready = ready;
      goes_on = refl;
      fits = declare_numbers (index_of e first (length cs)) m (index_behind e first limit t cs h below m ready) (numbers_behind e first limit t cs h below m ready);
      scoped = body_scoped e first limit m h (depth_behind e first limit t cs h below m ready) (arrays_behind e first limit t cs h below m ready) (index_of e first (length cs));
    } in
    subst (λ (i : ℤ). IsWithin e first (claimed_by cs t) (length cs) 0 (declare i m)) same begin

-- the first of the units that are left

module _ (s : Stmt) (rest : List Stmt) (n : ℕ) (m : Memory) (ends : (run_all (s ∷ rest) n m).end ≡ outcome.Done) where
  unit_done : (run s n m).end ≡ outcome.Done
  unit_done = (was_done (run s n m).store (run s n m).end (run_all rest n) ends).0

  rest_follows : run_all (s ∷ rest) n m ≡ run_all rest n (run s n m).store
  rest_follows = (was_done (run s n m).store (run s n m).end (run_all rest n) ends).1

  rest_scoped : AreScoped (s ∷ rest) (length m.scalars) (length m.arrays) → AreScoped rest (length (run s n m).store.scalars) (length (run s n m).store.arrays)
  rest_scoped h =
      subst₂ (AreScoped rest) (sym (depth_where_done s n m unit_done)) (sym (same_count m (run s n m).store (run_kept SameArrays arrays_kept s n m))) h.1

pub next_unit : (ss : List Stmt) (u : ℕ) → u < length ss → (s : Stmt) × (drop u ss ≡ s ∷ drop (suc u) ss)
next_unit [] u below = absurd (omega (arith, below))
next_unit (s ∷ ss) zero below = (s, refl)
next_unit (s ∷ ss) (suc u) below = let next = next_unit ss u (omega (arith, below)) in (next.0, next.1)

pub numbers_left : (ss : List Stmt) (u : ℕ) → AreI64Stmts ss → AreI64Stmts (drop u ss)
numbers_left ss zero h = h
numbers_left [] (suc u) h = h
numbers_left (s ∷ ss) (suc u) h = numbers_left ss u h.1

module _ (e : Entry) (first : ℕ) (numbers : List ℕ) (k u : ℕ) (m : Memory) (w : IsWithin e first numbers k u m) (whole : (iteration e first k w.begun).end ≡ outcome.Done) (inner : u < length e.looped.body) where
  abbrev unit : Stmt
  unit = (next_unit e.looped.body u inner).0

  abbrev rest : List Stmt
  rest = drop (suc u) e.looped.body

  parts : drop u e.looped.body ≡ unit ∷ rest
  parts = (next_unit e.looped.body u inner).1

  left_on : run_all e.looped.body e.turns (declare (index_of e first k) w.begun) ≡ run_all (unit ∷ rest) e.turns m
  left_on = w.goes_on ∙ ap (λ (ss : List Stmt). run_all ss e.turns m) parts

  left_ends : (run_all (unit ∷ rest) e.turns m).end ≡ outcome.Done
  left_ends = sym (ap (λ (r : Ran). r.end) left_on) ∙ whole

  left_scoped : AreScoped (unit ∷ rest) (length m.scalars) (length m.arrays)
  left_scoped = subst (λ (ss : List Stmt). AreScoped ss (length m.scalars) (length m.arrays)) parts w.scoped

  pub may_run : MayRunFirst (drop u e.looped.body) e.turns m
  may_run =
      subst (λ (ss : List Stmt). MayRunFirst ss e.turns m) (sym parts) (record { fits = w.fits; scoped = left_scoped.0; ends = unit_done unit rest e.turns m left_ends })

  pub unit_within : AreI64Stmts e.looped.body → IsWithin e first numbers k (u + 1) (run_first (drop u e.looped.body) e.turns m).store
  unit_within written =
      let later : suc u ≡ u + 1 = omega arith in
      let same : (run unit e.turns m).store ≡ (run_first (drop u e.looped.body) e.turns m).store = ap (λ (ss : List Stmt). (run_first ss e.turns m).store) (sym parts) in
      let next : IsWithin e first numbers k (suc u) (run unit e.turns m).store = record {
        begun = w.begun;
        ready = w.ready;
        goes_on = left_on ∙ rest_follows unit rest e.turns m left_ends;
        fits = run_fits unit (subst AreI64Stmts parts (numbers_left e.looped.body u written)).0 e.turns m w.fits;
        scoped = rest_scoped unit rest e.turns m left_ends left_scoped;
      } in
      subst₂ (IsWithin e first numbers k) later same next

-- the end
pub iteration_left : (e : Entry) (first : ℕ) (numbers : List ℕ) (k : ℕ) (m : Memory) (w : IsWithin e first numbers k (length e.looped.body) m) → length w.begun.scalars ≡ length e.store.scalars
    → turns_over e first (numbers ++ k ∷ []) (begun_in e first) ≡ done (cut_to (length e.store.scalars) m)
iteration_left e first numbers k m w depth =
    goes_on e first numbers k (begun_in e first)
    ∙ ap (λ (r : Ran). then_do r (iteration e first k)) w.ready
    ∙ ap (λ (r : Ran). let q : Ran = record { store = cut_to (length w.begun.scalars) r.store; end = r.end } in q) (w.goes_on ∙ ap (λ (ss : List Stmt). run_all ss e.turns m) (drop-length e.looped.body))
    ∙ ap (λ (d : ℕ). done (cut_to d m)) depth
