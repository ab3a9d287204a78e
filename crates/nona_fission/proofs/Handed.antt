-- What the own units of an iteration hand on: at their end a local that is never assigned has its value of one thread.
use Rattle.std.proofs.Common.{◌≡◌, ◌⊎◌, ⊎_elim, ℕ, zero, suc, ◌+◌, ◌<◌, Bool, true, false, List, [], ◌∷◌, ◌++◌, length, refl, sym, ap, ◌∙◌, subst, arith, if◌then◌else◌, append-nil, append_assoc}
use Rattle.std.specs.List.{Contains}
use Rattle.std.proofs.lemmas.List.Elements.{Contains-append_cases}
use Rattle.nona_tree.specs.declared.names.Use.{Use}
use Rattle.nona_tree.specs.declared.trees.Expr.{Expr}
use Rattle.nona_tree.specs.declared.trees.Stmt.{Stmt, Let, Set, Fold as FoldInto, Put, FoldPut, If', While', For', Print}
use Rattle.nona_tree.specs.Memory.{Memory, scalar_at, declare}
use Rattle.nona_tree.specs.Numbers.{AreI64}
use Rattle.nona_tree.specs.Run.{Ran, done, then_do, run, run_all}
use Rattle.nona_tree.proofs.Depth.{depth_where_done, was_done}
use Rattle.nona_forms.specs.Affine.{among}
use Rattle.nona_forms.specs.References.{assigned_all}
use Rattle.nona_plans.specs.declared.graphs.Local.{Local}
use Rattle.nona_plans.specs.Units.{local_of, locals_from, locals_of}
use Rattle.nona_fission.specs.Sharing.{index_of, owned_below}
use Rattle.nona_fission.proofs.Untied.{among_in, no_and_yes}
use Rattle.nona_fission.proofs.Tasks.{thread, as_done}
use Rattle.nona_fission.specs.Fission.{Fission, MayBeApart, one_thread_local, skipped, portion, own_units, own_over, part_begun}
use Rattle.nona_fission.proofs.Thread.{thread_begins, all_unassigned, IsFront, front_next, unit_scoped, body_behind}
use Rattle.nona_fission.proofs.Units.{skipped_last, skipped_depth, index_within, own_alike}
use Rattle.nona_fission.proofs.Portion.{UnitsBegin, own_step, other_step, one_more}
use Rattle.nona_fission.proofs.Turns.{turns_to, over_to, stands_at}
use Rattle.nona_fission.proofs.Spared.{portion_unassigned}
use Rattle.nona_fission.proofs.Parts.{begins_in, run_goes}

-- between two units: what stands there, and that the own units behind are what is left of all own units of the iteration
record Reached (s : Fission) (t k : ℕ) (front rest : List Stmt) (m0 q0 : Memory) : Type 0 where
  m : Memory
  q : Memory
  begin : UnitsBegin s t k (suc (length front)) front rest m q m0 q0
  goes : portion s.own (s.locals k) 1 s.sharing.entry.looped.body s.sharing.entry.turns (declare (index_of s.sharing.entry s.sharing.first k) q0) ≡ portion s.own (s.locals k) (suc (length front)) rest s.sharing.entry.turns q

-- past one more unit
one_further : (s : Fission) → MayBeApart s → (t k : ℕ) (front : List Stmt) (stmt : Stmt) (rest : List Stmt) (m0 q0 : Memory) (own : Bool) → s.own (suc (length front)) ≡ own → k < s.sharing.count → s.sharing.owner k ≡ t → AreI64 m0 → AreI64 q0
    → Reached s t k front (stmt ∷ rest) m0 q0 → Reached s t k (front ++ stmt ∷ []) rest m0 q0
one_further s h t k front stmt rest m0 q0 true own below mine fm fq at =
    let n = s.sharing.entry.turns in
    let u = suc (length front) in
    let q = at.q in
    let step = own_step s h t k front stmt rest at.m q m0 q0 own below mine fm fq at.begin in
    let go = portion s.own (s.locals k) (suc u) rest n in
    record {
      m = (run stmt n at.m).store;
      q = (run stmt n q).store;
      begin = subst (λ (v : ℕ). UnitsBegin s t k v (front ++ stmt ∷ []) rest (run stmt n at.m).store (run stmt n q).store m0 q0) (sym (one_more front stmt)) step.later;
      goes = at.goes ∙ ap (λ (b : Bool). if b then then_do (run stmt n q) go else go (skipped (s.locals k) stmt q)) own
          ∙ run_goes stmt n q go step.is_done ∙ ap (λ (v : ℕ). portion s.own (s.locals k) v rest n (run stmt n q).store) (sym (one_more front stmt));
    }
one_further s h t k front stmt rest m0 q0 false own below mine fm fq at =
    let n = s.sharing.entry.turns in
    let u = suc (length front) in
    let q = at.q in
    let step = other_step s h t k front stmt rest at.m q m0 q0 own below at.begin in
    let go = portion s.own (s.locals k) (suc u) rest n in
    record {
      m = (run stmt n at.m).store;
      q = skipped (s.locals k) stmt q;
      begin = subst (λ (v : ℕ). UnitsBegin s t k v (front ++ stmt ∷ []) rest (run stmt n at.m).store (skipped (s.locals k) stmt q) m0 q0) (sym (one_more front stmt)) step;
      goes = at.goes ∙ ap (λ (b : Bool). if b then then_do (run stmt n q) go else go (skipped (s.locals k) stmt q)) own
          ∙ ap (λ (v : ℕ). portion s.own (s.locals k) v rest n (skipped (s.locals k) stmt q)) (sym (one_more front stmt));
    }

-- past some units
reached : (s : Fission) → MayBeApart s → (t k : ℕ) → k < s.sharing.count → s.sharing.owner k ≡ t → (more front rest : List Stmt) (m0 q0 : Memory) → AreI64 m0 → AreI64 q0 → Reached s t k front (more ++ rest) m0 q0 → Reached s t k (front ++ more) rest m0 q0
reached s h t k below mine [] front rest m0 q0 fm fq at = subst (λ ss. Reached s t k ss rest m0 q0) (sym (append-nil front)) at
reached s h t k below mine (stmt ∷ more) front rest m0 q0 fm fq at =
    subst (λ ss. Reached s t k ss rest m0 q0) (append_assoc front (stmt ∷ []) more)
    (reached s h t k below mine more (front ++ stmt ∷ []) rest m0 q0 fm fq (one_further s h t k front stmt (more ++ rest) m0 q0 (s.own (suc (length front))) refl below mine fm fq at))

-- in an iteration of a task, before a unit
reached_unit : (s : Fission) → MayBeApart s → (k : ℕ) → k < s.sharing.count → (front rest : List Stmt) → s.sharing.entry.looped.body ≡ front ++ rest
    → Reached s (s.sharing.owner k) k front rest (thread s.sharing k) (turns_to s (s.sharing.owner k) k).store
reached_unit s h k below front rest body =
    let t = s.sharing.owner k in
    let i = index_of s.sharing.entry s.sharing.first k in
    let m = thread s.sharing k in
    let q = (turns_to s t k).store in
    let first : Reached s t k [] s.sharing.entry.looped.body m q = record { m = declare i m; q = declare i q; begin = begins_in s h t k below refl; goes = refl } in
    reached s h t k below refl front [] rest m q (thread_begins s h k (omega (arith, below))).kept.numbers (stands_at s h t k (omega (arith, below))).numbers (subst (λ ss. Reached s t k [] ss m q) body first)

-- the `let` of a local

record IsLet (from : ℕ) (all : List Stmt) (v : Local) : Type 0 where
  front : List Stmt
  name : Use
  value : Expr
  rest : List Stmt
  body : all ≡ front ++ Let name value ∷ rest
  unit : v.unit ≡ from + length front
  id : v.id ≡ name.id
  assigned : v.assigned ≡ among name.id (assigned_all rest)

let_here : (from : ℕ) (s : Stmt) (rest : List Stmt) (v : Local) → Contains (local_of from s rest) v → IsLet from (s ∷ rest) v
let_here from (Let x e) rest v (zero, within, is) = record {
  front = [];
  name = x;
  value = e;
  rest = rest;
  body = refl;
  unit = ap (λ (w : Local). w.unit) (sym is) ∙ omega arith;
  id = ap (λ (w : Local). w.id) (sym is);
  assigned = ap (λ (w : Local). w.assigned) (sym is);
}
let_here from (Let x e) rest v (suc k, within, is) = absurd (omega (arith, within))
let_here from (Set x e) rest v (k, within, is) = absurd (omega (arith, within))
let_here from (FoldInto x f e) rest v (k, within, is) = absurd (omega (arith, within))
let_here from (Put c e) rest v (k, within, is) = absurd (omega (arith, within))
let_here from (FoldPut c f e) rest v (k, within, is) = absurd (omega (arith, within))
let_here from (If' test p a r b) rest v (k, within, is) = absurd (omega (arith, within))
let_here from (While' test p b at) rest v (k, within, is) = absurd (omega (arith, within))
let_here from (For' x a b p body seq at) rest v (k, within, is) = absurd (omega (arith, within))
let_here from (Print e at) rest v (k, within, is) = absurd (omega (arith, within))

let_of : (from : ℕ) (ss : List Stmt) (v : Local) → Contains (locals_from from ss) v → IsLet from ss v
let_of from [] v (k, within, is) = absurd (omega (arith, within))
let_of from (s ∷ rest) v c =
    ⊎_elim (λ (here : Contains (local_of from s rest) v). let_here from s rest v here)
    (λ (there : Contains (locals_from (suc from) rest) v).
    let found = let_of (suc from) rest v there in
    let longer : length (s ∷ found.front) ≡ suc (length found.front) = refl in
    record {
      front = s ∷ found.front;
      name = found.name;
      value = found.value;
      rest = found.rest;
      body = ap (λ ss. s ∷ ss) found.body;
      unit = let unit = found.unit in omega (arith, unit, longer);
      id = found.id;
      assigned = found.assigned;
    })
    (Contains-append_cases (local_of from s rest) (locals_from (suc from) rest) v c)

-- the local behind its `let`

-- what one thread has in it at the end of the body
last_value : (s : Fission) → MayBeApart s → (k : ℕ) (front : List Stmt) (stmt : Stmt) (rest : List Stmt) (m r : Memory) (x : ℕ) → IsFront s k front (stmt ∷ rest) m → run stmt s.sharing.entry.turns m ≡ done r → x < length r.scalars → (Contains (assigned_all rest) x → ⊥)
    → one_thread_local s.sharing k x ≡ scalar_at r x
last_value s h k front stmt rest m r x at ran within unset =
    ap (λ (z : Ran). scalar_at z.store x) (body_behind s k (front ++ stmt ∷ []) rest r (front_next s k front stmt rest m r at ran)) ∙ all_unassigned rest s.sharing.entry.turns r x within unset

-- what an own unit declares
own_value : (s : Fission) → MayBeApart s → (k : ℕ) → k < s.sharing.count → (front : List Stmt) (x : Use) (e : Expr) (rest : List Stmt) → s.own (suc (length front)) ≡ true → (Contains (assigned_all rest) x.id → ⊥)
    → Reached s (s.sharing.owner k) k front (Let x e ∷ rest) (thread s.sharing k) (turns_to s (s.sharing.owner k) k).store
    → scalar_at (own_units s k (turns_to s (s.sharing.owner k) k).store).store x.id ≡ one_thread_local s.sharing k x.id
own_value s h k below front x e rest own unset at =
    let t = s.sharing.owner k in
    let n = s.sharing.entry.turns in
    let u = suc (length front) in
    let stmt = Let x e in
    let m = at.m in
    let q = at.q in
    let m0 = thread s.sharing k in
    let q0 = (turns_to s t k).store in
    let fm = (thread_begins s h k (omega (arith, below))).kept.numbers in
    let fq = (stands_at s h t k (omega (arith, below))).numbers in
    let begin = at.begin in
    let step = own_step s h t k front stmt rest m q m0 q0 own below refl fm fq begin in
    let alike = own_alike s h t k front stmt rest m q m0 q0 below refl fm fq begin.at own step.access begin.bound in
    let whole = was_done (run stmt n m).store (run stmt n m).end (run_all rest n) begin.ends in
    let here : x.id ≡ length m.scalars = (unit_scoped s h k front stmt rest m below begin.at).0 in
    let depth : length (run stmt n m).store.scalars ≡ length m.scalars + 1 = depth_where_done stmt n m whole.0 in
    let even = alike.bound.even in
    let index = index_within s h k front (stmt ∷ rest) m below begin.at in
    let within : x.id < length (run stmt n m).store.scalars = omega (arith, here, depth) in
    ap (λ (r : Ran). scalar_at r.store x.id) at.goes
    ∙ ap (λ (b : Bool). scalar_at (if b then then_do (run stmt n q) (portion s.own (s.locals k) (suc u) rest n) else portion s.own (s.locals k) (suc u) rest n (skipped (s.locals k) stmt q)).store x.id) own
    ∙ ap (λ (r : Ran). scalar_at r.store x.id) (run_goes stmt n q (portion s.own (s.locals k) (suc u) rest n) step.is_done)
    ∙ portion_unassigned s.own (s.locals k) (suc u) rest n (run stmt n q).store x.id (omega (arith, within, even)) unset
    ∙ (alike.bound.scalar x.id within).inner (omega (arith, here, index)) (λ less. absurd (omega (arith, less, here)))
    ∙ sym (last_value s h k front stmt rest m (run stmt n m).store x.id begin.at (as_done (run stmt n m) whole.0) within unset)

-- what is given for another unit
other_value : (s : Fission) → MayBeApart s → (k : ℕ) → k < s.sharing.count → (front : List Stmt) (x : Use) (e : Expr) (rest : List Stmt) → s.own (suc (length front)) ≡ false → (Contains (assigned_all rest) x.id → ⊥)
    → Reached s (s.sharing.owner k) k front (Let x e ∷ rest) (thread s.sharing k) (turns_to s (s.sharing.owner k) k).store
    → scalar_at (own_units s k (turns_to s (s.sharing.owner k) k).store).store x.id ≡ s.locals k x.id
other_value s h k below front x e rest other unset at =
    let n = s.sharing.entry.turns in
    let u = suc (length front) in
    let stmt = Let x e in
    let q = at.q in
    let locals = s.locals k in
    let here : x.id ≡ length at.m.scalars = (unit_scoped s h k front stmt rest at.m below at.begin.at).0 in
    let even = at.begin.bound.even in
    let longer : length (skipped locals stmt q).scalars ≡ length q.scalars + 1 = skipped_depth locals stmt q in
    ap (λ (r : Ran). scalar_at r.store x.id) at.goes
    ∙ ap (λ (b : Bool). scalar_at (if b then then_do (run stmt n q) (portion s.own locals (suc u) rest n) else portion s.own locals (suc u) rest n (skipped locals stmt q)).store x.id) other
    ∙ portion_unassigned s.own locals (suc u) rest n (skipped locals stmt q) x.id (omega (arith, here, even, longer)) unset
    ∙ skipped_last locals stmt q x.id (omega (arith, here, even)) (omega (arith, here, even, longer))

handed_by : (s : Fission) → MayBeApart s → (k : ℕ) (v : Local) (own : Bool) → k < s.sharing.count → (l : IsLet 1 s.sharing.entry.looped.body v) → v.assigned ≡ false → s.own v.unit ≡ own
    → (own ≡ true) ⊎ (s.locals k v.id ≡ one_thread_local s.sharing k v.id)
    → scalar_at (own_units s k (turns_to s (s.sharing.owner k) k).store).store v.id ≡ one_thread_local s.sharing k v.id
handed_by s h k v true below l free own given =
    let unit = l.unit in
    let unset : Contains (assigned_all l.rest) l.name.id → ⊥ = (λ c. no_and_yes v.assigned (l.assigned ∙ among_in l.name.id (assigned_all l.rest) c) free) in
    let at = reached_unit s h k below l.front (Let l.name l.value ∷ l.rest) l.body in
    subst (λ x. scalar_at (own_units s k (turns_to s (s.sharing.owner k) k).store).store x ≡ one_thread_local s.sharing k x) (sym l.id)
    (own_value s h k below l.front l.name l.value l.rest (ap s.own (omega (arith, unit)) ∙ own) unset at)
handed_by s h k v false below l free other given =
    let unit = l.unit in
    let unset : Contains (assigned_all l.rest) l.name.id → ⊥ = (λ c. no_and_yes v.assigned (l.assigned ∙ among_in l.name.id (assigned_all l.rest) c) free) in
    let at = reached_unit s h k below l.front (Let l.name l.value ∷ l.rest) l.body in
    subst (λ x. scalar_at (own_units s k (turns_to s (s.sharing.owner k) k).store).store x ≡ s.locals k x) (sym l.id)
    (other_value s h k below l.front l.name l.value l.rest (ap s.own (omega (arith, unit)) ∙ other) unset at)
    ∙ ⊎_elim (λ (e : false ≡ true). cc) (λ (same : s.locals k v.id ≡ one_thread_local s.sharing k v.id). same) given

pub handed_on : (s : Fission) → MayBeApart s → (k : ℕ) (v : Local) (m : Memory) → k < s.sharing.count → own_over s (owned_below s.sharing.owner (s.sharing.owner k) k) (part_begun s) ≡ done m
    → Contains (locals_of s.sharing.entry.looped) v → v.assigned ≡ false → (s.own v.unit ≡ true) ⊎ (s.locals k v.id ≡ one_thread_local s.sharing k v.id)
    → scalar_at (own_units s k m).store v.id ≡ one_thread_local s.sharing k v.id
handed_on s h k v m below ran listed free given =
    subst (λ z. scalar_at (own_units s k z).store v.id ≡ one_thread_local s.sharing k v.id) (ap (λ (r : Ran). r.store) (sym (over_to s (s.sharing.owner k) k) ∙ ran))
    (handed_by s h k v (s.own v.unit) below (let_of 1 s.sharing.entry.looped.body v listed) free refl given)
