-- All units of an iteration of a task, beside one thread's.
use Rattle.std.proofs.Common.{◌≡◌, ℕ, suc, ◌<◌, ◌≤◌, Bool, true, false, ℤ, List, [], ◌∷◌, ◌++◌, length, refl, sym, ap, ◌∙◌, subst, arith, if◌then◌else◌, length-append}
use Rattle.std.specs.Prelude.{Some, None}
use Rattle.std.specs.List.{AllByRecursion, list_any}
use Rattle.std.proofs.lemmas.List.Elements.{All-take}
use Rattle.std.proofs.lemmas.List.Folds.{list_any-append}
use Rattle.nona_num.specs.declared.folds.Fold.{Fold}
use Rattle.nona_tree.specs.declared.outcomes.Outcome.{Outcome}
use Rattle.nona_tree.specs.declared.outcomes.Outcome.TheVariants as outcome
use Rattle.nona_tree.specs.declared.trees.Stmt.{Stmt}
use Rattle.nona_tree.specs.Beside.{on_end, on_done}
use Rattle.nona_tree.specs.Deeds.{Deed, deeds, deeds_all, SparesCell}
use Rattle.nona_tree.specs.Memory.{Memory, scalar_at, declare}
use Rattle.nona_tree.specs.Numbers.{IsI64, AreI64}
use Rattle.nona_tree.specs.Run.{Ran, then_from, then_do, run, run_all}
use Rattle.nona_tree.proofs.DeedLaws.{each_of_both}
use Rattle.nona_tree.proofs.Depth.{was_done, all_grow}
use Rattle.nona_tree.proofs.I64.{run_fits}
use Rattle.nona_tree.proofs.Keeps.{NoFewer, scalars_kept, run_kept}
use Rattle.nona_forms.specs.Affine.{among}
use Rattle.nona_forms.specs.Touched.{IsOfAccess}
use Rattle.nona_forms.proofs.Sound.{all_of_two}
use Rattle.nona_plans.specs.Mentions.{reduction_of}
use Rattle.nona_plans.specs.Units.{named_in, arrays_in}
use Rattle.nona_fission.specs.Sharing.{index_of, iteration, iteration_deeds, is_write}
use Rattle.nona_fission.proofs.Alike.{Bond, Bound, declare_bound, cut_bound}
use Rattle.nona_fission.proofs.Tasks.{thread, AreJoined, as_done, declare_numbers}
use Rattle.nona_fission.proofs.Untied.{or_none}
use Rattle.nona_fission.specs.Fission.{Fission, MayBeApart, skipped, portion, portion_deeds, own_iteration, own_iteration_deeds}
use Rattle.nona_fission.proofs.Named.{deeds_named}
use Rattle.nona_fission.proofs.Thread.{thread_depth, body_done, index_number, OwnHas, unit_numbers, IsFront, front_next}
use Rattle.nona_fission.proofs.Units.{IsWhole, AllHave, IsPrinting, IsCellLinked, unit_bond, has_inner, weaker, OwnDeed, own_each, skipped_fits, all_spare, other_bound, own_alike, index_within}
use Rattle.nona_fission.proofs.Spared.{all_spared}

-- what an iteration leaves of the links
pub record IsOuter (s : Fission) (m0 q0 : Memory) (x : ℕ) (u v : ℤ) : Type 0 where
  pub outer : x < s.sharing.entry.looped.index.id → OwnHas s named_in x → reduction_of s.sharing.entry.looped x ≡ None → v ≡ u
  pub whole : (f : Fold) → reduction_of s.sharing.entry.looped x ≡ Some f → IsWhole s x → AreJoined f (scalar_at m0 x) (scalar_at q0 x) u v

abbrev pub outer_bond : Fission → ℕ → Memory → Memory → Bond
outer_bond s t m0 q0 = record {
  depth = s.sharing.entry.looped.index.id;
  scalar = IsOuter s m0 q0;
  cell = IsCellLinked s t (AllHave s) m0 q0;
  printed = λ us vs. IsPrinting s → vs ≡ us;
}

-- a task's units, run from a store, beside one thread's, which leave this store and do these deeds
pub record UnitsAre (s : Fission) (t k : ℕ) (m m0 q0 : Memory) (r : Ran) (ds ts : List Deed) : Type 0 where
  pub is_done : r.end ≡ outcome.Done
  pub numbers : AreI64 r.store
  pub bound : Bound (outer_bond s t m0 q0) m r.store
  pub deeds : AllByRecursion (OwnDeed s k) ds
  pub spared : (a p : ℕ) → OwnHas s arrays_in a → among a s.folded ≡ false → list_any (is_write a p) ds ≡ false → AllByRecursion (SparesCell a p) ts

to_outer : (s : Fission) (t from depth : ℕ) (m0 q0 m q : Memory) → s.sharing.entry.looped.index.id ≤ length m.scalars → Bound (unit_bond s t from depth m0 q0) m q → Bound (outer_bond s t m0 q0) m q
to_outer s t from depth m0 q0 m q deep h = record {
  numbers = h.numbers;
  deep = deep;
  even = h.even;
  sizes = h.sizes;
  scalar = λ x below. let link = h.scalar x below in record { outer = link.outer; whole = link.whole };
  cell = h.cell;
  printed = h.printed;
}

-- what stands before units that are still to come
pub record UnitsBegin (s : Fission) (t k from : ℕ) (front rest : List Stmt) (m q m0 q0 : Memory) : Type 0 where
  pub at : IsFront s k front rest m
  pub ends : (run_all rest s.sharing.entry.turns m).end ≡ outcome.Done
  pub access : AllByRecursion (IsOfAccess s.sharing.entry.looped s.sharing.entry.store (index_of s.sharing.entry s.sharing.first k)) (deeds_all rest s.sharing.entry.turns m)
  pub numbers : AreI64 q
  pub bound : Bound (unit_bond s t from (length m.scalars) m0 q0) m q

-- the units behind the first
abbrev GoesOn : Fission → ℕ → ℕ → List Stmt → Stmt → List Stmt → Memory → Memory → Type 0
GoesOn s t k front stmt rest m0 q0 =
    (m q : Memory) → UnitsBegin s t k (suc (suc (length front))) (front ++ stmt ∷ []) rest m q m0 q0
    → UnitsAre s t k (run_all rest s.sharing.entry.turns m).store m0 q0 (portion s.own (s.locals k) (suc (suc (length front))) rest s.sharing.entry.turns q) (portion_deeds s.own (s.locals k) (suc (suc (length front))) rest s.sharing.entry.turns q) (deeds_all rest s.sharing.entry.turns m)

-- an own unit is done in both, with the same deeds, and what stands goes on
pub record OwnStep (s : Fission) (t k : ℕ) (front : List Stmt) (stmt : Stmt) (rest : List Stmt) (m q m0 q0 : Memory) : Type 0 where
  pub is_done : (run stmt s.sharing.entry.turns q).end ≡ outcome.Done
  pub same : deeds stmt s.sharing.entry.turns q ≡ deeds stmt s.sharing.entry.turns m
  pub access : AllByRecursion (IsOfAccess s.sharing.entry.looped s.sharing.entry.store (index_of s.sharing.entry s.sharing.first k)) (deeds stmt s.sharing.entry.turns m)
  pub later : UnitsBegin s t k (suc (suc (length front))) (front ++ stmt ∷ []) rest (run stmt s.sharing.entry.turns m).store (run stmt s.sharing.entry.turns q).store m0 q0

pub own_step : (s : Fission) → MayBeApart s → (t k : ℕ) (front : List Stmt) (stmt : Stmt) (rest : List Stmt) (m q m0 q0 : Memory) → s.own (suc (length front)) ≡ true → k < s.sharing.count → s.sharing.owner k ≡ t → AreI64 m0 → AreI64 q0
    → UnitsBegin s t k (suc (length front)) front (stmt ∷ rest) m q m0 q0 → OwnStep s t k front stmt rest m q m0 q0
own_step s h t k front stmt rest m q m0 q0 own below mine fm fq begin =
    let n = s.sharing.entry.turns in
    let u = suc (length front) in
    let at = begin.at in
    let whole = was_done (run stmt n m).store (run stmt n m).end (run_all rest n) begin.ends in
    let m' = (run stmt n m).store in
    let q' = (run stmt n q).store in
    let ran = as_done (run stmt n m) whole.0 in
    let parts = each_of_both (IsOfAccess s.sharing.entry.looped s.sharing.entry.store (index_of s.sharing.entry s.sharing.first k)) (deeds stmt n m) _ begin.access in
    let alike = own_alike s h t k front stmt rest m q m0 q0 below mine fm fq at own parts.0 begin.bound in
    let deeper : length m.scalars ≤ length m'.scalars = run_kept NoFewer scalars_kept stmt n m in
    record {
      is_done = alike.ends ∙ whole.0;
      same = alike.same;
      access = parts.0;
      later = record {
        at = front_next s k front stmt rest m m' at ran;
        ends = sym (ap (λ (r : Ran). r.end) whole.1) ∙ begin.ends;
        access = subst (λ (o : Outcome). AllByRecursion (IsOfAccess s.sharing.entry.looped s.sharing.entry.store (index_of s.sharing.entry s.sharing.first k)) (on_end m' o (deeds_all rest n))) whole.0 parts.1;
        numbers = run_fits stmt (unit_numbers s h front stmt rest at.body) n q begin.numbers;
        bound = weaker s t u (suc u) (length m.scalars) (length m'.scalars) m0 q0 m' q' (omega arith) deeper (omega arith) alike.bound;
      };
    }

-- past another unit what stands goes on
pub other_step : (s : Fission) → MayBeApart s → (t k : ℕ) (front : List Stmt) (stmt : Stmt) (rest : List Stmt) (m q m0 q0 : Memory) → s.own (suc (length front)) ≡ false → k < s.sharing.count
    → UnitsBegin s t k (suc (length front)) front (stmt ∷ rest) m q m0 q0 → UnitsBegin s t k (suc (suc (length front))) (front ++ stmt ∷ []) rest (run stmt s.sharing.entry.turns m).store (skipped (s.locals k) stmt q) m0 q0
other_step s h t k front stmt rest m q m0 q0 own below begin =
    let n = s.sharing.entry.turns in
    let at = begin.at in
    let whole = was_done (run stmt n m).store (run stmt n m).end (run_all rest n) begin.ends in
    let m' = (run stmt n m).store in
    let ran = as_done (run stmt n m) whole.0 in
    let parts = each_of_both (IsOfAccess s.sharing.entry.looped s.sharing.entry.store (index_of s.sharing.entry s.sharing.first k)) (deeds stmt n m) _ begin.access in
    record {
      at = front_next s k front stmt rest m m' at ran;
      ends = sym (ap (λ (r : Ran). r.end) whole.1) ∙ begin.ends;
      access = subst (λ (o : Outcome). AllByRecursion (IsOfAccess s.sharing.entry.looped s.sharing.entry.store (index_of s.sharing.entry s.sharing.first k)) (on_end m' o (deeds_all rest n))) whole.0 parts.1;
      numbers = skipped_fits (s.locals k) stmt q (λ x. h.numbers k x below) begin.numbers;
      bound = other_bound s h t k front stmt rest m q m' m0 q0 below at own ran parts.0 begin.bound;
    }

unit_first : (s : Fission) → MayBeApart s → (t k : ℕ) (front : List Stmt) (stmt : Stmt) (rest : List Stmt) (m q m0 q0 : Memory) (own : Bool) → s.own (suc (length front)) ≡ own → k < s.sharing.count → s.sharing.owner k ≡ t → AreI64 m0 → AreI64 q0
    → UnitsBegin s t k (suc (length front)) front (stmt ∷ rest) m q m0 q0 → GoesOn s t k front stmt rest m0 q0
    → UnitsAre s t k (run_all (stmt ∷ rest) s.sharing.entry.turns m).store m0 q0
    (if own then then_do (run stmt s.sharing.entry.turns q) (portion s.own (s.locals k) (suc (suc (length front))) rest s.sharing.entry.turns) else portion s.own (s.locals k) (suc (suc (length front))) rest s.sharing.entry.turns (skipped (s.locals k) stmt q))
    (if own then deeds stmt s.sharing.entry.turns q ++ on_done (run stmt s.sharing.entry.turns q) (portion_deeds s.own (s.locals k) (suc (suc (length front))) rest s.sharing.entry.turns) else portion_deeds s.own (s.locals k) (suc (suc (length front))) rest s.sharing.entry.turns (skipped (s.locals k) stmt q))
    (deeds_all (stmt ∷ rest) s.sharing.entry.turns m)
unit_first s h t k front stmt rest m q m0 q0 true own below mine fm fq begin go =
    let n = s.sharing.entry.turns in
    let u = suc (length front) in
    let at = begin.at in
    let whole = was_done (run stmt n m).store (run stmt n m).end (run_all rest n) begin.ends in
    let m' = (run stmt n m).store in
    let q' = (run stmt n q).store in
    let step = own_step s h t k front stmt rest m q m0 q0 own below mine fm fq begin in
    let is_done = step.is_done in
    let rest_are = go m' q' step.later in
    let goes : then_do (run stmt n q) (portion s.own (s.locals k) (suc u) rest n) ≡ portion s.own (s.locals k) (suc u) rest n q' = ap (λ (o : Outcome). then_from q' o (portion s.own (s.locals k) (suc u) rest n)) is_done in
    record {
      is_done = ap (λ (r : Ran). r.end) goes ∙ rest_are.is_done;
      numbers = subst (λ (r : Ran). AreI64 r.store) (sym goes) rest_are.numbers;
      bound = subst (λ (r : Ran). Bound (outer_bond s t m0 q0) (run_all (stmt ∷ rest) n m).store r.store) (sym goes)
          (subst (λ (r : Ran). Bound (outer_bond s t m0 q0) r.store (portion s.own (s.locals k) (suc u) rest n q').store) (sym whole.1) rest_are.bound);
      deeds = all_of_two (OwnDeed s k) (deeds stmt n q) _
          (subst (AllByRecursion (OwnDeed s k)) (sym step.same) (own_each s k front stmt rest at.body own (deeds stmt n m) (deeds_named stmt n m) step.access))
          (subst (λ (o : Outcome). AllByRecursion (OwnDeed s k) (on_end q' o (portion_deeds s.own (s.locals k) (suc u) rest n))) (sym is_done) rest_are.deeds);
      spared = λ a p has plain free.
          let both = or_none (list_any (is_write a p) (deeds stmt n q)) _ (sym (list_any-append (is_write a p) (deeds stmt n q) _) ∙ free) in
          all_of_two (SparesCell a p) (deeds stmt n m) _ (all_spared a p (deeds stmt n m) (sym (ap (list_any (is_write a p)) step.same) ∙ both.0))
          (subst (λ (o : Outcome). AllByRecursion (SparesCell a p) (on_end m' o (deeds_all rest n))) (sym whole.0)
          (rest_are.spared a p has plain (sym (ap (λ (o : Outcome). list_any (is_write a p) (on_end q' o (portion_deeds s.own (s.locals k) (suc u) rest n))) is_done) ∙ both.1)));
    }
unit_first s h t k front stmt rest m q m0 q0 false own below mine fm fq begin go =
    let n = s.sharing.entry.turns in
    let u = suc (length front) in
    let at = begin.at in
    let whole = was_done (run stmt n m).store (run stmt n m).end (run_all rest n) begin.ends in
    let m' = (run stmt n m).store in
    let q' = skipped (s.locals k) stmt q in
    let parts = each_of_both (IsOfAccess s.sharing.entry.looped s.sharing.entry.store (index_of s.sharing.entry s.sharing.first k)) (deeds stmt n m) _ begin.access in
    let rest_are = go m' q' (other_step s h t k front stmt rest m q m0 q0 own below begin) in
    record {
      is_done = rest_are.is_done;
      numbers = rest_are.numbers;
      bound = subst (λ (r : Ran). Bound (outer_bond s t m0 q0) r.store (portion s.own (s.locals k) (suc u) rest n q').store) (sym whole.1) rest_are.bound;
      deeds = rest_are.deeds;
      spared = λ a p has plain free.
          all_of_two (SparesCell a p) (deeds stmt n m) _ (all_spare s h k front stmt rest a p at.body own has plain (deeds stmt n m) (deeds_named stmt n m) parts.0)
          (subst (λ (o : Outcome). AllByRecursion (SparesCell a p) (on_end m' o (deeds_all rest n))) (sym whole.0) (rest_are.spared a p has plain free));
    }

pub one_more : (front : List Stmt) (stmt : Stmt) → suc (length (front ++ stmt ∷ [])) ≡ suc (suc (length front))
one_more front stmt = let count = length-append front (stmt ∷ []) in omega (arith, count)

units_are : (s : Fission) → MayBeApart s → (t k : ℕ) → k < s.sharing.count → s.sharing.owner k ≡ t → (rest front : List Stmt) (m q m0 q0 : Memory) → AreI64 m0 → AreI64 q0
    → UnitsBegin s t k (suc (length front)) front rest m q m0 q0
    → UnitsAre s t k (run_all rest s.sharing.entry.turns m).store m0 q0 (portion s.own (s.locals k) (suc (length front)) rest s.sharing.entry.turns q) (portion_deeds s.own (s.locals k) (suc (length front)) rest s.sharing.entry.turns q) (deeds_all rest s.sharing.entry.turns m)
units_are s h t k below mine [] front m q m0 q0 fm fq begin =
    let index = index_within s h k front [] m below begin.at in
    record {
      is_done = refl;
      numbers = begin.numbers;
      bound = to_outer s t (suc (length front)) (length m.scalars) m0 q0 m q (omega (arith, index)) begin.bound;
      deeds = tt;
      spared = λ a p has plain free. tt;
    }
units_are s h t k below mine (stmt ∷ rest) front m q m0 q0 fm fq begin =
    unit_first s h t k front stmt rest m q m0 q0 (s.own (suc (length front))) refl below mine fm fq begin
    (λ m' q'. subst (λ (u : ℕ). UnitsBegin s t k u (front ++ stmt ∷ []) rest m' q' m0 q0 → UnitsAre s t k (run_all rest s.sharing.entry.turns m').store m0 q0 (portion s.own (s.locals k) u rest s.sharing.entry.turns q') (portion_deeds s.own (s.locals k) u rest s.sharing.entry.turns q') (deeds_all rest s.sharing.entry.turns m')) (one_more front stmt) (units_are s h t k below mine rest (front ++ stmt ∷ []) m' q' m0 q0 fm fq))

-- an iteration

begin_inner : (s : Fission) (t : ℕ) (m0 q0 m q : Memory) → length m.scalars ≡ s.sharing.entry.looped.index.id → Bound (outer_bond s t m0 q0) m q → Bound (unit_bond s t 1 s.sharing.entry.looped.index.id m0 q0) m q
begin_inner s t m0 q0 m q depth h = record {
  numbers = h.numbers;
  deep = h.deep;
  even = h.even;
  sizes = h.sizes;
  scalar = λ x below. let link = h.scalar x below in record { outer = link.outer; inner = λ over f. absurd (omega (arith, over, below, depth)); whole = link.whole };
  cell = h.cell;
  printed = h.printed;
}

pub iteration_begins : (s : Fission) → MayBeApart s → (t k : ℕ) (q : Memory) → k < s.sharing.count → AreI64 q
    → AllByRecursion (IsOfAccess s.sharing.entry.looped s.sharing.entry.store (index_of s.sharing.entry s.sharing.first k)) (iteration_deeds s.sharing.entry s.sharing.first k (thread s.sharing k))
    → Bound (outer_bond s t (thread s.sharing k) q) (thread s.sharing k) q
    → UnitsBegin s t k 1 [] s.sharing.entry.looped.body (declare (index_of s.sharing.entry s.sharing.first k) (thread s.sharing k)) (declare (index_of s.sharing.entry s.sharing.first k) q) (thread s.sharing k) q
iteration_begins s h t k q below fq of bound =
    let l = s.sharing.entry.looped in
    let i = index_of s.sharing.entry s.sharing.first k in
    let m = thread s.sharing k in
    let depth = thread_depth s h k (omega (arith, below)) in
    let fits = index_number s h k below in
    let longer = length-append m.scalars (i ∷ []) in
    let m1 = declare i m in
    let q1 = declare i q in
    let declared = declare_bound (unit_bond s t 1 l.index.id m q) i m q (has_inner s t 1 l.index.id (AllHave s) m q (omega arith)) fits (begin_inner s t m q m q depth bound) in
    record {
      at = record { body = refl; ran = refl };
      ends = body_done s h k below;
      access = of;
      numbers = declare_numbers i q fits fq;
      bound = weaker s t 1 1 l.index.id (length m1.scalars) m q m1 q1 (omega arith) (omega (arith, depth, longer)) (omega arith) declared;
    }

pub iteration_are : (s : Fission) → MayBeApart s → (t k : ℕ) (q : Memory) → k < s.sharing.count → s.sharing.owner k ≡ t → AreI64 q
    → AllByRecursion (IsOfAccess s.sharing.entry.looped s.sharing.entry.store (index_of s.sharing.entry s.sharing.first k)) (iteration_deeds s.sharing.entry s.sharing.first k (thread s.sharing k))
    → Bound (outer_bond s t (thread s.sharing k) q) (thread s.sharing k) q
    → UnitsAre s t k (iteration s.sharing.entry s.sharing.first k (thread s.sharing k)).store (thread s.sharing k) q (own_iteration s k q) (own_iteration_deeds s k q) (iteration_deeds s.sharing.entry s.sharing.first k (thread s.sharing k))
iteration_are s h t k q below mine fq of bound =
    let l = s.sharing.entry.looped in
    let n = s.sharing.entry.turns in
    let i = index_of s.sharing.entry s.sharing.first k in
    let m = thread s.sharing k in
    let longer = length-append m.scalars (i ∷ []) in
    let m1 = declare i m in
    let q1 = declare i q in
    let units = units_are s h t k below mine l.body [] m1 q1 m q bound.numbers fq (iteration_begins s h t k q below fq of bound) in
    let grown = all_grow l.body n m1 in
    let more : NoFewer m (run_all l.body n m1).store = omega (arith, grown, longer) in
    record {
      is_done = units.is_done;
      numbers = record { scalars = All-take IsI64 (length q.scalars) _ units.numbers.scalars; arrays = units.numbers.arrays; printed = units.numbers.printed };
      bound = cut_bound (outer_bond s t m q) m q (run_all l.body n m1).store (portion s.own (s.locals k) 1 l.body n q1).store bound more units.bound;
      deeds = units.deeds;
      spared = units.spared;
    }
