-- What the tasks make of a reduction, and of a cell of their copies of a fold array, is what one task makes of it that runs the own
-- units of all iterations.
use Rattle.std.proofs.Common.{◌≡◌, inr, ⊎_elim, ℕ, zero, suc, ◌<◌, ◌≤◌, Bool, true, false, ℤ, List, [], ◌∷◌, ◌++◌, length, refl, sym, ap, ◌∙◌, subst, arith, if◌then◌else◌}
use Rattle.std.specs.Prelude.{Some, None}
use Rattle.std.specs.List.{AllByRecursion}
use Rattle.std.proofs.lemmas.Bool.{cases_lt}
use Rattle.nona_num.specs.declared.folds.Fold.{Fold}
use Rattle.nona_num.specs.Folds.{unit_of, join_of}
use Rattle.nona_tree.specs.declared.trees.Stmt.{Stmt, Let, Set, Fold as FoldInto, Put, FoldPut, If', While', For', Print}
use Rattle.nona_tree.specs.Beside.{on_done}
use Rattle.nona_tree.specs.Deeds.{Deed, reads, sets, folds, loads, stores, joins, prints, deeds}
use Rattle.nona_tree.specs.Memory.{Memory, scalar_at, cells_of, cell_at, declare}
use Rattle.nona_tree.specs.Numbers.{IsI64, AreI64, AreI64Stmts, IsI64Stmt}
use Rattle.nona_tree.specs.Run.{Ran, then_do, run}
use Rattle.nona_tree.proofs.DeedLaws.{each_of_both}
use Rattle.nona_forms.specs.Affine.{among}
use Rattle.nona_plans.specs.Mentions.{plainly, reduction_of}
use Rattle.nona_plans.specs.Units.{named_in, arrays_in, unit_has}
use Rattle.nona_plans.specs.Walks.{IsUnit}
use Rattle.nona_fission.specs.Sharing.{store_before, store_behind, index_of, iteration, joined_with}
use Rattle.nona_fission.proofs.Alike.{Bond, Bound, HasInner, Granted, AreGranted, Alike, IsAlikeRow, alike_then, alike_turn, run_alike, declare_bound}
use Rattle.nona_fission.proofs.Untied.{reduction_by, reduction_below}
use Rattle.nona_fission.proofs.Begun.{unit_fits, unit_begins, joined_units, joined_same, joined_more}
use Rattle.nona_fission.proofs.Tasks.{thread, thread_zero, AreJoined, join_more, same_fold, scalar_number, unit_join, each_of}
use Rattle.nona_fission.specs.FoldArrays.{fold_array_of}
use Rattle.nona_fission.specs.Fission.{Fission, MayBeApart, skipped, portion, portion_deeds, own_iteration, own_iteration_deeds, own_run, own_partial, own_copy, by_one}
use Rattle.nona_fission.proofs.Named.{cell_named_in}
use Rattle.nona_fission.proofs.Copies.{fold_array_by, no_plain_cell, unit_cells, cell_number}
use Rattle.nona_fission.proofs.Thread.{thread_next, thread_begins, thread_depth, before_begins, body_numbers, index_number, OwnHas, unit_mentions}
use Rattle.nona_fission.proofs.Units.{IsWhole, AllHave, OwnTouches, IsCellLinked, not_copied, OwnDeed, own_has, mention_named, no_plain, plain_is_none}
use Rattle.nona_fission.proofs.Turns.{turns_to, over_to, part_begins, own_are, own_next, other_next, stands_at}
use Rattle.nona_fission.proofs.Together.{own_deeds_are}
use Rattle.nona_fission.proofs.Spared.{portion_grows}

-- own units, run from two stores that are bound

skipped_bound : (b : Bond) → HasInner b → (locals : ℕ → ℤ) → ((x : ℕ) → IsI64 (locals x)) → (s : Stmt) (m k : Memory) → Bound b m k → Bound b (skipped locals s m) (skipped locals s k)
skipped_bound b has locals fits (Let x e) m k h =
    subst (λ n. Bound b (declare (locals (length m.scalars)) m) (declare (locals n) k)) (sym h.even) (declare_bound b (locals (length m.scalars)) m k has (fits (length m.scalars)) h)
skipped_bound b has locals fits (Set x e) m k h = h
skipped_bound b has locals fits (FoldInto x f e) m k h = h
skipped_bound b has locals fits (Put c e) m k h = h
skipped_bound b has locals fits (FoldPut c f e) m k h = h
skipped_bound b has locals fits (If' t p a q r) m k h = h
skipped_bound b has locals fits (While' t p body at) m k h = h
skipped_bound b has locals fits (For' x low high p body seq at) m k h = h
skipped_bound b has locals fits (Print e at) m k h = h

unit_alike : (b : Bond) → HasInner b → (own : Bool) (locals : ℕ → ℤ) → ((x : ℕ) → IsI64 (locals x)) → (s : Stmt) (n : ℕ) → IsI64Stmt s → (go : Memory → Ran) (given : Memory → List Deed) → IsAlikeRow b go given
    → IsAlikeRow b (λ m. if own then then_do (run s n m) go else go (skipped locals s m)) (λ m. if own then deeds s n m ++ on_done (run s n m) given else given (skipped locals s m))
unit_alike b has true locals fits s n t go given f m k h each =
    let parts = each_of_both (Granted b) (deeds s n m) _ each in
    alike_then b (run s n m) (run s n k) (deeds s n m) (deeds s n k) go go given given (run_alike b has s n t m k h parts.0) f parts.1
unit_alike b has false locals fits s n t go given f m k h each = f (skipped locals s m) (skipped locals s k) (skipped_bound b has locals fits s m k h) each

portion_alike : (b : Bond) → HasInner b → (own : ℕ → Bool) (locals : ℕ → ℤ) → ((x : ℕ) → IsI64 (locals x)) → (ss : List Stmt) (unit n : ℕ) → AreI64Stmts ss → IsAlikeRow b (portion own locals unit ss n) (portion_deeds own locals unit ss n)
portion_alike b has own locals fits [] unit n t m k h each = record { ends = refl; bound = h; same = refl }
portion_alike b has own locals fits (s ∷ rest) unit n t m k h each =
    unit_alike b has (own unit) locals fits s n t.0 (portion own locals (suc unit) rest n) (portion_deeds own locals (suc unit) rest n) (portion_alike b has own locals fits rest (suc unit) n t.1) m k h each

-- two tasks in an iteration

-- a number of one task and that of another, which began the iteration with these stores
record IsSame (s : Fission) (m0 q0 : Memory) (x : ℕ) (u v : ℤ) : Type 0 where
  outer : x < s.sharing.entry.looped.index.id → OwnHas s named_in x → reduction_of s.sharing.entry.looped x ≡ None → v ≡ u
  inner : s.sharing.entry.looped.index.id ≤ x → v ≡ u
  joined : (f : Fold) → reduction_of s.sharing.entry.looped x ≡ Some f → AreJoined f (scalar_at m0 x) (scalar_at q0 x) u v

abbrev both_bond : Fission → ℕ → Memory → Memory → Bond
both_bond s t m0 q0 = record {
  depth = s.sharing.entry.looped.index.id;
  scalar = IsSame s m0 q0;
  cell = IsCellLinked s t (λ list a. Unit {0}) m0 q0;
  printed = λ us vs. Unit {0};
}

both_inner : (s : Fission) (t : ℕ) (m0 q0 : Memory) → HasInner (both_bond s t m0 q0)
both_inner s t m0 q0 x deep v fits = record {
  outer = λ out has none. refl;
  inner = λ over. refl;
  joined = λ f e. let below = reduction_below s.sharing.entry.looped f x e in absurd (omega (arith, deep, below));
}

both_granted : (s : Fission) → MayBeApart s → (t k : ℕ) (m0 q0 : Memory) → k < s.sharing.count → s.sharing.owner k ≡ t → AreI64 m0 → AreI64 q0 → (d : Deed) → OwnDeed s k d → Granted (both_bond s t m0 q0) d
both_granted s h t k m0 q0 below mine fm fq (reads x) o = λ u v link.
    let l = s.sharing.entry.looped in
    ⊎_elim (λ (out : x < l.index.id). link.outer out (own_has s named_in o.front o.stmt o.rest x o.body o.own (mention_named o.stmt (plainly x) o.named)) (plain_is_none l x (unit_mentions l o.front o.stmt o.rest o.body (plainly x) o.named)))
    (λ (over : l.index.id ≤ x). link.inner over)
    (cases_lt x l.index.id)
both_granted s h t k m0 q0 below mine fm fq (sets x) o = λ v fits. record {
  outer = λ out has none. refl;
  inner = λ over. refl;
  joined = λ f e. absurd (no_plain s.sharing.entry.looped x f (unit_mentions s.sharing.entry.looped o.front o.stmt o.rest o.body (plainly x) o.named.0) e);
}
both_granted s h t k m0 q0 below mine fm fq (folds f x) o = λ u v w fits link. record {
  outer = λ out has none. ap (λ z. join_of f z w) (link.outer out has none);
  inner = λ over. ap (λ z. join_of f z w) (link.inner over);
  joined = λ g e. let same : f ≡ g = same_fold f g (reduction_by s.sharing.entry.looped g (record { id = x; by = Some f }) (unit_mentions s.sharing.entry.looped o.front o.stmt o.rest o.body (record { id = x; by = Some f }) o.named.0) e) in
      subst (λ z. AreJoined g (scalar_at m0 x) (scalar_at q0 x) (join_of z u w) (join_of z v w)) (sym same) (join_more g (scalar_at m0 x) (scalar_at q0 x) u v w (scalar_number m0 x fm) (scalar_number q0 x fq) fits (link.joined g e));
}
both_granted s h t k m0 q0 below mine fm fq (loads a p) o = λ u v link.
    link.plain (not_copied s h a (among a s.folded) refl (unit_cells s.sharing.entry.looped o.front o.stmt o.rest o.body (plainly a) o.named))
    (record { array = own_has s arrays_in o.front o.stmt o.rest a o.body o.own (cell_named_in o.stmt (plainly a) o.named); turn = k; below = below; mine = mine; write = false; touched = o.access })
both_granted s h t k m0 q0 below mine fm fq (stores a p) o = λ v fits. record {
  plain = λ out touch. refl;
  whole = λ f e w. absurd (no_plain_cell s.sharing.entry.looped a f (unit_cells s.sharing.entry.looped o.front o.stmt o.rest o.body (plainly a) o.named) e);
}
both_granted s h t k m0 q0 below mine fm fq (joins f a p) o = λ u v w fits link. record {
  plain = λ out touch. ap (λ z. join_of f z w) (link.plain out touch);
  whole = λ g e all. let same : f ≡ g = same_fold f g (fold_array_by s.sharing.entry.looped g (record { id = a; by = Some f }) (unit_cells s.sharing.entry.looped o.front o.stmt o.rest o.body (record { id = a; by = Some f }) o.named) e) in
      subst (λ z. AreJoined g (cell_at m0 a p) (cell_at q0 a p) (join_of z u w) (join_of z v w)) (sym same) (join_more g (cell_at m0 a p) (cell_at q0 a p) u v w (cell_number m0 a p fm) (cell_number q0 a p fq) fits (link.whole g e all));
}
both_granted s h t k m0 q0 below mine fm fq prints o = λ us vs v fits link. tt

all_both : (s : Fission) → MayBeApart s → (t k : ℕ) (m0 q0 : Memory) → k < s.sharing.count → s.sharing.owner k ≡ t → AreI64 m0 → AreI64 q0 → (ds : List Deed) → AllByRecursion (OwnDeed s k) ds → AreGranted (both_bond s t m0 q0) ds
all_both s h t k m0 q0 below mine fm fq [] o = tt
all_both s h t k m0 q0 below mine fm fq (d ∷ ds) o = (both_granted s h t k m0 q0 below mine fm fq d o.0, all_both s h t k m0 q0 below mine fm fq ds o.1)

-- one task for all iterations

pub one_may : (s : Fission) → MayBeApart s → MayBeApart (by_one s)
one_may s h = record {
  entered = h.entered;
  steady = h.steady;
  calm = h.calm;
  guarded = h.guarded;
  within = h.within;
  owned = λ k below. omega arith;
  folds = h.folds;
  closed = h.closed;
  free = inr refl;
  given = h.given;
  numbers = h.numbers;
}

one_has : (s : Fission) (list : Stmt → List ℕ) (id : ℕ) → OwnHas s list id → OwnHas (by_one s) list id
one_has s list id o = record { unit = o.unit; is_unit = o.is_unit; own = o.own; has = o.has }

of_one : (s : Fission) (k : ℕ) (d : Deed) → OwnDeed (by_one s) k d → OwnDeed s k d
of_one s k d o = record { front = o.front; stmt = o.stmt; rest = o.rest; body = o.body; own = o.own; named = o.named; access = o.access }

one_touches : (s : Fission) (t a p : ℕ) → OwnTouches s t a p → OwnTouches (by_one s) 0 a p
one_touches s t a p o = record { array = one_has s arrays_in a o.array; turn = o.turn; below = o.below; mine = refl; write = o.write; touched = o.touched }

both_bound : (s : Fission) → MayBeApart s → (t k : ℕ) → k < s.sharing.count → s.sharing.owner k ≡ t
    → Bound (both_bond s t (turns_to (by_one s) 0 k).store (turns_to s t k).store) (turns_to (by_one s) 0 k).store (turns_to s t k).store
both_bound s h t k below mine =
    let l = s.sharing.entry.looped in
    let one = stands_at (by_one s) (one_may s h) 0 k (omega (arith, below)) in
    let task = stands_at s h t k (omega (arith, below)) in
    let m = (turns_to (by_one s) 0 k).store in
    let q = (turns_to s t k).store in
    let known = subst (λ z. z < s.sharing.tasks) mine (h.owned k below) in
    let depth = one.depth in
    let begins = thread_begins s h k (omega (arith, below)) in
    record {
      numbers = one.numbers;
      deep = omega (arith, depth);
      even = task.depth ∙ sym one.depth;
      sizes = λ a. task.sizes a ∙ sym (one.sizes a);
      scalar = λ x within. record {
        outer = λ out has none. task.scalars known x out has none ∙ sym (one.scalars (omega arith) x out (one_has s named_in x has) none);
        inner = λ over. absurd (omega (arith, over, within, depth));
        joined = λ f e. record { by = unit_of f; fits = unit_fits f; first = unit_join f (scalar_at m x) (scalar_number m x one.numbers); second = unit_join f (scalar_at q x) (scalar_number q x task.numbers) };
      };
      cell = λ a p within.
          let first = one.sizes a in
          let there = begins.kept.sizes a in
          let inside : p < length (cells_of (thread s.sharing k) a) = omega (arith, within, first, there) in
          record {
            plain = λ out touch. task.cells a p inside out touch ∙ sym (one.cells a p inside out (one_touches s t a p touch));
            whole = λ f e all. record { by = unit_of f; fits = unit_fits f; first = unit_join f (cell_at m a p) (cell_number m a p one.numbers); second = unit_join f (cell_at q a p) (cell_number q a p task.numbers) };
          };
      printed = tt;
    }

both_alike : (s : Fission) → MayBeApart s → (t k : ℕ) → k < s.sharing.count → s.sharing.owner k ≡ t
    → Alike (both_bond s t (turns_to (by_one s) 0 k).store (turns_to s t k).store) (own_iteration s k (turns_to (by_one s) 0 k).store) (own_iteration s k (turns_to s t k).store) (own_iteration_deeds s k (turns_to (by_one s) 0 k).store) (own_iteration_deeds s k (turns_to s t k).store)
both_alike s h t k below mine =
    let l = s.sharing.entry.looped in
    let n = s.sharing.entry.turns in
    let m = (turns_to (by_one s) 0 k).store in
    let q = (turns_to s t k).store in
    let b = both_bond s t m q in
    let one = stands_at (by_one s) (one_may s h) 0 k (omega (arith, below)) in
    let task = stands_at s h t k (omega (arith, below)) in
    alike_turn b (both_inner s t m q) (portion s.own (s.locals k) 1 l.body n) (portion_deeds s.own (s.locals k) 1 l.body n) (λ r. portion_grows s.own (s.locals k) 1 l.body n r)
    (portion_alike b (both_inner s t m q) s.own (s.locals k) (λ x. h.numbers k x below) l.body 1 n (body_numbers s h)) (index_of s.sharing.entry s.sharing.first k) (index_number s h k below) m q (both_bound s h t k below mine)
    (all_both s h t k m q below mine one.numbers task.numbers (own_iteration_deeds s k m) (each_of (OwnDeed (by_one s) k) (OwnDeed s k) (of_one s k) (own_iteration_deeds s k m) (own_deeds_are (by_one s) (one_may s h) 0 k below refl)))

-- numbers that tasks join to, iteration by iteration

-- a number that each task begins at its fold's unit
pub record IsBegun (s : Fission) (f : Fold) (at : Memory → ℤ) : Type 0 where
  pub fits : (t k : ℕ) → k ≤ s.sharing.count → IsI64 (at (turns_to s t k).store)
  pub begins : (t : ℕ) → at (turns_to s t 0).store ≡ unit_of f

-- a number to which each iteration joins what its task joins to its own
abbrev pub IsJoinedAlike : Fission → Fold → (Memory → ℤ) → (ℕ → ℤ) → Type 0
IsJoinedAlike s f at whole =
    (k : ℕ) → k < s.sharing.count → AreJoined f (whole k) (at (turns_to s (s.sharing.owner k) k).store) (whole (suc k)) (at (own_iteration s k (turns_to s (s.sharing.owner k) k).store).store)

all_join : (s : Fission) → MayBeApart s → (f : Fold) (at : Memory → ℤ) → IsBegun s f at → (whole : ℕ → ℤ) → IsI64 (whole 0) → IsJoinedAlike s f at whole
    → (k : ℕ) → k ≤ s.sharing.count → whole k ≡ joined_with f (whole 0) (λ t. at (turns_to s t k).store) s.sharing.tasks
all_join s h f at begun whole fits alike zero below = sym (joined_units f (whole 0) (λ t. at (turns_to s t 0).store) s.sharing.tasks fits begun.begins)
all_join s h f at begun whole fits alike (suc k) below =
    let t = s.sharing.owner k in
    let less : k < s.sharing.count = omega (arith, below) in
    let stands = stands_at s h t k (omega (arith, below)) in
    let more = alike k less in
    more.first ∙ ap (λ z. join_of f z more.by) (all_join s h f at begun whole fits alike k (omega (arith, below)))
    ∙ sym (joined_more f (whole 0) more.by (λ o. at (turns_to s o k).store) (λ o. at (turns_to s o (suc k)).store) s.sharing.tasks t
    fits more.fits (λ o. begun.fits o k (omega (arith, below))) (h.owned k less)
    (ap (λ (r : Ran). at r.store) (own_next s t k refl stands.is_done) ∙ more.second)
    (λ o apart. ap (λ (r : Ran). at r.store) (other_next s o k (λ same. apart (sym same)) (stands_at s h o k (omega (arith, below))).is_done)))

-- it is the one at first joined with what the tasks have made
pub all_joined : (s : Fission) → MayBeApart s → (f : Fold) (at : Memory → ℤ) → IsBegun s f at → (whole : ℕ → ℤ) → IsI64 (whole 0) → IsJoinedAlike s f at whole
    → whole s.sharing.count ≡ joined_with f (whole 0) (λ t. at (own_run s t).store) s.sharing.tasks
all_joined s h f at begun whole fits alike =
    all_join s h f at begun whole fits alike s.sharing.count (omega arith)
    ∙ joined_same f (whole 0) (λ t. at (own_run s t).store) (λ t. at (turns_to s t s.sharing.count).store) s.sharing.tasks (λ t within. sym (ap (λ (r : Ran). at r.store) (over_to s t s.sharing.count)))

-- what one task makes of it that runs all iterations
pub joined_by_one : (s : Fission) → MayBeApart s → (f : Fold) (at : Memory → ℤ) → IsBegun s f at → at (turns_to (by_one s) 0 0).store ≡ unit_of f → IsJoinedAlike s f at (λ k. at (turns_to (by_one s) 0 k).store)
    → joined_with f (unit_of f) (λ t. at (own_run s t).store) s.sharing.tasks ≡ at (own_run (by_one s) 0).store
joined_by_one s h f at begun first alike =
    ap (λ v. joined_with f v (λ t. at (own_run s t).store) s.sharing.tasks) (sym first)
    ∙ sym (all_joined s h f at begun (λ k. at (turns_to (by_one s) 0 k).store) (subst IsI64 (sym first) (unit_fits f)) alike) ∙ sym (ap (λ (r : Ran). at r.store) (over_to (by_one s) 0 s.sharing.count))

-- reductions

pub task_number : (s : Fission) → MayBeApart s → (t k x : ℕ) → k ≤ s.sharing.count → IsI64 (scalar_at (turns_to s t k).store x)
task_number s h t k x below = scalar_number (turns_to s t k).store x (stands_at s h t k below).numbers

pub begins_at_unit : (s : Fission) → MayBeApart s → (f : Fold) (x t : ℕ) → reduction_of s.sharing.entry.looped x ≡ Some f → scalar_at (turns_to s t 0).store x ≡ unit_of f
begins_at_unit s h f x t e =
    let l = s.sharing.entry.looped in
    let depth = (before_begins s h).depth in
    let index = h.entered.scoped.0 in
    (part_begins s h).scalars x ∙ unit_begins l f x (store_before s.sharing) (reduction_below l f x e) (omega (arith, depth, index)) e

scalar_begun : (s : Fission) → MayBeApart s → (f : Fold) (x : ℕ) → reduction_of s.sharing.entry.looped x ≡ Some f → IsBegun s f (λ m. scalar_at m x)
scalar_begun s h f x e = record { fits = λ t k below. task_number s h t k x below; begins = λ t. begins_at_unit s h f x t e }

scalar_joins : (s : Fission) → MayBeApart s → (f : Fold) (x : ℕ) → reduction_of s.sharing.entry.looped x ≡ Some f → IsJoinedAlike s f (λ m. scalar_at m x) (λ k. scalar_at (turns_to (by_one s) 0 k).store x)
scalar_joins s h f x e k less =
    let m = (turns_to (by_one s) 0 k).store in
    let q = (turns_to s (s.sharing.owner k) k).store in
    let one = stands_at (by_one s) (one_may s h) 0 k (omega (arith, less)) in
    let next = own_next (by_one s) 0 k refl one.is_done in
    let later = (stands_at (by_one s) (one_may s h) 0 (suc k) less).depth in
    let out = reduction_below s.sharing.entry.looped f x e in
    let there : x < length (own_iteration s k m).store.scalars = subst (λ (r : Ran). x < length r.store.scalars) next (omega (arith, later, out)) in
    subst (λ (r : Ran). AreJoined f (scalar_at m x) (scalar_at q x) (scalar_at r.store x) (scalar_at (own_iteration s k q).store x)) (sym next)
    (((both_alike s h (s.sharing.owner k) k less refl).bound.scalar x there).joined f e)

-- what the tasks have made, joined in order of tasks
pub partials_join : (s : Fission) → MayBeApart s → (x : ℕ) (f : Fold) → reduction_of s.sharing.entry.looped x ≡ Some f
    → joined_with f (unit_of f) (own_partial s x) s.sharing.tasks ≡ own_partial (by_one s) x 0
partials_join s h x f e = joined_by_one s h f (λ m. scalar_at m x) (scalar_begun s h f x e) (begins_at_unit s h f x 0 e) (scalar_joins s h f x e)

-- where each unit that names the reduction is an own one

scalar_thread_joins : (s : Fission) → MayBeApart s → (f : Fold) (x : ℕ) → reduction_of s.sharing.entry.looped x ≡ Some f → IsWhole s x → IsJoinedAlike s f (λ m. scalar_at m x) (λ k. scalar_at (thread s.sharing k) x)
scalar_thread_joins s h f x e each k less =
    let t = s.sharing.owner k in
    let m = thread s.sharing k in
    let q = (turns_to s t k).store in
    let are = own_are s h t k less refl (stands_at s h t k (omega (arith, less))) in
    let to_m : (iteration s.sharing.entry s.sharing.first k m).store ≡ thread s.sharing (suc k) = sym (ap (λ (r : Ran). r.store) (thread_next s h k less)) in
    let depth = thread_depth s h (suc k) less in
    let out = reduction_below s.sharing.entry.looped f x e in
    let there : x < length (iteration s.sharing.entry s.sharing.first k m).store.scalars = subst (λ (z : Memory). x < length z.scalars) (sym to_m) (omega (arith, depth, out)) in
    subst (λ z. AreJoined f (scalar_at m x) (scalar_at q x) (scalar_at z x) (scalar_at (own_iteration s k q).store x)) to_m ((are.bound.scalar x there).whole f e each)

pub whole_joins : (s : Fission) → MayBeApart s → (x : ℕ) (f : Fold) → reduction_of s.sharing.entry.looped x ≡ Some f
    → ((unit : ℕ) → IsUnit (length s.sharing.entry.looped.body) unit → unit_has named_in s.sharing.entry.looped unit x ≡ true → s.own unit ≡ true)
    → scalar_at (store_behind s.sharing) x ≡ joined_with f (scalar_at (store_before s.sharing) x) (own_partial s x) s.sharing.tasks
whole_joins s h x f e each =
    all_joined s h f (λ m. scalar_at m x) (scalar_begun s h f x e) (λ k. scalar_at (thread s.sharing k) x) (scalar_number (thread s.sharing 0) x (thread_begins s h 0 (omega arith)).kept.numbers) (scalar_thread_joins s h f x e each)
    ∙ ap (λ m. joined_with f (scalar_at m x) (own_partial s x) s.sharing.tasks) (thread_zero s.sharing)

-- copies of fold arrays

pub copy_begins_at_unit : (s : Fission) → MayBeApart s → (f : Fold) (a p t : ℕ) → among a s.folded ≡ true → fold_array_of s.sharing.entry.looped a ≡ Some f → p < length (cells_of (store_before s.sharing) a) → cell_at (turns_to s t 0).store a p ≡ unit_of f
copy_begins_at_unit s h f a p t listed e within = (part_begins s h).copies f a p listed e within

cell_begun : (s : Fission) → MayBeApart s → (f : Fold) (a p : ℕ) → among a s.folded ≡ true → fold_array_of s.sharing.entry.looped a ≡ Some f → p < length (cells_of (store_before s.sharing) a) → IsBegun s f (λ m. cell_at m a p)
cell_begun s h f a p listed e within = record {
  fits = λ t k below. cell_number (turns_to s t k).store a p (stands_at s h t k below).numbers;
  begins = λ t. copy_begins_at_unit s h f a p t listed e within;
}

cell_joins : (s : Fission) → MayBeApart s → (f : Fold) (a p : ℕ) → fold_array_of s.sharing.entry.looped a ≡ Some f → p < length (cells_of (store_before s.sharing) a) → IsJoinedAlike s f (λ m. cell_at m a p) (λ k. cell_at (turns_to (by_one s) 0 k).store a p)
cell_joins s h f a p e within k less =
    let m = (turns_to (by_one s) 0 k).store in
    let q = (turns_to s (s.sharing.owner k) k).store in
    let one = stands_at (by_one s) (one_may s h) 0 k (omega (arith, less)) in
    let next = own_next (by_one s) 0 k refl one.is_done in
    let later = (stands_at (by_one s) (one_may s h) 0 (suc k) less).sizes a in
    let before = (before_begins s h).kept.sizes a in
    let there : p < length (cells_of (own_iteration s k m).store a) = subst (λ (r : Ran). p < length (cells_of r.store a)) next (omega (arith, later, before, within)) in
    subst (λ (r : Ran). AreJoined f (cell_at m a p) (cell_at q a p) (cell_at r.store a p) (cell_at (own_iteration s k q).store a p)) (sym next)
    (((both_alike s h (s.sharing.owner k) k less refl).bound.cell a p there).whole f e tt)

-- what the tasks have made of a cell of their copies, joined in order of tasks
pub copies_join : (s : Fission) → MayBeApart s → (a p : ℕ) (f : Fold) → among a s.folded ≡ true → fold_array_of s.sharing.entry.looped a ≡ Some f → p < length (cells_of (store_before s.sharing) a)
    → joined_with f (unit_of f) (own_copy s a p) s.sharing.tasks ≡ own_copy (by_one s) a p 0
copies_join s h a p f listed e within =
    joined_by_one s h f (λ m. cell_at m a p) (cell_begun s h f a p listed e within) (copy_begins_at_unit s h f a p 0 listed e within) (cell_joins s h f a p e within)

-- where each unit that has the array is an own one

cell_thread_joins : (s : Fission) → MayBeApart s → (f : Fold) (a p : ℕ) → fold_array_of s.sharing.entry.looped a ≡ Some f → p < length (cells_of (store_before s.sharing) a) → AllHave s arrays_in a
    → IsJoinedAlike s f (λ m. cell_at m a p) (λ k. cell_at (thread s.sharing k) a p)
cell_thread_joins s h f a p e within each k less =
    let t = s.sharing.owner k in
    let m = thread s.sharing k in
    let q = (turns_to s t k).store in
    let are = own_are s h t k less refl (stands_at s h t k (omega (arith, less))) in
    let to_m : (iteration s.sharing.entry s.sharing.first k m).store ≡ thread s.sharing (suc k) = sym (ap (λ (r : Ran). r.store) (thread_next s h k less)) in
    let later = (thread_begins s h (suc k) less).kept.sizes a in
    let before = (before_begins s h).kept.sizes a in
    let there : p < length (cells_of (iteration s.sharing.entry s.sharing.first k m).store a) = subst (λ (z : Memory). p < length (cells_of z a)) (sym to_m) (omega (arith, later, before, within)) in
    subst (λ z. AreJoined f (cell_at m a p) (cell_at q a p) (cell_at z a p) (cell_at (own_iteration s k q).store a p)) to_m ((are.bound.cell a p there).whole f e each)

pub whole_copies_join : (s : Fission) → MayBeApart s → (a p : ℕ) (f : Fold) → among a s.folded ≡ true → fold_array_of s.sharing.entry.looped a ≡ Some f → p < length (cells_of (store_before s.sharing) a)
    → ((unit : ℕ) → IsUnit (length s.sharing.entry.looped.body) unit → unit_has arrays_in s.sharing.entry.looped unit a ≡ true → s.own unit ≡ true)
    → cell_at (store_behind s.sharing) a p ≡ joined_with f (cell_at (store_before s.sharing) a p) (own_copy s a p) s.sharing.tasks
whole_copies_join s h a p f listed e within each =
    all_joined s h f (λ m. cell_at m a p) (cell_begun s h f a p listed e within) (λ k. cell_at (thread s.sharing k) a p) (cell_number (thread s.sharing 0) a p (thread_begins s h 0 (omega arith)).kept.numbers) (cell_thread_joins s h f a p e within each)
    ∙ ap (λ m. joined_with f (cell_at m a p) (own_copy s a p) s.sharing.tasks) (thread_zero s.sharing)
