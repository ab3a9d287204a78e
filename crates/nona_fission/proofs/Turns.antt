-- What one task has after its iterations among the first k, beside what one thread has after all of these.
use Rattle.std.proofs.Common.{◌≡◌, ◌≢◌, ⊎_elim, ℕ, zero, suc, ◌<◌, ◌≤◌, ◌==◌, Bool, true, false, pos, List, [], ◌∷◌, ◌++◌, length, refl, sym, ap, ◌∙◌, subst, arith, if◌then◌else◌, append-nil, append_assoc}
use Rattle.std.specs.Prelude.{Some, None, slice_index_or}
use Rattle.std.specs.List.{AllByRecursion}
use Rattle.std.proofs.lemmas.Bool.{cases_eq}
use Rattle.std.proofs.lemmas.List.Elements.{All-from_recursion, recursion_from_All}
use Rattle.nona_num.specs.declared.folds.Fold.{Fold}
use Rattle.nona_num.specs.Folds.{unit_of}
use Rattle.nona_tree.specs.declared.outcomes.Outcome.TheVariants as outcome
use Rattle.nona_tree.specs.Beside.{on_done, on_end}
use Rattle.nona_tree.specs.Deeds.{Deed, reads, sets, folds, loads, stores, joins, prints, SparesCell, SameSizes}
use Rattle.nona_tree.specs.Memory.{Memory, scalar_at, cells_of, cell_at, declare}
use Rattle.nona_tree.specs.Numbers.{AreI64}
use Rattle.nona_tree.specs.Run.{Ran, done, then_do, then_from}
use Rattle.nona_tree.specs.declared.outcomes.Outcome.{Outcome}
use Rattle.nona_tree.proofs.DeedLaws.{cell_stays_in_all}
use Rattle.nona_tree.proofs.Depth.{was_done}
use Rattle.nona_forms.specs.Affine.{among}
use Rattle.nona_forms.specs.References.{assigned_all}
use Rattle.nona_forms.specs.Touched.{IsTouched, IsOfAccess}
use Rattle.nona_forms.proofs.Touching.{deeds_touch}
use Rattle.nona_plans.specs.Mentions.{reduction_of}
use Rattle.nona_plans.specs.Units.{named_in, reductions_of}
use Rattle.nona_fission.specs.Sharing.{store_before, index_of, iteration, iteration_deeds, owned_below, store_begun}
use Rattle.nona_fission.proofs.Alike.{Bound}
use Rattle.nona_fission.proofs.Untied.{in_among}
use Rattle.nona_fission.proofs.Begun.{unit_fits, units_arrays, units_printed, units_depth, units_numbers, other_begins}
use Rattle.nona_fission.proofs.Tasks.{thread, thread_zero, from_low, as_done, begun_value, scalar_number, unit_join, each_of}
use Rattle.nona_fission.specs.FoldArrays.{fold_array_of}
use Rattle.nona_fission.specs.Fission.{Fission, MayBeApart, own_iteration, own_iteration_deeds, own_over, own_deeds, part_begun}
use Rattle.nona_fission.proofs.Copies.{cell_number, copies_scalars, copies_printed, copies_sizes, copies_numbers, copies_other, copies_unit}
use Rattle.nona_fission.proofs.Ties.{IsFree, no_carried_scalar}
use Rattle.nona_fission.proofs.Thread.{to_last, thread_next, thread_begins, thread_depth, before_begins, OwnHas, no_clash}
use Rattle.nona_fission.proofs.Units.{OwnTouches, IsPrinting}
use Rattle.nona_fission.proofs.Portion.{outer_bond, UnitsAre, iteration_are}

-- a task's run of its iterations among the first k, and its deeds

abbrev pub step : Bool → Fission → ℕ → Memory → Ran
step mine s k m = if mine then own_iteration s k m else done m

abbrev pub step_deeds : Bool → Fission → ℕ → Memory → List Deed
step_deeds mine s k m = if mine then own_iteration_deeds s k m else []

abbrev pub turns_to : Fission → ℕ → ℕ → Ran
turns_to s t zero = done (part_begun s)
turns_to s t (suc k) = then_do (turns_to s t k) (step (s.sharing.owner k == t) s k)

abbrev pub deeds_to : Fission → ℕ → ℕ → List Deed
deeds_to s t zero = []
deeds_to s t (suc k) = deeds_to s t k ++ on_done (turns_to s t k) (step_deeds (s.sharing.owner k == t) s k)

-- iterations one after another

from_more : (m : Memory) (e : Outcome) (f g : Memory → Ran) → then_do (then_from m e f) g ≡ then_from m e (λ x. then_do (f x) g)
from_more m outcome.Done f g = refl
from_more m (outcome.Trap t) f g = refl
from_more m (outcome.OutOfTurns at) f g = refl

ends_there : (m : Memory) (e : Outcome) → then_from m e done ≡ record { store = m; end = e }
ends_there m outcome.Done = refl
ends_there m (outcome.Trap t) = refl
ends_there m (outcome.OutOfTurns at) = refl

end_more : (m : Memory) (e : Outcome) (f : Memory → Ran) (g : Memory → List Deed) (h : Memory → List Deed)
    → on_end m e (λ x. g x ++ on_done (f x) h) ≡ on_end m e g ++ on_done (then_from m e f) h
end_more m outcome.Done f g h = refl
end_more m (outcome.Trap t) f g h = refl
end_more m (outcome.OutOfTurns at) f g h = refl

nothing_behind : (m : Memory) (e : Outcome) → on_end {B = Deed} m e (λ x. []) ≡ []
nothing_behind m outcome.Done = refl
nothing_behind m (outcome.Trap t) = refl
nothing_behind m (outcome.OutOfTurns at) = refl

over_append : (s : Fission) (xs ys : List ℕ) (m : Memory) → own_over s (xs ++ ys) m ≡ then_do (own_over s xs m) (own_over s ys)
over_append s [] ys m = refl
over_append s (x ∷ xs) ys m =
    (λ i. then_do (own_iteration s x m) (λ r. over_append s xs ys r i)) ∙ sym (from_more (own_iteration s x m).store (own_iteration s x m).end (own_over s xs) (own_over s ys))

one_over : (s : Fission) (k : ℕ) (m : Memory) → own_over s (k ∷ []) m ≡ own_iteration s k m
one_over s k m = ends_there (own_iteration s k m).store (own_iteration s k m).end

pub goes_on : (s : Fission) (ks : List ℕ) (k : ℕ) (m : Memory) → own_over s (ks ++ k ∷ []) m ≡ then_do (own_over s ks m) (own_iteration s k)
goes_on s ks k m = over_append s ks (k ∷ []) m ∙ (λ i. then_do (own_over s ks m) (λ r. one_over s k r i))

deeds_append : (s : Fission) (xs ys : List ℕ) (m : Memory) → own_deeds s (xs ++ ys) m ≡ own_deeds s xs m ++ on_done (own_over s xs m) (own_deeds s ys)
deeds_append s [] ys m = refl
deeds_append s (x ∷ xs) ys m =
    (λ i. own_iteration_deeds s x m ++ on_done (own_iteration s x m) (λ r. deeds_append s xs ys r i))
    ∙ ap (λ ds. own_iteration_deeds s x m ++ ds) (end_more (own_iteration s x m).store (own_iteration s x m).end (own_over s xs) (own_deeds s xs) (own_deeds s ys))
    ∙ sym (append_assoc (own_iteration_deeds s x m) (on_done (own_iteration s x m) (own_deeds s xs)) _)

one_deeds : (s : Fission) (k : ℕ) (m : Memory) → own_deeds s (k ∷ []) m ≡ own_iteration_deeds s k m
one_deeds s k m =
    ap (λ ds. own_iteration_deeds s k m ++ ds) (nothing_behind (own_iteration s k m).store (own_iteration s k m).end) ∙ append-nil (own_iteration_deeds s k m)

pub deeds_go_on : (s : Fission) (ks : List ℕ) (k : ℕ) (m : Memory) → own_deeds s (ks ++ k ∷ []) m ≡ own_deeds s ks m ++ on_done (own_over s ks m) (own_iteration_deeds s k)
deeds_go_on s ks k m = deeds_append s ks (k ∷ []) m ∙ (λ i. own_deeds s ks m ++ on_done (own_over s ks m) (λ r. one_deeds s k r i))

pub front_done : (s : Fission) (ks js : List ℕ) (m : Memory) → (own_over s (ks ++ js) m).end ≡ outcome.Done → (own_over s ks m).end ≡ outcome.Done
front_done s ks js m h = (was_done (own_over s ks m).store (own_over s ks m).end (own_over s js) (sym (ap (λ (r : Ran). r.end) (over_append s ks js m)) ∙ h)).0

step_over : (s : Fission) (k : ℕ) (b : Bool) (m : Memory) → own_over s (if b then k ∷ [] else []) m ≡ step b s k m
step_over s k true m = one_over s k m
step_over s k false m = refl

pub over_to : (s : Fission) (t k : ℕ) → own_over s (owned_below s.sharing.owner t k) (part_begun s) ≡ turns_to s t k
over_to s t zero = refl
over_to s t (suc k) =
    over_append s (owned_below s.sharing.owner t k) (if s.sharing.owner k == t then k ∷ [] else []) (part_begun s)
    ∙ (λ i. then_do (over_to s t k i) (λ r. step_over s k (s.sharing.owner k == t) r i))

step_given : (s : Fission) (k : ℕ) (b : Bool) (m : Memory) → own_deeds s (if b then k ∷ [] else []) m ≡ step_deeds b s k m
step_given s k true m = one_deeds s k m
step_given s k false m = refl

pub given_to : (s : Fission) (t k : ℕ) → own_deeds s (owned_below s.sharing.owner t k) (part_begun s) ≡ deeds_to s t k
given_to s t zero = refl
given_to s t (suc k) =
    deeds_append s (owned_below s.sharing.owner t k) (if s.sharing.owner k == t then k ∷ [] else []) (part_begun s)
    ∙ (λ i. given_to s t k i ++ on_done (over_to s t k i) (λ r. step_given s k (s.sharing.owner k == t) r i))

-- what stands of a task after its iterations among the first k
pub record Stands (s : Fission) (t k : ℕ) : Type 0 where
  pub is_done : (turns_to s t k).end ≡ outcome.Done
  pub numbers : AreI64 (turns_to s t k).store
  pub depth : length (turns_to s t k).store.scalars ≡ s.sharing.entry.looped.index.id
  pub sizes : SameSizes s.sharing.entry.store (turns_to s t k).store
  pub scalars : t < s.sharing.tasks → (x : ℕ) → x < s.sharing.entry.looped.index.id → OwnHas s named_in x → reduction_of s.sharing.entry.looped x ≡ None → scalar_at (turns_to s t k).store x ≡ scalar_at (thread s.sharing k) x
  pub cells : (a p : ℕ) → p < length (cells_of (thread s.sharing k) a) → among a s.folded ≡ false → OwnTouches s t a p → cell_at (turns_to s t k).store a p ≡ cell_at (thread s.sharing k) a p
  pub printed : t < s.sharing.tasks → IsPrinting s → (turns_to s t k).store.printed ≡ (thread s.sharing k).printed

-- the store with which a task begins
pub record Begins (s : Fission) : Type 0 where
  pub numbers : AreI64 (part_begun s)
  pub depth : length (part_begun s).scalars ≡ length (store_before s.sharing).scalars
  pub sizes : SameSizes (store_before s.sharing) (part_begun s)
  pub scalars : (x : ℕ) → scalar_at (part_begun s) x ≡ scalar_at (store_begun s.sharing) x
  pub cells : (a p : ℕ) → among a s.folded ≡ false → cell_at (part_begun s) a p ≡ cell_at (store_before s.sharing) a p
  pub copies : (f : Fold) (a p : ℕ) → among a s.folded ≡ true → fold_array_of s.sharing.entry.looped a ≡ Some f → p < length (cells_of (store_before s.sharing) a) → cell_at (part_begun s) a p ≡ unit_of f
  pub printed : (part_begun s).printed ≡ (store_before s.sharing).printed

pub part_begins : (s : Fission) → MayBeApart s → Begins s
part_begins s h =
    let l = s.sharing.entry.looped in
    let m = store_before s.sharing in
    let q = store_begun s.sharing in
    record {
      numbers = copies_numbers l s.folded q (units_numbers (reductions_of l) m (before_begins s h).kept.numbers);
      depth = ap length (copies_scalars l s.folded q) ∙ units_depth (reductions_of l) m;
      sizes = λ a. copies_sizes l s.folded q a ∙ ap (λ xs. length (slice_index_or xs a [])) (units_arrays (reductions_of l) m);
      scalars = λ x. ap (λ xs. slice_index_or xs x (pos 0)) (copies_scalars l s.folded q);
      cells = λ a p out. ap (λ xs. slice_index_or xs p (pos 0)) (copies_other l s.folded q a out) ∙ ap (λ xs. slice_index_or (slice_index_or xs a []) p (pos 0)) (units_arrays (reductions_of l) m);
      copies = λ f a p listed e within. let count = ap (λ xs. length (slice_index_or xs a [])) (units_arrays (reductions_of l) m) in copies_unit l f s.folded q a p listed e (omega (arith, within, count));
      printed = copies_printed l s.folded q ∙ units_printed (reductions_of l) m;
    }

stands_first : (s : Fission) → MayBeApart s → (t : ℕ) → Stands s t 0
stands_first s h t =
    let l = s.sharing.entry.looped in
    let begins = before_begins s h in
    let first = part_begins s h in
    record {
      is_done = refl;
      numbers = first.numbers;
      depth = first.depth ∙ begins.depth ∙ sym h.entered.scoped.0;
      sizes = λ a. first.sizes a ∙ begins.kept.sizes a;
      scalars = λ known x out has none. first.scalars x ∙ other_begins l x (store_before s.sharing) none ∙ ap (λ z. scalar_at z x) (sym (thread_zero s.sharing));
      cells = λ a p below out touch. first.cells a p out ∙ ap (λ z. cell_at z a p) (sym (thread_zero s.sharing));
      printed = λ known alone. first.printed ∙ ap (λ (z : Memory). z.printed) (sym (thread_zero s.sharing));
    }

-- an iteration of its own

pub thread_access : (s : Fission) → MayBeApart s → (k : ℕ) → k < s.sharing.count
    → AllByRecursion (IsOfAccess s.sharing.entry.looped s.sharing.entry.store (index_of s.sharing.entry s.sharing.first k)) (iteration_deeds s.sharing.entry s.sharing.first k (thread s.sharing k))
thread_access s h k below =
    let e = s.sharing.entry in
    let i = index_of e s.sharing.first k in
    recursion_from_All (IsOfAccess e.looped e.store i) (iteration_deeds e s.sharing.first k (thread s.sharing k))
    (deeds_touch e.looped e.store e.low e.last i e.turns (thread s.sharing k) h.entered h.steady (from_low s.sharing k) (to_last s h k below) (thread_begins s h k (omega (arith, below))))

pub start_bound : (s : Fission) → MayBeApart s → (t k : ℕ) → k < s.sharing.count → s.sharing.owner k ≡ t → Stands s t k → Bound (outer_bond s t (thread s.sharing k) (turns_to s t k).store) (thread s.sharing k) (turns_to s t k).store
start_bound s h t k below mine stands =
    let m = thread s.sharing k in
    let q = (turns_to s t k).store in
    let first = thread_begins s h k (omega (arith, below)) in
    let depth = thread_depth s h k (omega (arith, below)) in
    record {
      numbers = first.kept.numbers;
      deep = omega (arith, depth);
      even = stands.depth ∙ sym depth;
      sizes = λ a. stands.sizes a ∙ sym (first.kept.sizes a);
      scalar = λ x within. record {
        outer = λ out has none. stands.scalars (subst (λ z. z < s.sharing.tasks) mine (h.owned k below)) x out has none;
        whole = λ f e all. record { by = unit_of f; fits = unit_fits f; first = unit_join f (scalar_at m x) (scalar_number m x first.kept.numbers); second = unit_join f (scalar_at q x) (scalar_number q x stands.numbers) };
      };
      cell = λ a p within. record {
        plain = stands.cells a p within;
        whole = λ f e all. record { by = unit_of f; fits = unit_fits f; first = unit_join f (cell_at m a p) (cell_number m a p first.kept.numbers); second = unit_join f (cell_at q a p) (cell_number q a p stands.numbers) };
      };
      printed = stands.printed (subst (λ z. z < s.sharing.tasks) mine (h.owned k below));
    }

-- one thread and the task in it
pub own_are : (s : Fission) → MayBeApart s → (t k : ℕ) → k < s.sharing.count → s.sharing.owner k ≡ t → Stands s t k
    → UnitsAre s t k (iteration s.sharing.entry s.sharing.first k (thread s.sharing k)).store (thread s.sharing k) (turns_to s t k).store (own_iteration s k (turns_to s t k).store) (own_iteration_deeds s k (turns_to s t k).store) (iteration_deeds s.sharing.entry s.sharing.first k (thread s.sharing k))
own_are s h t k below mine stands =
    iteration_are s h t k (turns_to s t k).store below mine stands.numbers (thread_access s h k below) (start_bound s h t k below mine stands)

same_is_true : (a b : ℕ) → a ≡ b → (a == b) ≡ true
same_is_true a b e = grind arith

other_is_false : (a b : ℕ) → a ≢ b → (a == b) ≡ false
other_is_false a b e = grind arith

pub own_next : (s : Fission) (t k : ℕ) → s.sharing.owner k ≡ t → (turns_to s t k).end ≡ outcome.Done → turns_to s t (suc k) ≡ own_iteration s k (turns_to s t k).store
own_next s t k mine is_done =
    ap (λ r. then_do r (step (s.sharing.owner k == t) s k)) (as_done (turns_to s t k) is_done)
    ∙ ap (λ b. step b s k (turns_to s t k).store) (same_is_true (s.sharing.owner k) t mine)

pub other_next : (s : Fission) (t k : ℕ) → s.sharing.owner k ≢ t → (turns_to s t k).end ≡ outcome.Done → turns_to s t (suc k) ≡ done (turns_to s t k).store
other_next s t k apart is_done =
    ap (λ r. then_do r (step (s.sharing.owner k == t) s k)) (as_done (turns_to s t k) is_done)
    ∙ ap (λ b. step b s k (turns_to s t k).store) (other_is_false (s.sharing.owner k) t apart)

stands_own : (s : Fission) → MayBeApart s → (t k : ℕ) → k < s.sharing.count → s.sharing.owner k ≡ t → Stands s t k → Stands s t (suc k)
stands_own s h t k below mine stands =
    let e = s.sharing.entry in
    let m = thread s.sharing k in
    let are = own_are s h t k below mine stands in
    let next = own_next s t k mine stands.is_done in
    let to_m : (iteration e s.sharing.first k m).store ≡ thread s.sharing (suc k) = sym (ap (λ (r : Ran). r.store) (thread_next s h k below)) in
    let later = thread_begins s h (suc k) (omega (arith, below)) in
    let depth = thread_depth s h (suc k) (omega (arith, below)) in
    record {
      is_done = ap (λ (r : Ran). r.end) next ∙ are.is_done;
      numbers = subst (λ (r : Ran). AreI64 r.store) (sym next) are.numbers;
      depth = ap (λ (r : Ran). length r.store.scalars) next ∙ are.bound.even ∙ ap (λ (z : Memory). length z.scalars) to_m ∙ depth;
      sizes = λ a. ap (λ (r : Ran). length (cells_of r.store a)) next ∙ are.bound.sizes a ∙ ap (λ z. length (cells_of z a)) to_m ∙ later.kept.sizes a;
      scalars = λ known x out has none. ap (λ (r : Ran). scalar_at r.store x) next
          ∙ (are.bound.scalar x (subst (λ (z : Memory). x < length z.scalars) (sym to_m) (omega (arith, out, depth)))).outer out has none ∙ ap (λ z. scalar_at z x) to_m;
      cells = λ a p within out touch. ap (λ (r : Ran). cell_at r.store a p) next ∙ (are.bound.cell a p (subst (λ z. p < length (cells_of z a)) (sym to_m) within)).plain out touch ∙ ap (λ z. cell_at z a p) to_m;
      printed = λ known alone. ap (λ (r : Ran). r.store.printed) next ∙ are.bound.printed alone ∙ ap (λ (z : Memory). z.printed) to_m;
    }

-- an iteration of another task

-- what other tasks' iterations don't disturb: either no carried tie has an own unit, or there is one task alone
free_or_alone : (s : Fission) → MayBeApart s → (t k : ℕ) (A : Type 0) → k < s.sharing.count → s.sharing.owner k ≢ t → t < s.sharing.tasks → (IsFree s → A) → A
free_or_alone s h t k A below apart known go =
    ⊎_elim go (λ (alone : s.sharing.tasks ≡ 1). let owned = h.owned k below in absurd (apart (omega (arith, owned, known, alone)))) h.free

untouched : (s : Fission) → MayBeApart s → IsFree s → (t k a p : ℕ) → k < s.sharing.count → s.sharing.owner k ≢ t → among a s.folded ≡ false → OwnTouches s t a p → (d : Deed) → IsOfAccess s.sharing.entry.looped s.sharing.entry.store (index_of s.sharing.entry s.sharing.first k) d → SparesCell a p d
untouched s h free t k a p below apart out touch (reads x) of = tt
untouched s h free t k a p below apart out touch (sets x) of = tt
untouched s h free t k a p below apart out touch (folds f x) of = tt
untouched s h free t k a p below apart out touch (loads b c) of = tt
untouched s h free t k a p below apart out touch (stores b c) of = λ at_a at_p.
    no_clash s h free k touch.turn a p touch.write touch.array out below touch.below (λ same. apart (ap s.sharing.owner same ∙ touch.mine)) (subst (λ z. IsTouched s.sharing.entry.looped s.sharing.entry.store (index_of s.sharing.entry s.sharing.first k) true z p) at_a (subst (IsTouched s.sharing.entry.looped s.sharing.entry.store (index_of s.sharing.entry s.sharing.first k) true b) at_p of)) touch.touched
untouched s h free t k a p below apart out touch (joins f b c) of = λ at_a at_p.
    no_clash s h free k touch.turn a p touch.write touch.array out below touch.below (λ same. apart (ap s.sharing.owner same ∙ touch.mine)) (subst (λ z. IsTouched s.sharing.entry.looped s.sharing.entry.store (index_of s.sharing.entry s.sharing.first k) true z p) at_a (subst (IsTouched s.sharing.entry.looped s.sharing.entry.store (index_of s.sharing.entry s.sharing.first k) true b) at_p of)) touch.touched
untouched s h free t k a p below apart out touch prints of = tt

pub thread_cell : (s : Fission) → MayBeApart s → (k a p : ℕ) → k < s.sharing.count → AllByRecursion (SparesCell a p) (iteration_deeds s.sharing.entry s.sharing.first k (thread s.sharing k)) → cell_at (thread s.sharing (suc k)) a p ≡ cell_at (thread s.sharing k) a p
thread_cell s h k a p below each =
    let e = s.sharing.entry in
    let i = index_of e s.sharing.first k in
    ap (λ (r : Ran). cell_at r.store a p) (thread_next s h k below)
    ∙ cell_stays_in_all e.looped.body e.turns (declare i (thread s.sharing k)) a p (All-from_recursion (SparesCell a p) (iteration_deeds e s.sharing.first k (thread s.sharing k)) each)

-- a scalar that no iteration assigns has its value of the entry
pub unassigned_value : (s : Fission) → MayBeApart s → (k x : ℕ) → k ≤ s.sharing.count → x < s.sharing.entry.looped.index.id → among x (assigned_all s.sharing.entry.looped.body) ≡ false → scalar_at (thread s.sharing k) x ≡ scalar_at s.sharing.entry.store x
unassigned_value s h k x below out free = begun_value s.sharing.entry.looped s.sharing.entry.store (thread s.sharing k) x (thread_begins s h k below) out free

pub own_unassigned : (s : Fission) → IsFree s → (x : ℕ) (b : Bool) → among x (assigned_all s.sharing.entry.looped.body) ≡ b → x < s.sharing.entry.looped.index.id → OwnHas s named_in x → reduction_of s.sharing.entry.looped x ≡ None → b ≡ false
own_unassigned s free x false e out has none = refl
own_unassigned s free x true e out has none = absurd (no_carried_scalar s free has.unit x has.is_unit has.own has.has (in_among x (assigned_all s.sharing.entry.looped.body) e) out none)

stands_other : (s : Fission) → MayBeApart s → (t k : ℕ) → k < s.sharing.count → s.sharing.owner k ≢ t → Stands s t k → Stands s t (suc k)
stands_other s h t k below apart stands =
    let l = s.sharing.entry.looped in
    let next = other_next s t k apart stands.is_done in
    let before = thread_begins s h k (omega (arith, below)) in
    let later = thread_begins s h (suc k) (omega (arith, below)) in
    record {
      is_done = ap (λ (r : Ran). r.end) next;
      numbers = subst (λ (r : Ran). AreI64 r.store) (sym next) stands.numbers;
      depth = ap (λ (r : Ran). length r.store.scalars) next ∙ stands.depth;
      sizes = λ a. ap (λ (r : Ran). length (cells_of r.store a)) next ∙ stands.sizes a;
      scalars = λ known x out has none. free_or_alone s h t k (scalar_at (turns_to s t (suc k)).store x ≡ scalar_at (thread s.sharing (suc k)) x) below apart known (λ free.
          let unset = own_unassigned s free x (among x (assigned_all l.body)) refl out has none in
          ap (λ (r : Ran). scalar_at r.store x) next ∙ stands.scalars known x out has none
          ∙ unassigned_value s h k x (omega (arith, below)) out unset ∙ sym (unassigned_value s h (suc k) x (omega (arith, below)) out unset));
      cells = λ a p within out touch. free_or_alone s h t k (cell_at (turns_to s t (suc k)).store a p ≡ cell_at (thread s.sharing (suc k)) a p) below apart (subst (λ z. z < s.sharing.tasks) touch.mine (h.owned touch.turn touch.below)) (λ free.
          let here = before.kept.sizes a in
          let there = later.kept.sizes a in
          ap (λ (r : Ran). cell_at r.store a p) next ∙ stands.cells a p (omega (arith, within, here, there)) out touch
          ∙ sym (thread_cell s h k a p below (each_of (IsOfAccess l s.sharing.entry.store (index_of s.sharing.entry s.sharing.first k)) (SparesCell a p) (untouched s h free t k a p below apart out touch) _ (thread_access s h k below))));
      printed = λ known alone. let owned = h.owned k below in let one = alone.0 in absurd (apart (omega (arith, owned, known, one)));
    }

pub stands_at : (s : Fission) → MayBeApart s → (t k : ℕ) → k ≤ s.sharing.count → Stands s t k
stands_at s h t zero below = stands_first s h t
stands_at s h t (suc k) below =
    ⊎_elim (λ (mine : s.sharing.owner k ≡ t). stands_own s h t k (omega (arith, below)) mine (stands_at s h t k (omega (arith, below))))
    (λ (apart : s.sharing.owner k ≡ t → ⊥). stands_other s h t k (omega (arith, below)) apart (stands_at s h t k (omega (arith, below)))) (cases_eq (s.sharing.owner k) t)
