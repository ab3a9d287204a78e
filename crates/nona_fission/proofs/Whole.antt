-- Whole iterations are a part that is run apart, which has each unit of the body: so what tasks do together that run these follows from
-- what such parts do.
use Rattle.std.proofs.Common.{◌≡◌, ◌⊎◌, inl, inr, ⊎_elim, ℕ, zero, suc, ◌<◌, ◌-◌, Bool, true, false, ℤ, pos, List, [], ◌∷◌, ◌++◌, length, map, refl, sym, ap, ◌∙◌, subst, arith}
use Rattle.std.specs.Prelude.{Some, None, slice_index_or}
use Rattle.std.specs.List.{Contains, list_any}
use Rattle.std.specs.declared.option.Option.{Option}
use Rattle.std.proofs.lemmas.Bool.{cases_eq}
use Rattle.std.proofs.lemmas.List.{ext_get_or}
use Rattle.std.proofs.lemmas.List.Elements.{Contains-append_left, Contains-append_right}
use Rattle.nona_num.specs.declared.folds.Fold.{Fold}
use Rattle.nona_tree.specs.declared.outcomes.Outcome.TheVariants as outcome
use Rattle.nona_tree.specs.declared.trees.Stmt.{Stmt}
use Rattle.nona_tree.specs.Beside.{on_done}
use Rattle.nona_tree.specs.Deeds.{deeds, deeds_all, SameSizes}
use Rattle.nona_tree.specs.Entries.{Entry}
use Rattle.nona_tree.specs.Memory.{Memory, scalar_at, cells_of, cell_at, declare}
use Rattle.nona_tree.specs.Numbers.{AreI64}
use Rattle.nona_tree.specs.Run.{Ran, then_do, turn, run, run_all}
use Rattle.nona_forms.specs.Affine.{among}
use Rattle.nona_forms.specs.References.{assigned, assigned_all}
use Rattle.nona_plans.specs.Mentions.{reduction_of, prints}
use Rattle.nona_plans.specs.Units.{named_in, arrays_in, unit_has, unit_prints, ties_of}
use Rattle.nona_plans.specs.Walks.{IsUnit}
use Rattle.nona_fission.specs.Sharing.{Sharing, MayBeShared, IsSettled, store_before, store_behind, index_of, iteration, iteration_deeds, turns_over, turns_deeds, numbers_of, store_begun, task_run, is_write, writes_cell, partial_of, joined_with}
use Rattle.nona_fission.proofs.Begun.{joined_same}
use Rattle.nona_fission.proofs.Tasks.{zero_number}
use Rattle.nona_fission.proofs.Untied.{among_in, in_among, assigned_named, or_none, none_of}
use Rattle.nona_fission.specs.Fission.{MayBeApart, portion, portion_deeds, own_iteration, own_iteration_deeds, own_over, own_deeds, own_run, own_writes, whole_of}
use Rattle.nona_fission.proofs.Left.{depth_left, arrays_left, sizes_left, cells_left, scalars_left, printed_left}
use Rattle.nona_fission.proofs.Partials.{whole_joins}
use Rattle.nona_fission.proofs.Thread.{before_begins}
use Rattle.nona_fission.proofs.Ties.{IsFree, no_carried_scalar}
use Rattle.nona_fission.proofs.Together as together
use Rattle.nona_fission.proofs.Turns as turns

-- a part that runs each unit runs what whole iterations run

portion_whole : (locals : ℕ → ℤ) (unit : ℕ) (ss : List Stmt) (n : ℕ) (m : Memory) → portion (λ u. true) locals unit ss n m ≡ run_all ss n m
portion_whole locals unit [] n m = refl
portion_whole locals unit (s ∷ rest) n m = λ i. then_do (run s n m) (λ r. portion_whole locals (suc unit) rest n r i)

deeds_whole : (locals : ℕ → ℤ) (unit : ℕ) (ss : List Stmt) (n : ℕ) (m : Memory) → portion_deeds (λ u. true) locals unit ss n m ≡ deeds_all ss n m
deeds_whole locals unit [] n m = refl
deeds_whole locals unit (s ∷ rest) n m = λ i. deeds s n m ++ on_done (run s n m) (λ r. deeds_whole locals (suc unit) rest n r i)

pub iteration_whole : (s : Sharing) (k : ℕ) (m : Memory) → own_iteration (whole_of s) k m ≡ iteration s.entry s.first k m
iteration_whole s k m = λ i. turn (λ r. portion_whole (λ position. pos 0) 1 s.entry.looped.body s.entry.turns r i) (index_of s.entry s.first k) m

pub iteration_deeds_whole : (s : Sharing) (k : ℕ) (m : Memory) → own_iteration_deeds (whole_of s) k m ≡ iteration_deeds s.entry s.first k m
iteration_deeds_whole s k m = deeds_whole (λ position. pos 0) 1 s.entry.looped.body s.entry.turns (declare (index_of s.entry s.first k) m)

pub over_whole : (s : Sharing) (ks : List ℕ) (m : Memory) → own_over (whole_of s) ks m ≡ turns_over s.entry s.first ks m
over_whole s [] m = refl
over_whole s (k ∷ ks) m = λ i. then_do (iteration_whole s k m i) (λ r. over_whole s ks r i)

pub over_deeds_whole : (s : Sharing) (ks : List ℕ) (m : Memory) → own_deeds (whole_of s) ks m ≡ turns_deeds s.entry s.first ks m
over_deeds_whole s [] m = refl
over_deeds_whole s (k ∷ ks) m = λ i. iteration_deeds_whole s k m i ++ on_done (iteration_whole s k m i) (λ r. over_deeds_whole s ks r i)

pub run_whole : (s : Sharing) (t : ℕ) → own_run (whole_of s) t ≡ task_run s t
run_whole s t = over_whole s (numbers_of s t) (store_begun s)

pub writes_whole : (s : Sharing) (t a p : ℕ) → own_writes (whole_of s) t a p ≡ writes_cell s t a p
writes_whole s t a p = ap (list_any (is_write a p)) (over_deeds_whole s (numbers_of s t) (store_begun s))

-- what may be shared out is a part that may be run apart

untied_free : (s : Sharing) → MayBeShared s → IsFree (whole_of s)
untied_free s h t c own = none_of (λ x. x.carried) (ties_of s.entry.looped) t c h.untied

pub whole_may : (s : Sharing) → MayBeShared s → MayBeApart (whole_of s)
whole_may s h = record {
  entered = h.entered;
  steady = h.steady;
  calm = h.calm;
  guarded = h.guarded;
  within = h.within;
  owned = h.owned;
  folds = λ array (k, within, is). absurd (omega (arith, within));
  closed = λ t c. refl;
  free = inl (untied_free s h);
  given = λ k v unit below c other own used. cc;
  numbers = λ k position below. zero_number;
}

-- how turns go on: no matter which iterations these are, and whose

abbrev some_of : Entry → ℕ → Sharing
some_of e first = record { entry = e; first = first; count = 0; tasks = 0; owner = λ k. 0 }

pub goes_on : (e : Entry) (first : ℕ) (ks : List ℕ) (k : ℕ) (m : Memory) → turns_over e first (ks ++ k ∷ []) m ≡ then_do (turns_over e first ks m) (iteration e first k)
goes_on e first ks k m =
    let s = some_of e first in
    sym (over_whole s (ks ++ k ∷ []) m) ∙ turns.goes_on (whole_of s) ks k m ∙ (λ i. then_do (over_whole s ks m i) (λ r. iteration_whole s k r i))

pub deeds_go_on : (e : Entry) (first : ℕ) (ks : List ℕ) (k : ℕ) (m : Memory) → turns_deeds e first (ks ++ k ∷ []) m ≡ turns_deeds e first ks m ++ on_done (turns_over e first ks m) (iteration_deeds e first k)
deeds_go_on e first ks k m =
    let s = some_of e first in
    sym (over_deeds_whole s (ks ++ k ∷ []) m) ∙ turns.deeds_go_on (whole_of s) ks k m
    ∙ (λ i. over_deeds_whole s ks m i ++ on_done (over_whole s ks m i) (λ r. iteration_deeds_whole s k r i))

pub front_done : (e : Entry) (first : ℕ) (ks js : List ℕ) (m : Memory) → (turns_over e first (ks ++ js) m).end ≡ outcome.Done → (turns_over e first ks m).end ≡ outcome.Done
front_done e first ks js m is_done =
    let s = some_of e first in
    sym (ap (λ (r : Ran). r.end) (over_whole s ks m)) ∙ turns.front_done (whole_of s) ks js m (ap (λ (r : Ran). r.end) (over_whole s (ks ++ js) m) ∙ is_done)

-- units that assign no scalar from outside but reductions, and don't print

unit_assigns : (ss : List Stmt) (k x : ℕ) → among x (slice_index_or (map assigned ss) k []) ≡ true → (among x (slice_index_or (map named_in ss) k []) ≡ true) × Contains (assigned_all ss) x
unit_assigns [] k x e = cc
unit_assigns (s ∷ rest) zero x e =
    let c = in_among x (assigned s) e in (among_in x (named_in s) (assigned_named s x c), Contains-append_left (assigned s) (assigned_all rest) x c)
unit_assigns (s ∷ rest) (suc k) x e =
    let found = unit_assigns rest k x e in (found.0, Contains-append_right (assigned s) (assigned_all rest) x found.1)

assigns_not : (s : Sharing) → MayBeShared s → (unit x : ℕ) (b : Bool) → unit_has assigned s.entry.looped unit x ≡ b → IsUnit (length s.entry.looped.body) unit → x < s.entry.looped.index.id → reduction_of s.entry.looped x ≡ None → b ≡ false
assigns_not s h unit x false e is out plain = refl
assigns_not s h unit x true e is out plain =
    let found = unit_assigns s.entry.looped.body (unit - 1) x e in
    absurd (no_carried_scalar (whole_of s) (untied_free s h) unit x is refl found.0 found.1 out plain)

no_unit_assigns : (s : Sharing) → MayBeShared s → (x : ℕ) → x < length (store_before s).scalars → reduction_of s.entry.looped x ≡ None → (unit : ℕ) → IsUnit (length s.entry.looped.body) unit → unit_has assigned s.entry.looped unit x ≡ false
no_unit_assigns s h x within plain unit is =
    let depth = (before_begins (whole_of s) (whole_may s h)).depth in
    let index = h.entered.scoped.0 in
    assigns_not s h unit x (unit_has assigned s.entry.looped unit x) refl is (omega (arith, within, depth, index)) plain

unit_silent : (ss : List Stmt) (k : ℕ) → list_any prints ss ≡ false → slice_index_or (map prints ss) k false ≡ false
unit_silent [] k silent = refl
unit_silent (s ∷ rest) zero silent = (or_none (prints s) (list_any prints rest) silent).0
unit_silent (s ∷ rest) (suc k) silent = unit_silent rest k (or_none (prints s) (list_any prints rest) silent).1

no_unit_prints : (s : Sharing) → MayBeShared s → (unit : ℕ) → IsUnit (length s.entry.looped.body) unit → unit_prints s.entry.looped unit ≡ false
no_unit_prints s h unit is = unit_silent s.entry.looped.body (unit - 1) h.silent

-- one of some numbers passes a test, or none does

one_more : (test : ℕ → Bool) (n : ℕ) (b : Bool) → test n ≡ b → (((t : ℕ) × (t < n) × (test t ≡ true)) ⊎ ((t : ℕ) → t < n → test t ≡ false)) → ((t : ℕ) × (t < suc n) × (test t ≡ true)) ⊎ ((t : ℕ) → t < suc n → test t ≡ false)
one_more test n true e before = inl (n, omega arith, e)
one_more test n false e before =
    ⊎_elim (λ (found : (t : ℕ) × (t < n) × (test t ≡ true)). let below = found.1 in inl (found.0, omega (arith, below), found.2))
    (λ (none : (t : ℕ) → t < n → test t ≡ false). inr (λ t below. ⊎_elim (λ (here : t ≡ n). ap test here ∙ e) (λ (apart : t ≡ n → ⊥). none t (omega (arith, below, apart))) (cases_eq t n))) before

some_below : (test : ℕ → Bool) (n : ℕ) → ((t : ℕ) × (t < n) × (test t ≡ true)) ⊎ ((t : ℕ) → t < n → test t ≡ false)
some_below test zero = inr (λ t below. absurd (omega (arith, below)))
some_below test (suc n) = one_more test n (test n) refl (some_below test n)

-- what tasks give together

pub task_done : (s : Sharing) → MayBeShared s → (t : ℕ) → (task_run s t).end ≡ outcome.Done
task_done s h t = sym (ap (λ (r : Ran). r.end) (run_whole s t)) ∙ together.task_done (whole_of s) (whole_may s h) t

-- a task's cell at its end is that of a part that runs each unit
run_cell : (s : Sharing) (t a p : ℕ) → cell_at (task_run s t).store a p ≡ cell_at (own_run (whole_of s) t).store a p
run_cell s t a p = sym (ap (λ (r : Ran). cell_at r.store a p) (run_whole s t))

run_scalar : (s : Sharing) (t x : ℕ) → scalar_at (task_run s t).store x ≡ scalar_at (own_run (whole_of s) t).store x
run_scalar s t x = sym (ap (λ (r : Ran). scalar_at r.store x) (run_whole s t))

pub written : (s : Sharing) → MayBeShared s → (t a p : ℕ) → writes_cell s t a p ≡ true → cell_at (task_run s t).store a p ≡ cell_at (store_behind s) a p
written s h t a p e = run_cell s t a p ∙ together.written (whole_of s) (whole_may s h) t a p refl (writes_whole s t a p ∙ e)

pub written_once : (s : Sharing) → MayBeShared s → (t u a p : ℕ) → writes_cell s t a p ≡ true → writes_cell s u a p ≡ true → t ≡ u
written_once s h t u a p e g = together.written_once (whole_of s) (whole_may s h) t u a p refl (writes_whole s t a p ∙ e) (writes_whole s u a p ∙ g)

-- a cell that no task writes, of an array that a unit has or that none has
pub left : (s : Sharing) → MayBeShared s → (a p : ℕ) → ((t : ℕ) → t < s.tasks → writes_cell s t a p ≡ false) → cell_at (store_behind s) a p ≡ cell_at (store_before s) a p
left s h a p none =
    let l = s.entry.looped in
    let may = whole_may s h in
    let n = length l.body in
    ⊎_elim
    (λ (found : (k : ℕ) × (k < n) × (unit_has arrays_in l (suc k) a ≡ true)).
    let below = found.1 in
    together.left (whole_of s) may (suc found.0) a p (omega arith, omega (arith, below)) refl found.2 refl (λ t within. writes_whole s t a p ∙ none t within))
    (λ (no_unit : (k : ℕ) → k < n → unit_has arrays_in l (suc k) a ≡ false).
    cells_left (whole_of s) may a p (λ unit is. let from = is.0 in let to = is.1 in
    subst (λ u. unit_has arrays_in l u a ≡ false) (omega (arith, from)) (no_unit (unit - 1) (omega (arith, from, to)))))
    (some_below (λ k. unit_has arrays_in l (suc k) a) n)

pub scalars_stay : (s : Sharing) → MayBeShared s → (x : ℕ) → x < length (store_before s).scalars → reduction_of s.entry.looped x ≡ None → scalar_at (store_behind s) x ≡ scalar_at (store_before s) x
scalars_stay s h x below plain = scalars_left (whole_of s) (whole_may s h) x below (no_unit_assigns s h x below plain)

pub reductions_join : (s : Sharing) → MayBeShared s → (x : ℕ) (f : Fold) → reduction_of s.entry.looped x ≡ Some f
    → scalar_at (store_behind s) x ≡ joined_with f (scalar_at (store_before s) x) (partial_of s x) s.tasks
reductions_join s h x f e =
    whole_joins (whole_of s) (whole_may s h) x f e (λ unit is has. refl)
    ∙ joined_same f (scalar_at (store_before s) x) (partial_of s x) (λ t. scalar_at (own_run (whole_of s) t).store x) s.tasks (λ t below. sym (run_scalar s t x))

pub printed_stays : (s : Sharing) → MayBeShared s → (store_behind s).printed ≡ (store_before s).printed
printed_stays s h = printed_left (whole_of s) (whole_may s h) (no_unit_prints s h)

pub depth_stays : (s : Sharing) → MayBeShared s → length (store_behind s).scalars ≡ length (store_before s).scalars
depth_stays s h = depth_left (whole_of s) (whole_may s h)

pub sizes_stay : (s : Sharing) → MayBeShared s → (a : ℕ) → length (cells_of (store_behind s) a) ≡ length (cells_of (store_before s) a)
sizes_stay s h a = sizes_left (whole_of s) (whole_may s h) a

-- what a task keeps

pub cells_keep : (s : Sharing) → MayBeShared s → (t a p : ℕ) → writes_cell s t a p ≡ false → cell_at (task_run s t).store a p ≡ cell_at (store_before s) a p
cells_keep s h t a p none = run_cell s t a p ∙ together.cells_keep (whole_of s) (whole_may s h) t a p refl (writes_whole s t a p ∙ none)

pub scalars_keep : (s : Sharing) → MayBeShared s → (t x : ℕ) → x < length (store_before s).scalars → reduction_of s.entry.looped x ≡ None → scalar_at (task_run s t).store x ≡ scalar_at (store_before s) x
scalars_keep s h t x below plain =
    run_scalar s t x ∙ together.scalars_keep (whole_of s) (whole_may s h) t x below plain (λ unit is own. no_unit_assigns s h x below plain unit is)

pub numbers_keep : (s : Sharing) → MayBeShared s → (t : ℕ) → AreI64 (task_run s t).store
numbers_keep s h t = subst (λ (r : Ran). AreI64 r.store) (run_whole s t) (together.numbers_keep (whole_of s) (whole_may s h) t)

pub printed_keep : (s : Sharing) → MayBeShared s → (t : ℕ) → (task_run s t).store.printed ≡ (store_before s).printed
printed_keep s h t =
    sym (ap (λ (r : Ran). r.store.printed) (run_whole s t)) ∙ together.printed_keep (whole_of s) (whole_may s h) t (λ unit is own. no_unit_prints s h unit is)

pub depth_keep : (s : Sharing) → MayBeShared s → (t : ℕ) → length (task_run s t).store.scalars ≡ length (store_before s).scalars
depth_keep s h t = sym (ap (λ (r : Ran). length r.store.scalars) (run_whole s t)) ∙ together.depth_keep (whole_of s) (whole_may s h) t

pub sizes_keep : (s : Sharing) → MayBeShared s → (t : ℕ) → SameSizes (store_before s) (task_run s t).store
sizes_keep s h t a = sym (ap (λ (r : Ran). length (cells_of r.store a)) (run_whole s t)) ∙ together.sizes_keep (whole_of s) (whole_may s h) t a

-- the settled store

settled_cell : (s : Sharing) (m : Memory) → MayBeShared s → IsSettled s m → (a p : ℕ) → cell_at m a p ≡ cell_at (store_behind s) a p
settled_cell s m h settled a p =
    ⊎_elim
    (λ (found : (t : ℕ) × (t < s.tasks) × (writes_cell s t a p ≡ true)). settled.written found.0 a p found.1 found.2 ∙ written s h found.0 a p found.2)
    (λ (none : (t : ℕ) → t < s.tasks → writes_cell s t a p ≡ false). settled.left a p none ∙ sym (left s h a p none))
    (some_below (λ t. writes_cell s t a p) s.tasks)

settled_scalar : (s : Sharing) (m : Memory) → MayBeShared s → IsSettled s m → (x : ℕ) → x < length m.scalars → (o : Option Fold) → reduction_of s.entry.looped x ≡ o → scalar_at m x ≡ scalar_at (store_behind s) x
settled_scalar s m h settled x below None e = let depth = settled.depth in settled.scalars x below e ∙ sym (scalars_stay s h x (omega (arith, below, depth)) e)
settled_scalar s m h settled x below (Some f) e = settled.reductions x f e ∙ sym (reductions_join s h x f e)

same_cells : (m k : Memory) (a : ℕ) → length (cells_of m a) ≡ length (cells_of k a) → ((p : ℕ) → cell_at m a p ≡ cell_at k a p) → cells_of m a ≡ cells_of k a
same_cells m k a size h = ext_get_or (pos 0) (cells_of m a) (cells_of k a) size (λ p below. h p)

same_store : (m k : Memory) → m.scalars ≡ k.scalars → m.arrays ≡ k.arrays → m.printed ≡ k.printed → m ≡ k
same_store m k h g p = λ i. record { scalars = h i; arrays = g i; printed = p i }

pub settled_is_behind : (s : Sharing) (m : Memory) → MayBeShared s → IsSettled s m → m ≡ store_behind s
settled_is_behind s m h settled =
    let k = store_behind s in
    same_store m k
    (ext_get_or (pos 0) m.scalars k.scalars (settled.depth ∙ sym (depth_stays s h)) (λ x below. settled_scalar s m h settled x below (reduction_of s.entry.looped x) refl))
    (ext_get_or [] m.arrays k.arrays (settled.arrays ∙ sym (arrays_left (whole_of s) (whole_may s h))) (λ a below. same_cells m k a (settled.sizes a ∙ sym (sizes_stay s h a)) (λ p. settled_cell s m h settled a p)))
    (settled.printed ∙ sym (printed_stays s h))
