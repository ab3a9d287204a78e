-- What the iterations leave in one thread: how many scalars, arrays and cells, and what no unit touches.
use Rattle.std.proofs.Common.{◌≡◌, ⊎_elim, ℕ, zero, suc, ◌+◌, ◌<◌, ◌≤◌, Bool, true, false, List, [], ◌∷◌, ◌++◌, length, refl, sym, ap, ◌∙◌, subst, arith, append_assoc}
use Rattle.std.specs.Prelude.{Some}
use Rattle.std.specs.List.{AllByRecursion, Contains}
use Rattle.std.proofs.lemmas.List.{length-map}
use Rattle.std.proofs.lemmas.List.Elements.{All-from_recursion, Contains-append_cases}
use Rattle.nona_tree.specs.declared.outcomes.Outcome.TheVariants as outcome
use Rattle.nona_tree.specs.declared.trees.Loop.{Loop}
use Rattle.nona_tree.specs.declared.trees.Stmt.{Stmt}
use Rattle.nona_tree.specs.Deeds.{Deed, reads, sets, folds, loads, stores, joins, prints, deeds, deeds_all, SparesCell, SparesPrinted, SameSizes}
use Rattle.nona_tree.specs.Entries.{Entry, after}
use Rattle.nona_tree.specs.Memory.{Memory, scalar_at, cell_at, declare}
use Rattle.nona_tree.specs.Run.{Ran, run}
use Rattle.nona_tree.proofs.DeedLaws.{printed_stays_in_all}
use Rattle.nona_tree.proofs.Keeps.{SameArrays, arrays_kept, turns_kept}
use Rattle.nona_forms.specs.Affine.{among}
use Rattle.nona_forms.specs.References.{assigned, assigned_all}
use Rattle.nona_forms.proofs.Sound.{all_of_two}
use Rattle.nona_plans.specs.Mentions.{plainly, prints as has_print}
use Rattle.nona_plans.specs.Units.{arrays_in, unit_has, unit_prints}
use Rattle.nona_plans.specs.Walks.{IsUnit}
use Rattle.nona_fission.specs.Sharing.{store_before, store_behind, index_of, iteration_deeds}
use Rattle.nona_fission.proofs.Untied.{in_among, no_and_yes}
use Rattle.nona_fission.proofs.Tasks.{thread, thread_zero, each_of}
use Rattle.nona_fission.specs.Fission.{Fission, MayBeApart}
use Rattle.nona_fission.proofs.Named.{end_all, IsNamedIn, text_of, deeds_named, cell_named_in}
use Rattle.nona_fission.proofs.Ties.{unit_at, is_unit}
use Rattle.nona_fission.proofs.Thread.{thread_done, thread_next, thread_begins, before_begins}
use Rattle.nona_fission.proofs.Units.{unit_has_it}
use Rattle.nona_fission.proofs.Turns.{thread_cell, unassigned_value}

pub thread_ends : (s : Fission) → MayBeApart s → (after s.sharing.entry (s.sharing.first + s.sharing.count)).end ≡ outcome.Done
thread_ends s h = thread_done s h s.sharing.count (omega arith)

pub depth_left : (s : Fission) → MayBeApart s → length (store_behind s.sharing).scalars ≡ length (store_before s.sharing).scalars
depth_left s h = (thread_begins s h s.sharing.count (omega arith)).depth ∙ sym (before_begins s h).depth

arrays_after : (e : Entry) (k : ℕ) → length (after e k).store.arrays ≡ length e.store.arrays
arrays_after e k =
    sym (length-map (after e k).store.arrays length) ∙ ap length (turns_kept SameArrays arrays_kept e.looped.body e.turns e.low k e.store) ∙ length-map e.store.arrays length

pub arrays_left : (s : Fission) → MayBeApart s → length (store_behind s.sharing).arrays ≡ length (store_before s.sharing).arrays
arrays_left s h = arrays_after s.sharing.entry (s.sharing.first + s.sharing.count) ∙ sym (arrays_after s.sharing.entry s.sharing.first)

pub sizes_left : (s : Fission) → MayBeApart s → SameSizes (store_before s.sharing) (store_behind s.sharing)
sizes_left s h a = (thread_begins s h s.sharing.count (omega arith)).kept.sizes a ∙ sym ((before_begins s h).kept.sizes a)

-- what holds of each deed that a unit's text names holds of all deeds of the body
each_unit : (P : Deed → Type 0) (l : Loop) → ((front : List Stmt) (x : Stmt) (rest : List Stmt) → l.body ≡ front ++ x ∷ rest → (d : Deed) → IsNamedIn (text_of x) d → P d)
    → (ss front : List Stmt) (n : ℕ) (m : Memory) → l.body ≡ front ++ ss → AllByRecursion P (deeds_all ss n m)
each_unit P l h [] front n m e = tt
each_unit P l h (x ∷ rest) front n m e =
    all_of_two P (deeds x n m) _ (each_of (IsNamedIn (text_of x)) P (h front x rest e) (deeds x n m) (deeds_named x n m))
    (end_all P (run x n m).store (run x n m).end (deeds_all rest n) (λ r. each_unit P l h rest (front ++ x ∷ []) n r (e ∙ sym (append_assoc front (x ∷ []) rest))))

-- no unit has this among these

abbrev pub NoUnitHas : (Stmt → List ℕ) → Loop → ℕ → Type 0
NoUnitHas list l id = (unit : ℕ) → IsUnit (length l.body) unit → unit_has list l unit id ≡ false

none_has : (l : Loop) (list : Stmt → List ℕ) (id : ℕ) → NoUnitHas list l id → (front : List Stmt) (x : Stmt) (rest : List Stmt) → l.body ≡ front ++ x ∷ rest → Contains (list x) id → ⊥
none_has l list id none front x rest e c =
    no_and_yes (unit_has list l (suc (length front)) id) (unit_has_it l list front x rest id e c) (none (suc (length front)) (is_unit l front x rest e))

spares_cell : (l : Loop) (a p : ℕ) → NoUnitHas arrays_in l a → (front : List Stmt) (x : Stmt) (rest : List Stmt) → l.body ≡ front ++ x ∷ rest → (d : Deed) → IsNamedIn (text_of x) d → SparesCell a p d
spares_cell l a p none front x rest e (reads y) c = tt
spares_cell l a p none front x rest e (sets y) c = tt
spares_cell l a p none front x rest e (folds f y) c = tt
spares_cell l a p none front x rest e (loads b q) c = tt
spares_cell l a p none front x rest e (stores b q) c = λ same. absurd (none_has l arrays_in a none front x rest e (subst (Contains (arrays_in x)) same (cell_named_in x (plainly b) c)))
spares_cell l a p none front x rest e (joins f b q) c = λ same. absurd (none_has l arrays_in a none front x rest e (subst (Contains (arrays_in x)) same (cell_named_in x (record { id = b; by = Some f }) c)))
spares_cell l a p none front x rest e prints c = tt

cells_to : (s : Fission) → MayBeApart s → (a p : ℕ) → NoUnitHas arrays_in s.sharing.entry.looped a → (k : ℕ) → k ≤ s.sharing.count → cell_at (thread s.sharing k) a p ≡ cell_at (thread s.sharing 0) a p
cells_to s h a p none zero below = refl
cells_to s h a p none (suc k) below =
    let l = s.sharing.entry.looped in
    thread_cell s h k a p (omega (arith, below))
    (each_unit (SparesCell a p) l (spares_cell l a p none) l.body [] s.sharing.entry.turns (declare (index_of s.sharing.entry s.sharing.first k) (thread s.sharing k)) refl)
    ∙ cells_to s h a p none k (omega (arith, below))

pub cells_left : (s : Fission) → MayBeApart s → (a p : ℕ) → NoUnitHas arrays_in s.sharing.entry.looped a → cell_at (store_behind s.sharing) a p ≡ cell_at (store_before s.sharing) a p
cells_left s h a p none = cells_to s h a p none s.sharing.count (omega arith) ∙ ap (λ m. cell_at m a p) (thread_zero s.sharing)

-- scalars that no unit assigns

none_assigns : (l : Loop) (x : ℕ) → NoUnitHas assigned l x → (ss front : List Stmt) → l.body ≡ front ++ ss → Contains (assigned_all ss) x → ⊥
none_assigns l x none [] front e (k, within, is) = absurd (omega (arith, within))
none_assigns l x none (s ∷ rest) front e c =
    ⊎_elim (λ (here : Contains (assigned s) x). none_has l assigned x none front s rest e here)
    (λ (there : Contains (assigned_all rest) x). none_assigns l x none rest (front ++ s ∷ []) (e ∙ sym (append_assoc front (s ∷ []) rest)) there)
    (Contains-append_cases (assigned s) (assigned_all rest) x c)

not_among : (x : ℕ) (xs : List ℕ) (b : Bool) → among x xs ≡ b → (Contains xs x → ⊥) → b ≡ false
not_among x xs true e none = absurd (none (in_among x xs e))
not_among x xs false e none = refl

pub scalars_left : (s : Fission) → MayBeApart s → (x : ℕ) → x < length (store_before s.sharing).scalars → NoUnitHas assigned s.sharing.entry.looped x
    → scalar_at (store_behind s.sharing) x ≡ scalar_at (store_before s.sharing) x
scalars_left s h x within none =
    let l = s.sharing.entry.looped in
    let depth = (before_begins s h).depth in
    let index = h.entered.scoped.0 in
    let free = not_among x (assigned_all l.body) (among x (assigned_all l.body)) refl (none_assigns l x none l.body [] refl) in
    unassigned_value s h s.sharing.count x (omega arith) (omega (arith, within, depth, index)) free
    ∙ sym (unassigned_value s h 0 x (omega arith) (omega (arith, within, depth, index)) free) ∙ ap (λ m. scalar_at m x) (thread_zero s.sharing)

-- no unit prints

abbrev pub NoUnitPrints : Loop → Type 0
NoUnitPrints l = (unit : ℕ) → IsUnit (length l.body) unit → unit_prints l unit ≡ false

spares_printed : (l : Loop) → NoUnitPrints l → (front : List Stmt) (x : Stmt) (rest : List Stmt) → l.body ≡ front ++ x ∷ rest → (d : Deed) → IsNamedIn (text_of x) d → SparesPrinted d
spares_printed l none front x rest e (reads y) c = tt
spares_printed l none front x rest e (sets y) c = tt
spares_printed l none front x rest e (folds f y) c = tt
spares_printed l none front x rest e (loads b q) c = tt
spares_printed l none front x rest e (stores b q) c = tt
spares_printed l none front x rest e (joins f b q) c = tt
spares_printed l none front x rest e prints c =
    no_and_yes (unit_prints l (suc (length front))) (unit_at has_print false l front x rest e ∙ c) (none (suc (length front)) (is_unit l front x rest e))

printed_to : (s : Fission) → MayBeApart s → NoUnitPrints s.sharing.entry.looped
    → (k : ℕ) → k ≤ s.sharing.count → (thread s.sharing k).printed ≡ (thread s.sharing 0).printed
printed_to s h none zero below = refl
printed_to s h none (suc k) below =
    let l = s.sharing.entry.looped in
    let m = declare (index_of s.sharing.entry s.sharing.first k) (thread s.sharing k) in
    ap (λ (r : Ran). r.store.printed) (thread_next s h k (omega (arith, below)))
    ∙ printed_stays_in_all l.body s.sharing.entry.turns m (All-from_recursion SparesPrinted (iteration_deeds s.sharing.entry s.sharing.first k (thread s.sharing k))
    (each_unit SparesPrinted l (spares_printed l none) l.body [] s.sharing.entry.turns m refl))
    ∙ printed_to s h none k (omega (arith, below))

pub printed_left : (s : Fission) → MayBeApart s → NoUnitPrints s.sharing.entry.looped
    → (store_behind s.sharing).printed ≡ (store_before s.sharing).printed
printed_left s h none = printed_to s h none s.sharing.count (omega arith) ∙ ap (λ (m : Memory). m.printed) (thread_zero s.sharing)
