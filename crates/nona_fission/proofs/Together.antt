-- What the tasks give together, and what each keeps.
use Rattle.std.proofs.Common.{◌≡◌, ◌≢◌, ⊎_elim, ℕ, zero, suc, ◌<◌, ◌≤◌, ◌==◌, Bool, true, false, ◌&&◌, List, [], ◌∷◌, length, refl, sym, ap, ◌∙◌, subst, arith, ◌⊎◌, inl, inr, ◌||◌, pos}
use Rattle.std.specs.Prelude.{Some, None}
use Rattle.std.specs.List.{AllByRecursion, list_any}
use Rattle.std.proofs.lemmas.Bool.{cases_eq, cases_lt}
use Rattle.std.proofs.lemmas.List.Folds.{list_any-append}
use Rattle.std.proofs.lemmas.List.{get_or_past}
use Rattle.nona_num.specs.declared.folds.Fold.{Fold}
use Rattle.nona_num.specs.Folds.{unit_of}
use Rattle.nona_tree.specs.declared.outcomes.Outcome.{Outcome}
use Rattle.nona_tree.specs.declared.outcomes.Outcome.TheVariants as outcome
use Rattle.nona_tree.specs.Beside.{on_done, on_end}
use Rattle.nona_tree.specs.Deeds.{Deed, reads, sets, folds, loads, stores, joins, prints, SparesScalar, SparesPrinted, SameSizes}
use Rattle.nona_tree.specs.Memory.{Memory, scalar_at, cells_of, cell_at}
use Rattle.nona_tree.specs.Numbers.{AreI64}
use Rattle.nona_tree.specs.Run.{Ran, then_do}
use Rattle.nona_forms.specs.Affine.{among}
use Rattle.nona_forms.specs.References.{assigned}
use Rattle.nona_forms.specs.Touched.{IsTouched}
use Rattle.nona_plans.specs.Mentions.{plainly, reduction_of, prints as has_print}
use Rattle.nona_plans.specs.Units.{named_in, arrays_in, unit_has, unit_prints}
use Rattle.nona_plans.specs.Walks.{IsUnit}
use Rattle.nona_plans.proofs.Leading.{same_units, both}
use Rattle.nona_fission.specs.Sharing.{store_before, store_behind, index_of, is_write}
use Rattle.nona_fission.proofs.Untied.{or_none, no_and_yes, same_number}
use Rattle.nona_fission.proofs.Begun.{other_begins}
use Rattle.nona_fission.proofs.Tasks.{thread, thread_zero, each_of}
use Rattle.nona_fission.specs.FoldArrays.{fold_array_of}
use Rattle.nona_fission.specs.Fission.{Fission, MayBeApart, own_iteration, own_iteration_deeds, own_run, own_writes, own_copy, part_begun}
use Rattle.nona_fission.proofs.Named.{cell_named_in}
use Rattle.nona_fission.proofs.Ties.{IsFree, unit_at, is_unit, no_printing}
use Rattle.nona_fission.proofs.Thread.{thread_begins, before_begins, OwnHas, no_clash}
use Rattle.nona_fission.proofs.Units.{OwnDeed, own_has}
use Rattle.nona_fission.proofs.Turns.{step, step_deeds, turns_to, deeds_to, over_to, given_to, part_begins, own_are, thread_cell, stands_at}
use Rattle.nona_fission.proofs.Spared.{all_spared, iteration_cell, iteration_printed, iteration_scalar}

pub task_done : (s : Fission) → MayBeApart s → (t : ℕ) → (own_run s t).end ≡ outcome.Done
task_done s h t = ap (λ (r : Ran). r.end) (over_to s t s.sharing.count) ∙ (stands_at s h t s.sharing.count (omega arith)).is_done

-- the deeds of a task's own iteration are those of own units
pub own_deeds_are : (s : Fission) → MayBeApart s → (t k : ℕ) → k < s.sharing.count → s.sharing.owner k ≡ t → AllByRecursion (OwnDeed s k) (own_iteration_deeds s k (turns_to s t k).store)
own_deeds_are s h t k below mine = (own_are s h t k below mine (stands_at s h t k (omega (arith, below)))).deeds

same_cell : (a b c d : ℕ) → (a == b && c == d) ≡ true → (a ≡ b) × (c ≡ d)
same_cell a b c d e = let two = both (a == b) (c == d) e in (same_units a b two.0, same_units c d two.1)

pub or_cases : (a b : Bool) → (a || b) ≡ true → (a ≡ true) ⊎ (b ≡ true)
or_cases true b e = inl refl
or_cases false b e = inr e

cell_past : (m : Memory) (a p : ℕ) → length (cells_of m a) ≤ p → cell_at m a p ≡ pos 0
cell_past m a p past = get_or_past (cells_of m a) p (pos 0) past

-- an iteration of a task writes a cell of an array that an own unit has
record OwnWrites (s : Fission) (t a p : ℕ) : Type 0 where
  array : OwnHas s arrays_in a
  turn : ℕ
  below : turn < s.sharing.count
  mine : s.sharing.owner turn ≡ t
  touched : IsTouched s.sharing.entry.looped s.sharing.entry.store (index_of s.sharing.entry s.sharing.first turn) true a p

write_at : (s : Fission) (t k a p b c : ℕ) → k < s.sharing.count → s.sharing.owner k ≡ t → (b == a && c == p) ≡ true → OwnHas s arrays_in b → IsTouched s.sharing.entry.looped s.sharing.entry.store (index_of s.sharing.entry s.sharing.first k) true b c → OwnWrites s t a p
write_at s t k a p b c below mine e has of =
    let same = same_cell b a c p e in
    let i = index_of s.sharing.entry s.sharing.first k in
    record {
      array = subst (OwnHas s arrays_in) same.0 has;
      turn = k;
      below = below;
      mine = mine;
      touched = subst (λ z. IsTouched s.sharing.entry.looped s.sharing.entry.store i true z p) same.0 (subst (IsTouched s.sharing.entry.looped s.sharing.entry.store i true b) same.1 of);
    }

one_write : (s : Fission) (t k a p : ℕ) → k < s.sharing.count → s.sharing.owner k ≡ t → (d : Deed) → is_write a p d ≡ true → OwnDeed s k d → OwnWrites s t a p
one_write s t k a p below mine (reads x) e o = cc
one_write s t k a p below mine (sets x) e o = cc
one_write s t k a p below mine (folds f x) e o = cc
one_write s t k a p below mine (loads b c) e o = cc
one_write s t k a p below mine (stores b c) e o = write_at s t k a p b c below mine e (own_has s arrays_in o.front o.stmt o.rest b o.body o.own (cell_named_in o.stmt (plainly b) o.named)) o.access
one_write s t k a p below mine (joins f b c) e o = write_at s t k a p b c below mine e (own_has s arrays_in o.front o.stmt o.rest b o.body o.own (cell_named_in o.stmt (record { id = b; by = Some f }) o.named)) o.access
one_write s t k a p below mine prints e o = cc

some_write : (s : Fission) (t k a p : ℕ) → k < s.sharing.count → s.sharing.owner k ≡ t → (ds : List Deed) → list_any (is_write a p) ds ≡ true → AllByRecursion (OwnDeed s k) ds → OwnWrites s t a p
some_write s t k a p below mine [] e o = cc
some_write s t k a p below mine (d ∷ ds) e o =
    ⊎_elim (λ (here : is_write a p d ≡ true). one_write s t k a p below mine d here o.0) (λ (there : list_any (is_write a p) ds ≡ true). some_write s t k a p below mine ds there o.1) (or_cases (is_write a p d) (list_any (is_write a p) ds) e)

same_task : (a b : ℕ) → (a == b) ≡ true → a ≡ b
same_task a b e = grind (arith, e)

step_cases : (s : Fission) (t k : ℕ) (b : Bool) (q : Memory) (test : List Deed → Bool) → (s.sharing.owner k == t) ≡ b → test [] ≡ false → test (step_deeds b s k q) ≡ true → (s.sharing.owner k ≡ t) × (test (own_iteration_deeds s k q) ≡ true)
step_cases s t k true q test e none h = (same_task (s.sharing.owner k) t e, h)
step_cases s t k false q test e none h = cc

wrote_to : (s : Fission) → MayBeApart s → (t a p k : ℕ) → k ≤ s.sharing.count → list_any (is_write a p) (deeds_to s t k) ≡ true → OwnWrites s t a p
wrote_to s h t a p zero below e = cc
wrote_to s h t a p (suc k) below e =
    let less : k < s.sharing.count = omega (arith, below) in
    let stands = stands_at s h t k (omega (arith, below)) in
    let q = (turns_to s t k).store in
    ⊎_elim
    (λ (before : list_any (is_write a p) (deeds_to s t k) ≡ true). wrote_to s h t a p k (omega (arith, below)) before)
    (λ (here : list_any (is_write a p) (on_done (turns_to s t k) (step_deeds (s.sharing.owner k == t) s k)) ≡ true).
    let at_done : list_any (is_write a p) (step_deeds (s.sharing.owner k == t) s k q) ≡ true = sym (ap (λ (o : Outcome). list_any (is_write a p) (on_end q o (step_deeds (s.sharing.owner k == t) s k))) stands.is_done) ∙ here in
    let mine = step_cases s t k (s.sharing.owner k == t) q (list_any (is_write a p)) refl refl at_done in
    some_write s t k a p less mine.0 (own_iteration_deeds s k q) mine.1 (own_deeds_are s h t k less mine.0))
    (or_cases (list_any (is_write a p) (deeds_to s t k)) (list_any (is_write a p) (on_done (turns_to s t k) (step_deeds (s.sharing.owner k == t) s k))) (sym (list_any-append (is_write a p) (deeds_to s t k) _) ∙ e))

wrote : (s : Fission) → MayBeApart s → (t a p : ℕ) → own_writes s t a p ≡ true → OwnWrites s t a p
wrote s h t a p e = wrote_to s h t a p s.sharing.count (omega arith) (sym (ap (list_any (is_write a p)) (given_to s t s.sharing.count)) ∙ e)

-- a cell that a task wrote, of an array without copies, is as one thread leaves it
pub written : (s : Fission) → MayBeApart s → (t a p : ℕ) → among a s.folded ≡ false → own_writes s t a p ≡ true → cell_at (own_run s t).store a p ≡ cell_at (store_behind s.sharing) a p
written s h t a p out e =
    let stands = stands_at s h t s.sharing.count (omega arith) in
    let later = thread_begins s h s.sharing.count (omega arith) in
    let w = wrote s h t a p e in
    ap (λ (r : Ran). cell_at r.store a p) (over_to s t s.sharing.count)
    ∙ ⊎_elim
    (λ (there : p < length (cells_of (thread s.sharing s.sharing.count) a)). stands.cells a p there out (record { array = w.array; turn = w.turn; below = w.below; mine = w.mine; write = true; touched = w.touched }))
    (λ (past : length (cells_of (thread s.sharing s.sharing.count) a) ≤ p).
    let first = stands.sizes a in
    let second = later.kept.sizes a in
    cell_past (turns_to s t s.sharing.count).store a p (omega (arith, past, first, second)) ∙ sym (cell_past (thread s.sharing s.sharing.count) a p past))
    (cases_lt p (length (cells_of (thread s.sharing s.sharing.count) a)))

pub written_once : (s : Fission) → MayBeApart s → (t u a p : ℕ) → among a s.folded ≡ false → own_writes s t a p ≡ true → own_writes s u a p ≡ true → t ≡ u
written_once s h t u a p out e g =
    let w = wrote s h t a p e in
    let z = wrote s h u a p g in
    let mine = w.mine in
    let other = z.mine in
    ⊎_elim
    (λ (free : IsFree s).
    ⊎_elim
    (λ (same : w.turn ≡ z.turn). sym w.mine ∙ ap s.sharing.owner same ∙ z.mine)
    (λ (apart : w.turn ≡ z.turn → ⊥). absurd (no_clash s h free w.turn z.turn a p true w.array out w.below z.below apart w.touched z.touched))
    (cases_eq w.turn z.turn))
    (λ (alone : s.sharing.tasks ≡ 1).
    let first = h.owned w.turn w.below in
    let second = h.owned z.turn z.below in
    omega (arith, alone, first, second, mine, other))
    h.free

-- a cell that no task wrote, of an array without copies that an own unit has

left_to : (s : Fission) → MayBeApart s → (a p k : ℕ) → OwnHas s arrays_in a → among a s.folded ≡ false → k ≤ s.sharing.count → ((t : ℕ) → t < s.sharing.tasks → list_any (is_write a p) (deeds_to s t k) ≡ false) → cell_at (thread s.sharing k) a p ≡ cell_at (thread s.sharing 0) a p
left_to s h a p zero has out below none = refl
left_to s h a p (suc k) has out below none =
    let t = s.sharing.owner k in
    let less : k < s.sharing.count = omega (arith, below) in
    let stands = stands_at s h t k (omega (arith, below)) in
    let q = (turns_to s t k).store in
    let parts : (u : ℕ) → u < s.sharing.tasks → (list_any (is_write a p) (deeds_to s u k) ≡ false) × (list_any (is_write a p) (on_done (turns_to s u k) (step_deeds (s.sharing.owner k == u) s k)) ≡ false) =
    (λ u within. or_none (list_any (is_write a p) (deeds_to s u k)) _ (sym (list_any-append (is_write a p) (deeds_to s u k) _) ∙ none u within)) in
    let own : list_any (is_write a p) (step_deeds (s.sharing.owner k == t) s k q) ≡ false = sym (ap (λ (o : Outcome). list_any (is_write a p) (on_end q o (step_deeds (s.sharing.owner k == t) s k))) stands.is_done) ∙ (parts t (h.owned k less)).1 in
    let of_task : list_any (is_write a p) (own_iteration_deeds s k q) ≡ false = sym (ap (λ (b : Bool). list_any (is_write a p) (step_deeds b s k q)) (same_number t)) ∙ own in
    thread_cell s h k a p less ((own_are s h t k less refl stands).spared a p has out of_task) ∙ left_to s h a p k has out (omega (arith, below)) (λ u within. (parts u within).0)

pub left : (s : Fission) → MayBeApart s → (unit a p : ℕ) → IsUnit (length s.sharing.entry.looped.body) unit → s.own unit ≡ true → unit_has arrays_in s.sharing.entry.looped unit a ≡ true → among a s.folded ≡ false
    → ((t : ℕ) → t < s.sharing.tasks → own_writes s t a p ≡ false) → cell_at (store_behind s.sharing) a p ≡ cell_at (store_before s.sharing) a p
left s h unit a p is own has out none =
    left_to s h a p s.sharing.count (record { unit = unit; is_unit = is; own = own; has = has }) out (omega arith) (λ t within. sym (ap (list_any (is_write a p)) (given_to s t s.sharing.count)) ∙ none t within) ∙ ap (λ m. cell_at m a p) (thread_zero s.sharing)

-- scalars that an own unit names
pub scalars_agree : (s : Fission) → MayBeApart s → (t unit x : ℕ) → t < s.sharing.tasks → x < length (store_before s.sharing).scalars → IsUnit (length s.sharing.entry.looped.body) unit → s.own unit ≡ true
    → unit_has named_in s.sharing.entry.looped unit x ≡ true → reduction_of s.sharing.entry.looped x ≡ None → scalar_at (own_run s t).store x ≡ scalar_at (store_behind s.sharing) x
scalars_agree s h t unit x known within is own has none =
    let depth = (before_begins s h).depth in
    let index = h.entered.scoped.0 in
    ap (λ (r : Ran). scalar_at r.store x) (over_to s t s.sharing.count)
    ∙ (stands_at s h t s.sharing.count (omega arith)).scalars known x (omega (arith, within, depth, index)) (record { unit = unit; is_unit = is; own = own; has = has }) none

-- what a task keeps

step_cell : (s : Fission) (k a p : ℕ) (b : Bool) (q : Memory) → list_any (is_write a p) (step_deeds b s k q) ≡ false → cell_at (step b s k q).store a p ≡ cell_at q a p
step_cell s k a p true q none = iteration_cell s k a p q (all_spared a p (own_iteration_deeds s k q) none)
step_cell s k a p false q none = refl

next_step : (s : Fission) → MayBeApart s → (t k : ℕ) → k ≤ s.sharing.count → turns_to s t (suc k) ≡ step (s.sharing.owner k == t) s k (turns_to s t k).store
next_step s h t k below =
    ap (λ (x : Outcome). then_do (record { store = (turns_to s t k).store; end = x }) (step (s.sharing.owner k == t) s k)) (stands_at s h t k below).is_done

kept_to : (s : Fission) → MayBeApart s → (t a p k : ℕ) → k ≤ s.sharing.count → list_any (is_write a p) (deeds_to s t k) ≡ false → cell_at (turns_to s t k).store a p ≡ cell_at (part_begun s) a p
kept_to s h t a p zero below none = refl
kept_to s h t a p (suc k) below none =
    let q = (turns_to s t k).store in
    let parts = or_none (list_any (is_write a p) (deeds_to s t k)) _ (sym (list_any-append (is_write a p) (deeds_to s t k) _) ∙ none) in
    let stands = stands_at s h t k (omega (arith, below)) in
    let own : list_any (is_write a p) (step_deeds (s.sharing.owner k == t) s k q) ≡ false = sym (ap (λ (o : Outcome). list_any (is_write a p) (on_end q o (step_deeds (s.sharing.owner k == t) s k))) stands.is_done) ∙ parts.1 in
    ap (λ (r : Ran). cell_at r.store a p) (next_step s h t k (omega (arith, below))) ∙ step_cell s k a p (s.sharing.owner k == t) q own ∙ kept_to s h t a p k (omega (arith, below)) parts.0

cell_as_begun : (s : Fission) → MayBeApart s → (t a p : ℕ) → own_writes s t a p ≡ false → cell_at (own_run s t).store a p ≡ cell_at (part_begun s) a p
cell_as_begun s h t a p none =
    ap (λ (r : Ran). cell_at r.store a p) (over_to s t s.sharing.count)
    ∙ kept_to s h t a p s.sharing.count (omega arith) (sym (ap (list_any (is_write a p)) (given_to s t s.sharing.count)) ∙ none)

pub cells_keep : (s : Fission) → MayBeApart s → (t a p : ℕ) → among a s.folded ≡ false → own_writes s t a p ≡ false → cell_at (own_run s t).store a p ≡ cell_at (store_before s.sharing) a p
cells_keep s h t a p out none = cell_as_begun s h t a p none ∙ (part_begins s h).cells a p out

pub copies_keep : (s : Fission) → MayBeApart s → (t a p : ℕ) (f : Fold) → among a s.folded ≡ true → fold_array_of s.sharing.entry.looped a ≡ Some f → p < length (cells_of (store_before s.sharing) a) → own_writes s t a p ≡ false → own_copy s a p t ≡ unit_of f
copies_keep s h t a p f listed e within none = cell_as_begun s h t a p none ∙ (part_begins s h).copies f a p listed e within

step_keeps : (s : Fission) (t k : ℕ) (R : Memory → Memory → Type 0) (b : Bool) → (s.sharing.owner k == t) ≡ b → R (part_begun s) (turns_to s t k).store
    → (s.sharing.owner k ≡ t → R (part_begun s) (own_iteration s k (turns_to s t k).store).store) → R (part_begun s) (step b s k (turns_to s t k).store).store
step_keeps s t k R true e before mine = mine (same_task (s.sharing.owner k) t e)
step_keeps s t k R false e before mine = before

-- what holds of each of a task's own iterations holds of all its turns
turns_keep : (s : Fission) → MayBeApart s → (t : ℕ) (R : Memory → Memory → Type 0) → ((m : Memory) → R m m) → ((a b c : Memory) → R a b → R b c → R a c)
    → ((k : ℕ) → k < s.sharing.count → s.sharing.owner k ≡ t → R (turns_to s t k).store (own_iteration s k (turns_to s t k).store).store) → (k : ℕ) → k ≤ s.sharing.count → R (part_begun s) (turns_to s t k).store
turns_keep s h t R same chain step_of zero below = same (part_begun s)
turns_keep s h t R same chain step_of (suc k) below =
    let before = turns_keep s h t R same chain step_of k (omega (arith, below)) in
    let stands = stands_at s h t k (omega (arith, below)) in
    subst (λ (r : Ran). R (part_begun s) r.store) (sym (next_step s h t k (omega (arith, below))))
    (step_keeps s t k R (s.sharing.owner k == t) refl before (λ mine. chain (part_begun s) (turns_to s t k).store (own_iteration s k (turns_to s t k).store).store before (step_of k (omega (arith, below)) mine)))

-- scalars that no own unit assigns

spares_scalar : (s : Fission) (k x : ℕ) → ((unit : ℕ) → IsUnit (length s.sharing.entry.looped.body) unit → s.own unit ≡ true → unit_has assigned s.sharing.entry.looped unit x ≡ false) → (d : Deed) → OwnDeed s k d → SparesScalar x d
spares_scalar s k x free (reads y) o = tt
spares_scalar s k x free (sets y) o = λ same. let has = own_has s assigned o.front o.stmt o.rest y o.body o.own o.named.1 in
    no_and_yes (unit_has assigned s.sharing.entry.looped has.unit x) (subst (λ z. unit_has assigned s.sharing.entry.looped has.unit z ≡ true) same has.has) (free has.unit has.is_unit has.own)
spares_scalar s k x free (folds f y) o = λ same. let has = own_has s assigned o.front o.stmt o.rest y o.body o.own o.named.1 in
    no_and_yes (unit_has assigned s.sharing.entry.looped has.unit x) (subst (λ z. unit_has assigned s.sharing.entry.looped has.unit z ≡ true) same has.has) (free has.unit has.is_unit has.own)
spares_scalar s k x free (loads a p) o = tt
spares_scalar s k x free (stores a p) o = tt
spares_scalar s k x free (joins f a p) o = tt
spares_scalar s k x free prints o = tt

pub scalars_keep : (s : Fission) → MayBeApart s → (t x : ℕ) → x < length (store_before s.sharing).scalars → reduction_of s.sharing.entry.looped x ≡ None
    → ((unit : ℕ) → IsUnit (length s.sharing.entry.looped.body) unit → s.own unit ≡ true → unit_has assigned s.sharing.entry.looped unit x ≡ false) → scalar_at (own_run s t).store x ≡ scalar_at (store_before s.sharing) x
scalars_keep s h t x within none free =
    let begins = before_begins s h in
    let deep = begins.depth in
    let index = h.entered.scoped.0 in
    ap (λ (r : Ran). scalar_at r.store x) (over_to s t s.sharing.count)
    ∙ turns_keep s h t (λ m r. scalar_at r x ≡ scalar_at m x) (λ m. refl) (λ a b c e g. g ∙ e)
    (λ k below mine. let depth = (stands_at s h t k (omega (arith, below))).depth in
    iteration_scalar s k x (turns_to s t k).store (omega (arith, within, deep, index, depth)) (each_of (OwnDeed s k) (SparesScalar x) (spares_scalar s k x free) _ (own_deeds_are s h t k below mine))) s.sharing.count (omega arith)
    ∙ (part_begins s h).scalars x ∙ other_begins s.sharing.entry.looped x (store_before s.sharing) none

pub numbers_keep : (s : Fission) → MayBeApart s → (t : ℕ) → AreI64 (own_run s t).store
numbers_keep s h t = subst (λ (r : Ran). AreI64 r.store) (sym (over_to s t s.sharing.count)) (stands_at s h t s.sharing.count (omega arith)).numbers

pub depth_keep : (s : Fission) → MayBeApart s → (t : ℕ) → length (own_run s t).store.scalars ≡ length (store_before s.sharing).scalars
depth_keep s h t =
    ap (λ (r : Ran). length r.store.scalars) (over_to s t s.sharing.count) ∙ (stands_at s h t s.sharing.count (omega arith)).depth ∙ h.entered.scoped.0 ∙ sym (before_begins s h).depth

pub sizes_keep : (s : Fission) → MayBeApart s → (t : ℕ) → SameSizes (store_before s.sharing) (own_run s t).store
sizes_keep s h t a =
    ap (λ (r : Ran). length (cells_of r.store a)) (over_to s t s.sharing.count) ∙ (stands_at s h t s.sharing.count (omega arith)).sizes a ∙ sym ((before_begins s h).kept.sizes a)

-- what a task prints

spares_printed : (s : Fission) (k : ℕ) → ((unit : ℕ) → IsUnit (length s.sharing.entry.looped.body) unit → s.own unit ≡ true → unit_prints s.sharing.entry.looped unit ≡ false) → (d : Deed) → OwnDeed s k d → SparesPrinted d
spares_printed s k free (reads y) o = tt
spares_printed s k free (sets y) o = tt
spares_printed s k free (folds f y) o = tt
spares_printed s k free (loads a p) o = tt
spares_printed s k free (stores a p) o = tt
spares_printed s k free (joins f a p) o = tt
spares_printed s k free prints o =
    let unit = suc (length o.front) in
    no_and_yes (unit_prints s.sharing.entry.looped unit) (unit_at has_print false s.sharing.entry.looped o.front o.stmt o.rest o.body ∙ o.named) (free unit (is_unit s.sharing.entry.looped o.front o.stmt o.rest o.body) o.own)

pub printed_keep : (s : Fission) → MayBeApart s → (t : ℕ) → ((unit : ℕ) → IsUnit (length s.sharing.entry.looped.body) unit → s.own unit ≡ true → unit_prints s.sharing.entry.looped unit ≡ false)
    → (own_run s t).store.printed ≡ (store_before s.sharing).printed
printed_keep s h t free =
    ap (λ (r : Ran). r.store.printed) (over_to s t s.sharing.count)
    ∙ turns_keep s h t (λ m r. r.printed ≡ m.printed) (λ m. refl) (λ a b c e g. g ∙ e)
    (λ k below mine. iteration_printed s k (turns_to s t k).store (each_of (OwnDeed s k) SparesPrinted (spares_printed s k free) _ (own_deeds_are s h t k below mine))) s.sharing.count (omega arith)
    ∙ (part_begins s h).printed

prints_not : (s : Fission) → MayBeApart s → (unit : ℕ) (b : Bool) → unit_prints s.sharing.entry.looped unit ≡ b → s.sharing.tasks ≢ 1 → IsUnit (length s.sharing.entry.looped.body) unit → s.own unit ≡ true → b ≡ false
prints_not s h unit false e several is own = refl
prints_not s h unit true e several is own = ⊎_elim (λ (free : IsFree s). absurd (no_printing s free unit is own e)) (λ (alone : s.sharing.tasks ≡ 1). absurd (several alone)) h.free

-- where there are several tasks, no own unit prints
pub silent : (s : Fission) → MayBeApart s → (unit : ℕ) → s.sharing.tasks ≢ 1 → IsUnit (length s.sharing.entry.looped.body) unit → s.own unit ≡ true → unit_prints s.sharing.entry.looped unit ≡ false
silent s h unit several is own = prints_not s h unit (unit_prints s.sharing.entry.looped unit) refl several is own

-- one task alone prints what one thread does, where each unit that prints is an own one
pub printed_agrees : (s : Fission) → MayBeApart s → s.sharing.tasks ≡ 1 → ((unit : ℕ) → IsUnit (length s.sharing.entry.looped.body) unit → unit_prints s.sharing.entry.looped unit ≡ true → s.own unit ≡ true)
    → (own_run s 0).store.printed ≡ (store_behind s.sharing).printed
printed_agrees s h alone each =
    ap (λ (r : Ran). r.store.printed) (over_to s 0 s.sharing.count) ∙ (stands_at s h 0 s.sharing.count (omega arith)).printed (omega (arith, alone)) (alone, each)
