-- The numbers that tasks begin at a fold's unit: reductions, and the cells of copied fold arrays.
use Rattle.std.proofs.Common.{◌≡◌, ℕ, ◌<◌, ◌≤◌, true, ℤ, pos, List, [], ◌∷◌, length, refl, sym, ap, ◌∙◌, arith}
use Rattle.std.specs.Prelude.{Some, slice_index_or}
use Rattle.std.proofs.lemmas.List.{get_or-take, get_or_append_left}
use Rattle.nona_num.specs.declared.folds.Fold.{Fold}
use Rattle.nona_num.specs.Folds.{unit_of}
use Rattle.nona_tree.specs.declared.trees.Loop.{Loop}
use Rattle.nona_tree.specs.declared.trees.Stmt.{Stmt}
use Rattle.nona_tree.specs.Deeds.{SameSizes}
use Rattle.nona_tree.specs.Memory.{Memory, scalar_at, cells_of, cell_at, declare}
use Rattle.nona_tree.specs.Numbers.{IsI64, AreI64}
use Rattle.nona_tree.specs.Run.{Ran, run, run_all}
use Rattle.nona_tree.proofs.Keeps.{NoFewer, scalars_kept, SameArrays, arrays_kept, run_kept, all_kept}
use Rattle.nona_forms.specs.Affine.{among}
use Rattle.nona_plans.specs.Mentions.{reduction_of}
use Rattle.nona_fission.specs.Sharing.{store_before, index_of}
use Rattle.nona_fission.proofs.Alike.{sizes_kept}
use Rattle.nona_fission.proofs.Untied.{reduction_below}
use Rattle.nona_fission.proofs.Tasks.{thread, scalar_number}
use Rattle.nona_fission.specs.FoldArrays.{fold_array_of}
use Rattle.nona_fission.specs.Fission.{Fission, MayBeApart, skipped, portion, own_iteration}
use Rattle.nona_fission.proofs.Copies.{cell_number}
use Rattle.nona_fission.proofs.Thread.{thread_begins, before_begins, IsFront}
use Rattle.nona_fission.proofs.Units.{index_within, skipped_scalar, skipped_arrays}
use Rattle.nona_fission.proofs.Portion.{UnitsBegin}
use Rattle.nona_fission.proofs.Turns.{turns_to, stands_at}
use Rattle.nona_fission.proofs.Partials.{begins_at_unit, copy_begins_at_unit}

-- a place of a store: a scalar, or a cell of an array
pub data Place : Type 0 where
  at_scalar : ℕ → Place
  at_cell : ℕ → ℕ → Place

abbrev pub number_at : Place → Memory → ℤ
number_at (at_scalar x) m = scalar_at m x
number_at (at_cell a p) m = cell_at m a p

abbrev pub IsThere : Place → Memory → Type 0
IsThere (at_scalar x) m = x < length m.scalars
IsThere (at_cell a p) m = p < length (cells_of m a)

-- a reduction, or a cell of an array that copies are of, with its fold
abbrev pub IsFoldPlace : Loop → List ℕ → Memory → Fold → Place → Type 0
IsFoldPlace l folded m f (at_scalar x) = reduction_of l x ≡ Some f
IsFoldPlace l folded m f (at_cell a p) = (among a folded ≡ true) × (fold_array_of l a ≡ Some f) × (p < length (cells_of m a))

pub place_number : (x : Place) (m : Memory) → AreI64 m → IsI64 (number_at x m)
place_number (at_scalar x) m h = scalar_number m x h
place_number (at_cell a p) m h = cell_number m a p h

-- a place that is there stays there
pub stays_there : (x : Place) (s : Stmt) (n : ℕ) (m : Memory) → IsThere x m → IsThere x (run s n m).store
stays_there (at_scalar x) s n m there = let more = run_kept NoFewer scalars_kept s n m in omega (arith, there, more)
stays_there (at_cell a p) s n m there = let count = sizes_kept m (run s n m).store (run_kept SameArrays arrays_kept s n m) a in omega (arith, there, count)

front_sizes : (s : Fission) → MayBeApart s → (k : ℕ) (front rest : List Stmt) (m : Memory) → k < s.sharing.count → IsFront s k front rest m → SameSizes (store_before s.sharing) m
front_sizes s h k front rest m below at a =
    let n = s.sharing.entry.turns in
    let m0 = declare (index_of s.sharing.entry s.sharing.first k) (thread s.sharing k) in
    sym (ap (λ (r : Ran). length (cells_of r.store a)) at.ran)
    ∙ sizes_kept m0 (run_all front n m0).store (all_kept SameArrays arrays_kept front n m0) a
    ∙ (thread_begins s h k (omega (arith, below))).kept.sizes a ∙ sym ((before_begins s h).kept.sizes a)

-- such a place is there before units
pub within_part : (s : Fission) → MayBeApart s → (t k from : ℕ) (f : Fold) (x : Place) (front rest : List Stmt) (m q m0 q0 : Memory) → k < s.sharing.count → IsFoldPlace s.sharing.entry.looped s.folded (store_before s.sharing) f x
    → UnitsBegin s t k from front rest m q m0 q0 → IsThere x q
within_part s h t k from f (at_scalar x) front rest m q m0 q0 below e begin =
    let index = index_within s h k front rest m below begin.at in
    let level = begin.bound.even in
    let out = reduction_below s.sharing.entry.looped f x e in
    omega (arith, index, level, out)
within_part s h t k from f (at_cell a p) front rest m q m0 q0 below e begin =
    let count = front_sizes s h k front rest m below begin.at a in
    let same = begin.bound.sizes a in
    let within = e.2 in
    omega (arith, count, same, within)

-- a unit that isn't run changes none
pub place_skipped : (locals : ℕ → ℤ) (s : Stmt) (q : Memory) (x : Place) → IsThere x q → number_at x (skipped locals s q) ≡ number_at x q
place_skipped locals s q (at_scalar x) there = skipped_scalar locals s q x there
place_skipped locals s q (at_cell a p) there = ap (λ xs. slice_index_or (slice_index_or xs a []) p (pos 0)) (skipped_arrays locals s q)

-- the begin and the end of an iteration change none

pub place_declared : (v : ℤ) (q : Memory) (x : Place) → IsThere x q → number_at x (declare v q) ≡ number_at x q
place_declared v q (at_scalar x) there = get_or_append_left q.scalars (v ∷ []) (pos 0) x there
place_declared v q (at_cell a p) there = refl

pub within_store : (s : Fission) → MayBeApart s → (t k : ℕ) (x : Place) (f : Fold) → k ≤ s.sharing.count → IsFoldPlace s.sharing.entry.looped s.folded (store_before s.sharing) f x → IsThere x (turns_to s t k).store
within_store s h t k (at_scalar x) f below e =
    let depth = (stands_at s h t k below).depth in
    let out = reduction_below s.sharing.entry.looped f x e in
    omega (arith, depth, out)
within_store s h t k (at_cell a p) f below e =
    let first = (before_begins s h).kept.sizes a in
    let later = (stands_at s h t k below).sizes a in
    let within = e.2 in
    omega (arith, first, later, within)

pub place_ended : (s : Fission) → MayBeApart s → (t k : ℕ) (x : Place) (f : Fold) → k < s.sharing.count → IsFoldPlace s.sharing.entry.looped s.folded (store_before s.sharing) f x
    → number_at x (own_iteration s k (turns_to s t k).store).store ≡ number_at x (portion s.own (s.locals k) 1 s.sharing.entry.looped.body s.sharing.entry.turns (declare (index_of s.sharing.entry s.sharing.first k) (turns_to s t k).store)).store
place_ended s h t k (at_scalar x) f below e = get_or-take (length (turns_to s t k).store.scalars) _ x (pos 0) (within_store s h t k (at_scalar x) f (omega (arith, below)) e)
place_ended s h t k (at_cell a p) f below e = refl

-- a task begins it at its fold's unit
pub place_begins : (s : Fission) → MayBeApart s → (f : Fold) (x : Place) (t : ℕ) → IsFoldPlace s.sharing.entry.looped s.folded (store_before s.sharing) f x → number_at x (turns_to s t 0).store ≡ unit_of f
place_begins s h f (at_scalar x) t e = begins_at_unit s h f x t e
place_begins s h f (at_cell a p) t e = copy_begins_at_unit s h f a p t e.0 e.1 e.2
