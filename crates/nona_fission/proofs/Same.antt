-- It is no matter which numbers stand for locals that no own unit uses: the own units make the same of a reduction, and of a cell of
-- their copies.
use Rattle.std.proofs.Common.{◌≡◌, ⊎_elim, ℕ, zero, suc, ◌+◌, ◌<◌, ◌≤◌, Bool, true, false, ℤ, List, [], ◌∷◌, ◌++◌, length, refl, sym, ap, ◌∙◌, subst, arith, if◌then◌else◌}
use Rattle.std.specs.Prelude.{Some}
use Rattle.std.proofs.lemmas.Bool.{cases_eq}
use Rattle.nona_num.specs.declared.folds.Fold.{Fold}
use Rattle.nona_num.specs.Folds.{join_of}
use Rattle.nona_tree.specs.declared.trees.Stmt.{Stmt}
use Rattle.nona_tree.specs.Entries.{in_iteration}
use Rattle.nona_tree.specs.Memory.{Memory, cells_of, declare}
use Rattle.nona_tree.specs.Numbers.{AreI64}
use Rattle.nona_tree.specs.Run.{Ran, then_do, run}
use Rattle.nona_forms.specs.Affine.{among}
use Rattle.nona_plans.specs.Mentions.{reduction_of}
use Rattle.nona_fission.specs.Sharing.{store_before, index_of}
use Rattle.nona_fission.proofs.Tasks.{thread, AreJoined, scalar_number}
use Rattle.nona_fission.specs.FoldArrays.{fold_array_of}
use Rattle.nona_fission.specs.Fission.{Fission, MayBeApart, one_thread_local, skipped, portion, own_iteration, own_run, own_partial, own_copy, copied_part_of}
use Rattle.nona_fission.proofs.Thread.{thread_begins, body_fits}
use Rattle.nona_fission.proofs.Portion.{UnitsBegin, own_step, other_step, one_more}
use Rattle.nona_fission.proofs.Turns.{turns_to, over_to, stands_at, own_next, other_next}
use Rattle.nona_fission.proofs.Places.{Place, at_scalar, at_cell, number_at, IsFoldPlace, within_part, place_skipped, place_declared, within_store, place_ended}
use Rattle.nona_fission.proofs.Parts.{part_with, part_joined, run_goes, begins_in}

-- where each other local has its value of one thread
pub given_may : (s : Fission) → MayBeApart s → MayBeApart (copied_part_of s.sharing s.folded s.own)
given_may s h = record {
  entered = h.entered;
  steady = h.steady;
  calm = h.calm;
  guarded = h.guarded;
  within = h.within;
  owned = h.owned;
  folds = h.folds;
  closed = h.closed;
  free = h.free;
  given = λ k v unit below listed other own used. refl;
  numbers = λ k x below. scalar_number (in_iteration s.sharing.entry (s.sharing.first + k)).store x (body_fits s h k below);
}

-- what stands before units where such a number is the same with both choices of numbers
record Twice (s : Fission) (locals : ℕ → ℕ → ℤ) (t k : ℕ) (x : Place) (from : ℕ) (front rest : List Stmt) (m p q m0 p0 q0 : Memory) : Type 0 where
  first : UnitsBegin s t k from front rest m p m0 p0
  second : UnitsBegin (part_with s s.own locals) t k from front rest m q m0 q0
  same : number_at x p ≡ number_at x q

-- an iteration of a task, with both choices
record Choices (s : Fission) (locals : ℕ → ℕ → ℤ) (t k : ℕ) (m0 p0 q0 : Memory) : Type 0 where
  first : MayBeApart s
  second : MayBeApart (part_with s s.own locals)
  below : k < s.sharing.count
  mine : s.sharing.owner k ≡ t
  numbers : AreI64 m0 × AreI64 p0 × AreI64 q0

joined_same : (f : Fold) (u v u' v' : ℤ) → AreJoined f u v u' v' → u ≡ v → u' ≡ v'
joined_same f u v u' v' more same = more.first ∙ ap (λ z. join_of f z more.by) same ∙ sym more.second

abbrev IsSameBehind : Fission → (ℕ → ℕ → ℤ) → ℕ → Place → ℕ → List Stmt → Memory → Memory → Type 0
IsSameBehind s locals k x from rest p q =
    number_at x (portion s.own (s.locals k) from rest s.sharing.entry.turns p).store ≡ number_at x (portion s.own (locals k) from rest s.sharing.entry.turns q).store

unit_same : (s : Fission) (locals : ℕ → ℕ → ℤ) (t k : ℕ) (m0 p0 q0 : Memory) → Choices s locals t k m0 p0 q0 → (f : Fold) (x : Place) → IsFoldPlace s.sharing.entry.looped s.folded (store_before s.sharing) f x
    → (front : List Stmt) (stmt : Stmt) (rest : List Stmt) (m p q : Memory) (own : Bool) → s.own (suc (length front)) ≡ own → Twice s locals t k x (suc (length front)) front (stmt ∷ rest) m p q m0 p0 q0
    → ((m' p' q' : Memory) → Twice s locals t k x (suc (suc (length front))) (front ++ stmt ∷ []) rest m' p' q' m0 p0 q0 → IsSameBehind s locals k x (suc (suc (length front))) rest p' q')
    → number_at x (if own then then_do (run stmt s.sharing.entry.turns p) (portion s.own (s.locals k) (suc (suc (length front))) rest s.sharing.entry.turns) else portion s.own (s.locals k) (suc (suc (length front))) rest s.sharing.entry.turns (skipped (s.locals k) stmt p)).store
    ≡ number_at x (if own then then_do (run stmt s.sharing.entry.turns q) (portion s.own (locals k) (suc (suc (length front))) rest s.sharing.entry.turns) else portion s.own (locals k) (suc (suc (length front))) rest s.sharing.entry.turns (skipped (locals k) stmt q)).store
unit_same s locals t k m0 p0 q0 c f x e front stmt rest m p q true own twice go =
    let n = s.sharing.entry.turns in
    let u = suc (length front) in
    let other = part_with s s.own locals in
    let one = own_step s c.first t k front stmt rest m p m0 p0 own c.below c.mine c.numbers.0 c.numbers.1 twice.first in
    let two = own_step other c.second t k front stmt rest m q m0 q0 own c.below c.mine c.numbers.0 c.numbers.2 twice.second in
    let joined = part_joined s s.own locals (λ v is. is) c.first c.second t k front stmt rest m p q m0 p0 q0 f x own c.below c.mine c.numbers.0 c.numbers.1 e twice.first twice.second in
    let same = joined_same f (number_at x p) (number_at x q) (number_at x (run stmt n p).store) (number_at x (run stmt n q).store) joined twice.same in
    ap (λ (r : Ran). number_at x r.store) (run_goes stmt n p (portion s.own (s.locals k) (suc u) rest n) one.is_done)
    ∙ go (run stmt n m).store (run stmt n p).store (run stmt n q).store (record { first = one.later; second = two.later; same = same })
    ∙ sym (ap (λ (r : Ran). number_at x r.store) (run_goes stmt n q (portion s.own (locals k) (suc u) rest n) two.is_done))
unit_same s locals t k m0 p0 q0 c f x e front stmt rest m p q false own twice go =
    let n = s.sharing.entry.turns in
    let u = suc (length front) in
    let other = part_with s s.own locals in
    let in_p = within_part s c.first t k u f x front (stmt ∷ rest) m p m0 p0 c.below e twice.first in
    let in_q = within_part other c.second t k u f x front (stmt ∷ rest) m q m0 q0 c.below e twice.second in
    go (run stmt n m).store (skipped (s.locals k) stmt p) (skipped (locals k) stmt q)
    (record {
      first = other_step s c.first t k front stmt rest m p m0 p0 own c.below twice.first;
      second = other_step other c.second t k front stmt rest m q m0 q0 own c.below twice.second;
      same = place_skipped (s.locals k) stmt p x in_p ∙ twice.same ∙ sym (place_skipped (locals k) stmt q x in_q);
    })

units_same : (s : Fission) (locals : ℕ → ℕ → ℤ) (t k : ℕ) (m0 p0 q0 : Memory) → Choices s locals t k m0 p0 q0 → (f : Fold) (x : Place) → IsFoldPlace s.sharing.entry.looped s.folded (store_before s.sharing) f x
    → (rest front : List Stmt) (m p q : Memory) → Twice s locals t k x (suc (length front)) front rest m p q m0 p0 q0 → IsSameBehind s locals k x (suc (length front)) rest p q
units_same s locals t k m0 p0 q0 c f x e [] front m p q twice = twice.same
units_same s locals t k m0 p0 q0 c f x e (stmt ∷ rest) front m p q twice =
    unit_same s locals t k m0 p0 q0 c f x e front stmt rest m p q (s.own (suc (length front))) refl twice
    (λ m' p' q'. subst (λ (u : ℕ). Twice s locals t k x u (front ++ stmt ∷ []) rest m' p' q' m0 p0 q0 → IsSameBehind s locals k x u rest p' q') (one_more front stmt)
    (units_same s locals t k m0 p0 q0 c f x e rest (front ++ stmt ∷ []) m' p' q'))

iteration_same : (s : Fission) (locals : ℕ → ℕ → ℤ) → MayBeApart s → MayBeApart (part_with s s.own locals) → (t k : ℕ) → k < s.sharing.count → s.sharing.owner k ≡ t → (f : Fold) (x : Place) → IsFoldPlace s.sharing.entry.looped s.folded (store_before s.sharing) f x
    → number_at x (turns_to s t k).store ≡ number_at x (turns_to (part_with s s.own locals) t k).store
    → number_at x (own_iteration s k (turns_to s t k).store).store ≡ number_at x (own_iteration (part_with s s.own locals) k (turns_to (part_with s s.own locals) t k).store).store
iteration_same s locals h g t k below mine f x e before =
    let other = part_with s s.own locals in
    let i = index_of s.sharing.entry s.sharing.first k in
    let m = thread s.sharing k in
    let p = (turns_to s t k).store in
    let q = (turns_to other t k).store in
    let fm = (thread_begins s h k (omega (arith, below))).kept.numbers in
    let fp = (stands_at s h t k (omega (arith, below))).numbers in
    let fq = (stands_at other g t k (omega (arith, below))).numbers in
    let in_p = place_declared i p x (within_store s h t k x f (omega (arith, below)) e) in
    let in_q = place_declared i q x (within_store other g t k x f (omega (arith, below)) e) in
    place_ended s h t k x f below e
    ∙ units_same s locals t k m p q (record { first = h; second = g; below = below; mine = mine; numbers = (fm, fp, fq) }) f x e s.sharing.entry.looped.body [] (declare i m) (declare i p) (declare i q)
    (record { first = begins_in s h t k below mine; second = begins_in other g t k below mine; same = in_p ∙ before ∙ sym in_q })
    ∙ sym (place_ended other g t k x f below e)

turns_same : (s : Fission) (locals : ℕ → ℕ → ℤ) → MayBeApart s → MayBeApart (part_with s s.own locals) → (t : ℕ) (f : Fold) (x : Place) → IsFoldPlace s.sharing.entry.looped s.folded (store_before s.sharing) f x → (k : ℕ) → k ≤ s.sharing.count
    → number_at x (turns_to s t k).store ≡ number_at x (turns_to (part_with s s.own locals) t k).store
turns_same s locals h g t f x e zero below = refl
turns_same s locals h g t f x e (suc k) below =
    let other = part_with s s.own locals in
    let before = turns_same s locals h g t f x e k (omega (arith, below)) in
    let first = (stands_at s h t k (omega (arith, below))).is_done in
    let second = (stands_at other g t k (omega (arith, below))).is_done in
    ⊎_elim
    (λ (mine : s.sharing.owner k ≡ t).
    ap (λ (r : Ran). number_at x r.store) (own_next s t k mine first) ∙ iteration_same s locals h g t k (omega (arith, below)) mine f x e before ∙ sym (ap (λ (r : Ran). number_at x r.store) (own_next other t k mine second)))
    (λ (apart : s.sharing.owner k ≡ t → ⊥).
    ap (λ (r : Ran). number_at x r.store) (other_next s t k apart first) ∙ before ∙ sym (ap (λ (r : Ran). number_at x r.store) (other_next other t k apart second)))
    (cases_eq (s.sharing.owner k) t)

-- what a task makes of a reduction, and of a cell of its copies

place_same : (s : Fission) → MayBeApart s → (t : ℕ) (x : Place) (f : Fold) → IsFoldPlace s.sharing.entry.looped s.folded (store_before s.sharing) f x → number_at x (own_run s t).store ≡ number_at x (own_run (copied_part_of s.sharing s.folded s.own) t).store
place_same s h t x f e =
    ap (λ (r : Ran). number_at x r.store) (over_to s t s.sharing.count)
    ∙ turns_same s (one_thread_local s.sharing) h (given_may s h) t f x e s.sharing.count (omega arith)
    ∙ sym (ap (λ (r : Ran). number_at x r.store) (over_to (copied_part_of s.sharing s.folded s.own) t s.sharing.count))

pub partial_same : (s : Fission) → MayBeApart s → (t x : ℕ) (f : Fold) → reduction_of s.sharing.entry.looped x ≡ Some f → own_partial s x t ≡ own_partial (copied_part_of s.sharing s.folded s.own) x t
partial_same s h t x f e = place_same s h t (at_scalar x) f e

pub copy_same : (s : Fission) → MayBeApart s → (t a p : ℕ) (f : Fold) → among a s.folded ≡ true → fold_array_of s.sharing.entry.looped a ≡ Some f → p < length (cells_of (store_before s.sharing) a)
    → own_copy s a p t ≡ own_copy (copied_part_of s.sharing s.folded s.own) a p t
copy_same s h t a p f listed e within = place_same s h t (at_cell a p) f (listed, e, within)
