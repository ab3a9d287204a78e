-- What two parts of a loop's units make of a reduction, and of a cell of their copies, adds up to what both together make of it.
use Rattle.std.proofs.Common.{◌≡◌, ◌⊎◌, inl, inr, ⊎_elim, ℕ, zero, suc, ◌<◌, ◌≤◌, ◌||◌, Bool, true, false, ℤ, List, [], ◌∷◌, ◌++◌, length, refl, sym, ap, ◌∙◌, subst, arith, if◌then◌else◌}
use Rattle.std.specs.Prelude.{Some}
use Rattle.std.specs.List.{Contains}
use Rattle.nona_num.specs.declared.folds.Fold.{Fold}
use Rattle.nona_num.specs.Folds.{unit_of, join_of}
use Rattle.nona_num.proofs.FoldLaws.{join_assoc, join_unit, join_fits}
use Rattle.nona_tree.specs.declared.trees.Stmt.{Stmt}
use Rattle.nona_tree.specs.Memory.{Memory, cells_of, declare}
use Rattle.nona_tree.specs.Numbers.{IsI64, AreI64}
use Rattle.nona_tree.specs.Run.{Ran, then_do, run}
use Rattle.nona_plans.specs.declared.graphs.Tie.{Tie}
use Rattle.nona_forms.specs.Affine.{among}
use Rattle.nona_plans.specs.Mentions.{reduction_of}
use Rattle.nona_plans.specs.Units.{ties_without}
use Rattle.nona_fission.specs.Sharing.{Sharing, store_before, index_of}
use Rattle.nona_fission.proofs.Begun.{unit_fits, swapped}
use Rattle.nona_fission.proofs.Tasks.{thread, AreJoined, unit_join}
use Rattle.nona_plans.proofs.Leading.{or_left, or_right}
use Rattle.nona_fission.specs.FoldArrays.{fold_array_of}
use Rattle.nona_fission.specs.Fission.{MayBeApart, skipped, portion, one_thread_local, own_iteration, own_run, own_partial, own_copy, by_one, copied_part_of, of_either}
use Rattle.nona_fission.proofs.Thread.{thread_begins}
use Rattle.nona_fission.proofs.Portion.{UnitsBegin, own_step, other_step, one_more}
use Rattle.nona_fission.proofs.Turns.{turns_to, over_to, stands_at, own_next}
use Rattle.nona_fission.proofs.Places.{Place, at_scalar, at_cell, number_at, IsFoldPlace, place_number, within_part, place_skipped, place_declared, within_store, place_ended, place_begins}
use Rattle.nona_fission.proofs.Parts.{part_joined, run_goes, begins_in}
use Rattle.nona_fission.proofs.Partials.{one_may}

-- both parts together

either_cases : (a b : Bool) → (a || b) ≡ true → (a ≡ true) ⊎ (b ≡ true)
either_cases true b e = inl refl
either_cases false b e = inr e

both_free : (g : Sharing) (folded : List ℕ) (a b : ℕ → Bool) → MayBeApart (copied_part_of g folded a) → MayBeApart (copied_part_of g folded b)
    → ((t : Tie) → Contains (ties_without folded g.entry.looped) t → of_either a b t.first ≡ true → t.carried ≡ false) ⊎ (g.tasks ≡ 1)
both_free g folded a b ha hb =
    ⊎_elim
    (λ (fa : (t : Tie) → Contains (ties_without folded g.entry.looped) t → a t.first ≡ true → t.carried ≡ false).
    ⊎_elim
    (λ (fb : (t : Tie) → Contains (ties_without folded g.entry.looped) t → b t.first ≡ true → t.carried ≡ false). inl (λ t c e. ⊎_elim (λ (one : a t.first ≡ true). fa t c one) (λ (two : b t.first ≡ true). fb t c two) (either_cases (a t.first) (b t.first) e)))
    (λ (alone : g.tasks ≡ 1). inr alone) hb.free)
    (λ (alone : g.tasks ≡ 1). inr alone) ha.free

pub both_may : (g : Sharing) (folded : List ℕ) (a b : ℕ → Bool) → MayBeApart (copied_part_of g folded a) → MayBeApart (copied_part_of g folded b) → MayBeApart (copied_part_of g folded (of_either a b))
both_may g folded a b ha hb = record {
  entered = ha.entered;
  steady = ha.steady;
  calm = ha.calm;
  guarded = ha.guarded;
  within = ha.within;
  owned = ha.owned;
  folds = ha.folds;
  closed = λ t c i. ha.closed t c i || hb.closed t c i;
  free = both_free g folded a b ha hb;
  given = λ k v unit below listed other own used. refl;
  numbers = ha.numbers;
}

-- three numbers, of which the first is joined with what the others are
record Adds (f : Fold) (a b c u v w : ℤ) : Type 0 where
  first : ℤ
  second : ℤ
  fits_first : IsI64 first
  fits_second : IsI64 second
  is_whole : u ≡ join_of f (join_of f a first) second
  is_first : v ≡ join_of f b first
  is_second : w ≡ join_of f c second

adds_first : (f : Fold) (a b c u v w u' v' : ℤ) → IsI64 a → IsI64 b → AreJoined f u v u' v' → Adds f a b c u v w → Adds f a b c u' v' w
adds_first f a b c u v w u' v' fa fb more h =
    let A = join_of f a h.first in
    record {
      first = join_of f h.first more.by;
      second = h.second;
      fits_first = join_fits f h.first more.by h.fits_first more.fits;
      fits_second = h.fits_second;
      is_whole = more.first ∙ ap (λ z. join_of f z more.by) h.is_whole
          ∙ swapped f A more.by h.second (join_fits f a h.first fa h.fits_first) more.fits h.fits_second
          ∙ ap (λ z. join_of f z h.second) (join_assoc f a h.first more.by fa h.fits_first more.fits);
      is_first = more.second ∙ ap (λ z. join_of f z more.by) h.is_first ∙ join_assoc f b h.first more.by fb h.fits_first more.fits;
      is_second = h.is_second;
    }

adds_second : (f : Fold) (a b c u v w u' w' : ℤ) → IsI64 a → IsI64 c → AreJoined f u w u' w' → Adds f a b c u v w → Adds f a b c u' v w'
adds_second f a b c u v w u' w' fa fc more h =
    let A = join_of f a h.first in
    record {
      first = h.first;
      second = join_of f h.second more.by;
      fits_first = h.fits_first;
      fits_second = join_fits f h.second more.by h.fits_second more.fits;
      is_whole = more.first ∙ ap (λ z. join_of f z more.by) h.is_whole ∙ join_assoc f A h.second more.by (join_fits f a h.first fa h.fits_first) h.fits_second more.fits;
      is_first = h.is_first;
      is_second = more.second ∙ ap (λ z. join_of f z more.by) h.is_second ∙ join_assoc f c h.second more.by fc h.fits_second more.fits;
    }

adds_same : (f : Fold) (a b c u v w u' v' w' : ℤ) → u' ≡ u → v' ≡ v → w' ≡ w → Adds f a b c u v w → Adds f a b c u' v' w'
adds_same f a b c u v w u' v' w' e g k h = record {
  first = h.first;
  second = h.second;
  fits_first = h.fits_first;
  fits_second = h.fits_second;
  is_whole = e ∙ h.is_whole;
  is_first = g ∙ h.is_first;
  is_second = k ∙ h.is_second;
}

adds_nothing : (f : Fold) (a b c : ℤ) → IsI64 a → IsI64 b → IsI64 c → Adds f a b c a b c
adds_nothing f a b c fa fb fc = record {
  first = unit_of f;
  second = unit_of f;
  fits_first = unit_fits f;
  fits_second = unit_fits f;
  is_whole = unit_join f a fa ∙ ap (λ z. join_of f z (unit_of f)) (unit_join f a fa);
  is_first = unit_join f b fb;
  is_second = unit_join f c fc;
}

-- the units of an iteration

-- two parts without a common unit, and an iteration
record Both (g : Sharing) (folded : List ℕ) (a b : ℕ → Bool) (t k : ℕ) : Type 0 where
  first : MayBeApart (copied_part_of g folded a)
  second : MayBeApart (copied_part_of g folded b)
  disjoint : (u : ℕ) → a u ≡ true → b u ≡ true → ⊥
  below : k < g.count
  mine : g.owner k ≡ t

-- what stands before units in three stores: that of both parts, and one for each
record Three (g : Sharing) (folded : List ℕ) (a b : ℕ → Bool) (t k from : ℕ) (front rest : List Stmt) (m Q p q m0 Q0 p0 q0 : Memory) : Type 0 where
  both : UnitsBegin (copied_part_of g folded (of_either a b)) t k from front rest m Q m0 Q0
  first : UnitsBegin (copied_part_of g folded a) t k from front rest m p m0 p0
  second : UnitsBegin (copied_part_of g folded b) t k from front rest m q m0 q0
  numbers : AreI64 m0 × AreI64 Q0 × AreI64 p0 × AreI64 q0

neither : (a b : Bool) → a ≡ false → b ≡ false → (a || b) ≡ false
neither true b e h = cc
neither false b e h = h

-- past a unit that isn't run
skipped_part : (g : Sharing) (folded : List ℕ) (own : ℕ → Bool) → MayBeApart (copied_part_of g folded own) → (t k : ℕ) (f : Fold) (x : Place) → IsFoldPlace g.entry.looped folded (store_before g) f x → k < g.count
    → (front : List Stmt) (stmt : Stmt) (rest : List Stmt) (m q m0 q0 : Memory) → UnitsBegin (copied_part_of g folded own) t k (suc (length front)) front (stmt ∷ rest) m q m0 q0 → number_at x (skipped (one_thread_local g k) stmt q) ≡ number_at x q
skipped_part g folded own h t k f x e below front stmt rest m q m0 q0 begin =
    place_skipped (one_thread_local g k) stmt q x (within_part (copied_part_of g folded own) h t k (suc (length front)) f x front (stmt ∷ rest) m q m0 q0 below e begin)

-- what the rest of the units leaves of the reduction
abbrev IsAdded : Sharing → List ℕ → (ℕ → Bool) → (ℕ → Bool) → ℕ → ℕ → Fold → Place → ℤ → ℤ → ℤ → ℕ → List Stmt → Memory → Memory → Memory → Type 0
IsAdded g folded a b t k f x A B C from rest Q p q =
    Adds f A B C (number_at x (portion (of_either a b) (one_thread_local g k) from rest g.entry.turns Q).store)
    (number_at x (portion a (one_thread_local g k) from rest g.entry.turns p).store)
    (number_at x (portion b (one_thread_local g k) from rest g.entry.turns q).store)

unit_adds : (g : Sharing) (folded : List ℕ) (a b : ℕ → Bool) (t k : ℕ) → Both g folded a b t k → (f : Fold) (x : Place) (A B C : ℤ) → IsFoldPlace g.entry.looped folded (store_before g) f x → IsI64 A → IsI64 B → IsI64 C
    → (front : List Stmt) (stmt : Stmt) (rest : List Stmt) (m Q p q m0 Q0 p0 q0 : Memory) (one two : Bool) → a (suc (length front)) ≡ one → b (suc (length front)) ≡ two
    → Three g folded a b t k (suc (length front)) front (stmt ∷ rest) m Q p q m0 Q0 p0 q0 → Adds f A B C (number_at x Q) (number_at x p) (number_at x q)
    → ((m' Q' p' q' : Memory) → Three g folded a b t k (suc (suc (length front))) (front ++ stmt ∷ []) rest m' Q' p' q' m0 Q0 p0 q0 → Adds f A B C (number_at x Q') (number_at x p') (number_at x q')
    → IsAdded g folded a b t k f x A B C (suc (suc (length front))) rest Q' p' q')
    → Adds f A B C
    (number_at x (if (one || two) then then_do (run stmt g.entry.turns Q) (portion (of_either a b) (one_thread_local g k) (suc (suc (length front))) rest g.entry.turns) else portion (of_either a b) (one_thread_local g k) (suc (suc (length front))) rest g.entry.turns (skipped (one_thread_local g k) stmt Q)).store)
    (number_at x (if one then then_do (run stmt g.entry.turns p) (portion a (one_thread_local g k) (suc (suc (length front))) rest g.entry.turns) else portion a (one_thread_local g k) (suc (suc (length front))) rest g.entry.turns (skipped (one_thread_local g k) stmt p)).store)
    (number_at x (if two then then_do (run stmt g.entry.turns q) (portion b (one_thread_local g k) (suc (suc (length front))) rest g.entry.turns) else portion b (one_thread_local g k) (suc (suc (length front))) rest g.entry.turns (skipped (one_thread_local g k) stmt q)).store)
unit_adds g folded a b t k h f x A B C e fA fB fC front stmt rest m Q p q m0 Q0 p0 q0 true true is_a is_b three adds go = absurd (h.disjoint (suc (length front)) is_a is_b)
unit_adds g folded a b t k h f x A B C e fA fB fC front stmt rest m Q p q m0 Q0 p0 q0 true false is_a is_b three adds go =
    let n = g.entry.turns in
    let u = suc (length front) in
    let W = copied_part_of g folded (of_either a b) in
    let hW = both_may g folded a b h.first h.second in
    let locals = one_thread_local g k in
    let is_w : of_either a b u ≡ true = or_left (a u) (b u) is_a in
    let sub : (v : ℕ) → a v ≡ true → of_either a b v ≡ true = (λ v one. or_left (a v) (b v) one) in
    let both = own_step W hW t k front stmt rest m Q m0 Q0 is_w h.below h.mine three.numbers.0 three.numbers.1 three.both in
    let first = own_step (copied_part_of g folded a) h.first t k front stmt rest m p m0 p0 is_a h.below h.mine three.numbers.0 three.numbers.2 three.first in
    let second = other_step (copied_part_of g folded b) h.second t k front stmt rest m q m0 q0 is_b h.below three.second in
    let more = part_joined W a (one_thread_local g) sub hW h.first t k front stmt rest m Q p m0 Q0 p0 f x is_a h.below h.mine three.numbers.0 three.numbers.1 e three.both three.first in
    let same : number_at x (skipped locals stmt q) ≡ number_at x q = skipped_part g folded b h.second t k f x e h.below front stmt rest m q m0 q0 three.second in
    let added = go (run stmt n m).store (run stmt n Q).store (run stmt n p).store (skipped locals stmt q) (record { both = both.later; first = first.later; second = second; numbers = three.numbers })
    (subst (λ z. Adds f A B C (number_at x (run stmt n Q).store) (number_at x (run stmt n p).store) z) (sym same) (adds_first f A B C (number_at x Q) (number_at x p) (number_at x q) (number_at x (run stmt n Q).store) (number_at x (run stmt n p).store) fA fB more adds)) in
    subst (λ (r : Ran). Adds f A B C (number_at x r.store) (number_at x (then_do (run stmt n p) (portion a locals (suc u) rest n)).store) (number_at x (portion b locals (suc u) rest n (skipped locals stmt q)).store)) (sym (run_goes stmt n Q (portion (of_either a b) locals (suc u) rest n) both.is_done))
    (subst (λ (r : Ran). Adds f A B C (number_at x (portion (of_either a b) locals (suc u) rest n (run stmt n Q).store).store) (number_at x r.store) (number_at x (portion b locals (suc u) rest n (skipped locals stmt q)).store)) (sym (run_goes stmt n p (portion a locals (suc u) rest n) first.is_done)) added)
unit_adds g folded a b t k h f x A B C e fA fB fC front stmt rest m Q p q m0 Q0 p0 q0 false true is_a is_b three adds go =
    let n = g.entry.turns in
    let u = suc (length front) in
    let W = copied_part_of g folded (of_either a b) in
    let hW = both_may g folded a b h.first h.second in
    let locals = one_thread_local g k in
    let is_w : of_either a b u ≡ true = or_right (a u) (b u) is_b in
    let sub : (v : ℕ) → b v ≡ true → of_either a b v ≡ true = (λ v one. or_right (a v) (b v) one) in
    let both = own_step W hW t k front stmt rest m Q m0 Q0 is_w h.below h.mine three.numbers.0 three.numbers.1 three.both in
    let first = other_step (copied_part_of g folded a) h.first t k front stmt rest m p m0 p0 is_a h.below three.first in
    let second = own_step (copied_part_of g folded b) h.second t k front stmt rest m q m0 q0 is_b h.below h.mine three.numbers.0 three.numbers.3 three.second in
    let more = part_joined W b (one_thread_local g) sub hW h.second t k front stmt rest m Q q m0 Q0 q0 f x is_b h.below h.mine three.numbers.0 three.numbers.1 e three.both three.second in
    let same : number_at x (skipped locals stmt p) ≡ number_at x p = skipped_part g folded a h.first t k f x e h.below front stmt rest m p m0 p0 three.first in
    let added = go (run stmt n m).store (run stmt n Q).store (skipped locals stmt p) (run stmt n q).store (record { both = both.later; first = first; second = second.later; numbers = three.numbers })
    (subst (λ z. Adds f A B C (number_at x (run stmt n Q).store) z (number_at x (run stmt n q).store)) (sym same) (adds_second f A B C (number_at x Q) (number_at x p) (number_at x q) (number_at x (run stmt n Q).store) (number_at x (run stmt n q).store) fA fC more adds)) in
    subst (λ (r : Ran). Adds f A B C (number_at x r.store) (number_at x (portion a locals (suc u) rest n (skipped locals stmt p)).store) (number_at x (then_do (run stmt n q) (portion b locals (suc u) rest n)).store)) (sym (run_goes stmt n Q (portion (of_either a b) locals (suc u) rest n) both.is_done))
    (subst (λ (r : Ran). Adds f A B C (number_at x (portion (of_either a b) locals (suc u) rest n (run stmt n Q).store).store) (number_at x (portion a locals (suc u) rest n (skipped locals stmt p)).store) (number_at x r.store)) (sym (run_goes stmt n q (portion b locals (suc u) rest n) second.is_done)) added)
unit_adds g folded a b t k h f x A B C e fA fB fC front stmt rest m Q p q m0 Q0 p0 q0 false false is_a is_b three adds go =
    let n = g.entry.turns in
    let locals = one_thread_local g k in
    let is_w : of_either a b (suc (length front)) ≡ false = neither (a (suc (length front))) (b (suc (length front))) is_a is_b in
    let hW = both_may g folded a b h.first h.second in
    let same_Q : number_at x (skipped locals stmt Q) ≡ number_at x Q = skipped_part g folded (of_either a b) hW t k f x e h.below front stmt rest m Q m0 Q0 three.both in
    let same_p : number_at x (skipped locals stmt p) ≡ number_at x p = skipped_part g folded a h.first t k f x e h.below front stmt rest m p m0 p0 three.first in
    let same_q : number_at x (skipped locals stmt q) ≡ number_at x q = skipped_part g folded b h.second t k f x e h.below front stmt rest m q m0 q0 three.second in
    go (run stmt n m).store (skipped locals stmt Q) (skipped locals stmt p) (skipped locals stmt q)
    (record {
      both = other_step (copied_part_of g folded (of_either a b)) hW t k front stmt rest m Q m0 Q0 is_w h.below three.both;
      first = other_step (copied_part_of g folded a) h.first t k front stmt rest m p m0 p0 is_a h.below three.first;
      second = other_step (copied_part_of g folded b) h.second t k front stmt rest m q m0 q0 is_b h.below three.second;
      numbers = three.numbers;
    })
    (adds_same f A B C (number_at x Q) (number_at x p) (number_at x q) _ _ _ same_Q same_p same_q adds)

units_add : (g : Sharing) (folded : List ℕ) (a b : ℕ → Bool) (t k : ℕ) → Both g folded a b t k → (f : Fold) (x : Place) (A B C : ℤ) → IsFoldPlace g.entry.looped folded (store_before g) f x → IsI64 A → IsI64 B → IsI64 C
    → (rest front : List Stmt) (m Q p q m0 Q0 p0 q0 : Memory) → Three g folded a b t k (suc (length front)) front rest m Q p q m0 Q0 p0 q0 → Adds f A B C (number_at x Q) (number_at x p) (number_at x q)
    → IsAdded g folded a b t k f x A B C (suc (length front)) rest Q p q
units_add g folded a b t k h f x A B C e fA fB fC [] front m Q p q m0 Q0 p0 q0 three adds = adds
units_add g folded a b t k h f x A B C e fA fB fC (stmt ∷ rest) front m Q p q m0 Q0 p0 q0 three adds =
    unit_adds g folded a b t k h f x A B C e fA fB fC front stmt rest m Q p q m0 Q0 p0 q0 (a (suc (length front))) (b (suc (length front))) refl refl three adds
    (λ m' Q' p' q'. subst (λ (u : ℕ). Three g folded a b t k u (front ++ stmt ∷ []) rest m' Q' p' q' m0 Q0 p0 q0 → Adds f A B C (number_at x Q') (number_at x p') (number_at x q') → IsAdded g folded a b t k f x A B C u rest Q' p' q') (one_more front stmt)
    (units_add g folded a b t k h f x A B C e fA fB fC rest (front ++ stmt ∷ []) m' Q' p' q' m0 Q0 p0 q0))

-- an iteration

iteration_adds : (g : Sharing) (folded : List ℕ) (a b : ℕ → Bool) (t k : ℕ) → Both g folded a b t k → (f : Fold) (x : Place) → IsFoldPlace g.entry.looped folded (store_before g) f x
    → Adds f (number_at x (turns_to (copied_part_of g folded (of_either a b)) t k).store) (number_at x (turns_to (copied_part_of g folded a) t k).store) (number_at x (turns_to (copied_part_of g folded b) t k).store)
    (number_at x (own_iteration (copied_part_of g folded (of_either a b)) k (turns_to (copied_part_of g folded (of_either a b)) t k).store).store) (number_at x (own_iteration (copied_part_of g folded a) k (turns_to (copied_part_of g folded a) t k).store).store) (number_at x (own_iteration (copied_part_of g folded b) k (turns_to (copied_part_of g folded b) t k).store).store)
iteration_adds g folded a b t k h f x e =
    let i = index_of g.entry g.first k in
    let below = h.below in
    let W = copied_part_of g folded (of_either a b) in
    let hW = both_may g folded a b h.first h.second in
    let Q = (turns_to W t k).store in
    let p = (turns_to (copied_part_of g folded a) t k).store in
    let q = (turns_to (copied_part_of g folded b) t k).store in
    let in_Q = stands_at W hW t k (omega (arith, below)) in
    let in_p = stands_at (copied_part_of g folded a) h.first t k (omega (arith, below)) in
    let in_q = stands_at (copied_part_of g folded b) h.second t k (omega (arith, below)) in
    let fQ = place_number x Q in_Q.numbers in
    let fp = place_number x p in_p.numbers in
    let fq = place_number x q in_q.numbers in
    let A = number_at x Q in
    let B = number_at x p in
    let C = number_at x q in
    let at_Q = place_declared i Q x (within_store W hW t k x f (omega (arith, below)) e) in
    let at_p = place_declared i p x (within_store (copied_part_of g folded a) h.first t k x f (omega (arith, below)) e) in
    let at_q = place_declared i q x (within_store (copied_part_of g folded b) h.second t k x f (omega (arith, below)) e) in
    let start : Adds f A B C (number_at x (declare i Q)) (number_at x (declare i p)) (number_at x (declare i q)) =
    adds_same f A B C A B C (number_at x (declare i Q)) (number_at x (declare i p)) (number_at x (declare i q)) at_Q at_p at_q (adds_nothing f A B C fQ fp fq) in
    let begins = thread_begins (copied_part_of g folded a) h.first k (omega (arith, below)) in
    let added = units_add g folded a b t k h f x A B C e fQ fp fq g.entry.looped.body [] (declare i (thread g k)) (declare i Q) (declare i p) (declare i q) (thread g k) Q p q
    (record { both = begins_in W hW t k below h.mine; first = begins_in (copied_part_of g folded a) h.first t k below h.mine; second = begins_in (copied_part_of g folded b) h.second t k below h.mine; numbers = (begins.kept.numbers, in_Q.numbers, in_p.numbers, in_q.numbers) }) start in
    adds_same f A B C _ _ _ _ _ _ (place_ended W hW t k x f below e) (place_ended (copied_part_of g folded a) h.first t k x f below e) (place_ended (copied_part_of g folded b) h.second t k x f below e) added

-- all iterations

joins_both : (f : Fold) (T P Q u v w : ℤ) → IsI64 P → IsI64 Q → T ≡ join_of f P Q → Adds f T P Q u v w → u ≡ join_of f v w
joins_both f T P Q u v w fP fQ e h =
    h.is_whole ∙ ap (λ z. join_of f (join_of f z h.first) h.second) e
    ∙ ap (λ z. join_of f z h.second) (swapped f P h.first Q fP h.fits_first fQ)
    ∙ join_assoc f (join_of f P h.first) Q h.second (join_fits f P h.first fP h.fits_first) fQ h.fits_second
    ∙ sym (λ i. join_of f (h.is_first i) (h.is_second i))

-- the iterations for one task alone
abbrev alone : Sharing → Sharing
alone g = record g { tasks = 1; owner = λ k. 0 }

alone_may : (g : Sharing) (folded : List ℕ) (a : ℕ → Bool) → MayBeApart (copied_part_of g folded a) → MayBeApart (copied_part_of (alone g) folded a)
alone_may g folded a h = one_may (copied_part_of g folded a) h

added_to : (g : Sharing) (folded : List ℕ) (a b : ℕ → Bool) → MayBeApart (copied_part_of g folded a) → MayBeApart (copied_part_of g folded b) → ((u : ℕ) → a u ≡ true → b u ≡ true → ⊥) → (f : Fold) (x : Place) (k : ℕ) → k ≤ g.count → IsFoldPlace g.entry.looped folded (store_before g) f x
    → number_at x (turns_to (copied_part_of (alone g) folded (of_either a b)) 0 k).store ≡ join_of f (number_at x (turns_to (copied_part_of (alone g) folded a) 0 k).store) (number_at x (turns_to (copied_part_of (alone g) folded b) 0 k).store)
added_to g folded a b ha hb apart f x zero below e =
    place_begins (copied_part_of (alone g) folded (of_either a b)) (alone_may g folded (of_either a b) (both_may g folded a b ha hb)) f x 0 e
    ∙ sym (join_unit f (unit_of f) (unit_fits f))
    ∙ sym (λ i. join_of f (place_begins (copied_part_of (alone g) folded a) (alone_may g folded a ha) f x 0 e i) (place_begins (copied_part_of (alone g) folded b) (alone_may g folded b hb) f x 0 e i))
added_to g folded a b ha hb apart f x (suc k) below e =
    let o = alone g in
    let less : k < g.count = omega (arith, below) in
    let one = alone_may g folded a ha in
    let two = alone_may g folded b hb in
    let hW = alone_may g folded (of_either a b) (both_may g folded a b ha hb) in
    let W = copied_part_of o folded (of_either a b) in
    let in_W = stands_at W hW 0 k (omega (arith, below)) in
    let in_a = stands_at (copied_part_of o folded a) one 0 k (omega (arith, below)) in
    let in_b = stands_at (copied_part_of o folded b) two 0 k (omega (arith, below)) in
    let adds = iteration_adds o folded a b 0 k (record { first = one; second = two; disjoint = apart; below = less; mine = refl }) f x e in
    ap (λ (r : Ran). number_at x r.store) (own_next W 0 k refl in_W.is_done)
    ∙ joins_both f _ _ _ _ _ _ (place_number x (turns_to (copied_part_of o folded a) 0 k).store in_a.numbers) (place_number x (turns_to (copied_part_of o folded b) 0 k).store in_b.numbers) (added_to g folded a b ha hb apart f x k (omega (arith, below)) e) adds
    ∙ sym (λ i. join_of f (number_at x (own_next (copied_part_of o folded a) 0 k refl in_a.is_done i).store) (number_at x (own_next (copied_part_of o folded b) 0 k refl in_b.is_done i).store))

places_add : (g : Sharing) (folded : List ℕ) (a b : ℕ → Bool) → MayBeApart (copied_part_of g folded a) → MayBeApart (copied_part_of g folded b) → ((u : ℕ) → a u ≡ true → b u ≡ true → ⊥) → (x : Place) (f : Fold) → IsFoldPlace g.entry.looped folded (store_before g) f x
    → number_at x (own_run (by_one (copied_part_of g folded (of_either a b))) 0).store ≡ join_of f (number_at x (own_run (by_one (copied_part_of g folded a)) 0).store) (number_at x (own_run (by_one (copied_part_of g folded b)) 0).store)
places_add g folded a b ha hb apart x f e =
    ap (λ (r : Ran). number_at x r.store) (over_to (copied_part_of (alone g) folded (of_either a b)) 0 g.count)
    ∙ added_to g folded a b ha hb apart f x g.count (omega arith) e
    ∙ sym (λ i. join_of f (number_at x (over_to (copied_part_of (alone g) folded a) 0 g.count i).store) (number_at x (over_to (copied_part_of (alone g) folded b) 0 g.count i).store))

pub parts_add : (g : Sharing) (folded : List ℕ) (a b : ℕ → Bool) → MayBeApart (copied_part_of g folded a) → MayBeApart (copied_part_of g folded b) → ((u : ℕ) → a u ≡ true → b u ≡ true → ⊥) → (x : ℕ) (f : Fold) → reduction_of g.entry.looped x ≡ Some f
    → own_partial (by_one (copied_part_of g folded (of_either a b))) x 0 ≡ join_of f (own_partial (by_one (copied_part_of g folded a)) x 0) (own_partial (by_one (copied_part_of g folded b)) x 0)
parts_add g folded a b ha hb apart x f e = places_add g folded a b ha hb apart (at_scalar x) f e

pub copies_add : (g : Sharing) (folded : List ℕ) (a b : ℕ → Bool) → MayBeApart (copied_part_of g folded a) → MayBeApart (copied_part_of g folded b) → ((u : ℕ) → a u ≡ true → b u ≡ true → ⊥) → (c p : ℕ) (f : Fold) → among c folded ≡ true
    → fold_array_of g.entry.looped c ≡ Some f → p < length (cells_of (store_before g) c)
    → own_copy (by_one (copied_part_of g folded (of_either a b))) c p 0 ≡ join_of f (own_copy (by_one (copied_part_of g folded a)) c p 0) (own_copy (by_one (copied_part_of g folded b)) c p 0)
copies_add g folded a b ha hb apart c p f listed e within = places_add g folded a b ha hb apart (at_cell c p) f (listed, e, within)
