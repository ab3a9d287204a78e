-- The units of a part of a loop's iterations beside those of a part of it: an own unit of the smaller one does in both the same.
use Rattle.std.proofs.Common.{◌≡◌, ℕ, suc, ◌<◌, Bool, true, ℤ, List, [], ◌∷◌, length, sym, ap, ◌∙◌, subst, arith}
use Rattle.std.specs.List.{AllByRecursion}
use Rattle.nona_num.specs.declared.folds.Fold.{Fold}
use Rattle.nona_num.specs.Folds.{unit_of}
use Rattle.nona_tree.specs.declared.outcomes.Outcome.{Outcome}
use Rattle.nona_tree.specs.declared.outcomes.Outcome.TheVariants as outcome
use Rattle.nona_tree.specs.declared.trees.Stmt.{Stmt}
use Rattle.nona_tree.specs.Deeds.{deeds}
use Rattle.nona_tree.specs.Memory.{Memory, scalar_at, cells_of, cell_at, declare}
use Rattle.nona_tree.specs.Numbers.{AreI64}
use Rattle.nona_tree.specs.Run.{Ran, then_from, then_do, run}
use Rattle.nona_forms.specs.Touched.{IsOfAccess}
use Rattle.nona_plans.specs.Units.{named_in, arrays_in}
use Rattle.nona_fission.specs.Sharing.{store_before, index_of}
use Rattle.nona_fission.proofs.Alike.{Bound, run_alike}
use Rattle.nona_fission.proofs.Begun.{unit_fits}
use Rattle.nona_fission.proofs.Tasks.{thread, AreJoined, scalar_number, unit_join}
use Rattle.nona_fission.specs.Fission.{Fission, MayBeApart}
use Rattle.nona_fission.proofs.Named.{deeds_named}
use Rattle.nona_fission.proofs.Copies.{cell_number}
use Rattle.nona_fission.proofs.Thread.{OwnHas, unit_numbers}
use Rattle.nona_fission.proofs.Units.{OwnFrom, OwnTouches, linked_bond, has_inner, all_granted, index_within}
use Rattle.nona_fission.proofs.Portion.{UnitsBegin, own_step, iteration_begins}
use Rattle.nona_fission.proofs.Turns.{turns_to, stands_at, start_bound, thread_access}
use Rattle.nona_fission.proofs.Places.{Place, at_scalar, at_cell, number_at, IsThere, IsFoldPlace, stays_there, within_part}

-- the part of a part with these own units and the same copies, in which these numbers stand for the locals of other units
abbrev pub part_with : Fission → (ℕ → Bool) → (ℕ → ℕ → ℤ) → Fission
part_with s own locals = record { sharing = s.sharing; own = own; folded = s.folded; locals = locals }

-- an own unit of such a part, in a store of the whole and in one of the part

more_has : (s : Fission) (a : ℕ → Bool) (locals : ℕ → ℕ → ℤ) → ((u : ℕ) → a u ≡ true → s.own u ≡ true) → (list : Stmt → List ℕ) (id : ℕ) → OwnHas (part_with s a locals) list id → OwnHas s list id
more_has s a locals sub list id o = record { unit = o.unit; is_unit = o.is_unit; own = sub o.unit o.own; has = o.has }

more_from : (s : Fission) (a : ℕ → Bool) (locals : ℕ → ℕ → ℤ) → ((u : ℕ) → a u ≡ true → s.own u ≡ true) → (from id : ℕ) → OwnFrom (part_with s a locals) from id → OwnFrom s from id
more_from s a locals sub from id o = record { unit = o.unit; is_unit = o.is_unit; behind = o.behind; own = sub o.unit o.own; has = o.has }

more_touches : (s : Fission) (a : ℕ → Bool) (locals : ℕ → ℕ → ℤ) → ((u : ℕ) → a u ≡ true → s.own u ≡ true) → (t c p : ℕ) → OwnTouches (part_with s a locals) t c p → OwnTouches s t c p
more_touches s a locals sub t c p o = record { array = more_has s a locals sub arrays_in c o.array; turn = o.turn; below = o.below; mine = o.mine; write = o.write; touched = o.touched }

part_bound : (s : Fission) (a : ℕ → Bool) (locals : ℕ → ℕ → ℤ) → ((u : ℕ) → a u ≡ true → s.own u ≡ true) → (t k : ℕ) (front rest : List Stmt) (m Q p m0 Q0 p0 : Memory)
    → UnitsBegin s t k (suc (length front)) front rest m Q m0 Q0 → UnitsBegin (part_with s a locals) t k (suc (length front)) front rest m p m0 p0
    → Bound (linked_bond (part_with s a locals) t (suc (length front)) (length m.scalars) (λ list id. Unit {0}) Q p) Q p
part_bound s a locals sub t k front rest m Q p m0 Q0 p0 both part =
    let u = suc (length front) in
    let level = both.bound.even in
    record {
      numbers = both.numbers;
      deep = omega (arith, level);
      even = part.bound.even ∙ sym both.bound.even;
      sizes = λ c. part.bound.sizes c ∙ sym (both.bound.sizes c);
      scalar = λ x within.
          let there : x < length m.scalars = omega (arith, within, level) in
          let first = both.bound.scalar x there in
          let second = part.bound.scalar x there in
          record {
            outer = λ out has none. second.outer out has none ∙ sym (first.outer out (more_has s a locals sub named_in x has) none);
            inner = λ over f. second.inner over f ∙ sym (first.inner over (λ less. more_from s a locals sub u x (f less)));
            whole = λ f e all. record { by = unit_of f; fits = unit_fits f; first = unit_join f (scalar_at Q x) (scalar_number Q x both.numbers); second = unit_join f (scalar_at p x) (scalar_number p x part.numbers) };
          };
      cell = λ c r within.
          let count = both.bound.sizes c in
          let there : r < length (cells_of m c) = omega (arith, within, count) in
          record {
            plain = λ out touch. (part.bound.cell c r there).plain out touch ∙ sym ((both.bound.cell c r there).plain out (more_touches s a locals sub t c r touch));
            whole = λ f e all. record { by = unit_of f; fits = unit_fits f; first = unit_join f (cell_at Q c r) (cell_number Q c r both.numbers); second = unit_join f (cell_at p c r) (cell_number p c r part.numbers) };
          };
      printed = λ alone. part.bound.printed alone ∙ sym (both.bound.printed (alone.0, λ v unit prints. sub v (alone.1 v unit prints)));
    }

-- what the bond says of a number that tasks begin at a fold's unit
place_joined : (s : Fission) (t from depth : ℕ) (Q p r q : Memory) (f : Fold) (x : Place) → IsFoldPlace s.sharing.entry.looped s.folded (store_before s.sharing) f x → IsThere x r → Bound (linked_bond s t from depth (λ list id. Unit {0}) Q p) r q
    → AreJoined f (number_at x Q) (number_at x p) (number_at x r) (number_at x q)
place_joined s t from depth Q p r q f (at_scalar x) e there bound = (bound.scalar x there).whole f e tt
place_joined s t from depth Q p r q f (at_cell a c) e there bound = (bound.cell a c there).whole f e.1 tt

pub part_joined : (s : Fission) (a : ℕ → Bool) (locals : ℕ → ℕ → ℤ) → ((u : ℕ) → a u ≡ true → s.own u ≡ true) → MayBeApart s → MayBeApart (part_with s a locals) → (t k : ℕ) (front : List Stmt) (stmt : Stmt) (rest : List Stmt) (m Q p m0 Q0 p0 : Memory) (f : Fold) (x : Place)
    → a (suc (length front)) ≡ true → k < s.sharing.count → s.sharing.owner k ≡ t → AreI64 m0 → AreI64 Q0 → IsFoldPlace s.sharing.entry.looped s.folded (store_before s.sharing) f x
    → UnitsBegin s t k (suc (length front)) front (stmt ∷ rest) m Q m0 Q0 → UnitsBegin (part_with s a locals) t k (suc (length front)) front (stmt ∷ rest) m p m0 p0
    → AreJoined f (number_at x Q) (number_at x p) (number_at x (run stmt s.sharing.entry.turns Q).store) (number_at x (run stmt s.sharing.entry.turns p).store)
part_joined s a locals sub hw ha t k front stmt rest m Q p m0 Q0 p0 f x own below mine fm fQ e both part =
    let n = s.sharing.entry.turns in
    let l = s.sharing.entry.looped in
    let u = suc (length front) in
    let step = own_step s hw t k front stmt rest m Q m0 Q0 (sub u own) below mine fm fQ both in
    let index = index_within (part_with s a locals) ha k front (stmt ∷ rest) m below part.at in
    let body = part.at.body in
    let of = subst (AllByRecursion (IsOfAccess l s.sharing.entry.store (index_of s.sharing.entry s.sharing.first k))) (sym step.same) step.access in
    let alike = run_alike (linked_bond (part_with s a locals) t u (length m.scalars) (λ list id. Unit {0}) Q p) (has_inner (part_with s a locals) t u (length m.scalars) (λ list id. Unit {0}) Q p (omega (arith, index))) stmt n (unit_numbers (part_with s a locals) ha front stmt rest body) Q p
    (part_bound s a locals sub t k front (stmt ∷ rest) m Q p m0 Q0 p0 both part)
    (all_granted (part_with s a locals) ha t k front stmt rest (length m.scalars) (λ list id. Unit {0}) Q p below mine both.numbers part.numbers body own (deeds stmt n Q) (deeds_named stmt n Q) of) in
    let there = within_part s hw t k u f x front (stmt ∷ rest) m Q m0 Q0 below e both in
    place_joined (part_with s a locals) t u (length m.scalars) Q p (run stmt n Q).store (run stmt n p).store f x e (stays_there x stmt n Q there) alike.bound

-- a unit that is done goes on
pub run_goes : (stmt : Stmt) (n : ℕ) (q : Memory) (go : Memory → Ran) → (run stmt n q).end ≡ outcome.Done → then_do (run stmt n q) go ≡ go (run stmt n q).store
run_goes stmt n q go e = ap (λ (o : Outcome). then_from (run stmt n q).store o go) e

-- an iteration of a task begins
pub begins_in : (s : Fission) → MayBeApart s → (t k : ℕ) → k < s.sharing.count → s.sharing.owner k ≡ t
    → UnitsBegin s t k 1 [] s.sharing.entry.looped.body (declare (index_of s.sharing.entry s.sharing.first k) (thread s.sharing k)) (declare (index_of s.sharing.entry s.sharing.first k) (turns_to s t k).store) (thread s.sharing k) (turns_to s t k).store
begins_in s h t k below mine =
    let stands = stands_at s h t k (omega (arith, below)) in
    iteration_begins s h t k (turns_to s t k).store below stands.numbers (thread_access s h k below) (start_bound s h t k below mine stands)
