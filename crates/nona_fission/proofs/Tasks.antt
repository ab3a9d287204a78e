-- The stores of one thread, and the numbers in them; numbers that are joined alike; and what holds of each of some deeds.
use Rattle.std.proofs.Common.{◌≡◌, ⊎_elim, ℕ, zero, suc, ◌+◌, ◌<◌, ◌≤◌, Bool, true, false, ℤ, pos, ◌≤ℤ◌, ◌<ℤ◌, List, [], ◌∷◌, length, map, refl, sym, ap, ◌∙◌, subst, arith, if◌then◌else◌}
use Rattle.std.specs.Prelude.{Some}
use Rattle.std.specs.List.{AllByRecursion}
use Rattle.std.proofs.lemmas.Bool.{cases_eq, cases_lt}
use Rattle.std.proofs.lemmas.Int.{ints}
use Rattle.std.proofs.lemmas.List.{get_or_past}
use Rattle.std.proofs.lemmas.List.Elements.{All-get_or, All-append, All-cons, All-nil}
use Rattle.nona_num.specs.declared.folds.Fold.{Fold}
use Rattle.nona_num.specs.Folds.{unit_of, join_of}
use Rattle.nona_num.proofs.FoldLaws.{join_assoc, join_comm, join_unit, join_fits}
use Rattle.nona_tree.specs.declared.outcomes.Outcome.{Outcome}
use Rattle.nona_tree.specs.declared.outcomes.Outcome.TheVariants as outcome
use Rattle.nona_tree.specs.declared.trees.Loop.{Loop}
use Rattle.nona_tree.specs.Deeds.{Deed}
use Rattle.nona_tree.specs.Entries.{after}
use Rattle.nona_tree.specs.Memory.{Memory, scalar_at, declare}
use Rattle.nona_tree.specs.Numbers.{IsI64, AreI64}
use Rattle.nona_tree.specs.Run.{Ran, done}
use Rattle.nona_forms.specs.Affine.{among}
use Rattle.nona_forms.specs.References.{HasValue, as_in, missing_below, assigned_all}
use Rattle.nona_forms.specs.Touched.{MayBegin}
use Rattle.nona_fission.specs.Sharing.{Sharing, store_before, index_of}

-- the store after so many of the iterations that are shared out
abbrev pub thread : Sharing → ℕ → Memory
thread s k = (after s.entry (s.first + k)).store

none : (k : ℕ) → k + 0 ≡ k
none k = omega arith

pub thread_zero : (s : Sharing) → thread s 0 ≡ store_before s
thread_zero s = ap (λ k. (after s.entry k).store) (none s.first)

pub as_done : (r : Ran) → r.end ≡ outcome.Done → r ≡ done r.store
as_done r e = ap (λ (x : Outcome). record { store = r.store; end = x }) e

pub further : (a b : ℕ) → a + suc b ≡ (a + b) + 1
further a b = omega arith

pub from_low : (s : Sharing) (k : ℕ) → s.entry.low ≤ℤ index_of s.entry s.first k
from_low s k = omega (arith, ints)

-- an index lies between the bounds' values, which have 64 bits
pub between_fits : (a b v : ℤ) → IsI64 a → IsI64 b → a ≤ℤ v → v <ℤ b → IsI64 v
between_fits a b v h g from to = omega (arith, ints, h, g, from, to)

-- numbers of 64 bits in a store

pub zero_number : IsI64 (pos 0)
zero_number = omega arith

pub scalar_number : (m : Memory) (x : ℕ) → AreI64 m → IsI64 (scalar_at m x)
scalar_number m x h =
    ⊎_elim (λ (there : x < length m.scalars). All-get_or IsI64 m.scalars x (pos 0) there h.scalars)
    (λ (past : length m.scalars ≤ x). subst IsI64 (sym (get_or_past m.scalars x (pos 0) past)) zero_number) (cases_lt x (length m.scalars))

pub declare_numbers : (v : ℤ) (m : Memory) → IsI64 v → AreI64 m → AreI64 (declare v m)
declare_numbers v m fits h = record { scalars = All-append IsI64 m.scalars (v ∷ []) h.scalars (All-cons IsI64 v [] fits (All-nil IsI64)); arrays = h.arrays; printed = h.printed }

-- numbers that are joined

-- two numbers are two others, both joined with one
pub record AreJoined (f : Fold) (m q u v : ℤ) : Type 0 where
  pub by : ℤ
  pub fits : IsI64 by
  pub first : u ≡ join_of f m by
  pub second : v ≡ join_of f q by

pub same_fold : (f g : Fold) → Some f ≡ Some g → f ≡ g
same_fold f g e = cc

pub join_more : (f : Fold) (m q u v w : ℤ) → IsI64 m → IsI64 q → IsI64 w → AreJoined f m q u v → AreJoined f m q (join_of f u w) (join_of f v w)
join_more f m q u v w fm fq fw h = record {
  by = join_of f h.by w;
  fits = join_fits f h.by w h.fits fw;
  first = ap (λ z. join_of f z w) h.first ∙ join_assoc f m h.by w fm h.fits fw;
  second = ap (λ z. join_of f z w) h.second ∙ join_assoc f q h.by w fq h.fits fw;
}

pub unit_join : (f : Fold) (v : ℤ) → IsI64 v → v ≡ join_of f v (unit_of f)
unit_join f v fits = sym (join_comm f v (unit_of f) ∙ join_unit f v fits)

-- scalars that no iteration changes

one_free_if : (entry q : Memory) (n : ℕ) (xs : List ℕ) (x : ℕ) (b : Bool) → among n xs ≡ b → AllByRecursion (HasValue q) (map (as_in entry) (if b then missing_below n xs else n ∷ missing_below n xs))
    → x < suc n → among x xs ≡ false → (AllByRecursion (HasValue q) (map (as_in entry) (missing_below n xs)) → x < n → scalar_at q x ≡ scalar_at entry x) → scalar_at q x ≡ scalar_at entry x
one_free_if entry q n xs x true e h below free go =
    ⊎_elim (λ (here : x ≡ n). let no : true ≡ false = sym e ∙ ap (λ z. among z xs) (sym here) ∙ free in cc) (λ (apart : x ≡ n → ⊥). go h (omega (arith, below, apart))) (cases_eq x n)
one_free_if entry q n xs x false e h below free go =
    ⊎_elim (λ (here : x ≡ n). subst (λ z. scalar_at q z ≡ scalar_at entry z) (sym here) h.0) (λ (apart : x ≡ n → ⊥). go h.1 (omega (arith, below, apart))) (cases_eq x n)

one_free : (entry q : Memory) (n : ℕ) (xs : List ℕ) (x : ℕ) → AllByRecursion (HasValue q) (map (as_in entry) (missing_below n xs)) → x < n → among x xs ≡ false → scalar_at q x ≡ scalar_at entry x
one_free entry q zero xs x h below free = absurd (omega (arith, below))
one_free entry q (suc n) xs x h below free = one_free_if entry q n xs x (among n xs) refl h below free (λ rest less. one_free entry q n xs x rest less free)

-- in a store in which an iteration may begin, each unassigned scalar from outside is as in the entry's
pub begun_value : (l : Loop) (entry q : Memory) (x : ℕ) → MayBegin l entry q → x < l.index.id → among x (assigned_all l.body) ≡ false → scalar_at q x ≡ scalar_at entry x
begun_value l entry q x h below free = one_free entry q l.index.id (assigned_all l.body) x h.kept.values below free

-- what holds of each deed
pub each_of : (P Q : Deed → Type 0) → ((d : Deed) → P d → Q d) → (ds : List Deed) → AllByRecursion P ds → AllByRecursion Q ds
each_of P Q go [] h = tt
each_of P Q go (d ∷ ds) h = (go d h.0, each_of P Q go ds h.1)
