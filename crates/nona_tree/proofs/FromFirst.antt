-- The turns of a for, and what they give, from the first turn on.
use Rattle.std.proofs.Common.{◌≡◌, ◌+◌, ℕ, zero, suc, ℤ, pos, ◌+ℤ◌, List, [], ◌++◌, refl, sym, ap, ◌∙◌, arith, append_assoc}
use Rattle.std.proofs.lemmas.List.{append-nil}
use Rattle.std.proofs.lemmas.Int.{ints}
use Rattle.nona_tree.specs.declared.outcomes.Outcome.{Outcome}
use Rattle.nona_tree.specs.declared.outcomes.Outcome.TheVariants as outcome
use Rattle.nona_tree.specs.Memory.{Memory}
use Rattle.nona_tree.specs.Run.{Ran, done, then_from, then_do, first_turns}
use Rattle.nona_tree.specs.Beside.{on_end, on_done, first_give}

from_assoc : (m : Memory) (e : Outcome) (f g : Memory → Ran) → then_do (then_from m e f) g ≡ then_from m e (λ x. then_do (f x) g)
from_assoc m outcome.Done f g = refl
from_assoc m (outcome.Trap t) f g = refl
from_assoc m (outcome.OutOfTurns at) f g = refl

from_done : (m : Memory) (e : Outcome) → then_from m e (λ x. done x) ≡ record { store = m; end = e }
from_done m outcome.Done = refl
from_done m (outcome.Trap t) = refl
from_done m (outcome.OutOfTurns at) = refl

next_index : (low : ℤ) (k : ℕ) → low +ℤ pos (suc k) ≡ (low +ℤ pos 1) +ℤ pos k
next_index low k = omega (arith, ints)

first_index : (low : ℤ) → low +ℤ pos 0 ≡ low
first_index low = omega (arith, ints)

turns_at : (body : ℤ → Memory → Ran) (low : ℤ) (k : ℕ) (m : Memory) → first_turns body low (suc k) m ≡ then_do (body low m) (first_turns body (low +ℤ pos 1) k)
turns_at body low zero m =
    ap (λ i. body i m) (first_index low) ∙ sym (from_done (body low m).store (body low m).end)
turns_at body low (suc k) m =
    ap (λ r. then_do r (body (low +ℤ pos (suc k)))) (turns_at body low k m)
    ∙ from_assoc (body low m).store (body low m).end (first_turns body (low +ℤ pos 1) k) (body (low +ℤ pos (suc k)))
    ∙ ap (λ i. then_do (body low m) (λ x. then_do (first_turns body (low +ℤ pos 1) k x) (body i))) (next_index low k)

pub turns_from_first_on : (body : ℤ → Memory → Ran) (low : ℤ) (k : ℕ) (m : Memory) → first_turns body low (k + 1) m ≡ then_do (body low m) (first_turns body (low +ℤ pos 1) k)
turns_from_first_on body low k m =
    let one_more : k + 1 ≡ suc k = omega arith in
    ap (λ j. first_turns body low j m) one_more ∙ turns_at body low k m

gives_after : {B : Type 0} (m : Memory) (e : Outcome) (f : Memory → Ran) (given : Memory → List B)
    → on_done (then_from m e f) given ≡ on_end m e (λ x. on_done (f x) given)
gives_after m outcome.Done f given = refl
gives_after m (outcome.Trap t) f given = refl
gives_after m (outcome.OutOfTurns at) f given = refl

gives_both : {B : Type 0} (m : Memory) (e : Outcome) (f g : Memory → List B) → on_end m e f ++ on_end m e g ≡ on_end m e (λ x. f x ++ g x)
gives_both m outcome.Done f g = refl
gives_both m (outcome.Trap t) f g = refl
gives_both m (outcome.OutOfTurns at) f g = refl

gives_none : {B : Type 0} (m : Memory) (e : Outcome) → on_end {B = B} m e (λ x. []) ≡ []
gives_none m outcome.Done = refl
gives_none m (outcome.Trap t) = refl
gives_none m (outcome.OutOfTurns at) = refl

gives_at : {B : Type 0} (body : ℤ → Memory → Ran) (given : ℤ → Memory → List B) (low : ℤ) (k : ℕ) (m : Memory)
    → first_give body given low (suc k) m ≡ given low m ++ on_done (body low m) (first_give body given (low +ℤ pos 1) k)
gives_at body given low zero m =
    ap (λ i. given i m) (first_index low)
    ∙ sym (append-nil (given low m))
    ∙ ap (λ xs. given low m ++ xs) (sym (gives_none (body low m).store (body low m).end))
gives_at body given low (suc k) m =
    let r = body low m in
    let rest = first_give body given (low +ℤ pos 1) k in
    let later = first_turns body (low +ℤ pos 1) k in
    let last = given (low +ℤ pos (suc k)) in
    ap (λ xs. xs ++ on_done (first_turns body low (suc k) m) last) (gives_at body given low k m)
    ∙ append_assoc (given low m) (on_done r rest) (on_done (first_turns body low (suc k) m) last)
    ∙ ap (λ q. given low m ++ (on_done r rest ++ on_done q last)) (turns_at body low k m)
    ∙ ap (λ xs. given low m ++ (on_done r rest ++ xs)) (gives_after r.store r.end later last)
    ∙ ap (λ xs. given low m ++ xs) (gives_both r.store r.end rest (λ x. on_done (later x) last))
    ∙ ap (λ i. given low m ++ on_done r (λ x. rest x ++ on_done (later x) (given i))) (next_index low k)

pub gives_from_first_on : {B : Type 0} (body : ℤ → Memory → Ran) (given : ℤ → Memory → List B) (low : ℤ) (k : ℕ) (m : Memory)
    → first_give body given low (k + 1) m ≡ given low m ++ on_done (body low m) (first_give body given (low +ℤ pos 1) k)
gives_from_first_on body given low k m =
    let one_more : k + 1 ≡ suc k = omega arith in
    ap (λ j. first_give body given low j m) one_more ∙ gives_at body given low k m
