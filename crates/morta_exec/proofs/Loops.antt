-- The whole loop of an entry, by its iterations.
use Rattle.std.proofs.Common.{◌≡◌, ◌≢◌, ◌⊎◌, ◌<◌, ◌≤◌, ◌+◌, ℕ, zero, suc, ℤ, pos, negsuc, ◌+ℤ◌, List, refl, sym, ap, subst, ◌∙◌, arith, min, inl, inr, ⊎_elim}
use Rattle.std.specs.Prelude.{Ok}
use Rattle.std.proofs.lemmas.Bool.{cases_lt}
use Rattle.std.proofs.lemmas.Int.{ints}
use Rattle.std.specs.Int.{int_gap}
use Rattle.nona_tree.specs.declared.outcomes.Outcome.{Outcome}
use Rattle.nona_tree.specs.declared.outcomes.Outcome.TheVariants as outcome
use Rattle.nona_tree.specs.declared.trees.Stmt.{Stmt, For}
use Rattle.nona_tree.specs.Memory.{Memory, Extends}
use Rattle.nona_tree.specs.Value.{value_of}
use Rattle.nona_tree.specs.Run.{Ran, run, run_all, turn, first_turns, done, starved}
use Rattle.nona_tree.specs.Entries.{Entry, after}
use Rattle.morta_task.specs.Entries.{EntryView, IsEntered, last, before, loop_of, state_after}
use Rattle.morta_exec.specs.EntryRun.{whole_loop, LoopsOfEntries}
use Rattle.morta_exec.proofs.Growing.{extends_same, extends_chain}

-- what the laws of the meaning say of loops
pub record Laws : Type 0 where
  pub whole : (e : Entry) (high : ℤ) → value_of e.looped.low e.store ≡ Ok e.low → value_of e.looped.high e.store ≡ Ok high
      → int_gap e.low high ≤ e.turns → run (For e.looped) e.turns e.store ≡ after e (int_gap e.low high)
  pub starves : (e : Entry) (high : ℤ) (m : Memory) → value_of e.looped.low e.store ≡ Ok e.low → value_of e.looped.high e.store ≡ Ok high
      → e.turns < int_gap e.low high → after e e.turns ≡ done m → run (For e.looped) e.turns e.store ≡ starved e.looped.at m
  pub ended : (e : Entry) (high : ℤ) → value_of e.looped.low e.store ≡ Ok e.low → value_of e.looped.high e.store ≡ Ok high
      → e.turns < int_gap e.low high → (after e e.turns).end ≢ outcome.Done → run (For e.looped) e.turns e.store ≡ after e e.turns
  pub next : (e : Entry) (k : ℕ) (m : Memory) → after e k ≡ done m → after e (k + 1) ≡ turn (run_all e.looped.body e.turns) (e.low +ℤ pos k) m
  pub stays : (e : Entry) (j k : ℕ) → j ≤ k → (after e j).end ≢ outcome.Done → after e k ≡ after e j
  pub grows : (ss : List Stmt) (n : ℕ) (low : ℤ) (k : ℕ) (m : Memory) → Extends m.printed (first_turns (turn (run_all ss n)) low k m).store.printed

-- how far a number lies above another one that it was made from
above : (low z : ℤ) (k : ℕ) → z ≡ low +ℤ pos k → int_gap low z ≡ k
above (pos a) (pos b) k h = omega (arith, ints, h)
above (pos a) (negsuc b) k h = absurd (omega (arith, ints, h))
above (negsuc a) (pos b) k h = omega (arith, ints, h)
above (negsuc a) (negsuc b) k h = omega (arith, ints, h)

-- an entry's last number lies as far above its low as it has iterations
pub before_last : (e : EntryView) → before e (last e) ≡ min (int_gap e.low e.high) e.turns
before_last e = above e.low (last e) (min (int_gap e.low e.high) e.turns) refl

pub before_low : (e : EntryView) → before e e.low ≡ 0
before_low e = above e.low e.low 0 (omega (arith, ints))

min_of : (a b c : ℕ) → c ≡ min a b → a ≤ b → c ≡ a
min_of a b c is h = omega (arith, is, h)

min_other : (a b c : ℕ) → c ≡ min a b → b < a → c ≡ b
min_other a b c is h = omega (arith, is, h)

-- which are all its turns, or as many as it may take
all_turns : (e : EntryView) → int_gap e.low e.high ≤ e.turns → before e (last e) ≡ int_gap e.low e.high
all_turns e enough = min_of (int_gap e.low e.high) e.turns (before e (last e)) (before_last e) enough

no_more : (e : EntryView) → e.turns < int_gap e.low e.high → before e (last e) ≡ e.turns
no_more e few = min_other (int_gap e.low e.high) e.turns (before e (last e)) (before_last e) few

loop_whole : Laws → (e : EntryView) → IsEntered e → int_gap e.low e.high ≤ e.turns → whole_loop e ≡ state_after e (before e (last e))
unfolding whole_loop
loop_whole laws e is enough = laws.whole (loop_of e) e.high is.low_is is.high_is enough ∙ ap (state_after e) (sym (all_turns e enough))

loop_starves : Laws → (e : EntryView) (m : Memory) → IsEntered e → state_after e (before e (last e)) ≡ done m → e.turns < int_gap e.low e.high → whole_loop e ≡ starved e.looped.at m
unfolding whole_loop
loop_starves laws e m is all few =
    laws.starves (loop_of e) e.high m is.low_is is.high_is few (ap (state_after e) (sym (no_more e few)) ∙ all)

loop_ended : Laws → (e : EntryView) → IsEntered e → (state_after e (before e (last e))).end ≢ outcome.Done → e.turns < int_gap e.low e.high → whole_loop e ≡ state_after e (before e (last e))
unfolding whole_loop
loop_ended laws e is other few =
    laws.ended (loop_of e) e.high is.low_is is.high_is few (λ h. other (ap (λ k. (state_after e k).end) (no_more e few) ∙ h))
    ∙ ap (state_after e) (sym (no_more e few))

-- the loop ends with an iteration that ended otherwise than done
loop_over : Laws → (e : EntryView) (k : ℕ) → IsEntered e → k ≤ before e (last e) → (state_after e k).end ≢ outcome.Done → whole_loop e ≡ state_after e k
loop_over laws e k is within other =
    let stays : state_after e (before e (last e)) ≡ state_after e k = laws.stays (loop_of e) k (before e (last e)) within other in
    ⊎_elim
    (λ (few : e.turns < int_gap e.low e.high). loop_ended laws e is (λ h. other (ap (λ (r : Ran). r.end) (sym stays) ∙ h)) few ∙ stays)
    (λ (enough : int_gap e.low e.high ≤ e.turns). loop_whole laws e is enough ∙ stays)
    (cases_lt e.turns (int_gap e.low e.high))

-- a run is done or not
is_done : (end : Outcome) → (end ≡ outcome.Done) ⊎ (end ≢ outcome.Done)
is_done outcome.Done = inl refl
is_done (outcome.Trap t) = inr (λ h. cc)
is_done (outcome.OutOfTurns at) = inr (λ h. cc)

done_in : (r : Ran) → r.end ≡ outcome.Done → r ≡ done r.store
done_in r is = ap (λ (o : Outcome). let q : Ran = record { store = r.store; end = o } in q) is

-- the store that the loop leaves
loop_store : Laws → (e : EntryView) → IsEntered e → (whole_loop e).store ≡ (state_after e (before e (last e))).store
loop_store laws e is =
    let r = state_after e (before e (last e)) in
    ⊎_elim
    (λ (few : e.turns < int_gap e.low e.high).
    ⊎_elim
    (λ (here : r.end ≡ outcome.Done). ap (λ (q : Ran). q.store) (loop_starves laws e r.store is (done_in r here) few))
    (λ (other : r.end ≢ outcome.Done). ap (λ (q : Ran). q.store) (loop_ended laws e is other few))
    (is_done r.end))
    (λ (enough : int_gap e.low e.high ≤ e.turns). ap (λ (q : Ran). q.store) (loop_whole laws e is enough))
    (cases_lt e.turns (int_gap e.low e.high))

turn_grows : Laws → (e : EntryView) (i : ℤ) (m : Memory) → Extends m.printed (turn (run_all e.looped.body e.turns) i m).store.printed
turn_grows laws e i m =
    let same : i +ℤ pos 0 ≡ i = omega (arith, ints) in
    subst (λ (j : ℤ). Extends m.printed (turn (run_all e.looped.body e.turns) j m).store.printed) same (laws.grows e.looped.body e.turns i 1 m)

-- one iteration more only adds to what is printed
next_grows : Laws → (e : EntryView) (k : ℕ) → Extends (state_after e k).store.printed (state_after e (k + 1)).store.printed
next_grows laws e k =
    let r = state_after e k in
    ⊎_elim
    (λ (here : r.end ≡ outcome.Done).
    subst (λ (q : Ran). Extends r.store.printed q.store.printed) (sym (laws.next (loop_of e) k r.store (done_in r here))) (turn_grows laws e (e.low +ℤ pos k) r.store))
    (λ (other : r.end ≢ outcome.Done).
    subst (λ (q : Ran). Extends r.store.printed q.store.printed) (sym (laws.stays (loop_of e) k (k + 1) (omega arith) other)) (extends_same r.store.printed))
    (is_done r.end)

-- more iterations only add to it
after_grows : Laws → (e : EntryView) (j k : ℕ) → j ≤ k → Extends (state_after e j).store.printed (state_after e k).store.printed
after_grows laws e j zero within =
    let none : j ≡ zero = omega (arith, within) in
    subst (λ i. Extends (state_after e j).store.printed (state_after e i).store.printed) none (extends_same (state_after e j).store.printed)
after_grows laws e j (suc k) within =
    let one_more : k + 1 ≡ suc k = omega arith in
    ⊎_elim
    (λ (before : j < suc k).
    extends_chain (state_after e j).store.printed (state_after e k).store.printed (state_after e (suc k)).store.printed
    (after_grows laws e j k (omega (arith, before)))
    (subst (λ i. Extends (state_after e k).store.printed (state_after e i).store.printed) one_more (next_grows laws e k)))
    (λ (here : suc k ≤ j).
    let all : j ≡ suc k = omega (arith, within, here) in
    subst (λ i. Extends (state_after e j).store.printed (state_after e i).store.printed) all (extends_same (state_after e j).store.printed))
    (cases_lt j (suc k))

pub loops_are : Laws → LoopsOfEntries
loops_are laws = record {
  whole = λ e m is all enough. loop_whole laws e is enough ∙ all;
  starves = loop_starves laws;
  over = loop_over laws;
  grows = after_grows laws;
  leads = λ e k is within.
      subst (λ (m : Memory). Extends (state_after e k).store.printed m.printed) (sym (loop_store laws e is)) (after_grows laws e k (before e (last e)) within);
}
