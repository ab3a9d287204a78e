-- The iterations of an entry in one thread, by the state after them.
use Rattle.std.proofs.Common.{◌≡◌, ◌≢◌, ◌<◌, ◌≤◌, ◌+◌, ◌-◌, ℕ, ℤ, pos, negsuc, ◌+ℤ◌, length, refl, sym, ap, subst, subst₂, ◌∙◌, arith, None, List}
use Rattle.std.specs.Prelude.{min}
use Rattle.std.specs.Int.{int_gap}
use Rattle.std.proofs.lemmas.Int.{ints}
use Rattle.std.proofs.lemmas.List.{length-map}
use Rattle.nona_tree.specs.declared.outcomes.Outcome.{Outcome}
use Rattle.nona_tree.specs.declared.outcomes.Outcome.TheVariants as outcome
use Rattle.nona_tree.specs.declared.trees.Stmt.{Stmt}
use Rattle.nona_tree.specs.Memory.{Memory}
use Rattle.nona_tree.specs.Run.{Ran as End, done, run_all, turn}
use Rattle.nona_tree.specs.Scope.{AreScoped}
use Rattle.nona_tree.proofs.Equations.{scoped-For}
use Rattle.nona_tree.proofs.EntryLaws.{after_one_more, after_stays}
use Rattle.nona_tree.proofs.Depth.{turns_depth}
use Rattle.nona_tree.proofs.Keeps.{SameArrays, arrays_kept, turns_kept}
use Rattle.morta_task.specs.declared.schemes.Config.{Config}
use Rattle.morta_task.specs.declared.schemes.Scheme.TheVariants.{Seq}
use Rattle.morta_task.specs.declared.intervals.Cut.{Cut}
use Rattle.morta_task.specs.declared.intervals.Cut.TheVariants.{Limit, Paused}
use Rattle.morta_task.specs.declared.intervals.Ran.{Ran}
use Rattle.morta_task.specs.declared.intervals.Handoff.{Handoff}
use Rattle.morta_task.specs.Entries.{EntryView, IsEntered, IsWithin, last, before, loop_of, state_after}
use Rattle.morta_task.specs.Running.{IsDone, CutSays, HandsOn, cut_of}

-- how far a number lies above another one that it was made from
above : (low z : ℤ) (k : ℕ) → z ≡ low +ℤ pos k → int_gap low z ≡ k
above (pos a) (pos b) k h = omega (arith, ints, h)
above (pos a) (negsuc b) k h = absurd (omega (arith, ints, h))
above (negsuc a) (pos b) k h = omega (arith, ints, h)
above (negsuc a) (negsuc b) k h = omega (arith, ints, h)

-- so many iterations on, as many more come before the index
pub further : (e : EntryView) (from to : ℤ) (j : ℕ) → IsWithin e from → to ≡ from +ℤ pos j → before e to ≡ before e from + j
further e from to j within is = above e.low to (before e from + j) (omega (arith, ints, within.0, is))

-- an entry goes on for so many iterations from an index of it
left_over : (e : EntryView) (from : ℤ) → IsWithin e from → int_gap from (last e) ≡ before e (last e) - before e from
left_over e from within =
    let most = above e.low (last e) (min (int_gap e.low e.high) e.turns) refl in
    above from (last e) (before e (last e) - before e from) (omega (arith, ints, within.0, within.1, most))

within_on : (e : EntryView) (from to : ℤ) (j : ℕ) → IsWithin e from → to ≡ from +ℤ pos j → j ≤ int_gap from (last e) → IsWithin e to
within_on e from to j within is room =
    let there = further e from to j within is in
    let rest = left_over e from within in
    (omega (arith, ints, within.0, is, there), omega (arith, there, rest, room, within.1))

is_done : (o : Outcome) → (o ≢ outcome.Done → ⊥) → o ≡ outcome.Done
is_done outcome.Done h = refl
is_done (outcome.Trap t) h = absurd (h (λ e. cc))
is_done (outcome.OutOfTurns at) h = absurd (h (λ e. cc))

-- the iterations before one that is done are done
done_before : (e : EntryView) (n k : ℕ) (m : Memory) → state_after e n ≡ done m → k ≤ n → (state_after e k).end ≡ outcome.Done
done_before e n k m reached fewer =
    is_done (state_after e k).end (λ other. other (sym (ap (λ r. r.end) (after_stays (loop_of e) k n fewer other)) ∙ ap (λ r. r.end) reached))

-- what the body names is there in each iteration
pub scoped_on : (e : EntryView) (k : ℕ) (m : Memory) → IsEntered e → state_after e k ≡ done m → AreScoped e.looped.body (length m.scalars + 1) (length m.arrays)
scoped_on e k m entered reached =
    let parts = subst (λ P. P) (scoped-For e.looped (length e.store.scalars) (length e.store.arrays)) entered.scoped in
    let scalars : length m.scalars ≡ length e.store.scalars =
    sym (ap (λ r. length r.store.scalars) reached) ∙ turns_depth e.looped.body e.turns e.low k e.store in
    let same : SameArrays e.store m = subst (λ r. SameArrays e.store r.store) reached (turns_kept SameArrays arrays_kept e.looped.body e.turns e.low k e.store) in
    let arrays : length m.arrays ≡ length e.store.arrays = sym (length-map m.arrays length) ∙ ap length same ∙ length-map e.store.arrays length in
    subst₂ (λ d a. AreScoped e.looped.body (d + 1) a) (sym scalars) (sym arrays) parts.3

-- one iteration more, of this body with these turns
pub one_on : (e : EntryView) (from index : ℤ) (k n : ℕ) (body : List Stmt) (m : Memory) (r : End) → IsWithin e from → body ≡ e.looped.body → n ≡ e.turns
    → index ≡ from +ℤ pos k → state_after e (before e from + k) ≡ done m → turn (run_all body n) index m ≡ r → state_after e (before e from + (k + 1)) ≡ r
one_on e from index k n body m r within same turns is reached ran =
    let more : before e from + (k + 1) ≡ (before e from + k) + 1 = omega arith in
    let here : e.low +ℤ pos (before e from + k) ≡ index = omega (arith, ints, within.0, is) in
    ap (state_after e) more ∙ after_one_more (loop_of e) (before e from + k) m reached
    ∙ (λ i. turn (run_all (sym same i) (sym turns i)) (here i) m) ∙ ran

-- all iterations up to a limit
pub all_on : (e : EntryView) (from : ℤ) (k limit : ℕ) (r : End) → k ≤ limit → limit ≤ k → state_after e (before e from + k) ≡ r → state_after e (before e from + limit) ≡ r
all_on e from k limit r most least reached =
    let same : before e from + limit ≡ before e from + k = omega arith in
    ap (state_after e) same ∙ reached

-- an interval that came to its limit
pub done_limit : (e : EntryView) (c : Config) (from to : ℤ) (limit : ℕ) (m : Memory) (d : Ran) → IsWithin e from → to ≡ from +ℤ pos limit → limit ≤ int_gap from (last e)
    → state_after e (before e from + limit) ≡ done m → d ≡ record { to = to; work = None; ticks = 1; cut = Limit } → IsDone e c from limit d
done_limit e c from to limit m d within is room reached here =
    let there = further e from to limit within is in
    subst (IsDone e c from limit) (sym here) (record {
      within = within_on e from to limit within is room;
      begins = omega (arith, there);
      ends = omega (arith, there);
      quiet = λ k h. done_before e (before e from + limit) (k + 1) m reached (omega (arith, h, there));
      cut = (there, ap (λ b. (state_after e b).end) there ∙ ap (λ r. r.end) reached);
      ticks = omega arith;
    })

cut_said : (e : EntryView) (c : Config) (a limit b begun : ℕ) (end : Outcome) → end ≢ outcome.Done → c.scheme ≡ Seq → a < b
    → (state_after e b).end ≡ end → CutSays e c a limit b (cut_of end begun limit)
cut_said e c a limit b begun outcome.Done other seq more is = absurd (other refl)
cut_said e c a limit b begun (outcome.Trap t) other seq more is = (seq, more, is)
cut_said e c a limit b begun (outcome.OutOfTurns at) other seq more is = (seq, more, is)

-- it wasn't paused
pub not_paused : (end : Outcome) (begun limit : ℕ) (cut : Cut) → end ≢ outcome.Done → cut ≡ cut_of end begun limit → cut ≢ Paused
not_paused outcome.Done begun limit cut other is paused = other refl
not_paused (outcome.Trap t) begun limit cut other is paused = cc
not_paused (outcome.OutOfTurns at) begun limit cut other is paused = cc

-- an interval whose last iteration ended otherwise
pub done_end : (e : EntryView) (c : Config) (from to : ℤ) (limit k : ℕ) (m r : Memory) (end : Outcome) (cut : Cut) (d : Ran) → c.scheme ≡ Seq → IsWithin e from
    → to ≡ from +ℤ pos (k + 1) → k < limit → limit ≤ int_gap from (last e) → end ≢ outcome.Done → state_after e (before e from + k) ≡ done m
    → state_after e (before e from + (k + 1)) ≡ record { store = r; end = end } → cut ≡ cut_of end (k + 1) limit → d ≡ record { to = to; work = None; ticks = 1; cut = cut }
    → IsDone e c from limit d
done_end e c from to limit k m r end cut d seq within is below room other reached stopped why here =
    let there = further e from to (k + 1) within is in
    subst (IsDone e c from limit) (sym (here ∙ ap (λ (k : Cut). let x : Ran = record { to = to; work = None; ticks = 1; cut = k } in x) why)) (record {
      within = within_on e from to (k + 1) within is (omega (arith, below, room));
      begins = omega (arith, there);
      ends = omega (arith, there, below);
      quiet = λ j h. done_before e (before e from + k) (j + 1) m reached (omega (arith, h, there));
      cut = cut_said e c (before e from) limit (before e to) (k + 1) end other seq (omega (arith, there)) (ap (λ b. (state_after e b).end) there ∙ ap (λ q. q.end) stopped);
      ticks = omega arith;
    })

-- what an interval hands on, that ended before this index
pub handed_on : (e : EntryView) (from to : ℤ) (j : ℕ) (r : Memory) (end : Outcome) (cut : Cut) (h : Handoff) (d : Ran) → IsWithin e from → to ≡ from +ℤ pos j
    → state_after e (before e from + j) ≡ record { store = r; end = end } → h ≡ record { next = to; store = r } → d ≡ record { to = to; work = None; ticks = 1; cut = cut }
    → HandsOn e d h
handed_on e from to j r end cut h d within is reached handoff ran = record {
  next = ap (λ (x : Handoff). x.next) handoff ∙ sym (ap (λ (x : Ran). x.to) ran);
  store = ap (λ (x : Handoff). x.store) handoff
      ∙ sym (ap (λ (x : Ran). (state_after e (before e x.to)).store) ran ∙ ap (λ b. (state_after e b).store) (further e from to j within is) ∙ ap (λ (q : End). q.store) reached);
}
