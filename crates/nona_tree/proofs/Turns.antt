-- The turns of a for, one after another.
use Rattle.std.proofs.Common.{◌≡◌, ◌≢◌, ◌<◌, ◌≤◌, ◌+◌, ℕ, zero, suc, ℤ, pos, ◌+ℤ◌, Bool, true, false, refl, ap, ◌∙◌, arith, if◌then◌else◌, ⊎_elim}
use Rattle.std.proofs.lemmas.Bool.{cases_lt, le-leb}
use Rattle.std.specs.Int.{int_gap}
use Rattle.std.specs.Prelude.{Ok, min, nat_le}
use Rattle.nona_tree.specs.declared.outcomes.Outcome.{Outcome}
use Rattle.nona_tree.specs.declared.outcomes.Outcome.TheVariants as outcome
use Rattle.nona_tree.specs.declared.trees.Loop.{Loop}
use Rattle.nona_tree.specs.declared.trees.Stmt.{For}
use Rattle.nona_tree.specs.Memory.{Memory}
use Rattle.nona_tree.specs.Value.{value_of}
use Rattle.nona_tree.specs.Run.{Ran, done, starved, with_value, then_from, then_do, turn, first_turns, for_turns, run, run_all}
use Rattle.nona_tree.proofs.Equations.{run-For}

-- one more turn, where those before are done
pub next_turn : (body : ℤ → Memory → Ran) (low : ℤ) (k : ℕ) (m r : Memory) → first_turns body low k m ≡ done r
    → first_turns body low (k + 1) m ≡ body (low +ℤ pos k) r
next_turn body low k m r h =
    let one_more : k + 1 ≡ suc k = omega arith in
    ap (λ j. first_turns body low j m) one_more ∙ ap (λ q. then_do q (body (low +ℤ pos k))) h

-- an end other than done stays
pub end_stays : (m : Memory) (e : Outcome) (go : Memory → Ran) → e ≢ outcome.Done → then_from m e go ≡ record { store = m; end = e }
end_stays m outcome.Done go ended = absurd (ended refl)
end_stays m (outcome.Trap t) go ended = refl
end_stays m (outcome.OutOfTurns at) go ended = refl

-- store and end both stay once a turn ended otherwise than done
pub turns_stay : (body : ℤ → Memory → Ran) (low : ℤ) (j k : ℕ) (m : Memory) → (first_turns body low j m).end ≢ outcome.Done → j ≤ k
    → first_turns body low k m ≡ first_turns body low j m
turns_stay body low j zero m ended within = let none : zero ≡ j = omega (arith, within) in ap (λ i. first_turns body low i m) none
turns_stay body low j (suc k) m ended within =
    ⊎_elim
    (λ (before : j < suc k).
    let same = turns_stay body low j k m ended (omega (arith, before)) in
    ap (λ q. then_do q (body (low +ℤ pos k))) same
    ∙ end_stays (first_turns body low j m).store (first_turns body low j m).end (body (low +ℤ pos k)) ended)
    (λ (here : suc k ≤ j). let all : suc k ≡ j = omega (arith, within, here) in ap (λ i. first_turns body low i m) all)
    (cases_lt j (suc k))

enough : (count n : ℕ) → count ≤ n → min count n ≡ count
enough count n h = omega (arith, h)

too_many : (count n : ℕ) → n < count → min count n ≡ n
too_many count n h = omega (arith, h)

-- a run goes on to itself
goes_on : (m : Memory) (e : Outcome) (b : Bool) (at : ℕ) → b ≡ true → then_from m e (λ r. if b then done r else starved at r) ≡ record { store = m; end = e }
goes_on m outcome.Done b at h = ap (λ (c : Bool). if c then done m else starved at m) h
goes_on m (outcome.Trap t) b at h = refl
goes_on m (outcome.OutOfTurns at') b at h = refl

-- all turns of a for that may take as many
pub all_turns : (at : ℕ) (body : ℤ → Memory → Ran) (low : ℤ) (count n : ℕ) (m : Memory) → count ≤ n → for_turns at body low count n m ≡ first_turns body low count m
all_turns at body low count n m h =
    ap (λ k. then_do (first_turns body low k m) (λ r. if nat_le count n then done r else starved at r)) (enough count n h)
    ∙ goes_on (first_turns body low count m).store (first_turns body low count m).end (nat_le count n) at (le-leb count n h)

not_le : (count n : ℕ) → n < count → nat_le count n ≡ false
not_le count n h = grind arith

-- a for that would take more turns than it may
pub out_of_turns : (at : ℕ) (body : ℤ → Memory → Ran) (low : ℤ) (count n : ℕ) (m : Memory) → n < count
    → for_turns at body low count n m ≡ then_do (first_turns body low n m) (starved at)
out_of_turns at body low count n m h =
    ap (λ k. then_do (first_turns body low k m) (λ r. if nat_le count n then done r else starved at r)) (too_many count n h)
    ∙ ap (λ (b : Bool). then_do (first_turns body low n m) (λ r. if b then done r else starved at r)) (not_le count n h)

-- a for whose bounds have these values
pub for_between : (l : Loop) (n : ℕ) (m : Memory) (a b : ℤ) → value_of l.low m ≡ Ok a → value_of l.high m ≡ Ok b
    → run (For l) n m ≡ for_turns l.at (turn (run_all l.body n)) a (int_gap a b) n m
for_between l n m a b low high =
    run-For l n m
    ∙ ap (λ o. with_value o m (λ x. with_value (value_of l.high m) m (λ y. for_turns l.at (turn (run_all l.body n)) x (int_gap x y) n m))) low
    ∙ ap (λ o. with_value o m (λ y. for_turns l.at (turn (run_all l.body n)) a (int_gap a y) n m)) high

-- such a for has done all its turns
pub for_in_turns : (l : Loop) (n : ℕ) (m : Memory) (a b : ℤ) → value_of l.low m ≡ Ok a → value_of l.high m ≡ Ok b → int_gap a b ≤ n
    → run (For l) n m ≡ first_turns (turn (run_all l.body n)) a (int_gap a b) m
for_in_turns l n m a b low high h =
    for_between l n m a b low high ∙ all_turns l.at (turn (run_all l.body n)) a (int_gap a b) n m h

-- or as many as it may, and then it is out of turns unless it ended otherwise before
pub for_out_of_turns : (l : Loop) (n : ℕ) (m : Memory) (a b : ℤ) → value_of l.low m ≡ Ok a → value_of l.high m ≡ Ok b → n < int_gap a b
    → run (For l) n m ≡ then_do (first_turns (turn (run_all l.body n)) a n m) (starved l.at)
for_out_of_turns l n m a b low high h =
    for_between l n m a b low high ∙ out_of_turns l.at (turn (run_all l.body n)) a (int_gap a b) n m h
