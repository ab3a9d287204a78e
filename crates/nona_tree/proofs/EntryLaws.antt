-- The state after some iterations of a loop, and the whole loop.
use Rattle.std.proofs.Common.{◌≡◌, ◌≢◌, ◌<◌, ◌≤◌, ◌+◌, ℕ, ℤ, pos, ◌+ℤ◌, ap, ◌∙◌}
use Rattle.std.specs.Int.{int_gap}
use Rattle.std.specs.Prelude.{Ok}
use Rattle.nona_tree.specs.declared.outcomes.Outcome.TheVariants as outcome
use Rattle.nona_tree.specs.declared.trees.Stmt.{For}
use Rattle.nona_tree.specs.Memory.{Memory}
use Rattle.nona_tree.specs.Value.{value_of}
use Rattle.nona_tree.specs.Run.{run, run_all, turn, then_do, done, starved}
use Rattle.nona_tree.specs.Entries.{Entry, after}
use Rattle.nona_tree.proofs.Turns.{next_turn, turns_stay, end_stays, for_in_turns, for_out_of_turns}

pub after_one_more : (e : Entry) (k : ℕ) (m : Memory) → after e k ≡ done m → after e (k + 1) ≡ turn (run_all e.looped.body e.turns) (e.low +ℤ pos k) m
after_one_more e k m h = next_turn (turn (run_all e.looped.body e.turns)) e.low k e.store m h

pub after_stays : (e : Entry) (j k : ℕ) → j ≤ k → (after e j).end ≢ outcome.Done → after e k ≡ after e j
after_stays e j k within ended = turns_stay (turn (run_all e.looped.body e.turns)) e.low j k e.store ended within

pub loop_whole : (e : Entry) (high : ℤ) → value_of e.looped.low e.store ≡ Ok e.low → value_of e.looped.high e.store ≡ Ok high
    → int_gap e.low high ≤ e.turns → run (For e.looped) e.turns e.store ≡ after e (int_gap e.low high)
loop_whole e high low_is high_is h = for_in_turns e.looped e.turns e.store e.low high low_is high_is h

pub loop_starved : (e : Entry) (high : ℤ) (m : Memory) → value_of e.looped.low e.store ≡ Ok e.low → value_of e.looped.high e.store ≡ Ok high
    → e.turns < int_gap e.low high → after e e.turns ≡ done m → run (For e.looped) e.turns e.store ≡ starved e.looped.at m
loop_starved e high m low_is high_is h is_done =
    for_out_of_turns e.looped e.turns e.store e.low high low_is high_is h
    ∙ ap (λ r. then_do r (starved e.looped.at)) is_done

pub loop_ended : (e : Entry) (high : ℤ) → value_of e.looped.low e.store ≡ Ok e.low → value_of e.looped.high e.store ≡ Ok high
    → e.turns < int_gap e.low high → (after e e.turns).end ≢ outcome.Done → run (For e.looped) e.turns e.store ≡ after e e.turns
loop_ended e high low_is high_is h ended =
    for_out_of_turns e.looped e.turns e.store e.low high low_is high_is h
    ∙ end_stays (after e e.turns).store (after e e.turns).end (starved e.looped.at) ended
