-- What a run gives in order, beside the run itself: each combinator of the run has one for lists here.
use Rattle.std.specs.Prelude.{ℕ, zero, suc, if◌then◌else◌, ℤ, pos, ◌+ℤ◌, List, [], ◌++◌, Result, Ok, Err}
use Rattle.nona_tree.specs.declared.outcomes.Trap.{Trap}
use Rattle.nona_tree.specs.declared.outcomes.Outcome.{Outcome}
use Rattle.nona_tree.specs.declared.outcomes.Outcome.TheVariants as outcome
use Rattle.nona_tree.specs.Memory.{Memory}
use Rattle.nona_tree.specs.Value.{Answer, is_zero}
use Rattle.nona_tree.specs.Run.{Ran, first_turns}

-- goes on with a value; a trap gives nothing more
abbrev pub on_ok : {A B : Type 0} → Result A Trap → (A → List B) → List B
on_ok (Ok v) go = go v
on_ok (Err t) go = []

-- goes on from a store, unless the run has ended otherwise
abbrev pub on_end : {B : Type 0} → Memory → Outcome → (Memory → List B) → List B
on_end m outcome.Done go = go m
on_end m (outcome.Trap t) go = []
on_end m (outcome.OutOfTurns at) go = []

-- goes on from where a run is done
abbrev pub on_done : {B : Type 0} → Ran → (Memory → List B) → List B
on_done r go = on_end r.store r.end go

-- what a while gives that may take n more turns: each time first what its test gives, then what its body does
abbrev pub while_gives : {B : Type 0} → (Memory → Answer) → (Memory → List B) → (Memory → Ran) → (Memory → List B) → ℕ → Memory → List B
while_gives test asked body given zero m = asked m
while_gives test asked body given (suc n) m =
    asked m ++ on_ok (test m) (λ v. if is_zero v then [] else given m ++ on_done (body m) (while_gives test asked body given n))

-- what the first k turns of a for give
abbrev pub first_give : {B : Type 0} → (ℤ → Memory → Ran) → (ℤ → Memory → List B) → ℤ → ℕ → Memory → List B
first_give body given low zero m = []
first_give body given low (suc k) m =
    first_give body given low k m ++ on_done (first_turns body low k m) (given (low +ℤ pos k))
