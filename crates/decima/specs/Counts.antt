-- What counters count.
use Rattle.std.specs.Prelude.{ℕ, ◌+◌, List, [], ◌∷◌, max, replicate, set, get_or}
use Rattle.decima.specs.declared.limits.TheConstants.{TASKS}

-- how often each task has moved, by its number, and how many iterations were done
pub record Counts : Type 0 where
  pub moves : List ℕ
  pub iterations : ℕ

-- the greatest of some numbers, and 0 where there is none
abbrev pub greatest : List ℕ → ℕ
greatest [] = 0
greatest (x ∷ rest) = max x (greatest rest)

-- the ticks of tasks that moved so often: the moves of the one that moved most, at least 1
abbrev pub ticks_of : List ℕ → ℕ
ticks_of moves = max 1 (greatest moves)

-- how often a task has moved
abbrev pub count_of : Counts → ℕ → ℕ
count_of counts task = get_or counts.moves task 0

-- the counts before the first step
abbrev pub no_counts : Counts
no_counts = record { moves = replicate TASKS 0; iterations = 0 }

-- one move more of a task
abbrev pub with_move : Counts → ℕ → Counts
with_move counts task = record counts { moves = set counts.moves task (count_of counts task + 1) }

-- one iteration more
abbrev pub with_iteration : Counts → Counts
with_iteration counts = record counts { iterations = counts.iterations + 1 }
