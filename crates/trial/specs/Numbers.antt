-- The numbers of a trial.
use Rattle.std.specs.Prelude.{ℕ, zero, suc, ◌+◌, ◌*◌, ◌/◌, ◌%◌, ◌^◌, ℤ, pos, ◌-ℤ◌, List, [], ◌∷◌}

-- how many numbers the trial of a number has
abbrev pub trial_count : ℕ → ℕ
trial_count n = 20000 + 10 * (n % 1000)

-- the state behind a state: a linear congruence modulo 2^64
abbrev pub next_state : ℕ → ℕ
next_state state = (state * 6364136223846793005 + 1442695040888963407) % 2 ^ 64

-- the number of a state: its upper 31 bits, less 2^30
abbrev pub number_of_state : ℕ → ℤ
number_of_state state = pos (state / 2 ^ 33) -ℤ pos 1073741824

-- so many numbers, one for each of the states behind a state
unfoldable pub numbers_behind : ℕ → ℕ → List ℤ
numbers_behind zero state = []
numbers_behind (suc more) state = number_of_state (next_state state) ∷ numbers_behind more (next_state state)

-- the numbers of the trial of a number, which is the first state and gives no number itself
abbrev pub trial_numbers : ℕ → List ℤ
trial_numbers n = numbers_behind (trial_count n) n
