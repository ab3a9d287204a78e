-- How iterations are dealt out round robin over workers and links. A stage is parallel, or it is sequential and has one task.
use Rattle.std.specs.Prelude.{ℕ, ◌+◌, ◌-◌, ◌*◌, ◌/◌, ◌%◌, Bool, true, false}

-- how many of the first n iterations are dealt to the link l of W links: those whose numbers are l modulo W
abbrev pub dealt : ℕ → ℕ → ℕ → ℕ
dealt W l n = (n + (W - 1 - l)) / W

-- how many of the first b iterations a task has, of a stage that is parallel or not
abbrev pub due : Bool → ℕ → ℕ → ℕ → ℕ
due true W w b = dealt W w b
due false W w b = b

-- the number of the iteration that a task has behind its first d ones
abbrev pub number : Bool → ℕ → ℕ → ℕ → ℕ
number true W w d = w + d * W
number false W w d = d

-- how many of the first n iterations of a task go over this link
abbrev pub over_link : Bool → ℕ → ℕ → ℕ → ℕ
over_link true W l n = n
over_link false W l n = dealt W l n

-- over which link the iteration of a task behind its first n ones goes
abbrev pub next_link : Bool → ℕ → ℕ → ℕ → ℕ
next_link true W w n = w
next_link false W w n = n % W
