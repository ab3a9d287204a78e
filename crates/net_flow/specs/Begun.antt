-- A net before its first step.
use Rattle.std.specs.Prelude.{ℕ, zero, suc, ◌-◌, ◌*◌, false, List, [], ◌∷◌, ◌++◌, replicate}
use Rattle.net_flow.specs.Shapes.{Shape, tasks_in}
use Rattle.net_flow.specs.Flow.{idle}
use Rattle.net_flow.specs.Net.{Work, Task, Net}

-- a task before its first step
abbrev pub first_of : {V : Type 0} → (ℕ → ℕ → V) → ℕ → ℕ → Task V
first_of values s w = record { stage = s; worker = w; position = idle s; done = 0; iteration = 0; values = values s w; moves = 0 }

-- the first n workers of a stage
abbrev pub workers_of : {V : Type 0} → (ℕ → ℕ → V) → ℕ → ℕ → List (Task V)
workers_of values s zero = []
workers_of values s (suc n) = workers_of values s n ++ first_of values s n ∷ []

-- the tasks of the first n stages
abbrev pub tasks_of : {V : Type 0} → Shape → (ℕ → ℕ → V) → ℕ → List (Task V)
tasks_of shape values zero = []
tasks_of shape values (suc n) = tasks_of shape values n ++ workers_of values n (tasks_in (shape.parallel n) shape.workers)

-- the net of an interval of so many iterations at most, whose tasks begin with these values
abbrev pub begun_net : {V P : Type 0} → Work V P → ℕ → (ℕ → ℕ → V) → Net V P
begun_net work limit values = record {
  granted = 0;
  limit = limit;
  paused = false;
  tasks = tasks_of work.shape values work.shape.stages;
  links = replicate ((work.shape.stages - 1) * work.shape.workers) [];
  waits = 0;
}
