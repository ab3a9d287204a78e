-- The shape of a net: its stages, the tasks that they have, and the links between them.
use Rattle.std.specs.Prelude.{◌≡◌, ℕ, zero, suc, ◌+◌, ◌*◌, ◌<◌, ◌≤◌, Bool, true, false}
use Rattle.net_flow.specs.Dealing.{due, number}

-- how many stages and how many workers a net has, how many messages a link holds, which stages are parallel, and how many
-- units each stage has
pub record Shape : Type 0 where
  pub stages : ℕ
  pub workers : ℕ
  pub capacity : ℕ
  pub parallel : ℕ → Bool
  pub units : ℕ → ℕ

-- The shape of a pipeline: it has a stage, a worker and room for a message at least, and its first stage is sequential.
pub record IsPipeline (shape : Shape) : Type 0 where
  pub some_stage : 1 ≤ shape.stages
  pub some_worker : 1 ≤ shape.workers
  pub some_room : 1 ≤ shape.capacity
  pub sequential_head : shape.parallel 0 ≡ false

-- whether a stage has a worker with this number: a parallel one has W, a sequential one has one
abbrev pub IsWorker : Bool → ℕ → ℕ → Type 0
IsWorker true W w = w < W
IsWorker false W w = w ≡ 0

-- whether a net has a task with this stage and worker
abbrev pub IsTask : Shape → ℕ → ℕ → Type 0
IsTask shape s w = (s < shape.stages) × IsWorker (shape.parallel s) shape.workers w

-- whether a worker has this link, of the W links between its stage and the one before or behind: one of a parallel stage has its
-- own link, the one of a sequential stage has all
abbrev pub HasLink : Bool → ℕ → ℕ → ℕ → Type 0
HasLink true W w l = l ≡ w
HasLink false W w l = l < W

-- which worker of a stage has this link
abbrev pub worker_on : Bool → ℕ → ℕ
worker_on true l = l
worker_on false l = 0

-- how many links a worker has to the stage before or behind
abbrev pub links_of : Bool → ℕ → ℕ
links_of true W = 1
links_of false W = W

-- the first link that a worker has
abbrev pub first_link : Bool → ℕ → ℕ
first_link true w = w
first_link false w = 0

-- how many tasks a stage has
abbrev pub tasks_in : Bool → ℕ → ℕ
tasks_in true W = W
tasks_in false W = 1

-- the sum of the first n values
abbrev pub sum_to : ℕ → (ℕ → ℕ) → ℕ
sum_to zero f = 0
sum_to (suc n) f = sum_to n f + f n

-- the number of the first task of a stage: tasks are numbered in order of stages and then workers
abbrev pub first_task : Shape → ℕ → ℕ
first_task shape s = sum_to s (λ r. tasks_in (shape.parallel r) shape.workers)

-- the number of a task
abbrev pub task_of : Shape → ℕ → ℕ → ℕ
task_of shape s w = first_task shape s + w

-- the number of a link behind a stage: links are numbered in order of stages and then workers
abbrev pub link_of : Shape → ℕ → ℕ → ℕ
link_of shape r l = r * shape.workers + l

-- how many of the first b iterations a task has
abbrev pub due_to : Shape → ℕ → ℕ → ℕ → ℕ
due_to shape s w b = due (shape.parallel s) shape.workers w b

-- the number of the iteration that a task has behind its first d ones
abbrev pub number_of : Shape → ℕ → ℕ → ℕ → ℕ
number_of shape s w d = number (shape.parallel s) shape.workers w d
