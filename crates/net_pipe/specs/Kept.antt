-- The machine of a pipeline's tasks, as it is kept.
use Rattle.std.specs.Prelude.{◌≡◌, ℕ, ◌≤◌, ◌<◌, ◌^◌, Bool, true, false, ℤ, pos, ◌+ℤ◌, FitsSigned, List, [], ◌∷◌, length, map, max, All}
use Rattle.std.specs.Int.{w64}
use Rattle.nona_tree.specs.Memory.{Memory}
use Rattle.net_flow.specs.Net.{Work, Task, Net, task_at, moved_at, waits_at}
use Rattle.net_pipe.specs.Works.{Staging, Values, stages_work}
use Rattle.net_pipe.specs.Steps.{CanStep}
use Rattle.net_pipe.specs.declared.pipeline.Pipeline.{Pipeline}
use Rattle.net_share.specs.declared.sharing.StepEnd.{StepEnd}
use Rattle.net_share.specs.declared.sharing.StepEnd.TheVariants as step_end
use Rattle.net_share.specs.Tasks.{HasRoom}
use Rattle.net_pipe.specs.Links.{LinkView}
use Rattle.net_pipe.specs.Staged.{IsStaged, staging_of}
use Rattle.net_pipe.specs.Tasks.{TaskView, task_over}

-- what its stages do
abbrev pub doing_of : Pipeline → Staging
doing_of n = staging_of n.stages

-- what its tasks compute
abbrev pub work_of : Pipeline → Work Values (List ℤ)
work_of n = stages_work (staging_of n.stages)

-- the store at the interval's start
abbrev pub store_of : Pipeline → Memory
store_of n = n.store

-- the net that it is
abbrev pub net_of : Pipeline → Net Values (List ℤ)
net_of n = record {
  granted = n.granted;
  limit = n.stages.limit;
  paused = n.paused;
  tasks = map (task_over n.store) n.tasks.items;
  links = map (λ (l : LinkView). l.messages) n.links.items;
  waits = n.waits;
}

-- the task with this number
abbrev pub task_of : Pipeline → ℕ → Task Values
task_of n t = task_at (work_of n) (net_of n) t

-- the next step of a task can be done
abbrev pub MayMove : Pipeline → ℕ → Type 0
MayMove n t = CanStep (staging_of n.stages) (net_of n) t

-- What stands of it at each step: its stages do; its limit is a number of 64 bits; the frames have room for each unit, and the tasks for
-- the scalars of an iteration; each link holds as many messages as is said; and the index of each iteration is a number of 64 bits.
pub record IsKept (n : Pipeline) : Type 0 where
  pub staged : IsStaged (staging_of n.stages)
  pub limit : n.stages.limit < 2 ^ 64
  pub room : All (λ (x : TaskView). n.stages.units.now.room ≤ x.room) n.tasks.items
  pub reserved : All (λ (x : TaskView). HasRoom n.stages.depth n.stages.units.now x.share) n.tasks.items
  pub capacity : All (λ (l : LinkView). l.capacity ≡ n.stages.capacity) n.links.items
  pub fits : (k : ℕ) → k < n.stages.limit → FitsSigned w64 (n.stages.from +ℤ pos k)

-- what no step changes: the stages, the store, how many tasks and links there are, the room of the frames and that for scalars, and how
-- much links hold
pub record Stays (old new : Pipeline) : Type 0 where
  pub stages : new.stages ≡ old.stages
  pub store : new.store ≡ old.store
  pub tasks : length new.tasks.items ≡ length old.tasks.items
  pub links : length new.links.items ≡ length old.links.items
  pub room : All (λ (x : TaskView). old.stages.units.now.room ≤ x.room) new.tasks.items
  pub reserved : All (λ (x : TaskView). HasRoom old.stages.depth old.stages.units.now x.share) new.tasks.items
  pub capacity : All (λ (l : LinkView). l.capacity ≡ old.stages.capacity) new.links.items

-- what a step made of the net where a task has this position: it moved; or it waited, and nothing changed
abbrev pub Acts : Pipeline → ℕ → Net Values (List ℤ) → Bool → Type 0
Acts old t new true =
    let x = task_of old t in
    (waits_at (work_of old) (net_of old) x x.position ≡ false) × (new ≡ moved_at (work_of old) (net_of old) t x x.position)
Acts old t new false = let x = task_of old t in (waits_at (work_of old) (net_of old) x x.position ≡ true) × (new ≡ net_of old)

-- a step says whether the task had finished before, moved or waited
abbrev pub IsEnd : StepEnd → Bool → Bool → Type 0
IsEnd step_end.Moved finished waits = (finished ≡ false) × (waits ≡ false)
IsEnd step_end.Waits finished waits = (finished ≡ false) × (waits ≡ true)
IsEnd step_end.Finished finished waits = finished ≡ true

-- the most moves that one of its tasks made
abbrev pub most_moves : List (Task Values) → ℕ
most_moves [] = 0
most_moves (x ∷ rest) = max x.moves (most_moves rest)
