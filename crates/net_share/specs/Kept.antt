-- The machine of tasks that share iterations, as it is kept.
use Rattle.std.specs.Prelude.{◌≡◌, ℕ, ◌+◌, ◌*◌, ◌<◌, ◌≤◌, ◌^◌, Bool, true, false, pos, ◌+ℤ◌, FitsSigned, List, [], ◌∷◌, length, map, max, All}
use Rattle.std.specs.Int.{w64}
use Rattle.nona_num.specs.declared.folds.Fold.{Fold}
use Rattle.nona_tree.specs.Memory.{Memory}
use Rattle.nona_fission.specs.Sharing.{with_units}
use Rattle.net_flow.specs.Begun.{begun_net}
use Rattle.net_flow.specs.Net.{Work, Task, Net, task_at}
use Rattle.net_flow.specs.Sharing.{SharedMeaning, IsSharedNet}
use Rattle.net_share.specs.declared.iterations.Iterations.{Iterations}
use Rattle.net_share.specs.declared.sharing.Sharing.{Sharing}
use Rattle.net_share.specs.declared.sharing.StepEnd.{StepEnd}
use Rattle.net_share.specs.declared.sharing.StepEnd.TheVariants as step_end
use Rattle.net_share.specs.May.{MayStep}
use Rattle.net_share.specs.Tasks.{TaskView, HasRoom, task_over}
use Rattle.net_share.specs.Works.{Doing, doing, sharing_work}

-- what its tasks do
abbrev pub doing_of : Sharing → Doing
doing_of n = doing n.iterations n.depth

-- what its tasks compute
abbrev pub work_of : Sharing → Work Memory (Unit {0})
work_of n = sharing_work (doing_of n) (length n.tasks.items)

-- the store at the interval's start
abbrev pub store_of : Sharing → Memory
store_of n = n.store

-- the net that it is
abbrev pub net_of : Sharing → Net Memory (Unit {0})
net_of n = record {
  granted = n.granted;
  limit = n.iterations.limit;
  paused = n.paused;
  tasks = map (task_over n.store) n.tasks.items;
  links = [];
  waits = 0;
}

-- the net of these iterations before its first step, of so many tasks over this store, each with its reductions at their units
abbrev pub first_net : Iterations → ℕ → Memory → List (ℕ × Fold) → Net Memory (Unit {0})
first_net i workers m reductions = begun_net (sharing_work (doing i (length m.scalars)) workers) i.limit (λ s w. with_units reductions m)

-- the task with this number
abbrev pub task_of : Sharing → ℕ → Task Memory
task_of n t = task_at (work_of n) (net_of n) t

-- the next step of a task can't fail
abbrev pub MayMove : Sharing → ℕ → Type 0
MayMove n t = MayStep (doing_of n) (task_of n t)

-- nothing is said of what the tasks' values mean
abbrev pub no_meaning : SharedMeaning Memory
no_meaning = record { between = λ t numbers m. Unit {0}; within = λ t numbers k u m. Unit {0} }

-- What stands of it at each step: the frames have room for each unit, and the tasks for the scalars of an iteration; the index of each
-- iteration is a number of 64 bits; so is the count of all moves, with one more; and its net stands.
pub record IsSharing (n : Sharing) : Type 0 where
  pub room : All (λ (x : TaskView). n.iterations.units.now.room ≤ x.room) n.tasks.items
  pub reserved : All (λ (x : TaskView). HasRoom n.depth n.iterations.units.now x.share) n.tasks.items
  pub fits : (k : ℕ) → k < n.iterations.limit → FitsSigned w64 (n.iterations.from +ℤ pos k)
  pub few : n.iterations.limit * (1 + length n.iterations.units.now.body) + (1 + length n.tasks.items) < 2 ^ 64
  pub net : IsSharedNet (work_of n) no_meaning n.iterations.limit (length n.tasks.items) (net_of n)

-- what no step changes: the iterations, the scalars around the loop, the store, how many tasks there are, the room of their frames, and
-- that for scalars
pub record Stays (old new : Sharing) : Type 0 where
  pub iterations : new.iterations ≡ old.iterations
  pub depth : new.depth ≡ old.depth
  pub store : new.store ≡ old.store
  pub count : length new.tasks.items ≡ length old.tasks.items
  pub room : All (λ (x : TaskView). old.iterations.units.now.room ≤ x.room) new.tasks.items
  pub reserved : All (λ (x : TaskView). HasRoom old.depth old.iterations.units.now x.share) new.tasks.items

-- a step says that the task had finished before, or else that it moved
abbrev pub IsEnd : StepEnd → Bool → Type 0
IsEnd step_end.Moved finished = finished ≡ false
IsEnd step_end.Waits finished = ⊥
IsEnd step_end.Finished finished = finished ≡ true

-- the most moves that one of its tasks made
abbrev pub most_moves : List (Task Memory) → ℕ
most_moves [] = 0
most_moves (x ∷ rest) = max x.moves (most_moves rest)
