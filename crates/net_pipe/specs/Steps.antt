-- What the next step of a pipeline's task needs, so that it can be done.
use Rattle.std.specs.Prelude.{◌≡◌, ℕ, ◌+◌, ◌-◌, ◌*◌, ◌<◌, ◌^◌, ℤ, List, ◌∷◌, length}
use Rattle.net_flow.specs.Flow.{IsPositionOf}
use Rattle.net_flow.specs.MoveCounts.{pipeline_moves}
use Rattle.net_flow.specs.Net.{Message, Packet, Net, task_at, link_at}
use Rattle.net_pipe.specs.Works.{Staging, Values, stage_at, shape_of, stages_work}
use Rattle.net_pipe.specs.Entries.{MayStep}

-- the counts of moves have 64 bits, those of each task and of all together, where so many iterations go through the stages at most
pub record AreFew (g : Staging) (limit : ℕ) : Type 0 where
  pub each : (s : ℕ) → s < length g.pipe → (limit + 1) * (length (stage_at g s).units + 2 * g.workers + 4) < 2 ^ 64
  pub all : pipeline_moves (shape_of g) limit < 2 ^ 64

-- A task of the net with this number: it is one of a stage, has a position of its own, and counts that have room for one more; there are
-- all links, and each packet in them is of an iteration below the limit; and its next step can't fail.
pub record CanStep (g : Staging) (net : Net Values (List ℤ)) (t : ℕ) : Type 0 where
  pub stage : (task_at (stages_work g) net t).stage < length g.pipe
  pub worker : (task_at (stages_work g) net t).worker < g.workers
  pub position : let x = task_at (stages_work g) net t in IsPositionOf (shape_of g) x.stage x.worker x.position
  pub done : (task_at (stages_work g) net t).done + g.workers < 2 ^ 64
  pub moves : (task_at (stages_work g) net t).moves + 1 < 2 ^ 64
  pub links : length net.links ≡ (length g.pipe - 1) * g.workers
  pub below : (r l k : ℕ) (p : List ℤ) (rest : List (Message (List ℤ))) → r + 1 < length g.pipe → l < g.workers
      → link_at (stages_work g) net r l ≡ Packet k p ∷ rest → k < net.limit
  pub may : MayStep g (task_at (stages_work g) net t)
