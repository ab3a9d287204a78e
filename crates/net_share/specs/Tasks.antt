-- A task that shares the iterations of an interval, as contracts see it.
use Rattle.std.specs.Prelude.{ℕ, ◌+◌, ◌<◌, ◌≤◌, ◌^◌, ℤ, List, [], length}
use Rattle.nona_tree.specs.Memory.{Memory}
use Rattle.nona_store.specs.Overlays.{unwritten}
use Rattle.nona_store.specs.Shares.{ShareView, shared}
use Rattle.nona_units.specs.UnitsView.{UnitsView}
use Rattle.net_flow.specs.Flow.{Position as Stand, Claims, Unit_at, Finished}
use Rattle.net_flow.specs.Net.{Work, Task, arrives}
use Rattle.net_share.specs.declared.task.Position.{Position}
use Rattle.net_share.specs.declared.task.Position.TheVariants as position

-- Its number; its position; how many iterations it has done, and the number of the one that it is in; its share of the store;
-- how often it moved; and how much room its frame has.
pub record TaskView : Type 0 where
  pub number : ℕ
  pub position : Position
  pub done : ℕ
  pub iteration : ℕ
  pub share : ShareView
  pub moves : ℕ
  pub room : ℕ

-- its share of the store
abbrev pub share_of : TaskView → ShareView
share_of x = x.share

-- a task with this number before its first step, with these scalars, room for so many of them, and a frame with so much room
abbrev pub new_task : ℕ → List ℤ → ℕ → ℕ → TaskView
new_task number scalars reserved room = record {
  number = number;
  position = position.Claims;
  done = 0;
  iteration = 0;
  share = record { scalars = scalars; written = unwritten; printed = []; room = reserved };
  moves = 0;
  room = room;
}

-- where it stands in the net
abbrev pub stand_of : Position → Stand
stand_of position.Claims = Claims
stand_of (position.Unit u) = Unit_at u
stand_of position.Finished = Finished

-- it has room for the scalars around the loop, the index of an iteration, and a scalar for each of these units
abbrev pub HasRoom : ℕ → UnitsView → ShareView → Type 0
HasRoom depth units share = depth + 1 + length units.body ≤ share.room

-- the task of the net that it is, over this store
abbrev pub task_over : Memory → TaskView → Task Memory
task_over m x = record {
  stage = 0;
  worker = x.number;
  position = stand_of x.position;
  done = x.done;
  iteration = x.iteration;
  values = shared m x.share;
  moves = x.moves;
}

-- its move is counted
abbrev pub counted : Task Memory → Task Memory
counted x = record x { moves = x.moves + 1 }

-- it has done this unit, and comes before the next one
abbrev pub unit_done : Work Memory (Unit {0}) → ℕ → Task Memory → Task Memory
unit_done work u x = arrives work (u + 1) (record x { values = work.unit x.stage u x.values })

-- its frame has room for the code of each unit, and its counts have room for one more
pub record CanCount (units : UnitsView) (x : TaskView) : Type 0 where
  pub room : units.room ≤ x.room
  pub done : x.done + 1 < 2 ^ 64
  pub moves : x.moves + 1 < 2 ^ 64
