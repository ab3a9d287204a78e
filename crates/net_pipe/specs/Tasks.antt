-- A task of a pipeline, as contracts see it.
use Rattle.std.specs.Prelude.{◌≡◌, ℕ, zero, suc, ◌+◌, ◌<◌, ◌≤◌, ◌^◌, ℤ, List, [], ◌∷◌, drop, length}
use Rattle.nona_tree.specs.declared.trees.Stmt.{Stmt}
use Rattle.nona_tree.specs.Memory.{Memory}
use Rattle.nona_store.specs.Overlays.{unwritten}
use Rattle.nona_store.specs.Shares.{ShareView, shared}
use Rattle.net_flow.specs.Flow.{Position as Stand, Claims, Unit_at, Sends, Receives, SendsEnd, Finished}
use Rattle.net_flow.specs.Net.{Work, Task, Message, Packet, arrives}
use Rattle.nona_fission.specs.Fission.{skipped}
use Rattle.net_pipe.specs.Works.{Staging, Values, received_in, value_for}
use Rattle.net_pipe.specs.declared.position.Position.{Position}
use Rattle.net_pipe.specs.declared.position.Position.TheVariants as position

-- Its stage and worker; its position; how many iterations it has done, and the number of the one that it is in; its share of the
-- store; the values of the packet with which that iteration began; how often it moved; and how much room its frame has.
pub record TaskView : Type 0 where
  pub stage : ℕ
  pub worker : ℕ
  pub position : Position
  pub done : ℕ
  pub iteration : ℕ
  pub share : ShareView
  pub held : List ℤ
  pub moves : ℕ
  pub room : ℕ

-- where a task of this stage stands before its first step
abbrev pub first_position : ℕ → Position
first_position zero = position.Claims
first_position (suc s) = position.Receives 0

-- a task with this stage and worker before its first step, with these scalars, room for so many of them, and a frame with so much room
abbrev pub new_task : ℕ → ℕ → List ℤ → ℕ → ℕ → TaskView
new_task s w scalars reserved room = record {
  stage = s;
  worker = w;
  position = first_position s;
  done = 0;
  iteration = 0;
  share = record { scalars = scalars; written = unwritten; printed = []; room = reserved };
  held = [];
  moves = 0;
  room = room;
}

-- its share of the store
abbrev pub share_of : TaskView → ShareView
share_of x = x.share

-- where it stands in the net
abbrev pub stand_of : Position → Stand
stand_of position.Claims = Claims
stand_of (position.Unit u) = Unit_at u
stand_of position.Sends = Sends
stand_of (position.Receives e) = Receives e
stand_of (position.SendsEnd l) = SendsEnd l
stand_of position.Finished = Finished

-- what it has, over this store
abbrev pub values_over : Memory → TaskView → Values
values_over m x = record { store = shared m x.share; held = x.held }

-- the task of the net that it is, over this store
abbrev pub task_over : Memory → TaskView → Task Values
task_over m x = record {
  stage = x.stage;
  worker = x.worker;
  position = stand_of x.position;
  done = x.done;
  iteration = x.iteration;
  values = values_over m x;
  moves = x.moves;
}

-- what becomes of a store where a task skips the unit with this number, from 0, if there is one
abbrev pub skipped_here : (ℕ → ℤ) → List Stmt → Memory → Memory
skipped_here locals [] m = m
skipped_here locals (s ∷ rest) m = skipped locals s m

abbrev pub skipped_first : Staging → ℕ → TaskView → Memory → Memory
skipped_first g at x m = skipped_here (value_for (received_in g x.stage) x.held) (drop at g.body) m

-- A task has skipped units where that makes this of any store that it sees: nothing else of it changed, and its room is the same.
pub record HasSkipped (makes : Memory → Memory) (old new : TaskView) : Type 0 where
  pub rest : new ≡ record old { share = new.share }
  pub store : (m : Memory) → shared m new.share ≡ makes (shared m old.share)
  pub reserved : new.share.room ≡ old.share.room

-- its move is counted
abbrev pub counted : Task Values → Task Values
counted x = record x { moves = x.moves + 1 }

-- the message with the packet of its iteration
abbrev pub sent_of : Work Values (List ℤ) → Task Values → Message (List ℤ)
sent_of work x = Packet x.iteration (work.packet x.stage x.values)

-- it has done this unit, and comes before the next one
abbrev pub unit_done : Work Values (List ℤ) → ℕ → Task Values → Task Values
unit_done work u x = arrives work (u + 1) (record x { values = work.unit x.stage u x.values })

-- It is a task of one of the stages, its frame has room for the code of each unit, and its counts have room for one more.
pub record CanCount (g : Staging) (needed : ℕ) (x : TaskView) : Type 0 where
  pub stage : x.stage < length g.pipe
  pub room : needed ≤ x.room
  pub done : x.done + 1 < 2 ^ 64
  pub moves : x.moves + 1 < 2 ^ 64
