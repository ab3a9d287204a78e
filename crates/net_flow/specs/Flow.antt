-- The flow of a pipeline: the tasks seen by two numbers each, their position and how many iterations they have done.
use Rattle.std.specs.Prelude.{◌≡◌, ℕ, zero, suc, ◌+◌, ◌<◌, ◌≤◌, Bool, true, false, nat_lt}
use Rattle.net_flow.specs.Dealing.{over_link}
use Rattle.net_flow.specs.Shapes.{Shape, IsTask, HasLink, worker_on, links_of, due_to}

-- The position of a task: before a claim; before a unit of its iteration; before it sends the packet of its iteration; before a
-- receive, where it has received so many Ends; before it sends an End over this link; or finished.
pub data Position : Type 0 where
  Claims : Position
  Unit_at : ℕ → Position
  Sends : Position
  Receives : ℕ → Position
  SendsEnd : ℕ → Position
  Finished : Position

-- a task: its position, and how many iterations it has done
pub record Progress : Type 0 where
  pub position : Position
  pub done : ℕ

-- the tasks, by stage and worker
abbrev pub Flow : Type 0
Flow = ℕ → ℕ → Progress

-- where a task of this stage is between two iterations
abbrev pub idle : ℕ → Position
idle zero = Claims
idle (suc s) = Receives 0

-- how many messages a task has received beside those of the iterations that it has done
abbrev pub extra : Bool → ℕ → Position → ℕ
extra p W Claims = 0
extra p W (Unit_at u) = 1
extra p W Sends = 1
extra p W (Receives e) = e
extra p W (SendsEnd m) = links_of p W
extra p W Finished = links_of p W

-- one where a test holds
abbrev pub one_if : Bool → ℕ
one_if true = 1
one_if false = 0

-- how many Ends a task has sent over a link
abbrev pub ends_sent : ℕ → Position → ℕ
ends_sent l Claims = 0
ends_sent l (Unit_at u) = 0
ends_sent l Sends = 0
ends_sent l (Receives e) = 0
ends_sent l (SendsEnd m) = one_if (nat_lt l m)
ends_sent l Finished = 1

-- how many packets a task has sent over a link
abbrev pub packets : Bool → ℕ → ℕ → Progress → ℕ
packets p W l x = over_link p W l x.done

-- how many messages it has sent over a link
abbrev pub sent : Bool → ℕ → ℕ → Progress → ℕ
sent p W l x = packets p W l x + ends_sent l x.position

-- how many messages it has received from a link
abbrev pub received : Bool → ℕ → ℕ → Progress → ℕ
received p W l x = over_link p W l (x.done + extra p W x.position)

-- how many packets a stage has sent over a link behind it
abbrev pub packets_on : Shape → Flow → ℕ → ℕ → ℕ
packets_on shape f s l = packets (shape.parallel s) shape.workers l (f s (worker_on (shape.parallel s) l))

-- how many messages a stage has sent over a link behind it
abbrev pub sent_on : Shape → Flow → ℕ → ℕ → ℕ
sent_on shape f s l = sent (shape.parallel s) shape.workers l (f s (worker_on (shape.parallel s) l))

-- how many messages a stage has received from a link before it
abbrev pub received_on : Shape → Flow → ℕ → ℕ → ℕ
received_on shape f s l = received (shape.parallel s) shape.workers l (f s (worker_on (shape.parallel s) l))

-- whether a task makes no further claim and receives no further packet
abbrev pub is_closed : Position → Bool
is_closed Claims = false
is_closed (Unit_at u) = false
is_closed Sends = false
is_closed (Receives zero) = false
is_closed (Receives (suc e)) = true
is_closed (SendsEnd m) = true
is_closed Finished = true

-- one where a task is in an iteration
abbrev pub busy : Position → ℕ
busy Claims = 0
busy (Unit_at u) = 1
busy Sends = 1
busy (Receives e) = 0
busy (SendsEnd m) = 0
busy Finished = 0

-- whether a task of this stage and worker may have this position
abbrev pub IsPositionOf : Shape → ℕ → ℕ → Position → Type 0
IsPositionOf shape s w Claims = s ≡ 0
IsPositionOf shape s w (Unit_at u) = u < shape.units s
IsPositionOf shape s w Sends = s + 1 < shape.stages
IsPositionOf shape s w (Receives e) = (0 < s) × (e < links_of (shape.parallel s) shape.workers)
IsPositionOf shape s w (SendsEnd m) = (s + 1 < shape.stages) × HasLink (shape.parallel s) shape.workers w m
IsPositionOf shape s w Finished = Unit {0}

-- What stands of a task, where b claims were granted and the head is closed or not: it has a position of its own; it has begun no
-- more iterations than it has of b; and where it is closed, it has done all of these, and the head is closed.
pub record IsProgress (shape : Shape) (s w b : ℕ) (closed : Bool) (x : Progress) : Type 0 where
  pub position : IsPositionOf shape s w x.position
  pub within : x.done + busy x.position ≤ due_to shape s w b
  pub all : is_closed x.position ≡ true → (x.done ≡ due_to shape s w b) × (closed ≡ true)

-- What stands of the tasks of a pipeline, where b claims were granted: the head has begun all of these iterations; each task has
-- its progress; and over no link more was received than sent.
pub record IsFlow (shape : Shape) (b : ℕ) (f : Flow) : Type 0 where
  pub head : (f 0 0).done + busy (f 0 0).position ≡ b
  pub tasks : (s w : ℕ) → IsTask shape s w → IsProgress shape s w b (is_closed (f 0 0).position) (f s w)
  pub links : (r s l : ℕ) → r + 1 ≡ s → s < shape.stages → l < shape.workers → received_on shape f s l ≤ sent_on shape f r l
