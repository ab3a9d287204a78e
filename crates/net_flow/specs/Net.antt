-- The net of an interval: tasks that step one at a time, and links that carry messages between them. It is one net for one task
-- alone, for tasks that share the claims, and for a pipeline: these differ in their shapes.
use Rattle.std.specs.Prelude.{ℕ, suc, ◌+◌, ◌-◌, Bool, true, false, not, ◌&&◌, nat_lt, nat_le, if◌then◌else◌, List, [], ◌∷◌, ◌++◌, length, get_or, set, sum_by}
use Rattle.net_flow.specs.declared.limits.TheConstants.{WAITS}
use Rattle.net_flow.specs.Dealing.{next_link}
use Rattle.net_flow.specs.Shapes.{Shape, links_of, first_link, link_of}
use Rattle.net_flow.specs.Flow.{Position, Claims, Unit_at, Sends, Receives, SendsEnd, Finished, idle}
use Rattle.net_flow.specs.Machines.{Machine}

-- a message: the packet of an iteration with its number, or an End
pub data Message (P : Type 0) : Type 0 where
  Packet : ℕ → P → Message P
  End : Message P

-- What the tasks of a shape compute, by stage: the values with which an iteration begins, by its number and its packet; what a
-- unit makes of values; the values once an iteration is left; the packet of an iteration that is done; the packet with which an
-- iteration of the head begins; and the values of a task that isn't there.
pub record Work (V P : Type 0) : Type 0 where
  pub shape : Shape
  pub enter : ℕ → ℕ → P → V → V
  pub unit : ℕ → ℕ → V → V
  pub leave : ℕ → V → V
  pub packet : ℕ → V → P
  pub no_packet : P
  pub no_values : V

-- a task: its stage and worker, its position, how many iterations it has done, the number of the one that it is in, its values,
-- and how often it moved
pub record Task (V : Type 0) : Type 0 where
  pub stage : ℕ
  pub worker : ℕ
  pub position : Position
  pub done : ℕ
  pub iteration : ℕ
  pub values : V
  pub moves : ℕ

-- how many claims were granted, how many may be, whether the pause mark is set, the tasks in order of stages and then workers,
-- the messages of each link in order of stages and then workers, and how often a step waited
pub record Net (V P : Type 0) : Type 0 where
  pub granted : ℕ
  pub limit : ℕ
  pub paused : Bool
  pub tasks : List (Task V)
  pub links : List (List (Message P))
  pub waits : ℕ

-- a task that isn't there
abbrev pub no_task : {V P : Type 0} → Work V P → Task V
no_task work = record { stage = 0; worker = 0; position = Finished; done = 0; iteration = 0; values = work.no_values; moves = 0 }

-- the task with this number
abbrev pub task_at : {V P : Type 0} → Work V P → Net V P → ℕ → Task V
task_at work net t = get_or net.tasks t (no_task work)

-- the messages of a link behind a stage, the first one first
abbrev pub link_at : {V P : Type 0} → Work V P → Net V P → ℕ → ℕ → List (Message P)
link_at work net r l = get_or net.links (link_of work.shape r l) []

-- the link over which a task sends, or from which it receives, the message behind its first n ones
abbrev pub link_now : {V P : Type 0} → Work V P → Task V → ℕ → ℕ
link_now work x n = next_link (work.shape.parallel x.stage) work.shape.workers x.worker n

-- whether a link is full
abbrev pub is_full : {V P : Type 0} → Work V P → List (Message P) → Bool
is_full work link = nat_le work.shape.capacity (length link)

-- whether a link is empty
abbrev pub is_empty : {P : Type 0} → List (Message P) → Bool
is_empty [] = true
is_empty (m ∷ rest) = false

-- whether the next step of a task with this position waits: its link is full at a send, or empty at a receive
abbrev pub waits_at : {V P : Type 0} → Work V P → Net V P → Task V → Position → Bool
waits_at work net x Claims = false
waits_at work net x (Unit_at u) = false
waits_at work net x Sends = is_full work (link_at work net x.stage (link_now work x x.done))
waits_at work net x (Receives e) = is_empty (link_at work net (x.stage - 1) (link_now work x (x.done + e)))
waits_at work net x (SendsEnd m) = is_full work (link_at work net x.stage m)
waits_at work net x Finished = false

-- a task that leaves its iteration
abbrev pub leaves : {V P : Type 0} → Work V P → Task V → Task V
leaves work x = record x { position = idle x.stage; done = x.done + 1; values = work.leave x.stage x.values }

-- a task that comes before this unit of its iteration, or behind the last one
abbrev pub arrives : {V P : Type 0} → Work V P → ℕ → Task V → Task V
arrives work u x =
    if nat_lt u (work.shape.units x.stage) then record x { position = Unit_at u }
    else if nat_lt (x.stage + 1) work.shape.stages then record x { position = Sends } else leaves work x

-- a task that begins the iteration with this number and packet
abbrev pub enters : {V P : Type 0} → Work V P → ℕ → P → Task V → Task V
enters work k p x = arrives work 0 (record x { iteration = k; values = work.enter x.stage k p x.values })

-- a task that knows that no iteration follows
abbrev pub closes : {V P : Type 0} → Work V P → Task V → Task V
closes work x =
    if nat_lt (x.stage + 1) work.shape.stages then record x { position = SendsEnd (first_link (work.shape.parallel x.stage) x.worker) }
    else record x { position = Finished }

-- a task that receives an End, where it had received so many
abbrev pub takes_end : {V P : Type 0} → Work V P → ℕ → Task V → Task V
takes_end work e x =
    if nat_lt (e + 1) (links_of (work.shape.parallel x.stage) work.shape.workers) then record x { position = Receives (suc e) } else closes work x

-- a task that sends an End over this link
abbrev pub passes_end : {V P : Type 0} → Work V P → ℕ → Task V → Task V
passes_end work m x =
    if nat_lt (m + 1) (first_link (work.shape.parallel x.stage) x.worker + links_of (work.shape.parallel x.stage) work.shape.workers)
    then record x { position = SendsEnd (m + 1) }
    else record x { position = Finished }

-- a net one of whose tasks moved and is now this one
abbrev pub with_task : {V P : Type 0} → Net V P → ℕ → Task V → Net V P
with_task net t x = record net { tasks = set net.tasks t (record x { moves = x.moves + 1 }) }

-- a net one of whose links now has these messages
abbrev pub with_link : {V P : Type 0} → Work V P → Net V P → ℕ → ℕ → List (Message P) → Net V P
with_link work net r l link = record net { links = set net.links (link_of work.shape r l) link }

-- whether a claim is granted: the mark isn't set, and the number is below the limit
abbrev pub is_granted : {V P : Type 0} → Net V P → Bool
is_granted net = not net.paused && nat_lt net.granted net.limit

-- a net whose task received the first message of this link
abbrev pub after_receive : {V P : Type 0} → Work V P → Net V P → ℕ → Task V → ℕ → ℕ → List (Message P) → Net V P
after_receive work net t x e l [] = net
after_receive work net t x e l (Packet k p ∷ rest) = with_task (with_link work net (x.stage - 1) l rest) t (enters work k p x)
after_receive work net t x e l (End ∷ rest) = with_task (with_link work net (x.stage - 1) l rest) t (takes_end work e x)

-- a net with one message more at the end of a link
abbrev pub after_send : {V P : Type 0} → Work V P → Net V P → ℕ → ℕ → Message P → Net V P
after_send work net r l m = with_link work net r l (link_at work net r l ++ m ∷ [])

-- what a step that moves makes of a net, where the task has this position
abbrev pub moved_at : {V P : Type 0} → Work V P → Net V P → ℕ → Task V → Position → Net V P
moved_at work net t x Claims =
    if is_granted net then with_task (record net { granted = net.granted + 1 }) t (enters work net.granted work.no_packet x)
    else with_task net t (closes work x)
moved_at work net t x (Unit_at u) = with_task net t (arrives work (u + 1) (record x { values = work.unit x.stage u x.values }))
moved_at work net t x Sends =
    with_task (after_send work net x.stage (link_now work x x.done) (Packet x.iteration (work.packet x.stage x.values))) t (leaves work x)
moved_at work net t x (Receives e) =
    after_receive work net t x e (link_now work x (x.done + e)) (link_at work net (x.stage - 1) (link_now work x (x.done + e)))
moved_at work net t x (SendsEnd m) = with_task (after_send work net x.stage m End) t (passes_end work m x)
moved_at work net t x Finished = net

-- one wait more: the count stays at the most that is counted
abbrev pub more_waits : ℕ → ℕ
more_waits n = if nat_lt n WAITS then n + 1 else n

-- a net after a step that waited
abbrev pub waited : {V P : Type 0} → Net V P → Net V P
waited net = record net { waits = more_waits net.waits }

-- one step of a task: it waits, or it moves
abbrev pub step : {V P : Type 0} → Work V P → Net V P → ℕ → Net V P
step work net t =
    let x = task_at work net t in
    if waits_at work net x x.position then waited net else moved_at work net t x x.position

-- whether a task with this position has finished
abbrev pub is_finished : Position → Bool
is_finished Claims = false
is_finished (Unit_at u) = false
is_finished Sends = false
is_finished (Receives e) = false
is_finished (SendsEnd m) = false
is_finished Finished = true

-- a net with the pause mark
abbrev pub paused_net : {V P : Type 0} → Net V P → Net V P
paused_net net = record net { paused = true }

-- the net as a machine
abbrev pub net_machine : {V P : Type 0} → Work V P → Machine (Net V P)
net_machine work = record {
  tasks = λ net. length net.tasks;
  finished = λ net t. is_finished (task_at work net t).position;
  waits = λ net t. let x = task_at work net t in waits_at work net x x.position;
  step = step work;
  pause = paused_net;
}

-- how often the tasks have moved
abbrev pub moves_of : {V P : Type 0} → Net V P → ℕ
moves_of net = sum_by (λ x. x.moves) net.tasks
