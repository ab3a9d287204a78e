-- What stands of the net of a pipeline at every moment.
use Rattle.std.specs.Prelude.{◌≡◌, ◌⊎◌, ℕ, zero, suc, ◌+◌, ◌-◌, ◌*◌, ◌<◌, ◌≤◌, true, nat_lt, if◌then◌else◌, List, [], ◌∷◌, length}
use Rattle.net_flow.specs.Shapes.{IsTask, first_task, task_of, number_of}
use Rattle.net_flow.specs.Flow.{Position, Claims, Unit_at, Sends, Receives, SendsEnd, Finished, Flow, packets_on, sent_on, received_on, is_closed, IsFlow}
use Rattle.net_flow.specs.MoveCounts.{made}
use Rattle.net_flow.specs.Net.{Message, Packet, End, Work, Task, Net, task_at, link_at}

-- What the values of the tasks mean: those of a task between two iterations, by its stage, its worker and how many iterations it
-- has done; those of one within an iteration, by these and the units that are done; and what the packet of each iteration carries
-- behind a stage.
pub record Meaning (V P : Type 0) : Type 1 where
  pub between : ℕ → ℕ → ℕ → V → Type 0
  pub within : ℕ → ℕ → ℕ → ℕ → V → Type 0
  pub carried : ℕ → ℕ → P

-- The work keeps the meaning: each law says what one step of one task does to its own values, in an iteration whose number is
-- below the bound. The head begins an iteration with no packet, another task with what is carried to it; a unit is done; the
-- iteration is left; and its packet is what is carried behind the stage.
pub record LawfulWork {V P : Type 0} (work : Work V P) (m : Meaning V P) (bound : ℕ) : Type 0 where
  pub enter_head : (s w d : ℕ) (v : V) → s ≡ 0 → d < bound → m.between s w d v → m.within s w d 0 (work.enter s d work.no_packet v)
  pub enter : (r s w d : ℕ) (v : V) → r + 1 ≡ s → IsTask work.shape s w → number_of work.shape s w d < bound → m.between s w d v
      → m.within s w d 0 (work.enter s (number_of work.shape s w d) (m.carried r (number_of work.shape s w d)) v)
  pub unit : (s w d u : ℕ) (v : V) → IsTask work.shape s w → number_of work.shape s w d < bound → u < work.shape.units s
      → m.within s w d u v → m.within s w d (u + 1) (work.unit s u v)
  pub leave : (s w d : ℕ) (v : V) → IsTask work.shape s w → number_of work.shape s w d < bound
      → m.within s w d (work.shape.units s) v → m.between s w (d + 1) (work.leave s v)
  pub packet : (s w d : ℕ) (v : V) → IsTask work.shape s w → number_of work.shape s w d < bound
      → m.within s w d (work.shape.units s) v → work.packet s v ≡ m.carried s (number_of work.shape s w d)

-- the values of a task with this position, and where it is in an iteration, the number of this one
abbrev pub Holds : {V P : Type 0} → Work V P → Meaning V P → ℕ → ℕ → Position → Task V → Type 0
Holds work m s w Claims x = m.between s w x.done x.values
Holds work m s w (Unit_at u) x = m.within s w x.done u x.values × (x.iteration ≡ number_of work.shape s w x.done)
Holds work m s w Sends x = m.within s w x.done (work.shape.units s) x.values × (x.iteration ≡ number_of work.shape s w x.done)
Holds work m s w (Receives e) x = m.between s w x.done x.values
Holds work m s w (SendsEnd n) x = m.between s w x.done x.values
Holds work m s w Finished x = m.between s w x.done x.values

-- n messages, from the one with this number on
abbrev pub messages : {P : Type 0} → (ℕ → Message P) → ℕ → ℕ → List (Message P)
messages f at zero = []
messages f at (suc n) = f at ∷ messages f (at + 1) n

-- the message with this number of those that go over a link: a packet below the count of packets, and an End behind them
abbrev pub message : {P : Type 0} → (ℕ → P) → ℕ → ℕ → ℕ → ℕ → Message P
message carried W l packets i = if nat_lt i packets then Packet (l + i * W) (carried (l + i * W)) else End

-- the flow of a net
abbrev pub flow_of : {V P : Type 0} → Work V P → Net V P → Flow
flow_of work net s w = let x = task_at work net (task_of work.shape s w) in record { position = x.position; done = x.done }

-- What stands of a net: it granted no more than its limit, and a head that is closed saw the mark or the limit; its tasks flow; each
-- task stands at its number, has moved as often as its progress says, and holds values with their meaning; and a link holds the
-- messages from what was received to what was sent.
pub record IsSound {V P : Type 0} (work : Work V P) (m : Meaning V P) (net : Net V P) : Type 0 where
  pub few : net.granted ≤ net.limit
  pub shut : is_closed (flow_of work net 0 0).position ≡ true → (net.paused ≡ true) ⊎ (net.granted ≡ net.limit)
  pub flow : IsFlow work.shape net.granted (flow_of work net)
  pub tasks : length net.tasks ≡ first_task work.shape work.shape.stages
  pub link_total : length net.links ≡ (work.shape.stages - 1) * work.shape.workers
  pub stage : (s w : ℕ) → IsTask work.shape s w → (task_at work net (task_of work.shape s w)).stage ≡ s
  pub worker : (s w : ℕ) → IsTask work.shape s w → (task_at work net (task_of work.shape s w)).worker ≡ w
  pub moves : (s w : ℕ) → IsTask work.shape s w → (task_at work net (task_of work.shape s w)).moves ≡ made work.shape s w (flow_of work net s w)
  pub holds : (s w : ℕ) → IsTask work.shape s w → let x = task_at work net (task_of work.shape s w) in Holds work m s w x.position x
  pub links : (r l : ℕ) → r + 1 < work.shape.stages → l < work.shape.workers
      → link_at work net r l ≡ messages (message (m.carried r) work.shape.workers l (packets_on work.shape (flow_of work net) r l))
      (received_on work.shape (flow_of work net) (r + 1) l) (sent_on work.shape (flow_of work net) r l - received_on work.shape (flow_of work net) (r + 1) l)

-- A net of an interval with this limit, which is sound.
pub record IsNet {V P : Type 0} (work : Work V P) (m : Meaning V P) (limit : ℕ) (net : Net V P) : Type 0 where
  pub sound : IsSound work m net
  pub limit_is : net.limit ≡ limit
