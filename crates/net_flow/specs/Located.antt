-- Where the number of a granted iteration is.
use Rattle.std.specs.Prelude.{◌≡◌, ℕ, ◌+◌, ◌-◌, ◌<◌, length, get_or}
use Rattle.net_flow.specs.Shapes.{IsTask, task_of, number_of}
use Rattle.net_flow.specs.Flow.{busy}
use Rattle.net_flow.specs.Net.{Message, Packet, End, Work, Net, task_at, link_at}

-- A place of a number: with the task of this stage and worker; in a packet of this link behind this stage, behind so many other
-- messages; or done.
pub data Whereabouts : Type 0 where
  WithTask : ℕ → ℕ → Whereabouts
  InPacket : ℕ → ℕ → ℕ → Whereabouts
  Done : Whereabouts

-- whether a message is the packet of the iteration with this number
abbrev pub IsPacketOf : {P : Type 0} → ℕ → Message P → Type 0
IsPacketOf k (Packet i p) = i ≡ k
IsPacketOf k End = ⊥

-- whether a number is at a place: the task is in its iteration; the message is its packet; or a task of the last stage has done it
abbrev pub IsAt : {V P : Type 0} → Work V P → Net V P → ℕ → Whereabouts → Type 0
IsAt work net k (WithTask s w) =
    let x = task_at work net (task_of work.shape s w) in IsTask work.shape s w × (busy x.position ≡ 1) × (x.iteration ≡ k)
IsAt work net k (InPacket r l i) =
    let link = link_at work net r l in
    (r + 1 < work.shape.stages) × (l < work.shape.workers) × (i < length link) × IsPacketOf k (get_or link i End)
IsAt work net k Done =
    let last = work.shape.stages - 1 in
    (w : ℕ) × (d : ℕ) × IsTask work.shape last w × (d < (task_at work net (task_of work.shape last w)).done)
    × (number_of work.shape last w d ≡ k)

-- A number is at one place, and at no other.
abbrev pub IsLocated : {V P : Type 0} → Work V P → Net V P → ℕ → Type 0
IsLocated work net k = (at : Whereabouts) × IsAt work net k at × ((other : Whereabouts) → IsAt work net k other → other ≡ at)
