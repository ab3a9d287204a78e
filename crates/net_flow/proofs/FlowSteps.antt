-- The steps of a pipeline, seen by the progress of its tasks alone.
use Rattle.std.proofs.Common.{◌≡◌, ◌<◌, ◌≤◌, ◌+◌, ℕ, suc, Bool, nat_lt, if◌then◌else◌}
use Rattle.net_flow.specs.Dealing.{next_link}
use Rattle.net_flow.specs.Flow.{Position, Claims, Unit_at, Sends, Receives, SendsEnd, Finished, Progress, Flow, idle, sent, received, packets_on, sent_on, received_on}
use Rattle.net_flow.specs.Shapes.{Shape, IsTask, links_of, first_link}

-- behind the last unit of an iteration
abbrev pub behind : Shape → ℕ → ℕ → Progress
behind shape s d =
    if nat_lt (s + 1) shape.stages then record { position = Sends; done = d } else record { position = idle s; done = d + 1 }

-- before this unit of an iteration, or behind the last one
abbrev pub arrived : Shape → ℕ → ℕ → ℕ → Progress
arrived shape s u d = if nat_lt u (shape.units s) then record { position = Unit_at u; done = d } else behind shape s d

-- a task that knows that no iteration follows
abbrev pub closing : Shape → ℕ → ℕ → ℕ → Progress
closing shape s w d =
    if nat_lt (s + 1) shape.stages then record { position = SendsEnd (first_link (shape.parallel s) w); done = d } else record { position = Finished; done = d }

-- a task that received an End, where it had received so many
abbrev pub took_end : Shape → ℕ → ℕ → ℕ → ℕ → Progress
took_end shape s w e d = if nat_lt (e + 1) (links_of (shape.parallel s) shape.workers) then record { position = Receives (suc e); done = d } else closing shape s w d

-- a task that sent an End over this link
abbrev pub sent_end : Shape → ℕ → ℕ → ℕ → ℕ → Progress
sent_end shape s w m d =
    if nat_lt (m + 1) (first_link (shape.parallel s) w + links_of (shape.parallel s) shape.workers) then record { position = SendsEnd (m + 1); done = d }
    else record { position = Finished; done = d }

-- What a step that moves makes of a task, where b claims were granted before it and c after it: a claim is granted or refused, a
-- unit runs, a packet is sent or received, an End is received or sent.
pub data Advances (shape : Shape) (f : Flow) (s w b c : ℕ) (y : Progress) : Type 0 where
  claims_one : (f s w).position ≡ Claims → c ≡ b + 1 → y ≡ arrived shape s 0 (f s w).done → Advances shape f s w b c y
  claims_none : (f s w).position ≡ Claims → c ≡ b → y ≡ closing shape s w (f s w).done → Advances shape f s w b c y
  runs_unit : (u : ℕ) → (f s w).position ≡ Unit_at u → c ≡ b → y ≡ arrived shape s (u + 1) (f s w).done → Advances shape f s w b c y
  sends_packet : (f s w).position ≡ Sends → c ≡ b → y ≡ record { position = idle s; done = (f s w).done + 1 } → Advances shape f s w b c y
  receives_packet : (e r l : ℕ) → (f s w).position ≡ Receives e → c ≡ b → r + 1 ≡ s → l ≡ next_link (shape.parallel s) shape.workers w ((f s w).done + e)
      → received (shape.parallel s) shape.workers l (f s w) < packets_on shape f r l → y ≡ arrived shape s 0 (f s w).done → Advances shape f s w b c y
  receives_end : (e r l : ℕ) → (f s w).position ≡ Receives e → c ≡ b → r + 1 ≡ s → l ≡ next_link (shape.parallel s) shape.workers w ((f s w).done + e)
      → packets_on shape f r l ≤ received (shape.parallel s) shape.workers l (f s w) → received (shape.parallel s) shape.workers l (f s w) < sent_on shape f r l
      → y ≡ took_end shape s w e (f s w).done → Advances shape f s w b c y
  sends_end : (m : ℕ) → (f s w).position ≡ SendsEnd m → c ≡ b → y ≡ sent_end shape s w m (f s w).done → Advances shape f s w b c y

-- whether the next step of a task with this position sends over this link
abbrev pub sends_over : Bool → ℕ → ℕ → ℕ → Progress → Position → Type 0
sends_over p W w l x Claims = ⊥
sends_over p W w l x (Unit_at u) = ⊥
sends_over p W w l x Sends = l ≡ next_link p W w x.done
sends_over p W w l x (Receives e) = ⊥
sends_over p W w l x (SendsEnd m) = l ≡ m
sends_over p W w l x Finished = ⊥

-- whether it receives from this link
abbrev pub receives_over : Bool → ℕ → ℕ → ℕ → Progress → Position → Type 0
receives_over p W w l x Claims = ⊥
receives_over p W w l x (Unit_at u) = ⊥
receives_over p W w l x Sends = ⊥
receives_over p W w l x (Receives e) = l ≡ next_link p W w (x.done + e)
receives_over p W w l x (SendsEnd m) = ⊥
receives_over p W w l x Finished = ⊥

-- one task moves, and the others stay as they are
pub record FlowStep (shape : Shape) (b : ℕ) (f : Flow) (s w c : ℕ) (g : Flow) : Type 0 where
  pub is_task : IsTask shape s w
  pub goes : Advances shape f s w b c (g s w)
  pub others : (r v : ℕ) → IsTask shape r v → ((r ≡ s → v ≡ w → ⊥)) → g r v ≡ f r v

-- whether a task with this position waits: its link is full at a send, or empty at a receive
abbrev pub Blocked : Shape → Flow → ℕ → ℕ → Position → Type 0
Blocked shape f s w Claims = ⊥
Blocked shape f s w (Unit_at u) = ⊥
Blocked shape f s w Sends =
    received_on shape f (s + 1) (next_link (shape.parallel s) shape.workers w (f s w).done) + shape.capacity ≤ sent (shape.parallel s) shape.workers (next_link (shape.parallel s) shape.workers w (f s w).done) (f s w)
Blocked shape f s w (Receives e) =
    (r : ℕ) → r + 1 ≡ s → sent_on shape f r (next_link (shape.parallel s) shape.workers w ((f s w).done + e)) ≤ received (shape.parallel s) shape.workers (next_link (shape.parallel s) shape.workers w ((f s w).done + e)) (f s w)
Blocked shape f s w (SendsEnd m) = received_on shape f (s + 1) m + shape.capacity ≤ sent (shape.parallel s) shape.workers m (f s w)
Blocked shape f s w Finished = ⊥
