-- Each granted number is at one task, in one packet, or done.
use Rattle.std.proofs.Common.{◌≡◌, ◌⊎◌, ◌<◌, ◌≤◌, ◌+◌, ◌-◌, ◌*◌, ◌/◌, ◌%◌, ℕ, zero, suc, Bool, true, false, refl, sym, ap, subst, ◌∙◌, arith, inl, inr, List, length, get_or}
use Rattle.std.proofs.lemmas.Bool.{cases_lt}
use Rattle.std.proofs.Math.Nat.{mod-lt, div-add-mod}
use Rattle.std.proofs.lemmas.Nat.{same_from_place}
use Rattle.net_flow.specs.Dealing.{number, over_link}
use Rattle.net_flow.specs.Shapes.{IsPipeline, IsTask, worker_on, task_of}
use Rattle.net_flow.specs.Flow.{Position, Claims, Unit_at, Sends, Receives, SendsEnd, Finished, Progress, Flow, extra, packets_on, sent_on, received_on, is_closed, busy, IsProgress}
use Rattle.net_flow.specs.Net.{Message, End, Work, Task, Net, task_at, link_at}
use Rattle.net_flow.specs.Sound.{Meaning, Holds, messages, message, flow_of, IsSound}
use Rattle.net_flow.specs.Located.{Whereabouts, WithTask, InPacket, Done, IsPacketOf, IsAt, IsLocated}
use Rattle.net_flow.proofs.MessageCounts.{over_link_mono}
use Rattle.net_flow.proofs.Dealing.{begun_one, number_on, number_done}
use Rattle.net_flow.proofs.TaskKept.{has_link, worker_is, due_over_link, packets_few}
use Rattle.net_flow.proofs.LinkContents.{count, packet_at, end_at}
use Rattle.net_flow.proofs.Locating.{begun_on, BegunBy, SentBy, DoneBy, busy_extra, located, one_task, one_link, begun_not_sent, done_not_begun, done_not_sent}

busy_most : (p : Position) → busy p ≤ 1
busy_most Claims = omega arith
busy_most (Unit_at u) = omega arith
busy_most Sends = omega arith
busy_most (Receives e) = omega arith
busy_most (SendsEnd i) = omega arith
busy_most Finished = omega arith

-- a task that isn't closed has received the message of its iteration beside those of the iterations that it has done
open_extra : (p : Bool) (W : ℕ) (position : Position) → is_closed position ≡ false → extra p W position ≡ busy position
open_extra p W Claims free = refl
open_extra p W (Unit_at u) free = refl
open_extra p W Sends free = refl
open_extra p W (Receives zero) free = refl
open_extra p W (Receives (suc e)) free = cc
open_extra p W (SendsEnd i) free = cc
open_extra p W Finished free = cc

-- the message behind i others of a link
message_at : (P : Type 0) (f : ℕ → Message P) (at n i : ℕ) → i < n → get_or (messages f at n) i End ≡ f (at + i)
message_at P f at zero i below = absurd (omega (arith, below))
message_at P f at (suc n) zero below = let e : at ≡ at + 0 = omega arith in ap f e
message_at P f at (suc n) (suc i) below =
    let e : at + 1 + i ≡ at + suc i = omega arith in message_at P f (at + 1) n i (omega (arith, below)) ∙ ap f e

-- which message is the packet of an iteration
packet_is : (P : Type 0) (carried : ℕ → P) (W l packets i k : ℕ) → IsPacketOf k (message carried W l packets i) → (i < packets) × (l + i * W ≡ k)
packet_is P carried W l packets i k has = by_order (cases_lt i packets) where
  by_order : (i < packets) ⊎ (packets ≤ i) → (i < packets) × (l + i * W ≡ k)
  by_order (inl h) = (h, subst (IsPacketOf k) (packet_at P carried W l packets i h) has)
  by_order (inr h) = absurd (subst (IsPacketOf k) (end_at P carried W l packets i h) has)

module _ (V P : Type 0) (work : Work V P) (m : Meaning V P) (is : IsPipeline work.shape) (net : Net V P) (sound : IsSound work m net) (l j : ℕ) (below : l < work.shape.workers) where
  abbrev W : ℕ
  W = work.shape.workers

  abbrev f : Flow
  f = flow_of work net

  -- the task of a stage that has the link, and its progress
  abbrev on : ℕ → ℕ
  on s = worker_on (work.shape.parallel s) l

  abbrev x : ℕ → Progress
  x s = flow_of work net s (on s)

  there : (s : ℕ) → s < work.shape.stages → IsTask work.shape s (on s)
  there s within = (within, worker_is (work.shape.parallel s) work.shape.workers l below)

  mono : (s a b : ℕ) → a ≤ b → over_link (work.shape.parallel s) work.shape.workers l a ≤ over_link (work.shape.parallel s) work.shape.workers l b
  mono s a b few = over_link_mono (work.shape.parallel s) work.shape.workers (on s) l a b (has_link (work.shape.parallel s) work.shape.workers l below) few

  -- a place, by the counts
  abbrev Counted : Whereabouts → Type 0
  Counted (WithTask s w) = BegunBy work.shape f l j s × (w ≡ on s)
  Counted (InPacket r i n) = SentBy work.shape f l j r × (i ≡ l) × (received_on work.shape f (r + 1) l + n ≡ j)
  Counted Done = DoneBy work.shape f l j

  -- there is one such place
  one_place : (a b : Whereabouts) → Counted a → Counted b → a ≡ b
  one_place (WithTask s w) (WithTask r v) h k =
      let same = one_task work.shape is net.granted f sound.flow l below j s r h.0 k.0 in
      let e : w ≡ v = h.1 ∙ ap on same ∙ sym k.1 in
      ap (λ (i : ℕ). WithTask i w) same ∙ ap (WithTask r) e
  one_place (WithTask s w) (InPacket r i n) h k = absurd (begun_not_sent work.shape is net.granted f sound.flow l below j s r h.0 k.0)
  one_place (WithTask s w) Done h k = absurd (done_not_begun work.shape is net.granted f sound.flow l below j s h.0 k)
  one_place (InPacket r i n) (WithTask s w) h k = absurd (begun_not_sent work.shape is net.granted f sound.flow l below j s r k.0 h.0)
  one_place (InPacket r i n) (InPacket s g o) h k =
      let same = one_link work.shape is net.granted f sound.flow l below j r s h.0 k.0 in
      let e : received_on work.shape f (r + 1) l ≡ received_on work.shape f (s + 1) l = ap (λ (t : ℕ). received_on work.shape f (t + 1) l) same in
      let d : n ≡ o = let y = h.2 in let z = k.2 in omega (arith, e, y, z) in
      ap (λ (t : ℕ). InPacket t i n) same ∙ ap (λ (t : ℕ). InPacket s t n) (h.1 ∙ sym k.1) ∙ ap (InPacket s g) d
  one_place (InPacket r i n) Done h k = absurd (done_not_sent work.shape is net.granted f sound.flow l below j r h.0 k)
  one_place Done (WithTask s w) h k = absurd (done_not_begun work.shape is net.granted f sound.flow l below j s k.0 h)
  one_place Done (InPacket r i n) h k = absurd (done_not_sent work.shape is net.granted f sound.flow l below j r k.0 h)
  one_place Done Done h k = refl

  -- a task that is in an iteration knows its number
  iteration_is : (s w : ℕ) (y : Task V) (p : Position) → busy p ≡ 1 → Holds work m s w p y → y.iteration ≡ number (work.shape.parallel s) work.shape.workers w y.done
  iteration_is s w y Claims in_it h = absurd (omega (arith, in_it))
  iteration_is s w y (Unit_at u) in_it h = h.1
  iteration_is s w y Sends in_it h = h.1
  iteration_is s w y (Receives e) in_it h = absurd (omega (arith, in_it))
  iteration_is s w y (SendsEnd i) in_it h = absurd (omega (arith, in_it))
  iteration_is s w y Finished in_it h = absurd (omega (arith, in_it))

  -- where an iteration was not begun, its message was not received
  not_received : (s : ℕ) → SentBy work.shape f l j s → received_on work.shape f (s + 1) l ≤ j
  not_received s sent = by_closed (is_closed (x (s + 1)).position) refl where
    y : Progress
    y = x (s + 1)

    p : Bool
    p = work.shape.parallel (s + 1)

    fits : IsProgress work.shape (s + 1) (on (s + 1)) net.granted (is_closed (f 0 0).position) (x (s + 1))
    fits = sound.flow.tasks (s + 1) (on (s + 1)) (there (s + 1) sent.0)

    by_closed : (q : Bool) → is_closed (x (s + 1)).position ≡ q → received_on work.shape f (s + 1) l ≤ j
    by_closed false free =
        let e = open_extra (work.shape.parallel (s + 1)) work.shape.workers (x (s + 1)).position free in
        let same : received_on work.shape f (s + 1) l ≡ begun_on work.shape f (s + 1) l =
        ap (λ (k : ℕ). over_link (work.shape.parallel (s + 1)) work.shape.workers l ((x (s + 1)).done + k)) e in
        let h = sent.1 in omega (arith, same, h)
    by_closed true shut =
        let all = (fits.all shut).0 in
        let shared = due_over_link (work.shape.parallel (s + 1)) work.shape.workers (on (s + 1)) l net.granted (x (s + 1)).done (has_link (work.shape.parallel (s + 1)) work.shape.workers l below) all in
        let few = packets_few work.shape is net.granted f sound.flow s l (let z = sent.0 in omega (arith, z)) below in
        let more = mono (s + 1) (x (s + 1)).done ((x (s + 1)).done + busy (x (s + 1)).position) (omega arith) in
        let h = sent.1 in let k = sent.2 in absurd (omega (arith, shared, few, more, h, k))

  -- how many messages the link behind a stage holds
  length_is : (r i : ℕ) → r + 1 < work.shape.stages → i < work.shape.workers
      → length (link_at work net r i) ≡ sent_on work.shape f r i - received_on work.shape f (r + 1) i
  length_is r i within low =
      ap length (sound.links r i within low)
      ∙ count P (message (m.carried r) work.shape.workers i (packets_on work.shape f r i)) (received_on work.shape f (r + 1) i) (sent_on work.shape f r i - received_on work.shape f (r + 1) i)

  -- the message behind n others of it
  held_at : (r i n : ℕ) → r + 1 < work.shape.stages → i < work.shape.workers → n < length (link_at work net r i)
      → get_or (link_at work net r i) n End ≡ message (m.carried r) work.shape.workers i (packets_on work.shape f r i) (received_on work.shape f (r + 1) i + n)
  held_at r i n within low less =
      let long = length_is r i within low in
      ap (λ (link : List (Message P)). get_or link n End) (sound.links r i within low)
      ∙ message_at P (message (m.carried r) work.shape.workers i (packets_on work.shape f r i)) (received_on work.shape f (r + 1) i) (sent_on work.shape f r i - received_on work.shape f (r + 1) i) n (omega (arith, less, long))

  -- the place by the counts is a place of the net
  is_at : (at : Whereabouts) → Counted at → IsAt work net (l + j * work.shape.workers) at
  is_at (WithTask s w) h =
      let b = begun_one (work.shape.parallel s) work.shape.workers l j (x s).done (busy (x s).position) below (busy_most (x s).position) h.0.1 h.0.2 in
      let k = iteration_is s (on s) (task_at work net (task_of work.shape s (on s))) (x s).position b.0 (sound.holds s (on s) (there s h.0.0)) in
      subst (λ (v : ℕ). IsAt work net (l + j * work.shape.workers) (WithTask s v)) (sym h.1) (there s h.0.0, b.0, k ∙ b.1)
  is_at (InPacket r i n) h =
      let low : i < work.shape.workers = subst (λ (t : ℕ). t < work.shape.workers) (sym h.1) below in
      let few : j < packets_on work.shape f r l = h.0.2 in
      let long = length_is r l h.0.0 below in
      let place = h.2 in
      let less : n < length (link_at work net r l) = omega (arith, few, long, place) in
      let at = held_at r l n h.0.0 below less in
      let it : IsPacketOf (l + j * work.shape.workers) (message (m.carried r) work.shape.workers l (packets_on work.shape f r l) j) =
      subst (IsPacketOf (l + j * work.shape.workers)) (sym (packet_at P (m.carried r) work.shape.workers l (packets_on work.shape f r l) j few)) refl in
      let there' : IsPacketOf (l + j * work.shape.workers) (get_or (link_at work net r l) n End) =
      subst (IsPacketOf (l + j * work.shape.workers)) (sym (at ∙ ap (message (m.carried r) work.shape.workers l (packets_on work.shape f r l)) place)) it in
      subst (λ (t : ℕ). IsAt work net (l + j * work.shape.workers) (InPacket r t n)) (sym h.1) (h.0.0, below, less, there')
  is_at Done h =
      let last = work.shape.stages - 1 in
      let within : work.shape.stages - 1 < work.shape.stages = let z = is.some_stage in omega (arith, z) in
      let d = number_done (work.shape.parallel (work.shape.stages - 1)) work.shape.workers l j (x (work.shape.stages - 1)).done below h in
      (on (work.shape.stages - 1), d.0, there (work.shape.stages - 1) within, d.1, d.2)

  -- and a place of the net is that by the counts
  is_counted : (at : Whereabouts) → IsAt work net (l + j * work.shape.workers) at → Counted at
  is_counted (WithTask s w) h = by_worker (number_on (work.shape.parallel s) work.shape.workers w l j (f s w).done below h.0.1 is_number) where
    is_number : number (work.shape.parallel s) work.shape.workers w (f s w).done ≡ l + j * work.shape.workers
    is_number = sym (iteration_is s w (task_at work net (task_of work.shape s w)) (f s w).position h.1 (sound.holds s w h.0)) ∙ h.2

    by_worker : (w ≡ worker_on (work.shape.parallel s) l) × (over_link (work.shape.parallel s) work.shape.workers l (f s w).done ≡ j) × (over_link (work.shape.parallel s) work.shape.workers l ((f s w).done + 1) ≡ j + 1)
        → Counted (WithTask s w)
    by_worker k =
        let one : over_link (work.shape.parallel s) work.shape.workers l ((f s w).done + busy (f s w).position) ≡ j + 1 =
        ap (λ (i : ℕ). over_link (work.shape.parallel s) work.shape.workers l ((f s w).done + i)) h.1 ∙ k.2 in
        let least : packets_on work.shape f s l ≡ j = subst (λ (v : ℕ). over_link (work.shape.parallel s) work.shape.workers l (f s v).done ≡ j) k.0 k.1 in
        let most : begun_on work.shape f s l ≡ j + 1 = subst (λ (v : ℕ). over_link (work.shape.parallel s) work.shape.workers l ((f s v).done + busy (f s v).position) ≡ j + 1) k.0 one in
        ((h.0.0, omega (arith, least), omega (arith, most)), k.0)
  is_counted (InPacket r i n) h =
      let at = held_at r i n h.0 h.1 h.2 in
      let k = packet_is P (m.carried r) work.shape.workers i (packets_on work.shape f r i) (received_on work.shape f (r + 1) i + n) (l + j * work.shape.workers)
      (subst (IsPacketOf (l + j * work.shape.workers)) at h.3) in
      let e : (received_on work.shape f (r + 1) i + n) * work.shape.workers + i ≡ j * work.shape.workers + l = let z = k.1 in omega (arith, z) in
      let same = same_from_place (received_on work.shape f (r + 1) i + n) i j l work.shape.workers h.1 below e in
      let few : j < packets_on work.shape f r l = subst (λ (t : ℕ). j < packets_on work.shape f r t) same.1 (let z = k.0 in let y = same.0 in omega (arith, z, y)) in
      let place : received_on work.shape f (r + 1) l + n ≡ j = subst (λ (t : ℕ). received_on work.shape f (r + 1) t + n ≡ j) same.1 same.0 in
      let b : begun_on work.shape f (r + 1) l ≤ received_on work.shape f (r + 1) l =
      let y = x (r + 1) in
      let z = busy_extra (work.shape.parallel (r + 1)) work.shape.workers y.position in
      mono (r + 1) (y.done + busy y.position) (y.done + extra (work.shape.parallel (r + 1)) work.shape.workers y.position) (omega (arith, z)) in
      ((h.0, omega (arith, b, place), few), same.1, place)
  is_counted Done (w, d, task, less, is_number) =
      let last = work.shape.stages - 1 in
      let k = number_on (work.shape.parallel (work.shape.stages - 1)) work.shape.workers w l j d below task.1 is_number in
      let less' : d < (x (work.shape.stages - 1)).done = subst (λ (v : ℕ). d < (f (work.shape.stages - 1) v).done) k.0 less in
      let up = mono (work.shape.stages - 1) (d + 1) (x (work.shape.stages - 1)).done (omega (arith, less')) in
      let one = k.2 in omega (arith, up, one)

  -- so a number with a place by the counts is at that place alone
  at_one : (at : Whereabouts) → Counted at → IsLocated work net (l + j * work.shape.workers)
  at_one at h = (at, is_at at h, λ other k. one_place other at (is_counted other k) h)

  pub found_at : (((t : ℕ) × BegunBy work.shape f l j t) ⊎ ((t : ℕ) × SentBy work.shape f l j t)) ⊎ DoneBy work.shape f l j → IsLocated work net (l + j * work.shape.workers)
  found_at (inl (inl h)) = at_one (WithTask h.0 (on h.0)) (h.1, refl)
  found_at (inl (inr h)) =
      let few = not_received h.0 h.1 in
      at_one (InPacket h.0 l (j - received_on work.shape f (h.0 + 1) l)) (h.1, refl, omega (arith, few))
  found_at (inr h) = at_one Done h

-- each granted number is at one place
pub is_located : (V P : Type 0) (work : Work V P) (m : Meaning V P) → IsPipeline work.shape → (net : Net V P) → IsSound work m net → (k : ℕ) → k < net.granted → IsLocated work net k
is_located V P work m is net sound k less =
    let W = work.shape.workers in
    let below : k % work.shape.workers < work.shape.workers = mod-lt k is.some_worker in
    let h = found_at V P work m is net sound (k % work.shape.workers) (k / work.shape.workers) below (located work.shape is net.granted (flow_of work net) sound.flow k less) in
    let split = div-add-mod k work.shape.workers in
    let e : k % work.shape.workers + k / work.shape.workers * work.shape.workers ≡ k = omega (arith, split) in
    subst (IsLocated work net) e h
