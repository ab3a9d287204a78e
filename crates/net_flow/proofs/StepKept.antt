-- Each step of each task keeps a net sound.
use Rattle.std.proofs.Common.{◌≡◌, ◌⊎◌, ◌<◌, ◌≤◌, ◌+◌, ◌-◌, ◌*◌, ℕ, Bool, true, false, not, ◌&&◌, nat_lt, refl, sym, ap, subst, subst₂, ◌∙◌, arith, inl, inr, List, [], ◌∷◌, ◌++◌, length, get_or, set, length-set, if◌then◌else◌}
use Rattle.std.proofs.lemmas.Bool.{cases_lt}
use Rattle.std.proofs.lemmas.Bool.Decides.{nat_tests}
use Rattle.net_flow.specs.Dealing.{over_link, next_link, due, number}
use Rattle.net_flow.specs.Flow.{Position, Claims, Unit_at, Sends, Receives, SendsEnd, Finished, Progress, ends_sent, packets, sent, received, packets_on, sent_on, received_on, is_closed, busy, IsProgress, idle}
use Rattle.net_flow.specs.Net.{Message, Packet, End, Work, Task, Net, task_at, link_at, is_empty, waits_at, leaves, arrives, enters, closes, takes_end, passes_end, with_task, with_link, is_granted, after_receive, moved_at, is_finished}
use Rattle.net_flow.specs.Shapes.{IsPipeline, IsTask, HasLink, IsWorker, worker_on, links_of, task_of, link_of}
use Rattle.net_flow.specs.Sound.{Meaning, LawfulWork, Holds, message, flow_of, IsSound}
use Rattle.net_flow.proofs.MessageCounts.{over_link_here, idle_ends_sent, ends_sent_here, sent_end_here}
use Rattle.net_flow.proofs.FlowSteps.{arrived, closing, took_end, sent_end, Advances, claims_one, claims_none, runs_unit, sends_packet, receives_packet, receives_end, sends_end, sends_over, receives_over}
use Rattle.net_flow.proofs.LinkChanges.{in_stays}
use Rattle.net_flow.proofs.LinkContents.{held, packet_at, end_at, packet_sent, end_sent}
use Rattle.net_flow.proofs.NetChange.{progress_of, after_step, holds_in, task_here, moves_on, stepped, first_message, quiet, receive_one, send_one}
use Rattle.net_flow.proofs.NeverStuck.{number_is, number_few}
use Rattle.net_flow.proofs.TaskChange.{Becomes, at_it, becomes_arrived, becomes_left, becomes_sent, becomes_took, becomes_closed}
use Rattle.net_flow.proofs.TaskKept.{at_head, packet_is_due, next_link_below, on_next_link, has_below}

number_head : (p : Bool) (W w d : ℕ) → p ≡ false → number p W w d ≡ d
number_head true W w d straight = cc
number_head false W w d straight = refl

pub worker_on_is : (p : Bool) (W w l : ℕ) → IsWorker p W w → HasLink p W w l → worker_on p l ≡ w
worker_on_is true W w l is has = has
worker_on_is false W w l is has = sym is

pub granted_below : (V P : Type 0) (net : Net V P) → is_granted net ≡ true → net.granted < net.limit
granted_below V P net h = grind (arith, nat_tests)

pub refused_is : (V P : Type 0) (net : Net V P) → is_granted net ≡ false → net.granted ≤ net.limit → (net.paused ≡ true) ⊎ (net.granted ≡ net.limit)
refused_is V P net no' few = by_mark net.paused refl where
  by_mark : (b : Bool) → net.paused ≡ b → (net.paused ≡ true) ⊎ (net.granted ≡ net.limit)
  by_mark true is_set = inl is_set
  by_mark false is_set =
      let h : nat_lt net.granted net.limit ≡ false = sym (ap (λ (q : Bool). not q && nat_lt net.granted net.limit) is_set) ∙ no' in
      inr (let k : net.limit ≤ net.granted = grind (arith, nat_tests) in omega (arith, k, few))

module _ (V P : Type 0) (work : Work V P) (m : Meaning V P) (is : IsPipeline work.shape) (net : Net V P) (law : LawfulWork work m net.limit) (sound : IsSound work m net) (s w : ℕ) (is_task : IsTask work.shape s w)
    (d k n : ℕ) (v : V) where
  abbrev x_at : Position → Task V
  x_at p = at_it V P work m net.limit s w law is_task d k n p v

  abbrev stands : Position → Type 0
  stands p = task_at work net (task_of work.shape s w) ≡ record { stage = s; worker = w; position = p; done = d; iteration = k; values = v; moves = n }

  counts_at : (p : Position) → stands p → flow_of work net s w ≡ record { position = p; done = d }
  counts_at p at = ap progress_of at

  position_at : (p : Position) → stands p → (flow_of work net s w).position ≡ p
  position_at p at = ap (λ (x : Progress). x.position) (counts_at p at)

  done_at : (p : Position) → stands p → (flow_of work net s w).done ≡ d
  done_at p at = ap (λ (x : Progress). x.done) (counts_at p at)

  fits_at : (p : Position) → stands p → IsProgress work.shape s w net.granted (is_closed (flow_of work net 0 0).position) (record { position = p; done = d })
  fits_at p at = subst (IsProgress work.shape s w net.granted (is_closed (flow_of work net 0 0).position)) (counts_at p at) (sound.flow.tasks s w is_task)

  -- an iteration that is begun has a number below the limit
  below_limit : d + 1 ≤ due (work.shape.parallel s) work.shape.workers w net.granted → number (work.shape.parallel s) work.shape.workers w d < net.limit
  below_limit few = let h = number_few (work.shape.parallel s) work.shape.workers w net.granted d is_task.1 few in let g = sound.few in omega (arith, h, g)

  busy_below : (p : Position) → stands p → busy p ≡ 1 → number (work.shape.parallel s) work.shape.workers w d < net.limit
  busy_below p at one = let fits = fits_at p at in below_limit (let h = fits.within in omega (arith, h, one))

  finish : (p : Position) (y : Task V) (x : Progress) (c k' : ℕ) (links : List (List (Message P))) → stands p → Becomes V P work m net.limit s w law is_task d k' n y x
      → Advances work.shape (flow_of work net) s w net.granted c x → (p ≡ Claims → c ≡ net.granted → (net.paused ≡ true) ⊎ (net.granted ≡ net.limit)) → c ≤ net.limit → length links ≡ length net.links
      → ((r l : ℕ) → r + 1 < work.shape.stages → l < work.shape.workers → get_or links (link_of work.shape r l) [] ≡ holds_in V P work m is net sound s w is_task (flow_of work (after_step V P work m is net sound s w is_task y c links)) r l)
      → IsSound work m (after_step V P work m is net sound s w is_task y c links)
  finish p y x c k' links at becomes goes refusal few link_total contents =
      stepped V P work m is net sound s w is_task y c links (subst (Advances work.shape (flow_of work net) s w net.granted c) (sym becomes.counts) goes)
      (λ claims same. refusal (sym (position_at p at) ∙ claims) same) few
      becomes.named.stage becomes.named.worker (becomes.named.moves ∙ sym (ap (λ (z : Task V). z.moves) at)) becomes.holds link_total contents

  sends_none : (p : Position) → stands p → ((l : ℕ) (x : Progress) → sends_over (work.shape.parallel s) work.shape.workers w l x p → ⊥)
      → (l : ℕ) → sends_over (work.shape.parallel s) work.shape.workers w l (flow_of work net s w) (flow_of work net s w).position → ⊥
  sends_none p at none l put = none l (flow_of work net s w) (subst (sends_over (work.shape.parallel s) work.shape.workers w l (flow_of work net s w)) (position_at p at) put)

  receives_none : (p : Position) → stands p → ((l : ℕ) (x : Progress) → receives_over (work.shape.parallel s) work.shape.workers w l x p → ⊥)
      → (l : ℕ) → receives_over (work.shape.parallel s) work.shape.workers w l (flow_of work net s w) (flow_of work net s w).position → ⊥
  receives_none p at none l receive = none l (flow_of work net s w) (subst (receives_over (work.shape.parallel s) work.shape.workers w l (flow_of work net s w)) (position_at p at) receive)

  goes_from : (p : Position) (y : Task V) (x : Progress) (c k' : ℕ) → stands p → Becomes V P work m net.limit s w law is_task d k' n y x
      → Advances work.shape (flow_of work net) s w net.granted c x → Advances work.shape (flow_of work net) s w net.granted c (progress_of y)
  goes_from p y x c k' at becomes goes = subst (Advances work.shape (flow_of work net) s w net.granted c) (sym becomes.counts) goes

  -- a claim
  sound_claim : stands Claims → IsSound work m (moved_at work net (task_of work.shape s w) (x_at Claims) Claims)
  sound_claim at = by_test (is_granted net) refl where
    by_test : (q : Bool) → is_granted net ≡ q
        → IsSound work m (if q then with_task (record net { granted = net.granted + 1 }) (task_of work.shape s w) (enters work net.granted work.no_packet (x_at Claims)) else with_task net (task_of work.shape s w) (closes work (x_at Claims)))
    by_test true yes' =
        let h = at_head work.shape is net.granted (flow_of work net) sound.flow s w is_task (position_at Claims at) in
        let below = granted_below V P net yes' in
        let same : d ≡ net.granted = sym (done_at Claims at) ∙ h.2 in
        let straight : work.shape.parallel s ≡ false = ap work.shape.parallel h.0 ∙ is.sequential_head in
        let is_number : net.granted ≡ number (work.shape.parallel s) work.shape.workers w d = sym same ∙ sym (number_head (work.shape.parallel s) work.shape.workers w d straight) in
        let few : number (work.shape.parallel s) work.shape.workers w d < net.limit = omega (arith, is_number, below) in
        let old : m.between s w d v = subst (λ (z : Task V). Holds work m s w z.position z) at (sound.holds s w is_task) in
        let begun : m.within s w d 0 (work.enter s net.granted work.no_packet v) =
        subst (λ (i : ℕ). m.within s w d 0 (work.enter s i work.no_packet v)) same (law.enter_head s w d v h.0 (omega (arith, same, below)) old) in
        let becomes = becomes_arrived V P work m net.limit s w law is_task d net.granted n Claims 0 (work.enter s net.granted work.no_packet v) few is_number (omega arith) begun in
        let goes : Advances work.shape (flow_of work net) s w net.granted (net.granted + 1) (arrived work.shape s 0 d) = claims_one (position_at Claims at) refl (ap (arrived work.shape s 0) (sym (done_at Claims at))) in
        let y = enters work net.granted work.no_packet (x_at Claims) in
        finish Claims y (arrived work.shape s 0 d) (net.granted + 1) net.granted net.links at becomes goes (λ z same. absurd (omega (arith, same))) (omega (arith, below)) refl
        (quiet V P work m is net sound s w is_task y (net.granted + 1) (goes_from Claims y (arrived work.shape s 0 d) (net.granted + 1) net.granted at becomes goes) (sends_none Claims at (λ l x h. h)) (receives_none Claims at (λ l x h. h)))
    by_test false no' =
        let old : m.between s w d v = subst (λ (z : Task V). Holds work m s w z.position z) at (sound.holds s w is_task) in
        let becomes = becomes_closed V P work m net.limit s w law is_task d k n Claims v old in
        let goes : Advances work.shape (flow_of work net) s w net.granted net.granted (closing work.shape s w d) = claims_none (position_at Claims at) refl (ap (closing work.shape s w) (sym (done_at Claims at))) in
        let y = closes work (x_at Claims) in
        finish Claims y (closing work.shape s w d) net.granted k net.links at becomes goes (λ z same. refused_is V P net no' sound.few) sound.few refl
        (quiet V P work m is net sound s w is_task y net.granted (goes_from Claims y (closing work.shape s w d) net.granted k at becomes goes) (sends_none Claims at (λ l x h. h)) (receives_none Claims at (λ l x h. h)))

  -- a unit
  sound_unit : (u : ℕ) → stands (Unit_at u) → IsSound work m (moved_at work net (task_of work.shape s w) (x_at (Unit_at u)) (Unit_at u))
  sound_unit u at =
      let old : m.within s w d u v × (k ≡ number (work.shape.parallel s) work.shape.workers w d) = subst (λ (z : Task V). Holds work m s w z.position z) at (sound.holds s w is_task) in
      let fit : u < work.shape.units s = (fits_at (Unit_at u) at).position in
      let below = busy_below (Unit_at u) at refl in
      let next : m.within s w d (u + 1) (work.unit s u v) = law.unit s w d u v is_task below fit old.0 in
      let becomes = becomes_arrived V P work m net.limit s w law is_task d k n (Unit_at u) (u + 1) (work.unit s u v) below old.1 (omega (arith, fit)) next in
      let goes : Advances work.shape (flow_of work net) s w net.granted net.granted (arrived work.shape s (u + 1) d) = runs_unit u (position_at (Unit_at u) at) refl (ap (arrived work.shape s (u + 1)) (sym (done_at (Unit_at u) at))) in
      let y = arrives work (u + 1) (at_it V P work m net.limit s w law is_task d k n (Unit_at u) (work.unit s u v)) in
      finish (Unit_at u) y (arrived work.shape s (u + 1) d) net.granted k net.links at becomes goes (λ z same. (cc)) sound.few refl
      (quiet V P work m is net sound s w is_task y net.granted (goes_from (Unit_at u) y (arrived work.shape s (u + 1) d) net.granted k at becomes goes) (sends_none (Unit_at u) at (λ l x h. h)) (receives_none (Unit_at u) at (λ l x h. h)))

  -- a packet is sent
  sound_send : stands Sends → IsSound work m (moved_at work net (task_of work.shape s w) (x_at Sends) Sends)
  sound_send at =
      let p = work.shape.parallel s in
      let W = work.shape.workers in
      let l = next_link p W w d in
      let old : m.within s w d (work.shape.units s) v × (k ≡ number p W w d) = subst (λ (z : Task V). Holds work m s w z.position z) at (sound.holds s w is_task) in
      let more : s + 1 < work.shape.stages = (fits_at Sends at).position in
      let below = busy_below Sends at refl in
      let l_below : l < W = next_link_below p W w d is.some_worker is_task.1 in
      let becomes = becomes_left V P work m net.limit s w law is_task d k n Sends v below old.0 in
      let new : Progress = record { position = idle s; done = d + 1 } in
      let goes : Advances work.shape (flow_of work net) s w net.granted net.granted new =
      sends_packet (position_at Sends at) refl (ap (λ (i : ℕ). let z : Progress = record { position = idle s; done = i + 1 } in z) (sym (done_at Sends at))) in
      let y = leaves work (x_at Sends) in
      let msg : Message P = Packet k (work.packet s v) in
      let links = set net.links (link_of work.shape s l) (link_at work net s l ++ msg ∷ []) in
      let goes' = goes_from Sends y new net.granted k at becomes goes in
      let g = flow_of work (after_step V P work m is net sound s w is_task y net.granted links) in
      let moves = moves_on V P work m is net sound s w is_task y net.granted links goes' in
      let on : worker_on p l ≡ w = on_next_link p W w d is_task.1 in
      let new_at : g s w ≡ new = ap progress_of (task_here V P work m is net sound s w is_task y net.granted links) in
      let f_on : flow_of work net s (worker_on p l) ≡ record { position = Sends; done = d } = ap (flow_of work net s) on ∙ counts_at Sends at in
      let g_on : g s (worker_on p l) ≡ new = ap (g s) on ∙ new_at in
      let f_packets : packets_on work.shape (flow_of work net) s l ≡ over_link p W l d = ap (packets p W l) f_on in
      let f_sent : sent_on work.shape (flow_of work net) s l ≡ over_link p W l d + 0 = ap (sent p W l) f_on in
      let g_packets : packets_on work.shape g s l ≡ over_link p W l (d + 1) = ap (packets p W l) g_on in
      let g_sent : sent_on work.shape g s l ≡ over_link p W l (d + 1) + ends_sent l (idle s) = ap (sent p W l) g_on in
      let one = over_link_here p W w l d is.some_worker refl in
      let none = idle_ends_sent l s in
      let into = in_stays work.shape is net.granted (flow_of work net) sound.flow s w net.granted g moves s l more l_below (λ z. absurd (omega (arith, z))) in
      let room : received_on work.shape (flow_of work net) (s + 1) l ≤ sent_on work.shape (flow_of work net) s l = sound.flow.links s (s + 1) l refl more l_below in
      let number_k : k ≡ l + packets_on work.shape (flow_of work net) s l * W =
      old.1 ∙ number_is p W w l d is.some_worker refl ∙ ap (λ (i : ℕ). l + i * W) (sym f_packets) in
      let value : work.packet s v ≡ m.carried s (l + packets_on work.shape (flow_of work net) s l * W) = law.packet s w d v is_task below old.0 ∙ ap (m.carried s) (sym old.1 ∙ number_k) in
      let msg_is : msg ≡ Packet (l + packets_on work.shape (flow_of work net) s l * W) (m.carried s (l + packets_on work.shape (flow_of work net) s l * W)) =
      ap (λ (i : ℕ). Packet i (work.packet s v)) number_k ∙ ap (Packet (l + packets_on work.shape (flow_of work net) s l * W)) value in
      let up : packets_on work.shape g s l ≡ packets_on work.shape (flow_of work net) s l + 1 = omega (arith, g_packets, f_packets, one) in
      let up' : sent_on work.shape g s l ≡ packets_on work.shape (flow_of work net) s l + 1 = omega (arith, g_sent, f_packets, one, none) in
      let grown = packet_sent P (m.carried s) W l (packets_on work.shape (flow_of work net) s l) (sent_on work.shape (flow_of work net) s l) (received_on work.shape (flow_of work net) (s + 1) l) room (omega (arith, f_sent, f_packets)) in
      let is_new : holds_in V P work m is net sound s w is_task g s l ≡ holds_in V P work m is net sound s w is_task (flow_of work net) s l ++ msg ∷ [] =
      ap (λ (i : ℕ). held P (m.carried s) W l i (sent_on work.shape g s l) (received_on work.shape g (s + 1) l)) up
      ∙ ap (λ (i : ℕ). held P (m.carried s) W l (packets_on work.shape (flow_of work net) s l + 1) i (received_on work.shape g (s + 1) l)) up'
      ∙ ap (λ (i : ℕ). held P (m.carried s) W l (packets_on work.shape (flow_of work net) s l + 1) (packets_on work.shape (flow_of work net) s l + 1) i) into
      ∙ grown
      ∙ ap (λ (z : Message P). holds_in V P work m is net sound s w is_task (flow_of work net) s l ++ z ∷ []) (sym msg_is) in
      let only : (j : ℕ) → sends_over p W w j (flow_of work net s w) (flow_of work net s w).position → j ≡ l = λ j put.
      (let a : j ≡ next_link p W w (flow_of work net s w).done = subst (sends_over p W w j (flow_of work net s w)) (position_at Sends at) put in a ∙ ap (next_link p W w) (done_at Sends at)) in
      finish Sends y new net.granted k links at becomes goes (λ z same. (cc)) sound.few (length-set net.links (link_of work.shape s l) (link_at work net s l ++ msg ∷ []))
      (send_one V P work m is net sound s w is_task y net.granted l msg more l_below goes' only (receives_none Sends at (λ l x h. h)) is_new)

  -- an End is sent
  sound_end : (i : ℕ) → stands (SendsEnd i) → IsSound work m (moved_at work net (task_of work.shape s w) (x_at (SendsEnd i)) (SendsEnd i))
  sound_end i at =
      let p = work.shape.parallel s in
      let W = work.shape.workers in
      let old : m.between s w d v = subst (λ (z : Task V). Holds work m s w z.position z) at (sound.holds s w is_task) in
      let fit : (s + 1 < work.shape.stages) × HasLink p W w i = (fits_at (SendsEnd i) at).position in
      let more = fit.0 in
      let l_below : i < W = has_below p W w i is_task.1 fit.1 in
      let becomes = becomes_sent V P work m net.limit s w law is_task d k n (SendsEnd i) i v old in
      let new = sent_end work.shape s w i d in
      let goes : Advances work.shape (flow_of work net) s w net.granted net.granted new = sends_end i (position_at (SendsEnd i) at) refl (ap (sent_end work.shape s w i) (sym (done_at (SendsEnd i) at))) in
      let y = passes_end work i (x_at (SendsEnd i)) in
      let msg : Message P = End in
      let links = set net.links (link_of work.shape s i) (link_at work net s i ++ msg ∷ []) in
      let goes' = goes_from (SendsEnd i) y new net.granted k at becomes goes in
      let g = flow_of work (after_step V P work m is net sound s w is_task y net.granted links) in
      let moves = moves_on V P work m is net sound s w is_task y net.granted links goes' in
      let on : worker_on p i ≡ w = worker_on_is p W w i is_task.1 fit.1 in
      let new_at : g s w ≡ new = ap progress_of (task_here V P work m is net sound s w is_task y net.granted links) ∙ becomes.counts in
      let f_on : flow_of work net s (worker_on p i) ≡ record { position = SendsEnd i; done = d } = ap (flow_of work net s) on ∙ counts_at (SendsEnd i) at in
      let g_on : g s (worker_on p i) ≡ new = ap (g s) on ∙ new_at in
      let f_packets : packets_on work.shape (flow_of work net) s i ≡ over_link p W i d = ap (packets p W i) f_on in
      let f_sent : sent_on work.shape (flow_of work net) s i ≡ over_link p W i d + ends_sent i (SendsEnd i) = ap (sent p W i) f_on in
      let g_packets : packets_on work.shape g s i ≡ over_link p W i d = ap (packets p W i) g_on ∙ ap (over_link p W i) (Rattle.net_flow.proofs.LinkChanges.sent_end_done work.shape s w i d) in
      let g_sent : sent_on work.shape g s i ≡ over_link p W i d + 1 = ap (sent p W i) g_on ∙ sent_end_here work.shape s w i d in
      let none = (ends_sent_here i).0 in
      let into = in_stays work.shape is net.granted (flow_of work net) sound.flow s w net.granted g moves s i more l_below (λ z. absurd (omega (arith, z))) in
      let room : received_on work.shape (flow_of work net) (s + 1) i ≤ sent_on work.shape (flow_of work net) s i = sound.flow.links s (s + 1) i refl more l_below in
      let same : packets_on work.shape g s i ≡ packets_on work.shape (flow_of work net) s i = g_packets ∙ sym f_packets in
      let up : sent_on work.shape g s i ≡ sent_on work.shape (flow_of work net) s i + 1 = omega (arith, g_sent, f_sent, none) in
      let grown = end_sent P (m.carried s) W i (packets_on work.shape (flow_of work net) s i) (sent_on work.shape (flow_of work net) s i) (received_on work.shape (flow_of work net) (s + 1) i) room (omega (arith, f_sent, f_packets, none)) in
      let is_new : holds_in V P work m is net sound s w is_task g s i ≡ holds_in V P work m is net sound s w is_task (flow_of work net) s i ++ msg ∷ [] =
      ap (λ (j : ℕ). held P (m.carried s) W i j (sent_on work.shape g s i) (received_on work.shape g (s + 1) i)) same
      ∙ ap (λ (j : ℕ). held P (m.carried s) W i (packets_on work.shape (flow_of work net) s i) j (received_on work.shape g (s + 1) i)) up
      ∙ ap (λ (j : ℕ). held P (m.carried s) W i (packets_on work.shape (flow_of work net) s i) (sent_on work.shape (flow_of work net) s i + 1) j) into
      ∙ grown in
      let only : (j : ℕ) → sends_over p W w j (flow_of work net s w) (flow_of work net s w).position → j ≡ i = λ j put. subst (sends_over p W w j (flow_of work net s w)) (position_at (SendsEnd i) at) put in
      finish (SendsEnd i) y new net.granted k links at becomes goes (λ z same. (cc)) sound.few (length-set net.links (link_of work.shape s i) (link_at work net s i ++ msg ∷ []))
      (send_one V P work m is net sound s w is_task y net.granted i msg more l_below goes' only (receives_none (SendsEnd i) at (λ l x h. h)) is_new)

  -- a message is received
  module _ (e : ℕ) (at : stands (Receives e)) where
    abbrev link_in : ℕ
    link_in = next_link (work.shape.parallel s) work.shape.workers w (d + e)

    later : (0 < s) × (e < links_of (work.shape.parallel s) work.shape.workers)
    later = (fits_at (Receives e) at).position

    from : s - 1 + 1 ≡ s
    from = let h = later.0 in omega (arith, h)

    in_below : link_in < work.shape.workers
    in_below = next_link_below (work.shape.parallel s) work.shape.workers w (d + e) is.some_worker is_task.1

    on_link_in : worker_on (work.shape.parallel s) link_in ≡ w
    on_link_in = on_next_link (work.shape.parallel s) work.shape.workers w (d + e) is_task.1

    -- its link, as the flow has it
    link_same : link_in ≡ next_link (work.shape.parallel s) work.shape.workers w ((flow_of work net s w).done + e)
    link_same = ap (λ (i : ℕ). next_link (work.shape.parallel s) work.shape.workers w (i + e)) (sym (done_at (Receives e) at))

    received_same : received_on work.shape (flow_of work net) (s - 1 + 1) link_in ≡ received (work.shape.parallel s) work.shape.workers link_in (flow_of work net s w)
    received_same =
        let f = flow_of work net in
        subst (λ (r : ℕ). received_on work.shape f r link_in ≡ received (work.shape.parallel s) work.shape.workers link_in (f s w)) (sym from)
        (ap (λ (i : ℕ). received (work.shape.parallel s) work.shape.workers link_in (f s i)) on_link_in)

    received_is : received (work.shape.parallel s) work.shape.workers link_in (flow_of work net s w) ≡ over_link (work.shape.parallel s) work.shape.workers link_in (d + e)
    received_is = ap (received (work.shape.parallel s) work.shape.workers link_in) (counts_at (Receives e) at)

    sound_packet : (k' : ℕ) (p' : P) (rest : List (Message P)) → link_at work net (s - 1) link_in ≡ Packet k' p' ∷ rest
        → IsSound work m (with_task (with_link work net (s - 1) link_in rest) (task_of work.shape s w) (enters work k' p' (x_at (Receives e))))
    sound_packet k' p' rest is_first =
        let W = work.shape.workers in
        let p = work.shape.parallel s in
        let f = flow_of work net in
        let q = s - 1 in
        let within : q + 1 < work.shape.stages = let h = from in omega (arith, h, is_task.0) in
        let first = first_message V P work m is net sound s w is_task q link_in (Packet k' p') rest within in_below is_first in
        let packets = packets_on work.shape f q link_in in
        let received_f = received_on work.shape f (q + 1) link_in in
        let less : received_f < packets = by_order packets received_f (cases_lt received_f packets) first.1 in
        let msg_is : Packet k' p' ≡ Packet (link_in + received_f * W) (m.carried q (link_in + received_f * W)) = first.1 ∙ packet_at P (m.carried q) W link_in packets received_f less in
        let k_is : k' ≡ link_in + received_f * W = cc msg_is in
        let p_is : p' ≡ m.carried q (link_in + received_f * W) = cc msg_is in
        let less' : received p W link_in (f s w) < packets = subst (λ (i : ℕ). i < packets) received_same less in
        let few = packet_is_due work.shape is net.granted f sound.flow s w e q link_in is_task from link_same (position_at (Receives e) at) less' in
        let room : d + 1 ≤ due p W w net.granted = subst (λ (i : ℕ). i + 1 ≤ due p W w net.granted) (done_at (Receives e) at) few.1 in
        let below = below_limit room in
        let none : d + e ≡ d = (let h = few.0 in omega (arith, h)) in
        let next_is : link_in ≡ next_link p W w d = ap (next_link p W w) none in
        let received_d : received_f ≡ over_link p W link_in d = received_same ∙ received_is ∙ ap (over_link p W link_in) none in
        let is_number : k' ≡ number p W w d = k_is ∙ ap (λ (i : ℕ). link_in + i * W) received_d ∙ sym (number_is p W w link_in d is.some_worker next_is) in
        let carried_is : p' ≡ m.carried q (number p W w d) = p_is ∙ ap (m.carried q) (sym k_is ∙ is_number) in
        let old : m.between s w d v = subst (λ (z : Task V). Holds work m s w z.position z) at (sound.holds s w is_task) in
        let begun = law.enter q s w d v from is_task below old in
        let begun' : m.within s w d 0 (work.enter s k' p' v) = subst₂ (λ (i : ℕ) (z : P). m.within s w d 0 (work.enter s i z v)) (sym is_number) (sym carried_is) begun in
        let becomes = becomes_arrived V P work m net.limit s w law is_task d k' n (Receives e) 0 (work.enter s k' p' v) below is_number (omega arith) begun' in
        let goes : Advances work.shape f s w net.granted net.granted (arrived work.shape s 0 d) =
        receives_packet e q link_in (position_at (Receives e) at) refl from link_same less' (ap (arrived work.shape s 0) (sym (done_at (Receives e) at))) in
        let y = enters work k' p' (x_at (Receives e)) in
        let links = set net.links (link_of work.shape q link_in) rest in
        finish (Receives e) y (arrived work.shape s 0 d) net.granted k' links at becomes goes (λ z same. (cc)) sound.few (length-set net.links (link_of work.shape q link_in) rest)
        (receive_one V P work m is net sound s w is_task y net.granted e q link_in (Packet k' p') rest from in_below on_link_in (position_at (Receives e) at) link_same is_first
        (goes_from (Receives e) y (arrived work.shape s 0 d) net.granted k' at becomes goes))
      where
        by_order : (packets received_f : ℕ) → (received_f < packets) ⊎ (packets ≤ received_f) → Packet k' p' ≡ message (m.carried (s - 1)) work.shape.workers link_in packets received_f → received_f < packets
        by_order packets received_f (inl h) is_msg = h
        by_order packets received_f (inr h) is_msg = let no : Packet k' p' ≡ End = is_msg ∙ end_at P (m.carried (s - 1)) work.shape.workers link_in packets received_f h in cc

    sound_took_end : (rest : List (Message P)) → link_at work net (s - 1) link_in ≡ End ∷ rest
        → IsSound work m (with_task (with_link work net (s - 1) link_in rest) (task_of work.shape s w) (takes_end work e (x_at (Receives e))))
    sound_took_end rest is_first =
        let W = work.shape.workers in
        let p = work.shape.parallel s in
        let f = flow_of work net in
        let q = s - 1 in
        let within : q + 1 < work.shape.stages = let h = from in omega (arith, h, is_task.0) in
        let first = first_message V P work m is net sound s w is_task q link_in End rest within in_below is_first in
        let packets = packets_on work.shape f q link_in in
        let sent_f = sent_on work.shape f q link_in in
        let received_f = received_on work.shape f (q + 1) link_in in
        let most : packets ≤ received_f = by_order packets received_f (cases_lt received_f packets) first.1 in
        let most' : packets ≤ received p W link_in (f s w) = subst (λ (i : ℕ). packets ≤ i) received_same most in
        let less' : received p W link_in (f s w) < sent_f = subst (λ (i : ℕ). i < sent_f) received_same first.0 in
        let old : m.between s w d v = subst (λ (z : Task V). Holds work m s w z.position z) at (sound.holds s w is_task) in
        let becomes = becomes_took V P work m net.limit s w law is_task d k n (Receives e) e v old in
        let goes : Advances work.shape f s w net.granted net.granted (took_end work.shape s w e d) =
        receives_end e q link_in (position_at (Receives e) at) refl from link_same most' less' (ap (took_end work.shape s w e) (sym (done_at (Receives e) at))) in
        let y = takes_end work e (x_at (Receives e)) in
        let links = set net.links (link_of work.shape q link_in) rest in
        finish (Receives e) y (took_end work.shape s w e d) net.granted k links at becomes goes (λ z same. (cc)) sound.few (length-set net.links (link_of work.shape q link_in) rest)
        (receive_one V P work m is net sound s w is_task y net.granted e q link_in End rest from in_below on_link_in (position_at (Receives e) at) link_same is_first
        (goes_from (Receives e) y (took_end work.shape s w e d) net.granted k at becomes goes))
      where
        by_order : (packets received_f : ℕ) → (received_f < packets) ⊎ (packets ≤ received_f) → End ≡ message (m.carried (s - 1)) work.shape.workers link_in packets received_f → packets ≤ received_f
        by_order packets received_f (inr h) is_msg = h
        by_order packets received_f (inl h) is_msg = let no : End ≡ Packet (link_in + received_f * work.shape.workers) (m.carried (s - 1) (link_in + received_f * work.shape.workers)) = is_msg ∙ packet_at P (m.carried (s - 1)) work.shape.workers link_in packets received_f h in cc

    sound_receive : waits_at work net (x_at (Receives e)) (Receives e) ≡ false → IsSound work m (moved_at work net (task_of work.shape s w) (x_at (Receives e)) (Receives e))
    sound_receive free = by_link (link_at work net (s - 1) link_in) refl free where
      by_link : (link : List (Message P)) → link_at work net (s - 1) link_in ≡ link → is_empty link ≡ false
          → IsSound work m (after_receive work net (task_of work.shape s w) (x_at (Receives e)) e link_in link)
      by_link [] is_link some = cc
      by_link (Packet k' p' ∷ rest) is_link some = sound_packet k' p' rest is_link
      by_link (End ∷ rest) is_link some = sound_took_end rest is_link

  -- any step that moves
  pub sound_at : (p : Position) → stands p → is_finished p ≡ false → waits_at work net (x_at p) p ≡ false → IsSound work m (moved_at work net (task_of work.shape s w) (x_at p) p)
  sound_at Claims at goes free = sound_claim at
  sound_at (Unit_at u) at goes free = sound_unit u at
  sound_at Sends at goes free = sound_send at
  sound_at (Receives e) at goes free = sound_receive e at free
  sound_at (SendsEnd i) at goes free = sound_end i at
  sound_at Finished at goes free = cc
