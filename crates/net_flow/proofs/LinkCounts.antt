-- What one step of a task does to what it has sent over a link and received from it.
use Rattle.std.proofs.Common.{◌≡◌, ◌≢◌, ◌⊎◌, ◌<◌, ◌+◌, ℕ, suc, Bool, sym, ap, subst, subst₂, ◌∙◌, arith, inr}
use Rattle.std.proofs.lemmas.Bool.{cases_eq}
use Rattle.net_flow.specs.Dealing.{over_link, next_link}
use Rattle.net_flow.specs.Flow.{Position, Claims, Unit_at, Sends, Receives, SendsEnd, Finished, Progress, Flow, extra, ends_sent, sent, received, packets_on, sent_on, IsFlow}
use Rattle.net_flow.specs.Shapes.{Shape, IsPipeline, IsTask, HasLink, links_of}
use Rattle.net_flow.proofs.MessageCounts.{over_link_here, over_link_other, idle_received, idle_sent, arrived_received, arrived_sent, closing_sent, took_end_received, took_end_sent, sent_end_received, ends_sent_here, sent_end_here, sent_end_other}
use Rattle.net_flow.proofs.FlowSteps.{sent_end, Advances, claims_one, claims_none, runs_unit, sends_packet, receives_packet, receives_end, sends_end, sends_over, receives_over}
use Rattle.net_flow.proofs.TaskKept.{packet_is_due, end_is_last, at_head}

-- a task sends over a link or not, and receives from it or not
pub may_send : (p : Bool) (W w l : ℕ) (x : Progress) (position : Position) → sends_over p W w l x position ⊎ (sends_over p W w l x position → ⊥)
may_send p W w l x Claims = inr (λ h. h)
may_send p W w l x (Unit_at u) = inr (λ h. h)
may_send p W w l x Sends = cases_eq l (next_link p W w x.done)
may_send p W w l x (Receives e) = inr (λ h. h)
may_send p W w l x (SendsEnd m) = cases_eq l m
may_send p W w l x Finished = inr (λ h. h)

pub may_receive : (p : Bool) (W w l : ℕ) (x : Progress) (position : Position) → receives_over p W w l x position ⊎ (receives_over p W w l x position → ⊥)
may_receive p W w l x Claims = inr (λ h. h)
may_receive p W w l x (Unit_at u) = inr (λ h. h)
may_receive p W w l x Sends = inr (λ h. h)
may_receive p W w l x (Receives e) = cases_eq l (next_link p W w (x.done + e))
may_receive p W w l x (SendsEnd m) = inr (λ h. h)
may_receive p W w l x Finished = inr (λ h. h)

module _ (shape : Shape) (is : IsPipeline shape) (b : ℕ) (f : Flow) (here : IsFlow shape b f) (s w : ℕ) (is_task : IsTask shape s w) (l : ℕ) (has : HasLink (shape.parallel s) shape.workers w l) where
  abbrev out : Progress → ℕ
  out x = sent (shape.parallel s) shape.workers l x

  abbrev in' : Progress → ℕ
  in' x = received (shape.parallel s) shape.workers l x

  abbrev of : ℕ → ℕ
  of n = over_link (shape.parallel s) shape.workers l n

  abbrev at_position : Position → Type 0
  at_position p = sends_over (shape.parallel s) shape.workers w l (f s w) p

  abbrev from_position : Position → Type 0
  from_position p = receives_over (shape.parallel s) shape.workers w l (f s w) p

  -- what a task with this position has sent and received
  sent_at : (p : Position) → (f s w).position ≡ p → out (f s w) ≡ of (f s w).done + ends_sent l p
  sent_at p at = ap (λ (q : Position). of (f s w).done + ends_sent l q) at

  received_at : (p : Position) → (f s w).position ≡ p → in' (f s w) ≡ of ((f s w).done + extra (shape.parallel s) shape.workers p)
  received_at p at = ap (λ (q : Position). of ((f s w).done + extra (shape.parallel s) shape.workers q)) at

  -- a step that sends over the link sends one message
  pub out_here : (c : ℕ) (y : Progress) → s + 1 < shape.stages → Advances shape f s w b c y → at_position (f s w).position → out y ≡ out (f s w) + 1
  out_here c y more (claims_one at m e) h = absurd (subst at_position at h)
  out_here c y more (claims_none at m e) h = absurd (subst at_position at h)
  out_here c y more (runs_unit u at m e) h = absurd (subst at_position at h)
  out_here c y more (sends_packet at m e) h =
      let on : l ≡ next_link (shape.parallel s) shape.workers w (f s w).done = subst at_position at h in
      let one = over_link_here (shape.parallel s) shape.workers w l (f s w).done is.some_worker on in
      let new : out y ≡ of ((f s w).done + 1) = ap out e ∙ idle_sent (shape.parallel s) shape.workers l s (f s w).done in
      omega (arith, new, one, sent_at Sends at)
  out_here c y more (receives_packet n r k at m next on less e) h = absurd (subst at_position at h)
  out_here c y more (receives_end n r k at m next on most less e) h = absurd (subst at_position at h)
  out_here c y more (sends_end m at same e) h =
      let on : l ≡ m = subst at_position at h in
      let none : ends_sent l (SendsEnd m) ≡ 0 = subst (λ (k : ℕ). ends_sent k (SendsEnd m) ≡ 0) (sym on) (ends_sent_here m).0 in
      let one : out (sent_end shape s w m (f s w).done) ≡ of (f s w).done + 1 = subst (λ (k : ℕ). sent (shape.parallel s) shape.workers k (sent_end shape s w m (f s w).done) ≡ over_link (shape.parallel s) shape.workers k (f s w).done + 1) (sym on) (sent_end_here shape s w m (f s w).done) in
      let new : out y ≡ of (f s w).done + 1 = ap out e ∙ one in
      omega (arith, new, sent_at (SendsEnd m) at, none)

  -- any other step sends none
  pub out_other : (c : ℕ) (y : Progress) → s + 1 < shape.stages → Advances shape f s w b c y → (at_position (f s w).position → ⊥) → out y ≡ out (f s w)
  out_other c y more (claims_one at m e) h =
      let new : out y ≡ of (f s w).done = ap out e ∙ arrived_sent (shape.parallel s) shape.workers l shape s 0 (f s w).done more in omega (arith, new, sent_at Claims at)
  out_other c y more (claims_none at m e) h =
      let new : out y ≡ of (f s w).done = ap out e ∙ closing_sent shape.workers l shape s w (f s w).done more has in omega (arith, new, sent_at Claims at)
  out_other c y more (runs_unit u at m e) h =
      let new : out y ≡ of (f s w).done = ap out e ∙ arrived_sent (shape.parallel s) shape.workers l shape s (u + 1) (f s w).done more in omega (arith, new, sent_at (Unit_at u) at)
  out_other c y more (sends_packet at m e) h =
      let off : l ≢ next_link (shape.parallel s) shape.workers w (f s w).done = λ k. h (subst at_position (sym at) k) in
      let new : out y ≡ of ((f s w).done + 1) = ap out e ∙ idle_sent (shape.parallel s) shape.workers l s (f s w).done in
      omega (arith, new, over_link_other (shape.parallel s) shape.workers w l (f s w).done has off, sent_at Sends at)
  out_other c y more (receives_packet n r k at m next on less e) h =
      let new : out y ≡ of (f s w).done = ap out e ∙ arrived_sent (shape.parallel s) shape.workers l shape s 0 (f s w).done more in omega (arith, new, sent_at (Receives n) at)
  out_other c y more (receives_end n r k at m next on most less e) h =
      let new : out y ≡ of (f s w).done = ap out e ∙ took_end_sent l shape s w n (f s w).done more has in omega (arith, new, sent_at (Receives n) at)
  out_other c y more (sends_end m at same e) h =
      let off : l ≢ m = λ k. h (subst at_position (sym at) k) in
      let new : out y ≡ of (f s w).done + ends_sent l (SendsEnd m) = ap out e ∙ sent_end_other l shape s w m (f s w).done has off in
      omega (arith, new, sent_at (SendsEnd m) at)

  -- a step that receives from the link receives one message, which had been sent
  pub in_here : (c r : ℕ) (y : Progress) → r + 1 ≡ s → Advances shape f s w b c y → from_position (f s w).position → (in' y ≡ in' (f s w) + 1) × (in' (f s w) < sent_on shape f r l)
  in_here c r y next (claims_one at m e) h = absurd (subst from_position at h)
  in_here c r y next (claims_none at m e) h = absurd (subst from_position at h)
  in_here c r y next (runs_unit u at m e) h = absurd (subst from_position at h)
  in_here c r y next (sends_packet at m e) h = absurd (subst from_position at h)
  in_here c r y next (receives_packet n q k at m next' on less e) h =
      let few = packet_is_due shape is b f here s w n q k is_task next' on at less in
      let link_same : k ≡ l = on ∙ sym (let z : l ≡ next_link (shape.parallel s) shape.workers w ((f s w).done + n) = subst from_position at h in z) in
      let stage_same : q ≡ r = omega (arith, next, next') in
      let less' : in' (f s w) < packets_on shape f r l = subst₂ (λ (i j : ℕ). received (shape.parallel s) shape.workers i (f s w) < packets_on shape f j i) link_same stage_same less in
      let position : (f s w).position ≡ Receives 0 = at ∙ ap Receives few.0 in
      let none : (f s w).done + n ≡ (f s w).done = omega (arith, few.0) in
      let on' : l ≡ next_link (shape.parallel s) shape.workers w (f s w).done = sym link_same ∙ on ∙ ap (next_link (shape.parallel s) shape.workers w) none in
      let new : in' y ≡ of ((f s w).done + 1) = ap in' e ∙ arrived_received (shape.parallel s) shape.workers l shape s 0 (f s w).done in
      let old : in' (f s w) ≡ of (f s w).done = received_at (Receives 0) position ∙ ap of (let z : (f s w).done + 0 ≡ (f s w).done = omega arith in z) in
      (omega (arith, new, old, over_link_here (shape.parallel s) shape.workers w l (f s w).done is.some_worker on'), omega (arith, less'))
  in_here c r y next (receives_end n q k at m next' on most less e) h =
      let all = end_is_last shape is b f here s w n q k is_task next' on at most less in
      let on' : l ≡ next_link (shape.parallel s) shape.workers w ((f s w).done + n) = subst from_position at h in
      let link_same : k ≡ l = on ∙ sym on' in
      let stage_same : q ≡ r = omega (arith, next, next') in
      let less' : in' (f s w) < sent_on shape f r l = subst₂ (λ (i j : ℕ). received (shape.parallel s) shape.workers i (f s w) < sent_on shape f j i) link_same stage_same less in
      let new : in' y ≡ of ((f s w).done + suc n) = ap in' e ∙ took_end_received l shape s w n (f s w).done all.2 in
      let step : (f s w).done + suc n ≡ (f s w).done + n + 1 = omega arith in
      (omega (arith, new, ap of step, received_at (Receives n) at, over_link_here (shape.parallel s) shape.workers w l ((f s w).done + n) is.some_worker on'), less')
  in_here c r y next (sends_end m at same e) h = absurd (subst from_position at h)

  -- any other step receives none
  pub in_other : (c r : ℕ) (y : Progress) → r + 1 ≡ s → Advances shape f s w b c y → (from_position (f s w).position → ⊥) → in' y ≡ in' (f s w)
  in_other c r y next (claims_one at m e) h = absurd (let first = (at_head shape is b f here s w is_task at).0 in omega (arith, first, next))
  in_other c r y next (claims_none at m e) h = absurd (let first = (at_head shape is b f here s w is_task at).0 in omega (arith, first, next))
  in_other c r y next (runs_unit u at m e) h =
      let new : in' y ≡ of ((f s w).done + 1) = ap in' e ∙ arrived_received (shape.parallel s) shape.workers l shape s (u + 1) (f s w).done in omega (arith, new, received_at (Unit_at u) at)
  in_other c r y next (sends_packet at m e) h =
      let new : in' y ≡ of ((f s w).done + 1) = ap in' e ∙ idle_received (shape.parallel s) shape.workers l s (f s w).done in omega (arith, new, received_at Sends at)
  in_other c r y next (receives_packet n q k at m next' on less e) h =
      let few = packet_is_due shape is b f here s w n q k is_task next' on at less in
      let position : (f s w).position ≡ Receives 0 = at ∙ ap Receives few.0 in
      let off : l ≢ next_link (shape.parallel s) shape.workers w ((f s w).done + n) = λ j. h (subst from_position (sym at) j) in
      let none : (f s w).done + n ≡ (f s w).done = omega (arith, few.0) in
      let off' : l ≢ next_link (shape.parallel s) shape.workers w (f s w).done = subst (λ (j : ℕ). l ≢ next_link (shape.parallel s) shape.workers w j) none off in
      let new : in' y ≡ of ((f s w).done + 1) = ap in' e ∙ arrived_received (shape.parallel s) shape.workers l shape s 0 (f s w).done in
      let old : in' (f s w) ≡ of (f s w).done = received_at (Receives 0) position ∙ ap of (let z : (f s w).done + 0 ≡ (f s w).done = omega arith in z) in
      omega (arith, new, old, over_link_other (shape.parallel s) shape.workers w l (f s w).done has off')
  in_other c r y next (receives_end n q k at m next' on most less e) h =
      let all = end_is_last shape is b f here s w n q k is_task next' on at most less in
      let off : l ≢ next_link (shape.parallel s) shape.workers w ((f s w).done + n) = λ j. h (subst from_position (sym at) j) in
      let new : in' y ≡ of ((f s w).done + suc n) = ap in' e ∙ took_end_received l shape s w n (f s w).done all.2 in
      let step : (f s w).done + suc n ≡ (f s w).done + n + 1 = omega arith in
      omega (arith, new, ap of step, received_at (Receives n) at, over_link_other (shape.parallel s) shape.workers w l ((f s w).done + n) has off)
  in_other c r y next (sends_end m at same e) h =
      let new : in' y ≡ of ((f s w).done + links_of (shape.parallel s) shape.workers) = ap in' e ∙ sent_end_received l shape s w m (f s w).done in omega (arith, new, received_at (SendsEnd m) at)
