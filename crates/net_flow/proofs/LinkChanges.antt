-- What one step does to the counts at the two ends of each link.
use Rattle.std.proofs.Common.{◌≡◌, ◌⊎◌, ◌<◌, ◌+◌, ℕ, suc, Bool, true, false, nat_lt, refl, sym, ap, subst, subst₂, ◌∙◌, arith, inl, inr, if◌then◌else◌}
use Rattle.net_flow.specs.Dealing.{over_link}
use Rattle.net_flow.specs.Flow.{Sends, Receives, SendsEnd, Finished, Progress, Flow, packets, sent, received, packets_on, sent_on, received_on, IsFlow}
use Rattle.net_flow.specs.Shapes.{Shape, IsPipeline, HasLink, worker_on, links_of, first_link}
use Rattle.net_flow.proofs.MessageCounts.{over_link_other, arrived_done}
use Rattle.net_flow.proofs.FlowKept.{same_pair}
use Rattle.net_flow.proofs.FlowSteps.{closing, took_end, sent_end, Advances, claims_one, claims_none, runs_unit, sends_packet, receives_packet, receives_end, sends_end, FlowStep, sends_over, receives_over}
use Rattle.net_flow.proofs.LinkCounts.{out_other, in_here, in_other}
use Rattle.net_flow.proofs.TaskKept.{worker_is, has_link_on}

closing_done : (shape : Shape) (s w d : ℕ) → (closing shape s w d).done ≡ d
closing_done shape s w d = by_test (nat_lt (s + 1) shape.stages) where
  by_test : (b : Bool) → (let x : Progress = if b then record { position = SendsEnd (first_link (shape.parallel s) w); done = d } else record { position = Finished; done = d } in x.done) ≡ d
  by_test true = refl
  by_test false = refl

took_done : (shape : Shape) (s w e d : ℕ) → (took_end shape s w e d).done ≡ d
took_done shape s w e d = by_test (nat_lt (e + 1) (links_of (shape.parallel s) shape.workers)) where
  by_test : (b : Bool) → (let x : Progress = if b then record { position = Receives (suc e); done = d } else closing shape s w d in x.done) ≡ d
  by_test true = refl
  by_test false = closing_done shape s w d

pub sent_end_done : (shape : Shape) (s w m d : ℕ) → (sent_end shape s w m d).done ≡ d
sent_end_done shape s w m d = by_test (nat_lt (m + 1) (first_link (shape.parallel s) w + links_of (shape.parallel s) shape.workers)) where
  by_test : (b : Bool) → (let x : Progress = if b then record { position = SendsEnd (m + 1); done = d } else record { position = Finished; done = d } in x.done) ≡ d
  by_test true = refl
  by_test false = refl

-- only a step that sends a packet counts an iteration, where a stage follows
done_goes : (shape : Shape) (f : Flow) (s w b c : ℕ) (y : Progress) → s + 1 < shape.stages → Advances shape f s w b c y
    → (y.done ≡ (f s w).done) ⊎ ((f s w).position ≡ Sends) × (y.done ≡ (f s w).done + 1)
done_goes shape f s w b c y more (claims_one at m e) = inl (ap (λ (x : Progress). x.done) e ∙ arrived_done shape s 0 (f s w).done more)
done_goes shape f s w b c y more (claims_none at m e) = inl (ap (λ (x : Progress). x.done) e ∙ closing_done shape s w (f s w).done)
done_goes shape f s w b c y more (runs_unit u at m e) = inl (ap (λ (x : Progress). x.done) e ∙ arrived_done shape s (u + 1) (f s w).done more)
done_goes shape f s w b c y more (sends_packet at m e) = inr (at, ap (λ (x : Progress). x.done) e)
done_goes shape f s w b c y more (receives_packet n q k at m next on less e) = inl (ap (λ (x : Progress). x.done) e ∙ arrived_done shape s 0 (f s w).done more)
done_goes shape f s w b c y more (receives_end n q k at m next on most less e) = inl (ap (λ (x : Progress). x.done) e ∙ took_done shape s w n (f s w).done)
done_goes shape f s w b c y more (sends_end k at m e) = inl (ap (λ (x : Progress). x.done) e ∙ sent_end_done shape s w k (f s w).done)

packets_other : (shape : Shape) (f : Flow) (s w b c l : ℕ) (y : Progress) → s + 1 < shape.stages → HasLink (shape.parallel s) shape.workers w l → Advances shape f s w b c y
    → (sends_over (shape.parallel s) shape.workers w l (f s w) (f s w).position → ⊥) → packets (shape.parallel s) shape.workers l y ≡ packets (shape.parallel s) shape.workers l (f s w)
packets_other shape f s w b c l y more has goes off = by_done (done_goes shape f s w b c y more goes) where
  by_done : (y.done ≡ (f s w).done) ⊎ ((f s w).position ≡ Sends) × (y.done ≡ (f s w).done + 1)
      → packets (shape.parallel s) shape.workers l y ≡ packets (shape.parallel s) shape.workers l (f s w)
  by_done (inl same) = ap (over_link (shape.parallel s) shape.workers l) same
  by_done (inr up) =
      ap (over_link (shape.parallel s) shape.workers l) up.1
      ∙ over_link_other (shape.parallel s) shape.workers w l (f s w).done has (λ on. off (subst (sends_over (shape.parallel s) shape.workers w l (f s w)) (sym up.0) on))

module _ (shape : Shape) (is : IsPipeline shape) (b : ℕ) (f : Flow) (here : IsFlow shape b f) (s w c : ℕ) (g : Flow) (moves : FlowStep shape b f s w c g) where
  -- a link to which the step sends nothing
  pub out_stays : (r l : ℕ) → r + 1 < shape.stages → l < shape.workers → (r ≡ s → sends_over (shape.parallel s) shape.workers w l (f s w) (f s w).position → ⊥)
      → (packets_on shape g r l ≡ packets_on shape f r l) × (sent_on shape g r l ≡ sent_on shape f r l)
  out_stays r l within below off = by_pair (same_pair r (worker_on (shape.parallel r) l) s w) where
    by_pair : ((r ≡ s) × (worker_on (shape.parallel r) l ≡ w)) ⊎ (r ≡ s → worker_on (shape.parallel r) l ≡ w → ⊥)
        → (packets_on shape g r l ≡ packets_on shape f r l) × (sent_on shape g r l ≡ sent_on shape f r l)
    by_pair (inl same) =
        let has : HasLink (shape.parallel s) shape.workers w l = has_link_on (shape.parallel s) shape.workers w l below (sym same.1 ∙ ap (λ (k : ℕ). worker_on (shape.parallel k) l) same.0) in
        let more : s + 1 < shape.stages = subst (λ (k : ℕ). k + 1 < shape.stages) same.0 within in
        let a = packets_other shape f s w b c l (g s w) more has moves.goes (off same.0) in
        let e = out_other shape is b f here s w moves.is_task l has c (g s w) more moves.goes (off same.0) in (
          subst₂ (λ (k n : ℕ). packets (shape.parallel k) shape.workers l (g k n) ≡ packets (shape.parallel k) shape.workers l (f k n)) (sym same.0) (sym same.1) a,
          subst₂ (λ (k n : ℕ). sent (shape.parallel k) shape.workers l (g k n) ≡ sent (shape.parallel k) shape.workers l (f k n)) (sym same.0) (sym same.1) e,
        )
    by_pair (inr away) =
        let same = moves.others r (worker_on (shape.parallel r) l) (omega (arith, within), worker_is (shape.parallel r) shape.workers l below) away in
        (ap (packets (shape.parallel r) shape.workers l) same, ap (sent (shape.parallel r) shape.workers l) same)

  -- a link from which it receives nothing
  pub in_stays : (r l : ℕ) → r + 1 < shape.stages → l < shape.workers → (r + 1 ≡ s → receives_over (shape.parallel s) shape.workers w l (f s w) (f s w).position → ⊥)
      → received_on shape g (r + 1) l ≡ received_on shape f (r + 1) l
  in_stays r l within below off = by_pair (same_pair (r + 1) (worker_on (shape.parallel (r + 1)) l) s w) where
    by_pair : ((r + 1 ≡ s) × (worker_on (shape.parallel (r + 1)) l ≡ w)) ⊎ (r + 1 ≡ s → worker_on (shape.parallel (r + 1)) l ≡ w → ⊥)
        → received_on shape g (r + 1) l ≡ received_on shape f (r + 1) l
    by_pair (inl same) =
        let has : HasLink (shape.parallel s) shape.workers w l = has_link_on (shape.parallel s) shape.workers w l below (sym same.1 ∙ ap (λ (k : ℕ). worker_on (shape.parallel k) l) same.0) in
        let e = in_other shape is b f here s w moves.is_task l has c r (g s w) same.0 moves.goes (off same.0) in
        subst₂ (λ (k n : ℕ). received (shape.parallel k) shape.workers l (g k n) ≡ received (shape.parallel k) shape.workers l (f k n)) (sym same.0) (sym same.1) e
    by_pair (inr away) = ap (received (shape.parallel (r + 1)) shape.workers l) (moves.others (r + 1) (worker_on (shape.parallel (r + 1)) l) (within, worker_is (shape.parallel (r + 1)) shape.workers l below) away)

  -- the link from which it receives
  pub in_moves : (r l : ℕ) → r + 1 ≡ s → l < shape.workers → worker_on (shape.parallel s) l ≡ w → receives_over (shape.parallel s) shape.workers w l (f s w) (f s w).position
      → (received_on shape g (r + 1) l ≡ received_on shape f (r + 1) l + 1) × (received_on shape f (r + 1) l < sent_on shape f r l)
  in_moves r l next below on receive =
      let has : HasLink (shape.parallel s) shape.workers w l = has_link_on (shape.parallel s) shape.workers w l below (sym on) in
      let h = in_here shape is b f here s w moves.is_task l has c r (g s w) next moves.goes receive in
      let on' : worker_on (shape.parallel (r + 1)) l ≡ w = ap (λ (k : ℕ). worker_on (shape.parallel k) l) next ∙ on in (
        subst₂ (λ (k n : ℕ). received (shape.parallel k) shape.workers l (g k n) ≡ received (shape.parallel k) shape.workers l (f k n) + 1) (sym next) (sym on') h.0,
        subst₂ (λ (k n : ℕ). received (shape.parallel k) shape.workers l (f k n) < sent_on shape f r l) (sym next) (sym on') h.1,
      )
