-- Each step of each task keeps the flow of a pipeline.
use Rattle.std.proofs.Common.{◌≡◌, ◌≢◌, ◌⊎◌, ◌<◌, ◌≤◌, ◌+◌, ℕ, Bool, true, false, nat_lt, refl, sym, ap, subst, subst₂, ◌∙◌, arith, inl, inr, if◌then◌else◌}
use Rattle.std.proofs.lemmas.Bool.{cases_eq}
use Rattle.net_flow.specs.Dealing.{due}
use Rattle.net_flow.specs.Flow.{Claims, Unit_at, Sends, SendsEnd, Finished, Progress, Flow, sent, received, sent_on, received_on, is_closed, busy, IsProgress, IsFlow}
use Rattle.net_flow.specs.Shapes.{Shape, IsPipeline, IsTask, HasLink, worker_on, links_of, first_link}
use Rattle.net_flow.proofs.MessageCounts.{idle_busy, idle_open, at_idle}
use Rattle.net_flow.proofs.FlowSteps.{behind, arrived, closing, sent_end, Advances, claims_one, claims_none, runs_unit, sends_packet, receives_packet, receives_end, sends_end, FlowStep, sends_over, receives_over}
use Rattle.net_flow.proofs.LinkCounts.{may_send, may_receive, out_here, out_other, in_here, in_other}
use Rattle.net_flow.proofs.TaskKept.{at_head, fits_on, head_is_task, due_mono, worker_is, has_link_on}

-- an iteration that was begun counts once, in it and behind its last unit
pub arrived_begun : (shape : Shape) (s u d : ℕ) → (arrived shape s u d).done + busy (arrived shape s u d).position ≡ d + 1
arrived_begun shape s u d = by_test (nat_lt u (shape.units s)) where
  by_next : (b : Bool) → (let x : Progress = if b then record { position = Sends; done = d } else at_idle s d in x.done + busy x.position) ≡ d + 1
  by_next true = refl
  by_next false = omega (arith, idle_busy s)

  by_test : (b : Bool) → (let x : Progress = if b then record { position = Unit_at u; done = d } else behind shape s d in x.done + busy x.position) ≡ d + 1
  by_test true = refl
  by_test false = by_next (nat_lt (s + 1) shape.stages)

pub closing_begun : (shape : Shape) (s w d : ℕ) → (closing shape s w d).done + busy (closing shape s w d).position ≡ d
closing_begun shape s w d = by_test (nat_lt (s + 1) shape.stages) where
  by_test : (b : Bool) → (let x : Progress = if b then record { position = SendsEnd (first_link (shape.parallel s) w); done = d } else record { position = Finished; done = d } in x.done + busy x.position) ≡ d
  by_test true = omega arith
  by_test false = omega arith

pub sent_end_begun : (shape : Shape) (s w m d : ℕ) → ((sent_end shape s w m d).done + busy (sent_end shape s w m d).position ≡ d) × (is_closed (sent_end shape s w m d).position ≡ true)
sent_end_begun shape s w m d = by_test (nat_lt (m + 1) (first_link (shape.parallel s) w + links_of (shape.parallel s) shape.workers)) where
  by_test : (b : Bool) → (let x : Progress = if b then record { position = SendsEnd (m + 1); done = d } else record { position = Finished; done = d } in x.done + busy x.position ≡ d)
      × (let x : Progress = if b then record { position = SendsEnd (m + 1); done = d } else record { position = Finished; done = d } in is_closed x.position ≡ true)
  by_test true = (omega arith, refl)
  by_test false = (omega arith, refl)

pub arrived_open : (shape : Shape) (s u d : ℕ) → is_closed (arrived shape s u d).position ≡ false
arrived_open shape s u d = by_test (nat_lt u (shape.units s)) where
  by_next : (b : Bool) → is_closed (let x : Progress = if b then record { position = Sends; done = d } else at_idle s d in x.position) ≡ false
  by_next true = refl
  by_next false = idle_open s

  by_test : (b : Bool) → is_closed (let x : Progress = if b then record { position = Unit_at u; done = d } else behind shape s d in x.position) ≡ false
  by_test true = refl
  by_test false = by_next (nat_lt (s + 1) shape.stages)

-- two pairs of numbers are the same or not
pub same_pair : (r v s w : ℕ) → ((r ≡ s) × (v ≡ w)) ⊎ (r ≡ s → v ≡ w → ⊥)
same_pair r v s w = by_first (cases_eq r s) where
  by_second : r ≡ s → (v ≡ w) ⊎ (v ≢ w) → ((r ≡ s) × (v ≡ w)) ⊎ (r ≡ s → v ≡ w → ⊥)
  by_second a (inl b) = inl (a, b)
  by_second a (inr b) = inr (λ x y. b y)

  by_first : (r ≡ s) ⊎ (r ≢ s) → ((r ≡ s) × (v ≡ w)) ⊎ (r ≡ s → v ≡ w → ⊥)
  by_first (inl a) = by_second a (cases_eq v w)
  by_first (inr a) = inr (λ x y. a x)

module _ (shape : Shape) (is : IsPipeline shape) (b : ℕ) (f : Flow) (here : IsFlow shape b f) (s w c : ℕ) where
  -- only the head claims
  pub claims_at_head : (y : Progress) → IsTask shape s w → Advances shape f s w b c y → (s ≡ 0 → w ≡ 0 → ⊥) → c ≡ b
  claims_at_head y is_task (claims_one at m e) off = absurd (let h = at_head shape is b f here s w is_task at in off h.0 h.1)
  claims_at_head y is_task (claims_none at m e) off = m
  claims_at_head y is_task (runs_unit u at m e) off = m
  claims_at_head y is_task (sends_packet at m e) off = m
  claims_at_head y is_task (receives_packet n q k at m next on less e) off = m
  claims_at_head y is_task (receives_end n q k at m next on most less e) off = m
  claims_at_head y is_task (sends_end k at m e) off = m

  -- no claim is taken back
  pub claims_more : (y : Progress) → Advances shape f s w b c y → b ≤ c
  claims_more y (claims_one at m e) = omega (arith, m)
  claims_more y (claims_none at m e) = omega (arith, m)
  claims_more y (runs_unit u at m e) = omega (arith, m)
  claims_more y (sends_packet at m e) = omega (arith, m)
  claims_more y (receives_packet n q k at m next on less e) = omega (arith, m)
  claims_more y (receives_end n q k at m next on most less e) = omega (arith, m)
  claims_more y (sends_end k at m e) = omega (arith, m)

  -- and none once the head is closed
  pub claims_shut : (y : Progress) → IsTask shape s w → Advances shape f s w b c y → is_closed (f 0 0).position ≡ true → c ≡ b
  claims_shut y is_task (claims_one at m e) shut =
      let h = at_head shape is b f here s w is_task at in
      let same : f s w ≡ f 0 0 = ap (λ (k : ℕ). f k w) h.0 ∙ ap (f 0) h.1 in
      let no : is_closed (f s w).position ≡ true = ap (λ (x : Progress). is_closed x.position) same ∙ shut in
      let yes' : is_closed (f s w).position ≡ false = ap is_closed at in cc
  claims_shut y is_task (claims_none at m e) shut = m
  claims_shut y is_task (runs_unit u at m e) shut = m
  claims_shut y is_task (sends_packet at m e) shut = m
  claims_shut y is_task (receives_packet n q k at m next on less e) shut = m
  claims_shut y is_task (receives_end n q k at m next on most less e) shut = m
  claims_shut y is_task (sends_end k at m e) shut = m

-- the head after a step of its own
module _ (shape : Shape) (b : ℕ) (f : Flow) (here : IsFlow shape b f) (c : ℕ) (y : Progress) where
  head_begun : Advances shape f 0 0 b c y → y.done + busy y.position ≡ c
  head_begun (claims_one at m e) =
      let none : busy (f 0 0).position ≡ 0 = ap busy at in
      let new : y.done + busy y.position ≡ (f 0 0).done + 1 = ap (λ (x : Progress). x.done + busy x.position) e ∙ arrived_begun shape 0 0 (f 0 0).done in omega (arith, new, none, m, here.head)
  head_begun (claims_none at m e) =
      let none : busy (f 0 0).position ≡ 0 = ap busy at in
      let new : y.done + busy y.position ≡ (f 0 0).done = ap (λ (x : Progress). x.done + busy x.position) e ∙ closing_begun shape 0 0 (f 0 0).done in omega (arith, new, none, m, here.head)
  head_begun (runs_unit u at m e) =
      let one : busy (f 0 0).position ≡ 1 = ap busy at in
      let new : y.done + busy y.position ≡ (f 0 0).done + 1 = ap (λ (x : Progress). x.done + busy x.position) e ∙ arrived_begun shape 0 (u + 1) (f 0 0).done in omega (arith, new, one, m, here.head)
  head_begun (sends_packet at m e) =
      let one : busy (f 0 0).position ≡ 1 = ap busy at in
      let new : y.done + busy y.position ≡ (f 0 0).done + 1 + 0 = ap (λ (x : Progress). x.done + busy x.position) e in omega (arith, new, one, m, here.head)
  head_begun (receives_packet n q k at m next on less e) = absurd (omega (arith, next))
  head_begun (receives_end n q k at m next on most less e) = absurd (omega (arith, next))
  head_begun (sends_end k at m e) =
      let none : busy (f 0 0).position ≡ 0 = ap busy at in
      let new : y.done + busy y.position ≡ (f 0 0).done = ap (λ (x : Progress). x.done + busy x.position) e ∙ (sent_end_begun shape 0 0 k (f 0 0).done).0 in omega (arith, new, none, m, here.head)

  head_shut : Advances shape f 0 0 b c y → is_closed (f 0 0).position ≡ true → is_closed y.position ≡ true
  head_shut (claims_one at m e) shut = let open' : is_closed (f 0 0).position ≡ false = ap is_closed at in cc
  head_shut (claims_none at m e) shut = let open' : is_closed (f 0 0).position ≡ false = ap is_closed at in cc
  head_shut (runs_unit u at m e) shut = let open' : is_closed (f 0 0).position ≡ false = ap is_closed at in cc
  head_shut (sends_packet at m e) shut = let open' : is_closed (f 0 0).position ≡ false = ap is_closed at in cc
  head_shut (receives_packet n q k at m next on less e) shut = absurd (omega (arith, next))
  head_shut (receives_end n q k at m next on most less e) shut = absurd (omega (arith, next))
  head_shut (sends_end k at m e) shut = ap (λ (x : Progress). is_closed x.position) e ∙ (sent_end_begun shape 0 0 k (f 0 0).done).1

module _ (shape : Shape) (is : IsPipeline shape) (b : ℕ) (f : Flow) (here : IsFlow shape b f) (s w c : ℕ) (g : Flow) (moves : FlowStep shape b f s w c g) where
  -- the head stays closed
  pub stays_shut : is_closed (f 0 0).position ≡ true → is_closed (g 0 0).position ≡ true
  stays_shut shut = by_pair (same_pair 0 0 s w) where
    by_pair : ((0 ≡ s) × (0 ≡ w)) ⊎ (0 ≡ s → 0 ≡ w → ⊥) → is_closed (g 0 0).position ≡ true
    by_pair (inl same) =
        let at0 : Advances shape f 0 0 b c (g 0 0) = subst₂ (λ (i j : ℕ). Advances shape f i j b c (g i j)) (sym same.0) (sym same.1) moves.goes in
        head_shut shape b f here c (g 0 0) at0 shut
    by_pair (inr off) = ap (λ (x : Progress). is_closed x.position) (moves.others 0 0 (head_is_task shape is) off) ∙ shut

  kept_head : (g 0 0).done + busy (g 0 0).position ≡ c
  kept_head = by_pair (same_pair 0 0 s w) where
    by_pair : ((0 ≡ s) × (0 ≡ w)) ⊎ (0 ≡ s → 0 ≡ w → ⊥) → (g 0 0).done + busy (g 0 0).position ≡ c
    by_pair (inl same) =
        let at0 : Advances shape f 0 0 b c (g 0 0) = subst₂ (λ (i j : ℕ). Advances shape f i j b c (g i j)) (sym same.0) (sym same.1) moves.goes in
        head_begun shape b f here c (g 0 0) at0
    by_pair (inr off) =
        let none = claims_at_head shape is b f here s w c (g s w) moves.is_task moves.goes (λ i j. off (sym i) (sym j)) in
        ap (λ (x : Progress). x.done + busy x.position) (moves.others 0 0 (head_is_task shape is) off) ∙ here.head ∙ sym none

  kept_task : (r v : ℕ) → IsTask shape r v → IsProgress shape r v c (is_closed (g 0 0).position) (g r v)
  kept_task r v is_task = by_pair (same_pair r v s w) where
    by_pair : ((r ≡ s) × (v ≡ w)) ⊎ (r ≡ s → v ≡ w → ⊥) → IsProgress shape r v c (is_closed (g 0 0).position) (g r v)
    by_pair (inl same) =
        let first : s ≡ 0 → w ≡ 0 → is_closed (g s w).position ≡ true → is_closed (g 0 0).position ≡ true = λ i j shut. subst₂ (λ (k n : ℕ). is_closed (g k n).position ≡ true) i j shut in
        let at : IsProgress shape s w c (is_closed (g 0 0).position) (g s w) = fits_on shape is b f here s w c (g s w) (is_closed (g 0 0).position) moves.is_task stays_shut first moves.goes in
        subst₂ (λ (k n : ℕ). IsProgress shape k n c (is_closed (g 0 0).position) (g k n)) (sym same.0) (sym same.1) at
    by_pair (inr off) =
        let old = here.tasks r v is_task in
        let more = claims_more shape is b f here s w c (g s w) moves.goes in
        let within = due_mono (shape.parallel r) shape.workers v b c is_task.1 more in
        let new : IsProgress shape r v c (is_closed (g 0 0).position) (f r v) = record {
          position = old.position;
          within = omega (arith, old.within, within);
          all = λ shut.
              let a = old.all shut in
              let none = claims_shut shape is b f here s w c (g s w) moves.is_task moves.goes a.1 in
              (a.0 ∙ ap (due (shape.parallel r) shape.workers v) (sym none), stays_shut a.1);
        } in
        subst (IsProgress shape r v c (is_closed (g 0 0).position)) (sym (moves.others r v is_task off)) new

  -- no step takes back what was sent, and none receives more than was sent
  sent_step : (l : ℕ) → s + 1 < shape.stages → HasLink (shape.parallel s) shape.workers w l
      → sent (shape.parallel s) shape.workers l (f s w) ≤ sent (shape.parallel s) shape.workers l (g s w)
  sent_step l within has = by_send (may_send (shape.parallel s) shape.workers w l (f s w) (f s w).position) where
    by_send : sends_over (shape.parallel s) shape.workers w l (f s w) (f s w).position ⊎ (sends_over (shape.parallel s) shape.workers w l (f s w) (f s w).position → ⊥)
        → sent (shape.parallel s) shape.workers l (f s w) ≤ sent (shape.parallel s) shape.workers l (g s w)
    by_send (inl put) = let h = out_here shape is b f here s w moves.is_task l has c (g s w) within moves.goes put in omega (arith, h)
    by_send (inr not) = let h = out_other shape is b f here s w moves.is_task l has c (g s w) within moves.goes not in omega (arith, h)

  sent_more : (r l : ℕ) → r + 1 < shape.stages → l < shape.workers → sent_on shape f r l ≤ sent_on shape g r l
  sent_more r l within below = by_pair (same_pair r (worker_on (shape.parallel r) l) s w) where
    by_pair : ((r ≡ s) × (worker_on (shape.parallel r) l ≡ w)) ⊎ (r ≡ s → worker_on (shape.parallel r) l ≡ w → ⊥) → sent_on shape f r l ≤ sent_on shape g r l
    by_pair (inl same) =
        let has : HasLink (shape.parallel s) shape.workers w l = has_link_on (shape.parallel s) shape.workers w l below (sym same.1 ∙ ap (λ (k : ℕ). worker_on (shape.parallel k) l) same.0) in
        let h = sent_step l (subst (λ (k : ℕ). k + 1 < shape.stages) same.0 within) has in
        subst₂ (λ (k n : ℕ). sent (shape.parallel k) shape.workers l (f k n) ≤ sent (shape.parallel k) shape.workers l (g k n)) (sym same.0) (sym same.1) h
    by_pair (inr off) =
        let same = moves.others r (worker_on (shape.parallel r) l) (omega (arith, within), worker_is (shape.parallel r) shape.workers l below) off in
        let e : sent_on shape g r l ≡ sent_on shape f r l = ap (sent (shape.parallel r) shape.workers l) same in omega (arith, e)

  received_step : (r l : ℕ) → r + 1 ≡ s → HasLink (shape.parallel s) shape.workers w l → received (shape.parallel s) shape.workers l (f s w) ≤ sent_on shape f r l
      → received (shape.parallel s) shape.workers l (g s w) ≤ sent_on shape f r l
  received_step r l next has old = by_receive (may_receive (shape.parallel s) shape.workers w l (f s w) (f s w).position) where
    by_receive : receives_over (shape.parallel s) shape.workers w l (f s w) (f s w).position ⊎ (receives_over (shape.parallel s) shape.workers w l (f s w) (f s w).position → ⊥)
        → received (shape.parallel s) shape.workers l (g s w) ≤ sent_on shape f r l
    by_receive (inl receive) = let h = in_here shape is b f here s w moves.is_task l has c r (g s w) next moves.goes receive in omega (arith, h.0, h.1)
    by_receive (inr not) = let h = in_other shape is b f here s w moves.is_task l has c r (g s w) next moves.goes not in omega (arith, h, old)

  received_kept : (r t l : ℕ) → r + 1 ≡ t → t < shape.stages → l < shape.workers → received_on shape g t l ≤ sent_on shape f r l
  received_kept r t l next within below = by_pair (same_pair t (worker_on (shape.parallel t) l) s w) where
    by_pair : ((t ≡ s) × (worker_on (shape.parallel t) l ≡ w)) ⊎ (t ≡ s → worker_on (shape.parallel t) l ≡ w → ⊥) → received_on shape g t l ≤ sent_on shape f r l
    by_pair (inl same) =
        let has : HasLink (shape.parallel s) shape.workers w l = has_link_on (shape.parallel s) shape.workers w l below (sym same.1 ∙ ap (λ (k : ℕ). worker_on (shape.parallel k) l) same.0) in
        let old : received (shape.parallel s) shape.workers l (f s w) ≤ sent_on shape f r l =
        subst₂ (λ (k n : ℕ). received (shape.parallel k) shape.workers l (f k n) ≤ sent_on shape f r l) same.0 same.1 (here.links r t l next within below) in
        let h = received_step r l (next ∙ same.0) has old in
        subst₂ (λ (k n : ℕ). received (shape.parallel k) shape.workers l (g k n) ≤ sent_on shape f r l) (sym same.0) (sym same.1) h
    by_pair (inr off) =
        let same = moves.others t (worker_on (shape.parallel t) l) (within, worker_is (shape.parallel t) shape.workers l below) off in
        let e : received_on shape g t l ≡ received_on shape f t l = ap (received (shape.parallel t) shape.workers l) same in
        let old = here.links r t l next within below in omega (arith, e, old)

  -- so the flow stands after the step
  pub kept : IsFlow shape c g
  kept = record {
    head = kept_head;
    tasks = kept_task;
    links = λ r t l next within below.
        let a = received_kept r t l next within below in
        let e = sent_more r l (omega (arith, next, within)) below in omega (arith, a, e);
  }

  -- a head that is closed was closed before, or its claim was refused in this step
  pub shuts : is_closed (g 0 0).position ≡ true → (is_closed (f 0 0).position ≡ true) × (c ≡ b) ⊎ ((f s w).position ≡ Claims) × (c ≡ b)
  shuts shut = by_pair (same_pair 0 0 s w) where
    by_goes : (y : Progress) → Advances shape f s w b c y → 0 ≡ s → 0 ≡ w → is_closed y.position ≡ true → (is_closed (f 0 0).position ≡ true) × (c ≡ b) ⊎ ((f s w).position ≡ Claims) × (c ≡ b)
    by_goes y (claims_one at m e) first alone closed = let k : is_closed y.position ≡ false = ap (λ (x : Progress). is_closed x.position) e ∙ arrived_open shape s 0 (f s w).done in cc
    by_goes y (claims_none at m e) first alone closed = inr (at, m)
    by_goes y (runs_unit u at m e) first alone closed = let k : is_closed y.position ≡ false = ap (λ (x : Progress). is_closed x.position) e ∙ arrived_open shape s (u + 1) (f s w).done in cc
    by_goes y (sends_packet at m e) first alone closed = let k : is_closed y.position ≡ false = ap (λ (x : Progress). is_closed x.position) e ∙ idle_open s in cc
    by_goes y (receives_packet n q k at m next on less e) first alone closed = absurd (omega (arith, next, first))
    by_goes y (receives_end n q k at m next on most less e) first alone closed = absurd (omega (arith, next, first))
    by_goes y (sends_end k at m e) first alone closed =
        let h : is_closed (f s w).position ≡ true = ap is_closed at in
        inl (subst₂ (λ (i j : ℕ). is_closed (f i j).position ≡ true) (sym first) (sym alone) h, m)

    by_pair : ((0 ≡ s) × (0 ≡ w)) ⊎ (0 ≡ s → 0 ≡ w → ⊥) → (is_closed (f 0 0).position ≡ true) × (c ≡ b) ⊎ ((f s w).position ≡ Claims) × (c ≡ b)
    by_pair (inl same) = by_goes (g s w) moves.goes same.0 same.1 (subst₂ (λ (i j : ℕ). is_closed (g i j).position ≡ true) same.0 same.1 shut)
    by_pair (inr off) =
        let old : is_closed (f 0 0).position ≡ true = sym (ap (λ (x : Progress). is_closed x.position) (moves.others 0 0 (head_is_task shape is) off)) ∙ shut in
        inl (old, claims_shut shape is b f here s w c (g s w) moves.is_task moves.goes old)
