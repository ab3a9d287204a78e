-- Each step keeps what stands of the task that moves.
use Rattle.std.proofs.Common.{◌≡◌, ◌⊎◌, ◌<◌, ◌≤◌, ◌+◌, ℕ, zero, suc, Bool, true, false, nat_lt, refl, sym, ap, subst, ◌∙◌, arith, inl, inr, if◌then◌else◌}
use Rattle.std.proofs.lemmas.Bool.{cases_lt}
use Rattle.std.proofs.lemmas.Bool.Decides.{nat_tests}
use Rattle.net_flow.specs.Dealing.{dealt, over_link, next_link, due}
use Rattle.net_flow.specs.Flow.{Position, Claims, Unit_at, Sends, Receives, SendsEnd, Finished, Progress, Flow, extra, one_if, ends_sent, received, packets_on, sent_on, is_closed, busy, IsPositionOf, IsProgress, IsFlow, idle}
use Rattle.net_flow.specs.Shapes.{Shape, IsPipeline, IsTask, HasLink, IsWorker, worker_on, links_of, first_link}
use Rattle.net_flow.proofs.MessageCounts.{idle_busy, idle_open, at_idle}
use Rattle.net_flow.proofs.Dealing.{dealt_here, dealt_mono, dealt_less}
use Rattle.net_flow.proofs.FlowSteps.{behind, arrived, closing, took_end, sent_end, Advances, claims_one, claims_none, runs_unit, sends_packet, receives_packet, receives_end, sends_end}

-- tasks and their links
pub head_is_task : (shape : Shape) → IsPipeline shape → IsTask shape 0 0
head_is_task shape is = (is.some_stage, subst (λ (p : Bool). IsWorker p shape.workers 0) (sym is.sequential_head) refl)

pub worker_is : (p : Bool) (W l : ℕ) → l < W → IsWorker p W (worker_on p l)
worker_is true W l below = below
worker_is false W l below = refl

pub has_link : (p : Bool) (W l : ℕ) → l < W → HasLink p W (worker_on p l) l
has_link true W l below = refl
has_link false W l below = below

pub next_link_below : (p : Bool) (W w n : ℕ) → 0 < W → IsWorker p W w → next_link p W w n < W
next_link_below true W w n some is = is
next_link_below false W w n some is = Rattle.std.proofs.Math.Nat.mod-lt n some

pub on_next_link : (p : Bool) (W w n : ℕ) → IsWorker p W w → worker_on p (next_link p W w n) ≡ w
on_next_link true W w n is = refl
on_next_link false W w n is = sym is

pub has_link_on : (p : Bool) (W w l : ℕ) → l < W → w ≡ worker_on p l → HasLink p W w l
has_link_on true W w l below on = sym on
has_link_on false W w l below on = below

pub has_below : (p : Bool) (W w l : ℕ) → IsWorker p W w → HasLink p W w l → l < W
has_below true W w l is has = omega (arith, is, has)
has_below false W w l is has = has

pub links_of_some : (p : Bool) (W : ℕ) → 1 ≤ W → 0 < links_of p W
links_of_some true W some = omega arith
links_of_some false W some = omega arith

pub first_has : (p : Bool) (W w : ℕ) → 1 ≤ W → HasLink p W w (first_link p w)
first_has true W w some = refl
first_has false W w some = some

-- where a task has done all that is due to it, what is dealt to each of its links went over it
pub due_over_link : (p : Bool) (W w l b d : ℕ) → HasLink p W w l → d ≡ due p W w b → over_link p W l d ≡ dealt W l b
due_over_link true W w l b d has same = same ∙ ap (λ (k : ℕ). dealt W k b) (sym has)
due_over_link false W w l b d has same = ap (dealt W l) same

pub due_over_link_le : (p : Bool) (W w l b d : ℕ) → HasLink p W w l → d ≤ due p W w b → over_link p W l d ≤ dealt W l b
due_over_link_le true W w l b d has few = subst (λ (k : ℕ). d ≤ dealt W k b) (sym has) few
due_over_link_le false W w l b d has few = dealt_mono W l d b has few

pub due_mono : (p : Bool) (W w b c : ℕ) → IsWorker p W w → b ≤ c → due p W w b ≤ due p W w c
due_mono true W w b c is within = dealt_mono W w b c is within
due_mono false W w b c is within = within

-- a task that received fewer messages from the link that is next than are dealt to it is due one iteration more
pub next_link_less : (p : Bool) (W w l b n : ℕ) → 0 < W → IsWorker p W w → l ≡ next_link p W w n → over_link p W l n < dealt W l b → n + 1 ≤ due p W w b
next_link_less true W w l b n some is on less = subst (λ (k : ℕ). n + 1 ≤ dealt W k b) on (omega (arith, less))
next_link_less false W w l b n some is on less =
    let below : l < W = subst (λ (k : ℕ). k < W) (sym on) (Rattle.std.proofs.Math.Nat.mod-lt n some) in
    let h = dealt_less W l n b below less in omega (arith, h)

-- and one that received all of them has received all that is due
pub next_link_all : (p : Bool) (W w l b n : ℕ) → 0 < W → IsWorker p W w → l ≡ next_link p W w n → n ≤ due p W w b → dealt W l b ≤ over_link p W l n → n ≡ due p W w b
next_link_all true W w l b n some is on few all = let e : dealt W w b ≤ n = subst (λ (k : ℕ). dealt W k b ≤ n) on all in omega (arith, e, few)
next_link_all false W w l b n some is on few all = by_cases (cases_lt n b) where
  by_cases : (n < b) ⊎ (b ≤ n) → n ≡ b
  by_cases (inr h) = omega (arith, h, few)
  by_cases (inl h) =
      let below : l < W = subst (λ (k : ℕ). k < W) (sym on) (Rattle.std.proofs.Math.Nat.mod-lt n some) in
      let more = dealt_mono W l (n + 1) b below (omega (arith, h)) in
      let one = dealt_here W l n some on in
      absurd (omega (arith, more, one, all))

pub ends_sent_closed : (l : ℕ) (p : Position) → 0 < ends_sent l p → (is_closed p ≡ true) × (ends_sent l p ≡ 1)
ends_sent_closed l Claims some = absurd (omega (arith, some))
ends_sent_closed l (Unit_at u) some = absurd (omega (arith, some))
ends_sent_closed l Sends some = absurd (omega (arith, some))
ends_sent_closed l (Receives e) some = absurd (omega (arith, some))
ends_sent_closed l (SendsEnd m) some = by_test (nat_lt l m) some where
  by_test : (q : Bool) → 0 < one_if q → (true ≡ true) × (one_if q ≡ 1)
  by_test true h = (refl, refl)
  by_test false h = absurd (omega (arith, h))
ends_sent_closed l Finished some = (refl, refl)

sequential_alone : (p : Bool) (W w : ℕ) → p ≡ false → IsWorker p W w → w ≡ 0
sequential_alone true W w is h = cc
sequential_alone false W w is h = h

due_head : (p : Bool) (W w b : ℕ) → p ≡ false → due p W w b ≡ b
due_head true W w b is = cc
due_head false W w b is = refl

module _ (shape : Shape) (is : IsPipeline shape) (b : ℕ) (f : Flow) (here : IsFlow shape b f) where
  -- what stands of the sender of a link
  pub sender_fits : (r l : ℕ) → r < shape.stages → l < shape.workers → IsProgress shape r (worker_on (shape.parallel r) l) b (is_closed (f 0 0).position) (f r (worker_on (shape.parallel r) l))
  sender_fits r l within below = here.tasks r (worker_on (shape.parallel r) l) (within, worker_is (shape.parallel r) shape.workers l below)

  -- the packets that were sent over a link are at most those of the granted iterations
  pub packets_few : (r l : ℕ) → r < shape.stages → l < shape.workers → packets_on shape f r l ≤ dealt shape.workers l b
  packets_few r l within below =
      let x = sender_fits r l within below in
      due_over_link_le (shape.parallel r) shape.workers (worker_on (shape.parallel r) l) l b (f r (worker_on (shape.parallel r) l)).done (has_link (shape.parallel r) shape.workers l below) (omega (arith, x.within))

  -- where an End was sent over a link, all its packets were, and the head is closed
  pub ends_sent_all : (r l : ℕ) → r < shape.stages → l < shape.workers → packets_on shape f r l < sent_on shape f r l
      → (packets_on shape f r l ≡ dealt shape.workers l b) × (is_closed (f 0 0).position ≡ true) × (sent_on shape f r l ≡ packets_on shape f r l + 1)
  ends_sent_all r l within below more =
      let x = f r (worker_on (shape.parallel r) l) in
      let e = ends_sent_closed l x.position (omega (arith, more)) in
      let fits = sender_fits r l within below in
      let a = fits.all e.0 in
      let shared = due_over_link (shape.parallel r) shape.workers (worker_on (shape.parallel r) l) l b x.done (has_link (shape.parallel r) shape.workers l below) a.0 in
      (shared, a.1, omega (arith, e.1))

  pub fits_arrived : (s w u d c : ℕ) (closed : Bool) → d + 1 ≤ due (shape.parallel s) shape.workers w c → IsProgress shape s w c closed (arrived shape s u d)
  fits_arrived s w u d c closed few = by_test (nat_lt u (shape.units s)) refl where
    by_zero : (t : ℕ) → s ≡ t → IsPositionOf shape s w (idle t)
    by_zero zero at = at
    by_zero (suc t) at = (omega (arith, at), links_of_some (shape.parallel s) shape.workers is.some_worker)

    by_next : (q : Bool) → nat_lt (s + 1) shape.stages ≡ q → IsProgress shape s w c closed (if q then record { position = Sends; done = d } else at_idle s d)
    by_next true at = record { position = grind (arith, nat_tests); within = few; all = λ h. (cc) }
    by_next false at = record {
      position = by_zero s refl;
      within = omega (arith, few, idle_busy s);
      all = λ h. (cc (idle_open s));
    }

    by_test : (q : Bool) → nat_lt u (shape.units s) ≡ q → IsProgress shape s w c closed (if q then record { position = Unit_at u; done = d } else behind shape s d)
    by_test true at = record { position = grind (arith, nat_tests); within = few; all = λ h. (cc) }
    by_test false at = by_next (nat_lt (s + 1) shape.stages) refl

  pub fits_closing : (s w d c : ℕ) (closed : Bool) → d ≡ due (shape.parallel s) shape.workers w c → closed ≡ true → IsProgress shape s w c closed (closing shape s w d)
  fits_closing s w d c closed all shut = by_next (nat_lt (s + 1) shape.stages) refl where
    by_next : (q : Bool) → nat_lt (s + 1) shape.stages ≡ q
        → IsProgress shape s w c closed (if q then record { position = SendsEnd (first_link (shape.parallel s) w); done = d } else record { position = Finished; done = d })
    by_next true at = record { position = (grind (arith, nat_tests), first_has (shape.parallel s) shape.workers w is.some_worker); within = omega (arith, all); all = λ h. (all, shut) }
    by_next false at = record { position = tt; within = omega (arith, all); all = λ h. (all, shut) }

  pub closing_closed : (s w d : ℕ) → is_closed (closing shape s w d).position ≡ true
  closing_closed s w d = by_next (nat_lt (s + 1) shape.stages) where
    by_next : (q : Bool) → is_closed (let x : Progress = if q then record { position = SendsEnd (first_link (shape.parallel s) w); done = d } else record { position = Finished; done = d } in x.position) ≡ true
    by_next true = refl
    by_next false = refl

  pub fits_idle : (s w d c : ℕ) (closed : Bool) → d + 1 ≤ due (shape.parallel s) shape.workers w c → IsProgress shape s w c closed (at_idle s d)
  fits_idle s w d c closed few = record {
    position = by_zero s refl;
    within = omega (arith, few, idle_busy s);
    all = λ h. (cc (idle_open s));
  } where
    by_zero : (t : ℕ) → s ≡ t → IsPositionOf shape s w (idle t)
    by_zero zero at = at
    by_zero (suc t) at = (omega (arith, at), links_of_some (shape.parallel s) shape.workers is.some_worker)

  pub fits_took : (s w e d c : ℕ) (closed : Bool) → 0 < s → d ≡ due (shape.parallel s) shape.workers w c → closed ≡ true → IsProgress shape s w c closed (took_end shape s w e d)
  fits_took s w e d c closed later all shut = by_test (nat_lt (e + 1) (links_of (shape.parallel s) shape.workers)) refl where
    by_test : (q : Bool) → nat_lt (e + 1) (links_of (shape.parallel s) shape.workers) ≡ q
        → IsProgress shape s w c closed (if q then record { position = Receives (suc e); done = d } else closing shape s w d)
    by_test true at = record { position = (later, grind (arith, nat_tests)); within = omega (arith, all); all = λ h. (all, shut) }
    by_test false at = fits_closing s w d c closed all shut

  pub fits_sent_end : (s w m d c : ℕ) (closed : Bool) → (s + 1 < shape.stages) × HasLink (shape.parallel s) shape.workers w m → d ≡ due (shape.parallel s) shape.workers w c → closed ≡ true
      → IsProgress shape s w c closed (sent_end shape s w m d)
  fits_sent_end s w m d c closed fit all shut = by_test (nat_lt (m + 1) (first_link (shape.parallel s) w + links_of (shape.parallel s) shape.workers)) refl where
    next : (p : Bool) → HasLink p shape.workers w m → m + 1 < first_link p w + links_of p shape.workers → HasLink p shape.workers w (m + 1)
    next true has more = absurd (omega (arith, has, more))
    next false has more = omega (arith, more)

    by_test : (q : Bool) → nat_lt (m + 1) (first_link (shape.parallel s) w + links_of (shape.parallel s) shape.workers) ≡ q
        → IsProgress shape s w c closed (if q then record { position = SendsEnd (m + 1); done = d } else record { position = Finished; done = d })
    by_test true at = record { position = (fit.0, next (shape.parallel s) fit.1 (grind (arith, nat_tests))); within = omega (arith, all); all = λ h. (all, shut) }
    by_test false at = record { position = tt; within = omega (arith, all); all = λ h. (all, shut) }

  -- a task that claims is the head
  pub at_head : (s w : ℕ) → IsTask shape s w → (f s w).position ≡ Claims → (s ≡ 0) × (w ≡ 0) × ((f s w).done ≡ b) × ((c : ℕ) → due (shape.parallel s) shape.workers w c ≡ c)
  at_head s w is_task at =
      let fits = here.tasks s w is_task in
      let first : s ≡ 0 = subst (IsPositionOf shape s w) at fits.position in
      let straight : shape.parallel s ≡ false = ap shape.parallel first ∙ is.sequential_head in
      let alone : w ≡ 0 = sequential_alone (shape.parallel s) shape.workers w straight is_task.1 in
      let same : f s w ≡ f 0 0 = ap (λ (k : ℕ). f k w) first ∙ ap (f 0) alone in
      let all : (f s w).done + busy (f s w).position ≡ b = subst (λ (x : Progress). x.done + busy x.position ≡ b) (sym same) here.head in
      let none : busy (f s w).position ≡ 0 = ap busy at in
      (first, alone, omega (arith, all, none), λ c. due_head (shape.parallel s) shape.workers w c straight)

  -- a task that receives a packet has received no End, and is due one iteration more
  pub packet_is_due : (s w e r l : ℕ) → IsTask shape s w → r + 1 ≡ s → l ≡ next_link (shape.parallel s) shape.workers w ((f s w).done + e)
      → (f s w).position ≡ Receives e → received (shape.parallel s) shape.workers l (f s w) < packets_on shape f r l
      → (e ≡ 0) × ((f s w).done + 1 ≤ due (shape.parallel s) shape.workers w b)
  packet_is_due s w e r l is_task next on at less =
      let x = f s w in
      let below : l < shape.workers = subst (λ (k : ℕ). k < shape.workers) (sym on) (next_link_below (shape.parallel s) shape.workers w (x.done + e) is.some_worker is_task.1) in
      let few = packets_few r l (omega (arith, next, is_task.0)) below in
      let took : received (shape.parallel s) shape.workers l x ≡ over_link (shape.parallel s) shape.workers l (x.done + e) = ap (λ (p : Position). over_link (shape.parallel s) shape.workers l (x.done + extra (shape.parallel s) shape.workers p)) at in
      let room = next_link_less (shape.parallel s) shape.workers w l b (x.done + e) is.some_worker is_task.1 on (omega (arith, took, few, less)) in
      let fits = here.tasks s w is_task in
      (by_e e at room fits, omega (arith, room))
    where
      by_e : (k : ℕ) → (f s w).position ≡ Receives k → (f s w).done + k + 1 ≤ due (shape.parallel s) shape.workers w b → IsProgress shape s w b (is_closed (f 0 0).position) (f s w) → k ≡ 0
      by_e zero at room fits = refl
      by_e (suc k) at room fits =
          let shut : is_closed (f s w).position ≡ true = ap is_closed at in
          let all = (fits.all shut).0 in absurd (omega (arith, all, room))

  -- a task that receives an End has done all that is due to it, and the head is closed
  pub end_is_last : (s w e r l : ℕ) → IsTask shape s w → r + 1 ≡ s → l ≡ next_link (shape.parallel s) shape.workers w ((f s w).done + e)
      → (f s w).position ≡ Receives e → packets_on shape f r l ≤ received (shape.parallel s) shape.workers l (f s w) → received (shape.parallel s) shape.workers l (f s w) < sent_on shape f r l
      → ((f s w).done ≡ due (shape.parallel s) shape.workers w b) × (is_closed (f 0 0).position ≡ true) × (e < links_of (shape.parallel s) shape.workers)
  end_is_last s w e r l is_task next on at most less =
      let x = f s w in
      let below : l < shape.workers = subst (λ (k : ℕ). k < shape.workers) (sym on) (next_link_below (shape.parallel s) shape.workers w (x.done + e) is.some_worker is_task.1) in
      let fits = here.tasks s w is_task in
      let all = ends_sent_all r l (omega (arith, next, is_task.0)) below (omega (arith, most, less)) in
      let took : received (shape.parallel s) shape.workers l x ≡ over_link (shape.parallel s) shape.workers l (x.done + e) = ap (λ (p : Position). over_link (shape.parallel s) shape.workers l (x.done + extra (shape.parallel s) shape.workers p)) at in
      let fit : IsPositionOf shape s w (Receives e) = subst (IsPositionOf shape s w) at fits.position in
      (by_e e at on (omega (arith, took, most, all.0)) fits, all.1, fit.1)
    where
      by_e : (k : ℕ) → (f s w).position ≡ Receives k → l ≡ next_link (shape.parallel s) shape.workers w ((f s w).done + k) → dealt shape.workers l b ≤ over_link (shape.parallel s) shape.workers l ((f s w).done + k)
          → IsProgress shape s w b (is_closed (f 0 0).position) (f s w) → (f s w).done ≡ due (shape.parallel s) shape.workers w b
      by_e zero at on received_all fits =
          let none : (f s w).done + 0 ≡ (f s w).done = omega arith in
          let few : (f s w).done + 0 ≤ due (shape.parallel s) shape.workers w b = omega (arith, fits.within) in
          let h = next_link_all (shape.parallel s) shape.workers w l b ((f s w).done + 0) is.some_worker is_task.1 on few received_all in omega (arith, h)
      by_e (suc k) at on received_all fits = (fits.all (ap is_closed at)).0

  -- what stands of the task that moved
  pub fits_on : (s w c : ℕ) (y : Progress) (closed : Bool) → IsTask shape s w → (is_closed (f 0 0).position ≡ true → closed ≡ true) → (s ≡ 0 → w ≡ 0 → is_closed y.position ≡ true → closed ≡ true)
      → Advances shape f s w b c y → IsProgress shape s w c closed y
  fits_on s w c y closed is_task stays shuts (claims_one at more e) =
      let h = at_head s w is_task at in
      let few : (f s w).done + 1 ≤ due (shape.parallel s) shape.workers w c = omega (arith, h.2, more, h.3 c) in
      subst (IsProgress shape s w c closed) (sym e) (fits_arrived s w 0 (f s w).done c closed few)
  fits_on s w c y closed is_task stays shuts (claims_none at same e) =
      let h = at_head s w is_task at in
      let all : (f s w).done ≡ due (shape.parallel s) shape.workers w c = omega (arith, h.2, same, h.3 c) in
      let shut : is_closed y.position ≡ true = ap (λ (x : Progress). is_closed x.position) e ∙ closing_closed s w (f s w).done in
      subst (IsProgress shape s w c closed) (sym e) (fits_closing s w (f s w).done c closed all (shuts h.0 h.1 shut))
  fits_on s w c y closed is_task stays shuts (runs_unit u at same e) =
      let fits = here.tasks s w is_task in
      let one : busy (f s w).position ≡ 1 = ap busy at in
      let few : (f s w).done + 1 ≤ due (shape.parallel s) shape.workers w c = subst (λ (k : ℕ). (f s w).done + 1 ≤ due (shape.parallel s) shape.workers w k) (sym same) (omega (arith, fits.within, one)) in
      subst (IsProgress shape s w c closed) (sym e) (fits_arrived s w (u + 1) (f s w).done c closed few)
  fits_on s w c y closed is_task stays shuts (sends_packet at same e) =
      let fits = here.tasks s w is_task in
      let one : busy (f s w).position ≡ 1 = ap busy at in
      let few : (f s w).done + 1 ≤ due (shape.parallel s) shape.workers w c = subst (λ (k : ℕ). (f s w).done + 1 ≤ due (shape.parallel s) shape.workers w k) (sym same) (omega (arith, fits.within, one)) in
      subst (IsProgress shape s w c closed) (sym e) (fits_idle s w (f s w).done c closed few)
  fits_on s w c y closed is_task stays shuts (receives_packet e r l at same next on less is_y) =
      let few = (packet_is_due s w e r l is_task next on at less).1 in
      let few' : (f s w).done + 1 ≤ due (shape.parallel s) shape.workers w c = subst (λ (k : ℕ). (f s w).done + 1 ≤ due (shape.parallel s) shape.workers w k) (sym same) few in
      subst (IsProgress shape s w c closed) (sym is_y) (fits_arrived s w 0 (f s w).done c closed few')
  fits_on s w c y closed is_task stays shuts (receives_end e r l at same next on most less is_y) =
      let h = end_is_last s w e r l is_task next on at most less in
      let all : (f s w).done ≡ due (shape.parallel s) shape.workers w c = h.0 ∙ ap (due (shape.parallel s) shape.workers w) (sym same) in
      subst (IsProgress shape s w c closed) (sym is_y) (fits_took s w e (f s w).done c closed (omega (arith, next)) all (stays h.1))
  fits_on s w c y closed is_task stays shuts (sends_end m at same e) =
      let fits = here.tasks s w is_task in
      let h = fits.all (ap is_closed at) in
      let fit : IsPositionOf shape s w (SendsEnd m) = subst (IsPositionOf shape s w) at fits.position in
      let all : (f s w).done ≡ due (shape.parallel s) shape.workers w c = h.0 ∙ ap (due (shape.parallel s) shape.workers w) (sym same) in
      subst (IsProgress shape s w c closed) (sym e) (fits_sent_end s w m (f s w).done c closed fit all (stays h.1))
