-- What one step of a task does to its counts of messages.
use Rattle.std.proofs.Common.{◌≡◌, ◌≢◌, ◌⊎◌, ◌<◌, ◌≤◌, ◌+◌, ℕ, zero, suc, Bool, true, false, nat_lt, refl, sym, ap, ◌∙◌, arith, inl, inr, if◌then◌else◌}
use Rattle.std.proofs.lemmas.Bool.Decides.{nat_tests, leb_tells}
use Rattle.net_flow.specs.Dealing.{over_link, next_link}
use Rattle.net_flow.specs.Flow.{Unit_at, Sends, Receives, SendsEnd, Finished, Progress, extra, one_if, ends_sent, sent, received, is_closed, busy, idle}
use Rattle.net_flow.specs.Shapes.{Shape, HasLink, links_of, first_link}
use Rattle.net_flow.proofs.Dealing.{dealt_here, dealt_other, dealt_mono}
use Rattle.net_flow.proofs.FlowSteps.{behind, arrived, closing, took_end, sent_end}

-- one iteration more is one more over the link that is next, and none over another
pub over_link_here : (p : Bool) (W w l n : ℕ) → 0 < W → l ≡ next_link p W w n → over_link p W l (n + 1) ≡ over_link p W l n + 1
over_link_here true W w l n some here = refl
over_link_here false W w l n some here = dealt_here W l n some here

pub over_link_other : (p : Bool) (W w l n : ℕ) → HasLink p W w l → l ≢ next_link p W w n → over_link p W l (n + 1) ≡ over_link p W l n
over_link_other true W w l n has other = absurd (other has)
over_link_other false W w l n has other = dealt_other W l n has other

pub over_link_mono : (p : Bool) (W w l m n : ℕ) → HasLink p W w l → m ≤ n → over_link p W l m ≤ over_link p W l n
over_link_mono true W w l m n has within = within
over_link_mono false W w l m n has within = dealt_mono W l m n has within

-- between two iterations a task has received and sent the messages of the iterations that it has done
pub idle_extra : (p : Bool) (W s : ℕ) → extra p W (idle s) ≡ 0
idle_extra p W zero = refl
idle_extra p W (suc s) = refl

pub idle_ends_sent : (l s : ℕ) → ends_sent l (idle s) ≡ 0
idle_ends_sent l zero = refl
idle_ends_sent l (suc s) = refl

pub idle_busy : (s : ℕ) → busy (idle s) ≡ 0
idle_busy zero = refl
idle_busy (suc s) = refl

pub idle_open : (s : ℕ) → is_closed (idle s) ≡ false
idle_open zero = refl
idle_open (suc s) = refl

abbrev pub at_idle : ℕ → ℕ → Progress
at_idle s d = record { position = idle s; done = d + 1 }

pub idle_received : (p : Bool) (W l s d : ℕ) → received p W l (at_idle s d) ≡ over_link p W l (d + 1)
idle_received p W l s d = let e : d + 1 + extra p W (idle s) ≡ d + 1 = omega (arith, idle_extra p W s) in ap (over_link p W l) e

pub idle_sent : (p : Bool) (W l s d : ℕ) → sent p W l (at_idle s d) ≡ over_link p W l (d + 1)
idle_sent p W l s d = omega (arith, idle_ends_sent l s)

-- a task that is in an iteration, or behind its last unit, has received one message more
pub behind_received : (p : Bool) (W l : ℕ) (shape : Shape) (s d : ℕ) → received p W l (behind shape s d) ≡ over_link p W l (d + 1)
behind_received p W l shape s d = by_test (nat_lt (s + 1) shape.stages) where
  by_test : (b : Bool) → received p W l (if b then record { position = Sends; done = d } else at_idle s d) ≡ over_link p W l (d + 1)
  by_test true = refl
  by_test false = idle_received p W l s d

pub arrived_received : (p : Bool) (W l : ℕ) (shape : Shape) (s u d : ℕ) → received p W l (arrived shape s u d) ≡ over_link p W l (d + 1)
arrived_received p W l shape s u d = by_test (nat_lt u (shape.units s)) where
  by_test : (b : Bool) → received p W l (if b then record { position = Unit_at u; done = d } else behind shape s d) ≡ over_link p W l (d + 1)
  by_test true = refl
  by_test false = behind_received p W l shape s d

-- where a stage follows, it has sent nothing more, and the iteration isn't done yet
pub arrived_sent : (p : Bool) (W l : ℕ) (shape : Shape) (s u d : ℕ) → s + 1 < shape.stages → sent p W l (arrived shape s u d) ≡ over_link p W l d
arrived_sent p W l shape s u d more = by_test (nat_lt u (shape.units s)) where
  by_next : (b : Bool) → nat_lt (s + 1) shape.stages ≡ b → sent p W l (if b then record { position = Sends; done = d } else at_idle s d) ≡ over_link p W l d
  by_next true is = omega arith
  by_next false is = absurd (grind (arith, nat_tests))

  by_test : (b : Bool) → sent p W l (if b then record { position = Unit_at u; done = d } else behind shape s d) ≡ over_link p W l d
  by_test true = omega arith
  by_test false = by_next (nat_lt (s + 1) shape.stages) refl

pub arrived_done : (shape : Shape) (s u d : ℕ) → s + 1 < shape.stages → (arrived shape s u d).done ≡ d
arrived_done shape s u d more = by_test (nat_lt u (shape.units s)) where
  by_next : (b : Bool) → nat_lt (s + 1) shape.stages ≡ b → (let x : Progress = if b then record { position = Sends; done = d } else at_idle s d in x.done) ≡ d
  by_next true is = refl
  by_next false is = absurd (grind (arith, nat_tests))

  by_test : (b : Bool) → (let x : Progress = if b then record { position = Unit_at u; done = d } else behind shape s d in x.done) ≡ d
  by_test true = refl
  by_test false = by_next (nat_lt (s + 1) shape.stages) refl

-- a task that knows that no iteration follows has received an End from each of its links, and sent none
pub first_end_not_sent : (p : Bool) (W w l : ℕ) → HasLink p W w l → ends_sent l (SendsEnd (first_link p w)) ≡ 0
first_end_not_sent true W w l has = by_test (nat_lt l w) refl where
  by_test : (b : Bool) → nat_lt l w ≡ b → one_if b ≡ 0
  by_test true is = absurd (grind (arith, nat_tests))
  by_test false is = refl
first_end_not_sent false W w l has = by_test (nat_lt l 0) refl where
  by_test : (b : Bool) → nat_lt l 0 ≡ b → one_if b ≡ 0
  by_test true is = absurd (grind (arith, nat_tests))
  by_test false is = refl

pub closing_received : (W l : ℕ) (shape : Shape) (s w d : ℕ) → received (shape.parallel s) W l (closing shape s w d) ≡ over_link (shape.parallel s) W l (d + links_of (shape.parallel s) W)
closing_received W l shape s w d = by_test (nat_lt (s + 1) shape.stages) where
  by_test : (b : Bool) → received (shape.parallel s) W l (if b then record { position = SendsEnd (first_link (shape.parallel s) w); done = d } else record { position = Finished; done = d }) ≡ over_link (shape.parallel s) W l (d + links_of (shape.parallel s) W)
  by_test true = refl
  by_test false = refl

pub closing_sent : (W l : ℕ) (shape : Shape) (s w d : ℕ) → s + 1 < shape.stages → HasLink (shape.parallel s) W w l → sent (shape.parallel s) W l (closing shape s w d) ≡ over_link (shape.parallel s) W l d
closing_sent W l shape s w d more has = by_test (nat_lt (s + 1) shape.stages) refl where
  by_test : (b : Bool) → nat_lt (s + 1) shape.stages ≡ b
      → sent (shape.parallel s) W l (if b then record { position = SendsEnd (first_link (shape.parallel s) w); done = d } else record { position = Finished; done = d }) ≡ over_link (shape.parallel s) W l d
  by_test true is = omega (arith, first_end_not_sent (shape.parallel s) W w l has)
  by_test false is = absurd (grind (arith, nat_tests))

-- a task that received an End
pub took_end_received : (l : ℕ) (shape : Shape) (s w e d : ℕ) → e < links_of (shape.parallel s) shape.workers
    → received (shape.parallel s) shape.workers l (took_end shape s w e d) ≡ over_link (shape.parallel s) shape.workers l (d + suc e)
took_end_received l shape s w e d within = by_test (nat_lt (e + 1) (links_of (shape.parallel s) shape.workers)) refl where
  by_test : (b : Bool) → nat_lt (e + 1) (links_of (shape.parallel s) shape.workers) ≡ b
      → received (shape.parallel s) shape.workers l (if b then record { position = Receives (suc e); done = d } else closing shape s w d) ≡ over_link (shape.parallel s) shape.workers l (d + suc e)
  by_test true is = refl
  by_test false is =
      let same : links_of (shape.parallel s) shape.workers ≡ suc e = grind (arith, nat_tests) in
      closing_received shape.workers l shape s w d ∙ ap (λ (k : ℕ). over_link (shape.parallel s) shape.workers l (d + k)) same

pub took_end_sent : (l : ℕ) (shape : Shape) (s w e d : ℕ) → s + 1 < shape.stages → HasLink (shape.parallel s) shape.workers w l
    → sent (shape.parallel s) shape.workers l (took_end shape s w e d) ≡ over_link (shape.parallel s) shape.workers l d
took_end_sent l shape s w e d more has = by_test (nat_lt (e + 1) (links_of (shape.parallel s) shape.workers)) where
  by_test : (b : Bool) → sent (shape.parallel s) shape.workers l (if b then record { position = Receives (suc e); done = d } else closing shape s w d) ≡ over_link (shape.parallel s) shape.workers l d
  by_test true = omega arith
  by_test false = closing_sent shape.workers l shape s w d more has

-- a task that sent an End
pub sent_end_received : (l : ℕ) (shape : Shape) (s w m d : ℕ)
    → received (shape.parallel s) shape.workers l (sent_end shape s w m d) ≡ over_link (shape.parallel s) shape.workers l (d + links_of (shape.parallel s) shape.workers)
sent_end_received l shape s w m d = by_test (nat_lt (m + 1) (first_link (shape.parallel s) w + links_of (shape.parallel s) shape.workers)) where
  by_test : (b : Bool) → received (shape.parallel s) shape.workers l (if b then record { position = SendsEnd (m + 1); done = d } else record { position = Finished; done = d })
      ≡ over_link (shape.parallel s) shape.workers l (d + links_of (shape.parallel s) shape.workers)
  by_test true = refl
  by_test false = refl

pub ends_sent_here : (m : ℕ) → (ends_sent m (SendsEnd m) ≡ 0) × (ends_sent m (SendsEnd (m + 1)) ≡ 1)
ends_sent_here m = (one (nat_lt m m) refl, two (nat_lt m (m + 1)) refl) where
  one : (b : Bool) → nat_lt m m ≡ b → one_if b ≡ 0
  one true is = absurd (grind (arith, nat_tests))
  one false is = refl

  two : (b : Bool) → nat_lt m (m + 1) ≡ b → one_if b ≡ 1
  two true is = refl
  two false is = absurd (grind (arith, nat_tests))

pub ends_sent_other : (l m : ℕ) → l ≢ m → ends_sent l (SendsEnd (m + 1)) ≡ ends_sent l (SendsEnd m)
ends_sent_other l m other = ap one_if (let e : nat_lt l (m + 1) ≡ nat_lt l m = by_cases (leb_tells (suc l) m) in e) where
  by_cases : ((nat_lt l m ≡ true) × (suc l ≤ m)) ⊎ ((nat_lt l m ≡ false) × (m < suc l)) → nat_lt l (m + 1) ≡ nat_lt l m
  by_cases (inl h) = let e : nat_lt l (m + 1) ≡ true = grind (arith, nat_tests) in e ∙ sym h.0
  by_cases (inr h) = let e : nat_lt l (m + 1) ≡ false = grind (arith, nat_tests) in e ∙ sym h.0

-- behind the last End of a task, all were sent
all_ends_sent : (p : Bool) (W w l m : ℕ) → HasLink p W w l → first_link p w + links_of p W ≤ m + 1 → l ≢ m → ends_sent l (SendsEnd m) ≡ 1
all_ends_sent p W w l m has over other = by_test (nat_lt l m) refl where
  below : (q : Bool) → HasLink q W w l → first_link q w + links_of q W ≤ m + 1 → l < m
  below true h o = omega (arith, h, o, other)
  below false h o = omega (arith, h, o, other)

  by_test : (b : Bool) → nat_lt l m ≡ b → one_if b ≡ 1
  by_test true is = refl
  by_test false is = absurd (let k = below p has over in grind (arith, nat_tests))

pub sent_end_here : (shape : Shape) (s w m d : ℕ)
    → sent (shape.parallel s) shape.workers m (sent_end shape s w m d) ≡ over_link (shape.parallel s) shape.workers m d + 1
sent_end_here shape s w m d = by_test (nat_lt (m + 1) (first_link (shape.parallel s) w + links_of (shape.parallel s) shape.workers)) where
  by_test : (b : Bool) → sent (shape.parallel s) shape.workers m (if b then record { position = SendsEnd (m + 1); done = d } else record { position = Finished; done = d })
      ≡ over_link (shape.parallel s) shape.workers m d + 1
  by_test true = omega (arith, (ends_sent_here m).1)
  by_test false = refl

pub sent_end_other : (l : ℕ) (shape : Shape) (s w m d : ℕ) → HasLink (shape.parallel s) shape.workers w l → l ≢ m
    → sent (shape.parallel s) shape.workers l (sent_end shape s w m d) ≡ over_link (shape.parallel s) shape.workers l d + ends_sent l (SendsEnd m)
sent_end_other l shape s w m d has other = by_test (nat_lt (m + 1) (first_link (shape.parallel s) w + links_of (shape.parallel s) shape.workers)) refl where
  by_test : (b : Bool) → nat_lt (m + 1) (first_link (shape.parallel s) w + links_of (shape.parallel s) shape.workers) ≡ b
      → sent (shape.parallel s) shape.workers l (if b then record { position = SendsEnd (m + 1); done = d } else record { position = Finished; done = d })
      ≡ over_link (shape.parallel s) shape.workers l d + ends_sent l (SendsEnd m)
  by_test true is = omega (arith, ends_sent_other l m other)
  by_test false is =
      let over : first_link (shape.parallel s) w + links_of (shape.parallel s) shape.workers ≤ m + 1 = grind (arith, nat_tests) in
      omega (arith, all_ends_sent (shape.parallel s) shape.workers w l m has over other)
