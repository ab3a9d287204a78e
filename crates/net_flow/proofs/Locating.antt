-- By the counts at the two ends of a link, each number of it that was granted is in one gap: begun and not sent by one stage, sent and
-- not begun by the next, or sent by the last.
use Rattle.std.proofs.Common.{◌≡◌, ◌≢◌, ◌⊎◌, ◌<◌, ◌≤◌, ◌+◌, ◌-◌, ◌*◌, ◌/◌, ◌%◌, ℕ, zero, suc, Bool, refl, sym, ap, subst, ◌∙◌, arith, inl, inr}
use Rattle.std.proofs.lemmas.Bool.{cases_lt, cases_eq}
use Rattle.std.proofs.Math.Nat.{mod-lt, div-add-mod}
use Rattle.net_flow.specs.Dealing.{dealt, over_link}
use Rattle.net_flow.specs.Flow.{Position, Claims, Unit_at, Sends, Receives, SendsEnd, Finished, Progress, Flow, extra, packets_on, sent_on, received_on, busy, IsFlow}
use Rattle.net_flow.specs.Shapes.{Shape, IsPipeline, worker_on}
use Rattle.net_flow.proofs.MessageCounts.{over_link_mono}
use Rattle.net_flow.proofs.Dealing.{dealt_up}
use Rattle.net_flow.proofs.TaskKept.{has_link, worker_is, due_over_link_le, ends_sent_all}

-- how many iterations of a link a stage has begun
abbrev pub begun_on : Shape → Flow → ℕ → ℕ → ℕ
begun_on shape f s l = let x = f s (worker_on (shape.parallel s) l) in over_link (shape.parallel s) shape.workers l (x.done + busy x.position)

-- whether the iteration behind j ones of a link was begun and not sent by a stage
abbrev pub BegunBy : Shape → Flow → ℕ → ℕ → ℕ → Type 0
BegunBy shape f l j s = (s < shape.stages) × (packets_on shape f s l ≤ j) × (j < begun_on shape f s l)

-- whether it was sent by a stage and not begun by the next
abbrev pub SentBy : Shape → Flow → ℕ → ℕ → ℕ → Type 0
SentBy shape f l j s = (s + 1 < shape.stages) × (begun_on shape f (s + 1) l ≤ j) × (j < packets_on shape f s l)

-- whether it was done by the last stage
abbrev pub DoneBy : Shape → Flow → ℕ → ℕ → Type 0
DoneBy shape f l j = j < packets_on shape f (shape.stages - 1) l

pub busy_extra : (p : Bool) (W : ℕ) (position : Position) → busy position ≤ extra p W position
busy_extra p W Claims = omega arith
busy_extra p W (Unit_at u) = omega arith
busy_extra p W Sends = omega arith
busy_extra p W (Receives e) = omega arith
busy_extra p W (SendsEnd i) = omega arith
busy_extra p W Finished = omega arith

module _ (shape : Shape) (is : IsPipeline shape) (b : ℕ) (f : Flow) (here : IsFlow shape b f) (l : ℕ) (below : l < shape.workers) where
  -- a stage has begun what it has sent
  own_chain : (s : ℕ) → packets_on shape f s l ≤ begun_on shape f s l
  own_chain s =
      let x = f s (worker_on (shape.parallel s) l) in
      over_link_mono (shape.parallel s) shape.workers (worker_on (shape.parallel s) l) l x.done (x.done + busy x.position) (has_link (shape.parallel s) shape.workers l below) (omega arith)

  -- and only what was sent to it
  next_chain : (r s : ℕ) → r + 1 ≡ s → s < shape.stages → begun_on shape f s l ≤ packets_on shape f r l
  next_chain r s next within = by_cases (cases_lt (packets_on shape f r l) (sent_on shape f r l)) where
    x : Progress
    x = f s (worker_on (shape.parallel s) l)

    mono : begun_on shape f s l ≤ received_on shape f s l
    mono =
        let y = f s (worker_on (shape.parallel s) l) in
        let k = busy_extra (shape.parallel s) shape.workers y.position in
        over_link_mono (shape.parallel s) shape.workers (worker_on (shape.parallel s) l) l (y.done + busy y.position) (y.done + extra (shape.parallel s) shape.workers y.position) (has_link (shape.parallel s) shape.workers l below) (omega (arith, k))

    by_cases : (packets_on shape f r l < sent_on shape f r l) ⊎ (sent_on shape f r l ≤ packets_on shape f r l) → begun_on shape f s l ≤ packets_on shape f r l
    by_cases (inr same) = let a = here.links r s l next within below in omega (arith, a, mono, same)
    by_cases (inl more) =
        let y = f s (worker_on (shape.parallel s) l) in
        let all = ends_sent_all shape is b f here r l (omega (arith, next, within)) below more in
        let fits = here.tasks s (worker_on (shape.parallel s) l) (within, worker_is (shape.parallel s) shape.workers l below) in
        let few = due_over_link_le (shape.parallel s) shape.workers (worker_on (shape.parallel s) l) l b (y.done + busy y.position) (has_link (shape.parallel s) shape.workers l below) fits.within in
        let e = all.0 in omega (arith, few, e)

  abbrev Found : ℕ → Type 0
  Found j = (((t : ℕ) × BegunBy shape f l j t) ⊎ ((t : ℕ) × SentBy shape f l j t)) ⊎ DoneBy shape f l j

  -- from a stage that has begun it on
  found : (j n s : ℕ) → s + n + 1 ≡ shape.stages → j < begun_on shape f s l → Found j
  found j zero s left begun = by_sent (cases_lt j (packets_on shape f s l)) where
    by_sent : (j < packets_on shape f s l) ⊎ (packets_on shape f s l ≤ j) → Found j
    by_sent (inr kept) = inl (inl (s, (omega (arith, left), kept, begun)))
    by_sent (inl gone) = let last : s ≡ shape.stages - 1 = omega (arith, left) in inr (subst (λ (t : ℕ). j < packets_on shape f t l) last gone)
  found j (suc n) s left begun = by_sent (cases_lt j (packets_on shape f s l)) (λ next. found j n (s + 1) (omega (arith, left)) next) where
    by_next : j < packets_on shape f s l → (j < begun_on shape f (s + 1) l) ⊎ (begun_on shape f (s + 1) l ≤ j) → (j < begun_on shape f (s + 1) l → Found j) → Found j
    by_next gone (inl next) on = on next
    by_next gone (inr wait) on = inl (inr (s, (omega (arith, left), wait, gone)))

    by_sent : (j < packets_on shape f s l) ⊎ (packets_on shape f s l ≤ j) → (j < begun_on shape f (s + 1) l → Found j) → Found j
    by_sent (inr kept) on = inl (inl (s, (omega (arith, left), kept, begun)))
    by_sent (inl gone) on = by_next gone (cases_lt j (begun_on shape f (s + 1) l)) on

  -- later stages have begun less than earlier ones have sent
  far_chain : (n r s : ℕ) → r + n + 1 ≡ s → s < shape.stages → begun_on shape f s l ≤ packets_on shape f r l
  far_chain zero r s next within = next_chain r s (omega (arith, next)) within
  far_chain (suc n) r s next within =
      let a = far_chain n (r + 1) s (omega (arith, next)) within in
      let c = own_chain (r + 1) in
      let d = next_chain r (r + 1) refl (omega (arith, next, within)) in omega (arith, a, c, d)

  apart : (r s : ℕ) → r < s → s < shape.stages → begun_on shape f s l ≤ packets_on shape f r l
  apart r s less within = far_chain (s - r - 1) r s (omega (arith, less)) within

  -- it is at one place alone
  pub one_task : (j r s : ℕ) → BegunBy shape f l j r → BegunBy shape f l j s → r ≡ s
  one_task j r s a c = by_order (cases_lt r s) (cases_lt s r) where
    by_order : (r < s) ⊎ (s ≤ r) → (s < r) ⊎ (r ≤ s) → r ≡ s
    by_order (inl h) other = let k = apart r s h c.0 in let x = a.1 in let y = c.2 in absurd (omega (arith, k, x, y))
    by_order (inr h) (inl g) = let k = apart s r g a.0 in let x = c.1 in let y = a.2 in absurd (omega (arith, k, x, y))
    by_order (inr h) (inr g) = omega (arith, h, g)

  pub one_link : (j r s : ℕ) → SentBy shape f l j r → SentBy shape f l j s → r ≡ s
  one_link j r s a c = by_order (cases_lt r s) (cases_lt s r) where
    before : (p q : ℕ) → p < q → SentBy shape f l j p → SentBy shape f l j q → ⊥
    before p q h x y =
        let k = own_chain q in
        let z = y.2 in
        let w = x.1 in by_next (cases_eq q (p + 1)) where
          by_next : (q ≡ p + 1) ⊎ (q ≢ p + 1) → ⊥
          by_next (inl e) = let u : begun_on shape f q l ≤ j = subst (λ (t : ℕ). begun_on shape f t l ≤ j) (sym e) x.1 in let k' = own_chain q in let z' = y.2 in omega (arith, u, k', z')
          by_next (inr e) = let u = apart (p + 1) q (omega (arith, h, e)) (omega (arith, y.0)) in let k' = own_chain q in let z' = y.2 in let v = own_chain (p + 1) in let w' = x.1 in omega (arith, u, k', z', v, w')

    by_order : (r < s) ⊎ (s ≤ r) → (s < r) ⊎ (r ≤ s) → r ≡ s
    by_order (inl h) other = absurd (before r s h a c)
    by_order (inr h) (inl g) = absurd (before s r g c a)
    by_order (inr h) (inr g) = omega (arith, h, g)

  pub begun_not_sent : (j s r : ℕ) → BegunBy shape f l j s → SentBy shape f l j r → ⊥
  begun_not_sent j s r a c = by_order (cases_lt s r) (cases_lt (r + 1) s) where
    by_order : (s < r) ⊎ (r ≤ s) → (r + 1 < s) ⊎ (s ≤ r + 1) → ⊥
    by_order (inl h) other =
        let k = apart s r h (let z = c.0 in omega (arith, z)) in
        let o = own_chain r in let x = a.1 in let y = c.2 in omega (arith, k, o, x, y)
    by_order (inr h) (inl g) =
        let k = apart (r + 1) s g a.0 in
        let o = own_chain (r + 1) in let x = c.1 in let y = a.2 in omega (arith, k, o, x, y)
    by_order (inr h) (inr g) = by_same (cases_eq s r) where
      by_same : (s ≡ r) ⊎ (s ≢ r) → ⊥
      by_same (inl same) =
          let x : packets_on shape f r l ≤ j = subst (λ (t : ℕ). packets_on shape f t l ≤ j) same a.1 in
          let y = c.2 in omega (arith, x, y)
      by_same (inr off) =
          let next : s ≡ r + 1 = omega (arith, h, g, off) in
          let x : j < begun_on shape f (r + 1) l = subst (λ (t : ℕ). j < begun_on shape f t l) next a.2 in
          let y = c.1 in omega (arith, x, y)

  -- what the last stage has sent was begun by each stage
  done_begun : (j s : ℕ) → s < shape.stages → DoneBy shape f l j → j < begun_on shape f s l
  done_begun j s within done = by_order (cases_lt s (shape.stages - 1)) where
    o : packets_on shape f (shape.stages - 1) l ≤ begun_on shape f (shape.stages - 1) l
    o = own_chain (shape.stages - 1)

    by_order : (s < shape.stages - 1) ⊎ (shape.stages - 1 ≤ s) → j < begun_on shape f s l
    by_order (inl h) =
        let k = apart s (shape.stages - 1) h (omega (arith, within)) in
        let p = own_chain s in omega (arith, k, o, p, done)
    by_order (inr h) =
        let last : shape.stages - 1 ≡ s = omega (arith, h, within) in
        subst (λ (t : ℕ). j < begun_on shape f t l) last (omega (arith, o, done))

  pub done_not_begun : (j s : ℕ) → BegunBy shape f l j s → DoneBy shape f l j → ⊥
  done_not_begun j s a done = by_order (cases_lt s (shape.stages - 1)) where
    by_order : (s < shape.stages - 1) ⊎ (shape.stages - 1 ≤ s) → ⊥
    by_order (inl h) =
        let k = apart s (shape.stages - 1) h (let z = a.0 in omega (arith, z)) in
        let o = own_chain (shape.stages - 1) in let x = a.1 in omega (arith, k, o, x, done)
    by_order (inr h) =
        let last : s ≡ shape.stages - 1 = let z = a.0 in omega (arith, h, z) in
        let x : packets_on shape f (shape.stages - 1) l ≤ j = subst (λ (t : ℕ). packets_on shape f t l ≤ j) last a.1 in omega (arith, x, done)

  pub done_not_sent : (j r : ℕ) → SentBy shape f l j r → DoneBy shape f l j → ⊥
  done_not_sent j r c done = let x = done_begun j (r + 1) c.0 done in let y = c.1 in omega (arith, x, y)

-- every granted number is in such a gap
module _ (shape : Shape) (is : IsPipeline shape) (b : ℕ) (f : Flow) (here : IsFlow shape b f) where
  pub located : (k : ℕ) → k < b → (((t : ℕ) × BegunBy shape f (k % shape.workers) (k / shape.workers) t) ⊎ ((t : ℕ) × SentBy shape f (k % shape.workers) (k / shape.workers) t)) ⊎ DoneBy shape f (k % shape.workers) (k / shape.workers)
  located k low =
      let W = shape.workers in
      let l = k % W in
      let j = k / W in
      let below : l < W = mod-lt k is.some_worker in
      let split = div-add-mod k W in
      let more : j < dealt W l b = by_cases l j below split (cases_lt j (dealt W l b)) in
      let all : begun_on shape f 0 l ≡ dealt W l b =
      ap (λ (q : Bool). over_link q W l ((f 0 (worker_on q l)).done + busy (f 0 (worker_on q l)).position)) is.sequential_head ∙ ap (dealt W l) here.head in
      found shape is b f here l below j (shape.stages - 1) 0 (let h = is.some_stage in omega (arith, h)) (omega (arith, more, all))
    where
      by_cases : (l j : ℕ) → l < shape.workers → shape.workers * j + l ≡ k → (j < dealt shape.workers l b) ⊎ (dealt shape.workers l b ≤ j) → j < dealt shape.workers l b
      by_cases l j below split (inl h) = h
      by_cases l j below split (inr h) = let u = dealt_up shape.workers l b j below h in absurd (omega (arith, u, split, low))
