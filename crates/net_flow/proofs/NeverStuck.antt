-- A pipeline that has not finished has a task that moves.
use Rattle.std.proofs.Common.{◌≡◌, ◌≢◌, ◌⊎◌, ◌<◌, ◌≤◌, ◌+◌, ◌*◌, ◌%◌, min, ℕ, zero, suc, Bool, true, false, refl, ap, subst, ◌∙◌, arith, inl, inr}
use Rattle.std.proofs.lemmas.Bool.{cases_lt}
use Rattle.std.proofs.Math.Nat.{mod-lt, mul-le-mul_right}
use Rattle.net_flow.specs.Dealing.{dealt, over_link, next_link, due, number}
use Rattle.net_flow.specs.Flow.{Position, Claims, Unit_at, Sends, Receives, SendsEnd, Finished, Progress, Flow, extra, ends_sent, sent, received, sent_on, received_on, is_closed, busy, IsPositionOf, IsFlow}
use Rattle.net_flow.specs.Shapes.{Shape, IsPipeline, IsTask, HasLink, IsWorker, worker_on, links_of}
use Rattle.net_flow.proofs.MessageCounts.{over_link_mono}
use Rattle.net_flow.proofs.Dealing.{dealt_up, dealt_down, dealt_number, dealt_round}
use Rattle.net_flow.proofs.FlowSteps.{Blocked}
use Rattle.net_flow.proofs.TaskKept.{worker_is, has_link, next_link_below, has_below, due_over_link, due_over_link_le, sender_fits, ends_sent_all}

-- the number of the next iteration of a task: at most the next one on each of its links, and just that on the link that is next
pub number_le : (p : Bool) (W w l d : ℕ) → IsWorker p W w → HasLink p W w l → number p W w d ≤ l + over_link p W l d * W
number_le true W w l d is has = omega (arith, has)
number_le false W w l d is has = dealt_up W l d (dealt W l d) has (omega arith)

pub number_is : (p : Bool) (W w l d : ℕ) → 0 < W → l ≡ next_link p W w d → number p W w d ≡ l + over_link p W l d * W
number_is true W w l d some on = omega (arith, on)
number_is false W w l d some on = dealt_number W l d some on

-- the next iteration of a task that has done all its iterations isn't below the boundary, and that of another one is
pub number_all : (p : Bool) (W w b d : ℕ) → IsWorker p W w → d ≡ due p W w b → b ≤ number p W w d
number_all true W w b d is all = let h = dealt_up W w b d is (omega (arith, all)) in h
number_all false W w b d is all = omega (arith, all)

pub number_few : (p : Bool) (W w b d : ℕ) → IsWorker p W w → d + 1 ≤ due p W w b → number p W w d < b
number_few true W w b d is few = by_cases (cases_lt (w + d * W) b) where
  by_cases : (w + d * W < b) ⊎ (b ≤ w + d * W) → w + d * W < b
  by_cases (inl h) = h
  by_cases (inr h) = let k = dealt_down W w b d is h in absurd (omega (arith, few, k))
number_few false W w b d is few = omega (arith, few)

-- up to W iterations on, nothing more went over the link that is next then
next_link_few : (W d e : ℕ) → e < W → dealt W ((d + e) % W) (d + e) ≤ dealt W ((d + e) % W) d
next_link_few W d e below = by_cases (cases_lt (dealt W l d) (dealt W l (d + e))) where
  l : ℕ
  l = (d + e) % W

  by_cases : (dealt W ((d + e) % W) d < dealt W ((d + e) % W) (d + e)) ⊎ (dealt W ((d + e) % W) (d + e) ≤ dealt W ((d + e) % W) d) → dealt W ((d + e) % W) (d + e) ≤ dealt W ((d + e) % W) d
  by_cases (inr h) = h
  by_cases (inl h) =
      let some : 0 < W = omega arith in
      let low : (d + e) % W < W = mod-lt (d + e) some in
      let j = dealt W ((d + e) % W) d in
      let up = dealt_up W ((d + e) % W) d j low (omega arith) in
      let at = dealt_number W ((d + e) % W) (d + e) some refl in
      let more : (j + 1) * W ≤ dealt W ((d + e) % W) (d + e) * W = mul-le-mul_right W (let z : j + 1 ≤ dealt W ((d + e) % W) (d + e) = omega (arith, h) in z) in
      absurd (omega (arith, up, at, more))

pub next_link_over : (p : Bool) (W w d e : ℕ) → 0 < W → e < links_of p W → over_link p W (next_link p W w (d + e)) (d + e) ≤ over_link p W (next_link p W w (d + e)) d
next_link_over true W w d e some below = omega (arith, below)
next_link_over false W w d e some below = next_link_few W d e below

-- a task that received all Ends received one message more from each link
all_over_link : (p : Bool) (W w l d : ℕ) → IsWorker p W w → HasLink p W w l → over_link p W l (d + links_of p W) ≡ over_link p W l d + 1
all_over_link true W w l d is has = refl
all_over_link false W w l d is has = dealt_round W l d has

-- products
times_le : (W a b : ℕ) → a ≤ b → a * W ≤ b * W
times_le W a b h = mul-le-mul_right W h

times_less : (W a b : ℕ) → a < b → 0 < W → a * W < b * W
times_less W a b h some = let k : (a + 1) * W ≤ b * W = mul-le-mul_right W (let z : a + 1 ≤ b = omega (arith, h) in z) in omega (arith, k, some)

-- the link that is next is one of the task
pub next_link_has : (p : Bool) (W w n : ℕ) → 0 < W → HasLink p W w (next_link p W w n)
next_link_has true W w n some = refl
next_link_has false W w n some = mod-lt n some

module _ (shape : Shape) (is : IsPipeline shape) (b : ℕ) (f : Flow) (here : IsFlow shape b f) where
  -- the rank of a task: the number of its next iteration, at most the boundary, and then its stage
  pub rank : ℕ → ℕ → ℕ
  rank s w = min (number (shape.parallel s) shape.workers w (f s w).done) b * shape.stages + s

  -- another task of lower rank that has not finished
  pub record Lower (s w : ℕ) : Type 0 where
    pub stage : ℕ
    pub worker : ℕ
    pub is_task : IsTask shape stage worker
    pub goes_on : (f stage worker).position ≢ Finished
    pub lower : rank stage worker < rank s w

  -- the sender of an empty link
  from_empty : (s w e r : ℕ) → IsTask shape s w → (f s w).position ≡ Receives e → r + 1 ≡ s
      → sent_on shape f r (next_link (shape.parallel s) shape.workers w ((f s w).done + e)) ≤ received (shape.parallel s) shape.workers (next_link (shape.parallel s) shape.workers w ((f s w).done + e)) (f s w)
      → Lower s w
  unfolding rank
  from_empty s w e r is_task at next empty =
      let d = (f s w).done in
      let p = shape.parallel s in
      let W = shape.workers in
      let l = next_link p W w (d + e) in
      let below : l < W = next_link_below p W w (d + e) is.some_worker is_task.1 in
      let v = worker_on (shape.parallel r) l in
      let sender = sender_fits shape is b f here r l (omega (arith, next, is_task.0)) below in
      let fits = here.tasks s w is_task in
      let fit : IsPositionOf shape s w (Receives e) = subst (IsPositionOf shape s w) at fits.position in
      let took : received p W l (f s w) ≡ over_link p W l (d + e) = ap (λ (q : Position). over_link p W l (d + extra p W q)) at in
      let few : over_link p W l (d + e) ≤ over_link p W l d = next_link_over p W w d e is.some_worker fit.1 in
      let has : HasLink p W w l = next_link_has p W w (d + e) is.some_worker in
      let least : over_link p W l d ≤ dealt W l b = due_over_link_le p W w l b d has (omega (arith, fits.within)) in
      let q = f r v in
      let nq = number (shape.parallel r) W v q.done in
      let np = number p W w d in
      let goes : q.position ≢ Finished = λ over.
      let one : ends_sent l q.position ≡ 1 = ap (ends_sent l) over in
      let all = ends_sent_all shape is b f here r l (omega (arith, next, is_task.0)) below (omega (arith, one)) in
      omega (arith, one, all.0, all.2, empty, took, few, least) in
      let low : nq ≤ l + over_link (shape.parallel r) W l q.done * W = number_le (shape.parallel r) W v l q.done (worker_is (shape.parallel r) W l below) (has_link (shape.parallel r) W l below) in
      let fewer : over_link (shape.parallel r) W l q.done ≤ over_link p W l d = omega (arith, empty, took, few) in
      let times = times_le W (over_link (shape.parallel r) W l q.done) (over_link p W l d) fewer in
      let capped : min nq b ≤ min np b = by_e e refl (omega (arith, low, times)) in
      let scaled = times_le shape.stages (min nq b) (min np b) capped in
      record {
        stage = r;
        worker = v;
        is_task = (omega (arith, next, is_task.0), worker_is (shape.parallel r) W l below);
        goes_on = goes;
        lower = omega (arith, scaled, next);
      }
    where
      by_e : (k : ℕ) → e ≡ k
          → number (shape.parallel r) shape.workers (worker_on (shape.parallel r) (next_link (shape.parallel s) shape.workers w ((f s w).done + e))) (f r (worker_on (shape.parallel r) (next_link (shape.parallel s) shape.workers w ((f s w).done + e)))).done
          ≤ next_link (shape.parallel s) shape.workers w ((f s w).done + e) + over_link (shape.parallel s) shape.workers (next_link (shape.parallel s) shape.workers w ((f s w).done + e)) (f s w).done * shape.workers
          → min (number (shape.parallel r) shape.workers (worker_on (shape.parallel r) (next_link (shape.parallel s) shape.workers w ((f s w).done + e))) (f r (worker_on (shape.parallel r) (next_link (shape.parallel s) shape.workers w ((f s w).done + e)))).done) b
          ≤ min (number (shape.parallel s) shape.workers w (f s w).done) b
      by_e zero none low =
          let same : (f s w).done + e ≡ (f s w).done = omega (arith, none) in
          let h = number_is (shape.parallel s) shape.workers w (next_link (shape.parallel s) shape.workers w ((f s w).done + e)) (f s w).done is.some_worker (ap (next_link (shape.parallel s) shape.workers w) same) in
          omega (arith, low, h)
      by_e (suc k) some low =
          let all = (here.tasks s w is_task).all (ap is_closed (at ∙ ap Receives some)) in
          let h = number_all (shape.parallel s) shape.workers w b (f s w).done is_task.1 all.0 in omega (arith, h)

  -- the receiver of a link from which fewer than j messages were received, where j packets are due there
  module _ (s t l j : ℕ) (next : s + 1 ≡ t) (within : t < shape.stages) (below : l < shape.workers) (j_due : j ≤ dealt shape.workers l b) (less : received_on shape f t l < j) where
    receiver_goes : (f t (worker_on (shape.parallel t) l)).position ≢ Finished
    receiver_goes over =
        let p = shape.parallel t in
        let W = shape.workers in
        let v = worker_on p l in
        let x = f t v in
        let worker = worker_is p W l below in
        let has = has_link p W l below in
        let fits = here.tasks t v (within, worker) in
        let all = fits.all (ap is_closed over) in
        let took : received p W l x ≡ over_link p W l (x.done + links_of p W) = ap (λ (q : Position). over_link p W l (x.done + extra p W q)) over in
        let round = all_over_link p W v l x.done worker has in
        let shared = due_over_link p W v l b x.done has all.0 in
        omega (arith, took, round, shared, less, j_due)

    receiver_low : number (shape.parallel t) shape.workers (worker_on (shape.parallel t) l) (f t (worker_on (shape.parallel t) l)).done < l + j * shape.workers
    receiver_low =
        let p = shape.parallel t in
        let W = shape.workers in
        let v = worker_on p l in
        let x = f t v in
        let has = has_link p W l below in
        let h = number_le p W v l x.done (worker_is p W l below) has in
        let mono = over_link_mono p W v l x.done (x.done + extra p W x.position) has (omega arith) in
        let times = times_less W (over_link p W l x.done) j (omega (arith, mono, less)) is.some_worker in
        omega (arith, h, times)

  -- the receiver of a full link over which a packet is to be sent
  from_full : (s w : ℕ) → IsTask shape s w → (f s w).position ≡ Sends → Blocked shape f s w Sends → Lower s w
  unfolding rank
  from_full s w is_task at full =
      let d = (f s w).done in
      let p = shape.parallel s in
      let W = shape.workers in
      let l = next_link p W w d in
      let below : l < W = next_link_below p W w d is.some_worker is_task.1 in
      let t = s + 1 in
      let fits = here.tasks s w is_task in
      let within : t < shape.stages = subst (IsPositionOf shape s w) at fits.position in
      let has : HasLink p W w l = next_link_has p W w d is.some_worker in
      let one : busy (f s w).position ≡ 1 = ap busy at in
      let due' : d + 1 ≤ due p W w b = omega (arith, fits.within, one) in
      let none : ends_sent l (f s w).position ≡ 0 = ap (ends_sent l) at in
      let j = over_link p W l d in
      let j_due : j ≤ dealt W l b = due_over_link_le p W w l b d has (omega (arith, due')) in
      let less : received_on shape f t l < j = omega (arith, full, none, is.some_room) in
      let v = worker_on (shape.parallel t) l in
      let low : number (shape.parallel t) W v (f t v).done < l + j * W = receiver_low s t l j refl within below j_due less in
      let mine : number p W w d ≡ l + j * W = number_is p W w l d is.some_worker refl in
      let few : number p W w d < b = number_few p W w b d is_task.1 due' in
      let capped : min (number (shape.parallel t) W v (f t v).done) b + 1 ≤ min (number p W w d) b = omega (arith, low, mine, few) in
      let scaled = times_le shape.stages (min (number (shape.parallel t) W v (f t v).done) b + 1) (min (number p W w d) b) capped in
      record {
        stage = t;
        worker = v;
        is_task = (within, worker_is (shape.parallel t) W l below);
        goes_on = receiver_goes s t l j refl within below j_due less;
        lower = omega (arith, scaled, within);
      }

  -- the receiver of a full link over which an End is to be sent
  from_full_end : (s w m : ℕ) → IsTask shape s w → (f s w).position ≡ SendsEnd m → Blocked shape f s w (SendsEnd m) → Lower s w
  unfolding rank
  from_full_end s w m is_task at full =
      let d = (f s w).done in
      let p = shape.parallel s in
      let W = shape.workers in
      let t = s + 1 in
      let fits = here.tasks s w is_task in
      let fit : (s + 1 < shape.stages) × HasLink p W w m = subst (IsPositionOf shape s w) at fits.position in
      let below : m < W = has_below p W w m is_task.1 fit.1 in
      let all = fits.all (ap is_closed at) in
      let none : ends_sent m (f s w).position ≡ 0 = ap (ends_sent m) at ∙ (Rattle.net_flow.proofs.MessageCounts.ends_sent_here m).0 in
      let shared = due_over_link p W w m b d fit.1 all.0 in
      let j = dealt W m b in
      let j_due : j ≤ dealt W m b = omega arith in
      let less : received_on shape f t m < j = omega (arith, full, none, shared, is.some_room) in
      let v = worker_on (shape.parallel t) m in
      let low : number (shape.parallel t) W v (f t v).done < b = before_all t m below less in
      let mine = number_all p W w b d is_task.1 all.0 in
      let capped : min (number (shape.parallel t) W v (f t v).done) b + 1 ≤ min (number p W w d) b = omega (arith, low, mine) in
      let scaled = times_le shape.stages (min (number (shape.parallel t) W v (f t v).done) b + 1) (min (number p W w d) b) capped in
      record {
        stage = t;
        worker = v;
        is_task = (fit.0, worker_is (shape.parallel t) W m below);
        goes_on = receiver_goes s t m j refl fit.0 below j_due less;
        lower = omega (arith, scaled, fit.0);
      }
    where
      before_all : (t m : ℕ) → m < shape.workers → received_on shape f t m < dealt shape.workers m b → number (shape.parallel t) shape.workers (worker_on (shape.parallel t) m) (f t (worker_on (shape.parallel t) m)).done < b
      before_all t m below less = by_cases (cases_lt (m + over_link p W m x.done * W) b) where
        p : Bool
        p = shape.parallel t

        W : ℕ
        W = shape.workers

        x : Progress
        x = f t (worker_on (shape.parallel t) m)

        by_cases : (m + over_link (shape.parallel t) shape.workers m (f t (worker_on (shape.parallel t) m)).done * shape.workers < b) ⊎ (b ≤ m + over_link (shape.parallel t) shape.workers m (f t (worker_on (shape.parallel t) m)).done * shape.workers)
            → number (shape.parallel t) shape.workers (worker_on (shape.parallel t) m) (f t (worker_on (shape.parallel t) m)).done < b
        by_cases (inl h) =
            let low = number_le (shape.parallel t) shape.workers (worker_on (shape.parallel t) m) m (f t (worker_on (shape.parallel t) m)).done (worker_is (shape.parallel t) shape.workers m below) (has_link (shape.parallel t) shape.workers m below) in
            omega (arith, h, low)
        by_cases (inr h) =
            let y = f t (worker_on (shape.parallel t) m) in
            let k = dealt_down shape.workers m b (over_link (shape.parallel t) shape.workers m y.done) below h in
            let mono = over_link_mono (shape.parallel t) shape.workers (worker_on (shape.parallel t) m) m y.done (y.done + extra (shape.parallel t) shape.workers y.position) (has_link (shape.parallel t) shape.workers m below) (omega arith) in
            absurd (omega (arith, k, mono, less))

  -- a task that has not finished and doesn't wait
  pub record Mover : Type 0 where
    pub stage : ℕ
    pub worker : ℕ
    pub is_task : IsTask shape stage worker
    pub goes_on : (f stage worker).position ≢ Finished
    pub free : Blocked shape f stage worker (f stage worker).position → ⊥

  -- a task waits for one of lower rank, or it doesn't wait
  tells_blocked : (s w : ℕ) → IsTask shape s w → (p : Position) → (f s w).position ≡ p → Lower s w ⊎ (Blocked shape f s w p → ⊥)
  tells_blocked s w is_task Claims at = inr (λ h. h)
  tells_blocked s w is_task (Unit_at u) at = inr (λ h. h)
  tells_blocked s w is_task Sends at =
      by_cases (cases_lt (sent (shape.parallel s) shape.workers (next_link (shape.parallel s) shape.workers w (f s w).done) (f s w)) (received_on shape f (s + 1) (next_link (shape.parallel s) shape.workers w (f s w).done) + shape.capacity))
    where
      by_cases : (sent (shape.parallel s) shape.workers (next_link (shape.parallel s) shape.workers w (f s w).done) (f s w) < received_on shape f (s + 1) (next_link (shape.parallel s) shape.workers w (f s w).done) + shape.capacity)
          ⊎ (received_on shape f (s + 1) (next_link (shape.parallel s) shape.workers w (f s w).done) + shape.capacity ≤ sent (shape.parallel s) shape.workers (next_link (shape.parallel s) shape.workers w (f s w).done) (f s w))
          → Lower s w ⊎ (Blocked shape f s w Sends → ⊥)
      by_cases (inl h) = inr (λ k. omega (arith, h, k))
      by_cases (inr h) = inl (from_full s w is_task at h)
  tells_blocked s w is_task (SendsEnd m) at =
      by_cases (cases_lt (sent (shape.parallel s) shape.workers m (f s w)) (received_on shape f (s + 1) m + shape.capacity))
    where
      by_cases : (sent (shape.parallel s) shape.workers m (f s w) < received_on shape f (s + 1) m + shape.capacity) ⊎ (received_on shape f (s + 1) m + shape.capacity ≤ sent (shape.parallel s) shape.workers m (f s w))
          → Lower s w ⊎ (Blocked shape f s w (SendsEnd m) → ⊥)
      by_cases (inl h) = inr (λ k. omega (arith, h, k))
      by_cases (inr h) = inl (from_full_end s w m is_task at h)
  tells_blocked s w is_task (Receives e) at = by_stage s w is_task at where
    by_stage : (t v : ℕ) → IsTask shape t v → (f t v).position ≡ Receives e → Lower t v ⊎ (Blocked shape f t v (Receives e) → ⊥)
    by_stage zero v is_task at = absurd (let fit : IsPositionOf shape 0 v (Receives e) = subst (IsPositionOf shape 0 v) at (here.tasks 0 v is_task).position in omega (arith, fit.0))
    by_stage (suc r) v is_task at =
        by_cases (cases_lt (received (shape.parallel (suc r)) shape.workers (next_link (shape.parallel (suc r)) shape.workers v ((f (suc r) v).done + e)) (f (suc r) v)) (sent_on shape f r (next_link (shape.parallel (suc r)) shape.workers v ((f (suc r) v).done + e))))
      where
        next : r + 1 ≡ suc r
        next = omega arith

        by_cases : (received (shape.parallel (suc r)) shape.workers (next_link (shape.parallel (suc r)) shape.workers v ((f (suc r) v).done + e)) (f (suc r) v) < sent_on shape f r (next_link (shape.parallel (suc r)) shape.workers v ((f (suc r) v).done + e)))
            ⊎ (sent_on shape f r (next_link (shape.parallel (suc r)) shape.workers v ((f (suc r) v).done + e)) ≤ received (shape.parallel (suc r)) shape.workers (next_link (shape.parallel (suc r)) shape.workers v ((f (suc r) v).done + e)) (f (suc r) v))
            → Lower (suc r) v ⊎ (Blocked shape f (suc r) v (Receives e) → ⊥)
        by_cases (inl h) = inr (λ k. (let z = k r next in omega (arith, h, z)))
        by_cases (inr h) = inl (from_empty (suc r) v e r is_task at next h)
  tells_blocked s w is_task Finished at = inr (λ h. h)

  pub moves_below : (n s w : ℕ) → rank s w < n → IsTask shape s w → (f s w).position ≢ Finished → Mover
  moves_below zero s w low is_task goes = absurd (omega (arith, low))
  moves_below (suc n) s w low is_task goes = by_block (tells_blocked s w is_task (f s w).position refl) (λ t v less at on. moves_below n t v less at on) where
    by_block : Lower s w ⊎ (Blocked shape f s w (f s w).position → ⊥) → ((t v : ℕ) → rank t v < n → IsTask shape t v → (f t v).position ≢ Finished → Mover) → Mover
    by_block (inr free) below = record { stage = s; worker = w; is_task = is_task; goes_on = goes; free = free }
    by_block (inl lower) below = below lower.stage lower.worker (omega (arith, lower.lower, low)) lower.is_task lower.goes_on

  -- so where a task has not finished, one moves
  pub never_stuck : (s w : ℕ) → IsTask shape s w → (f s w).position ≢ Finished → Mover
  never_stuck s w is_task goes = moves_below (rank s w + 1) s w (omega arith) is_task goes
