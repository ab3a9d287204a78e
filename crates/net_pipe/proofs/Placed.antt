-- What the net of a pipeline gives the next step of each of its tasks.
use Rattle.std.proofs.Common.{◌≡◌, ◌<◌, ◌≤◌, ◌+◌, ◌-◌, ◌*◌, ◌^◌, ⊎_elim, ℕ, zero, suc, Bool, true, false, refl, sym, subst, subst₂, ◌∙◌, if◌then◌else◌, arith, List, ℤ, ◌∷◌, length, nat_lt}
use Rattle.std.proofs.Math.Nat.{mul-le-mul_right, mul-le-mul_left}
use Rattle.std.proofs.lemmas.Bool.{cases_lt}
use Rattle.net_flow.specs.Dealing.{due}
use Rattle.net_flow.specs.Flow.{IsPositionOf, one_if, is_closed, received_on, sent_on, packets_on}
use Rattle.net_flow.specs.MoveCounts.{per_iteration, to_close}
use Rattle.net_flow.specs.Net.{Message, Packet, End, Net, Task, task_at, link_at}
use Rattle.net_flow.specs.Shapes.{Shape, IsPipeline, IsTask, IsWorker, links_of, task_of}
use Rattle.net_flow.specs.Sound.{Meaning, IsNet, flow_of, message, messages}
use Rattle.net_flow.proofs.Dealing.{dealt_down}
use Rattle.net_flow.proofs.Numbering.{task_with}
use Rattle.net_flow.proofs.Pipelines.{most_of}
use Rattle.net_flow.proofs.TaskKept.{packets_few}
use Rattle.net_pipe.specs.Works.{Staging, Values, stage_at, shape_of, stages_work}
use Rattle.net_pipe.specs.Entries.{MayStep}
use Rattle.net_pipe.specs.Steps.{AreFew, CanStep}

due_few : (p : Bool) (W w b : ℕ) → IsWorker p W w → due p W w b ≤ b
due_few true W w b is = dealt_down W w b b is (let h : b * 1 ≤ b * W = mul-le-mul_left b (let z : 1 ≤ W = omega (arith, is) in z) in omega (arith, h))
due_few false W w b is = omega arith

worker_few : (p : Bool) (W w : ℕ) → 1 ≤ W → IsWorker p W w → w < W
worker_few true W w some is = is
worker_few false W w some is = omega (arith, is, some)

links_few : (p : Bool) (W : ℕ) → 1 ≤ W → links_of p W ≤ W
links_few true W some = some
links_few false W some = omega arith

one_few : (b : Bool) → one_if b ≤ 1
one_few true = omega arith
one_few false = omega arith

-- the moves of closing and ending are few
close_few : (shape : Shape) (s : ℕ) → 1 ≤ shape.workers → to_close shape s ≤ shape.workers
close_few shape zero some = some
close_few shape (suc s) some = links_few (shape.parallel (suc s)) shape.workers some

end_few : (q p : Bool) (W : ℕ) → 1 ≤ W → (if q then links_of p W else 0) ≤ W
end_few true p W some = links_few p W some
end_few false p W some = omega arith

-- the first of some messages is the one with its number
first_is : {P : Type 0} (f : ℕ → Message P) (at n k : ℕ) (p : P) (rest : List (Message P)) → messages f at n ≡ Packet k p ∷ rest → f at ≡ Packet k p
first_is f at zero k p rest e = cc
first_is f at (suc n) k p rest e = cc

-- a packet has the number of its place
packet_number : {P : Type 0} (b : Bool) (n k : ℕ) (p q : P) → (if b then Packet n q else End) ≡ Packet k p → (b ≡ true) × (n ≡ k)
packet_number true n k p q e = (refl, cc)
packet_number false n k p q e = cc

below_test : (i n : ℕ) → nat_lt i n ≡ true → i < n
below_test i n e = ⊎_elim (λ (h : i < n). h) (λ (h : n ≤ i). grind (arith, e, h)) (cases_lt i n)

module _ (g : Staging) (m : Meaning Values (List ℤ)) (limit : ℕ) (is : IsPipeline (shape_of g)) (few : AreFew g limit) (net : Net Values (List ℤ)) (here : IsNet (stages_work g) m limit net) where
  -- a packet is of a granted iteration
  packet_below : (r l k : ℕ) (p : List ℤ) (rest : List (Message (List ℤ))) → r + 1 < length g.pipe → l < g.workers → link_at (stages_work g) net r l ≡ Packet k p ∷ rest → k < net.limit
  packet_below r l k p rest within below first =
      let shape = shape_of g in
      let f = flow_of (stages_work g) net in
      let at = received_on shape f (r + 1) l in
      let packets = packets_on shape f r l in
      let link = message (m.carried r) g.workers l packets in
      let found = packet_number (nat_lt at packets) (l + at * g.workers) k p (m.carried r (l + at * g.workers))
      (first_is link at (sent_on shape f r l - at) k p rest (sym (here.sound.links r l within below) ∙ first)) in
      let less : at < packets = below_test at packets found.0 in
      let all = packets_few shape is net.granted f here.sound.flow r l (omega (arith, within)) below in
      let number : k < net.granted =
      ⊎_elim (λ (h : l + at * g.workers < net.granted). subst (λ (i : ℕ). i < net.granted) found.1 h)
      (λ (h : net.granted ≤ l + at * g.workers). let most = dealt_down g.workers l net.granted at below h in absurd (omega (arith, less, all, most)))
      (cases_lt (l + at * g.workers) net.granted) in
      let bound = here.sound.few in
      omega (arith, number, bound)

  pub can_step : (t : ℕ) → t < length net.tasks → MayStep g (task_at (stages_work g) net t) → CanStep g net t
  can_step t within may = subst (λ (i : ℕ). MayStep g (task_at (stages_work g) net i) → CanStep g net i) found.3 at_task may where
    found : (s : ℕ) × (w : ℕ) × IsTask (shape_of g) s w × (task_of (shape_of g) s w ≡ t)
    found = task_with (shape_of g) (length g.pipe) t (omega arith) (let e = here.sound.tasks in omega (arith, within, e))

    at_task : MayStep g (task_at (stages_work g) net (task_of (shape_of g) found.0 found.1)) → CanStep g net (task_of (shape_of g) found.0 found.1)
    at_task ready =
        let shape = shape_of g in
        let s = found.0 in
        let w = found.1 in
        let task = found.2 in
        let x : Task Values = task_at (stages_work g) net (task_of shape s w) in
        let flow = flow_of (stages_work g) net in
        let progress = here.sound.flow.tasks s w task in
        let some = is.some_worker in
        let stage : x.stage ≡ s = here.sound.stage s w task in
        let worker : x.worker ≡ w = here.sound.worker s w task in
        let low = worker_few (shape.parallel s) g.workers w some task.1 in
        let due_most = due_few (shape.parallel s) g.workers w net.granted task.1 in
        let granted = here.sound.few in
        let bound = here.limit_is in
        let done = progress.within in
        let most = most_of shape s w net.granted (is_closed (flow 0 0).position) (flow s w) progress in
        let moves = here.sound.moves s w task in
        let one = one_few (nat_lt (s + 1) shape.stages) in
        let close = close_few shape s some in
        let end = end_few (nat_lt (s + 1) shape.stages) (shape.parallel s) g.workers some in
        let units = length (stage_at g s).units in
        let each : (limit + 1) * (units + 2 * g.workers + 4) < 2 ^ 64 = few.each s task.0 in
        let per : per_iteration shape s ≤ units + 2 * g.workers + 4 = omega (arith, one) in
        let due_limit : due (shape.parallel s) g.workers w net.granted ≤ limit = omega (arith, due_most, granted, bound) in
        let p1 : due (shape.parallel s) g.workers w net.granted * per_iteration shape s ≤ limit * per_iteration shape s = mul-le-mul_right (per_iteration shape s) due_limit in
        let p2 : limit * per_iteration shape s ≤ limit * (units + 2 * g.workers + 4) = mul-le-mul_left limit per in
        let p4 : limit * 1 ≤ limit * (units + 2 * g.workers + 4) = mul-le-mul_left limit (let z : 1 ≤ units + 2 * g.workers + 4 = omega arith in z) in
        let whole : (limit + 1) * (units + 2 * g.workers + 4) ≡ limit * (units + 2 * g.workers + 4) + (units + 2 * g.workers + 4) = omega arith in
        record {
          stage = let z = task.0 in omega (arith, stage, z);
          worker = omega (arith, worker, low);
          position = subst₂ (λ (i j : ℕ). IsPositionOf shape i j x.position) (sym stage) (sym worker) progress.position;
          done = omega (arith, done, due_limit, p4, whole, each);
          moves = omega (arith, moves, most, p1, p2, whole, close, end, each);
          links = here.sound.link_total;
          below = packet_below;
          may = ready;
        }
