-- A step changes one task of a net and at most one link, and keeps the net sound.
use Rattle.std.proofs.Common.{◌≡◌, ◌⊎◌, ◌<◌, ◌≤◌, ◌+◌, ◌-◌, ℕ, suc, true, sym, ap, subst, subst₂, ◌∙◌, arith, inl, inr, List, [], ◌∷◌, ◌++◌, length, get_or, set, length-set}
use Rattle.std.proofs.lemmas.List.{get_or-set_same, get_or-set_other}
use Rattle.net_flow.specs.Dealing.{next_link}
use Rattle.net_flow.specs.Flow.{Claims, Receives, Progress, Flow, packets_on, sent_on, received_on, is_closed}
use Rattle.net_flow.specs.MoveCounts.{made}
use Rattle.net_flow.specs.Net.{Message, Work, Task, Net, no_task, task_at, link_at}
use Rattle.net_flow.specs.Shapes.{Shape, IsPipeline, IsTask, worker_on, task_of, link_of}
use Rattle.net_flow.specs.Sound.{Meaning, Holds, message, flow_of, IsSound}
use Rattle.net_flow.proofs.FlowKept.{same_pair, kept, shuts}
use Rattle.net_flow.proofs.FlowSteps.{Advances, FlowStep, sends_over, receives_over}
use Rattle.net_flow.proofs.LinkChanges.{out_stays, in_stays, in_moves}
use Rattle.net_flow.proofs.LinkContents.{held, front_received}
use Rattle.net_flow.proofs.MovesMade.{made_one}
use Rattle.net_flow.proofs.Numbering.{task_below, task_apart, link_below, link_apart}

-- a task that moved once more
abbrev pub counted : {V : Type 0} → Task V → Task V
counted y = record y { moves = y.moves + 1 }

-- the progress of a task
abbrev pub progress_of : {V : Type 0} → Task V → Progress
progress_of y = record { position = y.position; done = y.done }

module _ (V P : Type 0) (work : Work V P) (m : Meaning V P) (is : IsPipeline work.shape) (net : Net V P) (sound : IsSound work m net) (s w : ℕ) (is_task : IsTask work.shape s w) where
  abbrev shape : Shape
  shape = work.shape

  abbrev f : Flow
  f = flow_of work net

  abbrev t : ℕ
  t = task_of work.shape s w

  -- what a link is to hold
  abbrev pub holds_in : Flow → ℕ → ℕ → List (Message P)
  holds_in g r l = held P (m.carried r) work.shape.workers l (packets_on work.shape g r l) (sent_on work.shape g r l) (received_on work.shape g (r + 1) l)

  -- the net after a step
  abbrev pub after_step : Task V → ℕ → List (List (Message P)) → Net V P
  after_step y c links = record { granted = c; limit = net.limit; paused = net.paused; tasks = set net.tasks (task_of work.shape s w) (counted y); links = links; waits = net.waits }

  module _ (y : Task V) (c : ℕ) (links : List (List (Message P))) where
    pub task_here : task_at work (after_step y c links) (task_of work.shape s w) ≡ counted y
    task_here =
        let below : task_of work.shape s w < length net.tasks = let h = task_below work.shape s w is_task in let k = sound.tasks in omega (arith, h, k) in
        get_or-set_same net.tasks (task_of work.shape s w) (counted y) (no_task work) below

    pub task_other : (r v : ℕ) → IsTask work.shape r v → (r ≡ s → v ≡ w → ⊥)
        → task_at work (after_step y c links) (task_of work.shape r v) ≡ task_at work net (task_of work.shape r v)
    task_other r v other off =
        get_or-set_other net.tasks (task_of work.shape s w) (task_of work.shape r v) (counted y) (no_task work)
        (λ same. let h = task_apart work.shape s w r v is_task other same in off h.0 h.1)

    -- what stood of each task stands of each, where it stands of the changed one
    each_task : (Q : ℕ → ℕ → Task V → Type 0) → Q s w (counted y) → ((r v : ℕ) → IsTask work.shape r v → Q r v (task_at work net (task_of work.shape r v)))
        → (r v : ℕ) → IsTask work.shape r v → Q r v (task_at work (after_step y c links) (task_of work.shape r v))
    each_task Q new old r v other = by_pair (same_pair r v s w) where
      by_pair : ((r ≡ s) × (v ≡ w)) ⊎ (r ≡ s → v ≡ w → ⊥) → Q r v (task_at work (after_step y c links) (task_of work.shape r v))
      by_pair (inl same) =
          subst₂ (λ (i j : ℕ). Q i j (task_at work (after_step y c links) (task_of work.shape i j))) (sym same.0) (sym same.1) (subst (Q s w) (sym task_here) new)
      by_pair (inr off) = subst (Q r v) (sym (task_other r v other off)) (old r v other)

    module _ (goes : Advances work.shape (flow_of work net) s w net.granted c (progress_of y)) where
      pub moves_on : FlowStep work.shape net.granted (flow_of work net) s w c (flow_of work (after_step y c links))
      moves_on = record {
        is_task = is_task;
        goes = subst (Advances work.shape (flow_of work net) s w net.granted c) (sym (ap progress_of task_here)) goes;
        others = λ r v other off. ap progress_of (task_other r v other off);
      }

      -- the net is sound after it
      pub stepped : ((flow_of work net s w).position ≡ Claims → c ≡ net.granted → (net.paused ≡ true) ⊎ (net.granted ≡ net.limit)) → c ≤ net.limit → y.stage ≡ s → y.worker ≡ w → y.moves ≡ (task_at work net (task_of work.shape s w)).moves → Holds work m s w y.position (counted y)
          → length links ≡ length net.links
          → ((r l : ℕ) → r + 1 < work.shape.stages → l < work.shape.workers → get_or links (link_of work.shape r l) [] ≡ holds_in (flow_of work (after_step y c links)) r l)
          → IsSound work m (after_step y c links)
      stepped refusal few stage worker same_moves values same_total contents = record {
        few = few;
        shut = new_shut;
        flow = kept work.shape is net.granted (flow_of work net) sound.flow s w c (flow_of work (after_step y c links)) moves_on;
        tasks = length-set net.tasks (task_of work.shape s w) (counted y) ∙ sound.tasks;
        link_total = same_total ∙ sound.link_total;
        stage = each_task (λ r v x. x.stage ≡ r) stage sound.stage;
        worker = each_task (λ r v x. x.worker ≡ v) worker sound.worker;
        moves = each_task (λ r v x. x.moves ≡ made work.shape r v (progress_of x)) new_moves sound.moves;
        holds = each_task (λ r v x. Holds work m r v x.position x) values sound.holds;
        links = contents;
      } where
        new_shut : is_closed (flow_of work (after_step y c links) 0 0).position ≡ true → (net.paused ≡ true) ⊎ (c ≡ net.limit)
        new_shut closed = by_claims (shuts work.shape is net.granted (flow_of work net) sound.flow s w c (flow_of work (after_step y c links)) moves_on closed) where
          by_old : c ≡ net.granted → (net.paused ≡ true) ⊎ (net.granted ≡ net.limit) → (net.paused ≡ true) ⊎ (c ≡ net.limit)
          by_old same (inl h) = inl h
          by_old same (inr h) = inr (same ∙ h)

          by_claims : (is_closed (flow_of work net 0 0).position ≡ true) × (c ≡ net.granted) ⊎ ((flow_of work net s w).position ≡ Claims) × (c ≡ net.granted) → (net.paused ≡ true) ⊎ (c ≡ net.limit)
          by_claims (inl h) = by_old h.1 (sound.shut h.0)
          by_claims (inr h) = by_old h.1 (refusal h.0 h.1)

        new_moves : y.moves + 1 ≡ made work.shape s w (progress_of y)
        new_moves =
            let one = made_one work.shape is net.granted (flow_of work net) sound.flow s w c (progress_of y) is_task goes in
            let old = sound.moves s w is_task in omega (arith, one, old, same_moves)

  -- the first message of a link is the one behind those that were received
  pub first_message : (r l : ℕ) (msg : Message P) (rest : List (Message P)) → r + 1 < work.shape.stages → l < work.shape.workers → link_at work net r l ≡ msg ∷ rest
      → (received_on work.shape (flow_of work net) (r + 1) l < sent_on work.shape (flow_of work net) r l)
      × (msg ≡ message (m.carried r) work.shape.workers l (packets_on work.shape (flow_of work net) r l) (received_on work.shape (flow_of work net) (r + 1) l))
      × (rest ≡ held P (m.carried r) work.shape.workers l (packets_on work.shape (flow_of work net) r l) (sent_on work.shape (flow_of work net) r l) (received_on work.shape (flow_of work net) (r + 1) l + 1))
  first_message r l msg rest within below is_first =
      let packets = packets_on work.shape (flow_of work net) r l in
      let sent = sent_on work.shape (flow_of work net) r l in
      let received = received_on work.shape (flow_of work net) (r + 1) l in
      let whole : held P (m.carried r) work.shape.workers l packets sent received ≡ msg ∷ rest = sym (sound.links r l within below) ∙ is_first in
      let long : sent - received ≡ suc (length rest) = sym (Rattle.net_flow.proofs.LinkContents.count P (message (m.carried r) work.shape.workers l packets) received (sent - received)) ∙ ap length whole in
      let less : received < sent = omega (arith, long) in
      let both : message (m.carried r) work.shape.workers l packets received ∷ held P (m.carried r) work.shape.workers l packets sent (received + 1) ≡ msg ∷ rest =
      sym (front_received P (m.carried r) work.shape.workers l packets sent received less) ∙ whole in
      (less, (cc both), (cc both))

  module _ (y : Task V) (c : ℕ) where
    -- a step that touches no link
    pub quiet : Advances work.shape (flow_of work net) s w net.granted c (progress_of y)
        → ((l : ℕ) → sends_over (work.shape.parallel s) work.shape.workers w l (flow_of work net s w) (flow_of work net s w).position → ⊥)
        → ((l : ℕ) → receives_over (work.shape.parallel s) work.shape.workers w l (flow_of work net s w) (flow_of work net s w).position → ⊥)
        → (r l : ℕ) → r + 1 < work.shape.stages → l < work.shape.workers → get_or net.links (link_of work.shape r l) [] ≡ holds_in (flow_of work (after_step y c net.links)) r l
    quiet goes no_send no_receive r l within below =
        let g = flow_of work (after_step y c net.links) in
        let moves = moves_on y c net.links goes in
        let out = out_stays work.shape is net.granted (flow_of work net) sound.flow s w c g moves r l within below (λ at. no_send l) in
        let into = in_stays work.shape is net.granted (flow_of work net) sound.flow s w c g moves r l within below (λ at. no_receive l) in
        sound.links r l within below
        ∙ sym (ap (λ (k : ℕ). held P (m.carried r) work.shape.workers l k (sent_on work.shape (flow_of work net) r l) (received_on work.shape (flow_of work net) (r + 1) l)) out.0)
        ∙ sym (ap (λ (k : ℕ). held P (m.carried r) work.shape.workers l (packets_on work.shape g r l) k (received_on work.shape (flow_of work net) (r + 1) l)) out.1)
        ∙ sym (ap (λ (k : ℕ). held P (m.carried r) work.shape.workers l (packets_on work.shape g r l) (sent_on work.shape g r l) k) into)

    -- the other links, where one is touched
    untouched : (links : List (List (Message P))) → Advances work.shape (flow_of work net) s w net.granted c (progress_of y) → (r l : ℕ) → r + 1 < work.shape.stages → l < work.shape.workers
        → (r ≡ s → sends_over (work.shape.parallel s) work.shape.workers w l (flow_of work net s w) (flow_of work net s w).position → ⊥)
        → (r + 1 ≡ s → receives_over (work.shape.parallel s) work.shape.workers w l (flow_of work net s w) (flow_of work net s w).position → ⊥)
        → get_or net.links (link_of work.shape r l) [] ≡ holds_in (flow_of work (after_step y c links)) r l
    untouched links goes r l within below no_send no_receive =
        let g = flow_of work (after_step y c links) in
        let moves = moves_on y c links goes in
        let out = out_stays work.shape is net.granted (flow_of work net) sound.flow s w c g moves r l within below no_send in
        let into = in_stays work.shape is net.granted (flow_of work net) sound.flow s w c g moves r l within below no_receive in
        sound.links r l within below
        ∙ sym (ap (λ (k : ℕ). held P (m.carried r) work.shape.workers l k (sent_on work.shape (flow_of work net) r l) (received_on work.shape (flow_of work net) (r + 1) l)) out.0)
        ∙ sym (ap (λ (k : ℕ). held P (m.carried r) work.shape.workers l (packets_on work.shape g r l) k (received_on work.shape (flow_of work net) (r + 1) l)) out.1)
        ∙ sym (ap (λ (k : ℕ). held P (m.carried r) work.shape.workers l (packets_on work.shape g r l) (sent_on work.shape g r l) k) into)

    -- one link is set, and the others stay
    set_one : (q k : ℕ) (new : List (Message P)) → q + 1 < work.shape.stages → k < work.shape.workers → Advances work.shape (flow_of work net) s w net.granted c (progress_of y)
        → new ≡ holds_in (flow_of work (after_step y c (set net.links (link_of work.shape q k) new))) q k
        → ((r l : ℕ) → r + 1 < work.shape.stages → l < work.shape.workers → (r ≡ q → l ≡ k → ⊥)
        → (r ≡ s → sends_over (work.shape.parallel s) work.shape.workers w l (flow_of work net s w) (flow_of work net s w).position → ⊥)
        × (r + 1 ≡ s → receives_over (work.shape.parallel s) work.shape.workers w l (flow_of work net s w) (flow_of work net s w).position → ⊥))
        → (r l : ℕ) → r + 1 < work.shape.stages → l < work.shape.workers
        → get_or (set net.links (link_of work.shape q k) new) (link_of work.shape r l) [] ≡ holds_in (flow_of work (after_step y c (set net.links (link_of work.shape q k) new))) r l
    set_one q k new q_within k_below goes is_new others r l within below = by_pair (same_pair r l q k) where
      by_pair : ((r ≡ q) × (l ≡ k)) ⊎ (r ≡ q → l ≡ k → ⊥)
          → get_or (set net.links (link_of work.shape q k) new) (link_of work.shape r l) [] ≡ holds_in (flow_of work (after_step y c (set net.links (link_of work.shape q k) new))) r l
      by_pair (inl same) =
          let room : link_of work.shape q k < length net.links = let h = link_below work.shape q k q_within k_below in let e = sound.link_total in omega (arith, h, e) in
          let at : get_or (set net.links (link_of work.shape q k) new) (link_of work.shape q k) [] ≡ holds_in (flow_of work (after_step y c (set net.links (link_of work.shape q k) new))) q k =
          get_or-set_same net.links (link_of work.shape q k) new [] room ∙ is_new in
          subst₂ (λ (i j : ℕ). get_or (set net.links (link_of work.shape q k) new) (link_of work.shape i j) [] ≡ holds_in (flow_of work (after_step y c (set net.links (link_of work.shape q k) new))) i j)
          (sym same.0) (sym same.1) at
      by_pair (inr off) =
          let o = others r l within below off in
          get_or-set_other net.links (link_of work.shape q k) (link_of work.shape r l) new [] (λ e. let h = link_apart work.shape r l q k below k_below e in off h.0 h.1)
          ∙ untouched (set net.links (link_of work.shape q k) new) goes r l within below o.0 o.1

    -- a message is received
    pub receive_one : (e q k : ℕ) (msg : Message P) (rest : List (Message P)) → q + 1 ≡ s → k < work.shape.workers → worker_on (work.shape.parallel s) k ≡ w
        → (flow_of work net s w).position ≡ Receives e → k ≡ next_link (work.shape.parallel s) work.shape.workers w ((flow_of work net s w).done + e)
        → link_at work net q k ≡ msg ∷ rest → Advances work.shape (flow_of work net) s w net.granted c (progress_of y)
        → (r l : ℕ) → r + 1 < work.shape.stages → l < work.shape.workers
        → get_or (set net.links (link_of work.shape q k) rest) (link_of work.shape r l) [] ≡ holds_in (flow_of work (after_step y c (set net.links (link_of work.shape q k) rest))) r l
    receive_one e q k msg rest next k_below on at next_is is_first goes =
        let sh' = work.shape in
        let g = flow_of work (after_step y c (set net.links (link_of work.shape q k) rest)) in
        let moves = moves_on y c (set net.links (link_of work.shape q k) rest) goes in
        let q_within : q + 1 < work.shape.stages = omega (arith, next, is_task.0) in
        let receive : receives_over (work.shape.parallel s) work.shape.workers w k (flow_of work net s w) (flow_of work net s w).position = subst (receives_over (work.shape.parallel s) work.shape.workers w k (flow_of work net s w)) (sym at) next_is in
        let first = first_message q k msg rest q_within k_below is_first in
        let into = (in_moves work.shape is net.granted (flow_of work net) sound.flow s w c g moves q k next k_below on receive).0 in
        let out = out_stays work.shape is net.granted (flow_of work net) sound.flow s w c g moves q k q_within k_below (λ z. absurd (omega (arith, z, next))) in
        let is_new : rest ≡ holds_in g q k =
        first.2
        ∙ sym (ap (λ (n : ℕ). held P (m.carried q) work.shape.workers k n (sent_on work.shape (flow_of work net) q k) (received_on work.shape (flow_of work net) (q + 1) k + 1)) out.0)
        ∙ sym (ap (λ (n : ℕ). held P (m.carried q) work.shape.workers k (packets_on work.shape g q k) n (received_on work.shape (flow_of work net) (q + 1) k + 1)) out.1)
        ∙ sym (ap (λ (n : ℕ). held P (m.carried q) work.shape.workers k (packets_on work.shape g q k) (sent_on work.shape g q k) n) into) in
        set_one q k rest q_within k_below goes is_new (λ r l within below off. (
          λ z put. subst (sends_over (work.shape.parallel s) work.shape.workers w l (flow_of work net s w)) at put,
          λ z pull'.
              let other : l ≡ next_link (work.shape.parallel s) work.shape.workers w ((flow_of work net s w).done + e) = subst (receives_over (work.shape.parallel s) work.shape.workers w l (flow_of work net s w)) at pull' in
              off (let d : r ≡ q = omega (arith, z, next) in d) (other ∙ sym next_is),
        ))

    -- a message is sent
    pub send_one : (k : ℕ) (msg : Message P) → s + 1 < work.shape.stages → k < work.shape.workers → Advances work.shape (flow_of work net) s w net.granted c (progress_of y)
        → ((l : ℕ) → sends_over (work.shape.parallel s) work.shape.workers w l (flow_of work net s w) (flow_of work net s w).position → l ≡ k)
        → ((l : ℕ) → receives_over (work.shape.parallel s) work.shape.workers w l (flow_of work net s w) (flow_of work net s w).position → ⊥)
        → holds_in (flow_of work (after_step y c (set net.links (link_of work.shape s k) (link_at work net s k ++ msg ∷ [])))) s k ≡ holds_in (flow_of work net) s k ++ msg ∷ []
        → (r l : ℕ) → r + 1 < work.shape.stages → l < work.shape.workers
        → get_or (set net.links (link_of work.shape s k) (link_at work net s k ++ msg ∷ [])) (link_of work.shape r l) []
        ≡ holds_in (flow_of work (after_step y c (set net.links (link_of work.shape s k) (link_at work net s k ++ msg ∷ [])))) r l
    send_one k msg within_s k_below goes only no_receive is_new =
        set_one s k (link_at work net s k ++ msg ∷ []) within_s k_below goes
        (ap (λ (ms : List (Message P)). ms ++ msg ∷ []) (sound.links s k within_s k_below) ∙ sym is_new)
        (λ r l within below off. (λ z put. off z (only l put), λ z receive. no_receive l receive))
