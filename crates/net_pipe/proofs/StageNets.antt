-- The net of an interval whose iterations go through the stages of a plan: its work keeps what its tasks' values mean.
use Rattle.std.proofs.Common.{◌≡◌, ℕ, zero, suc, ◌+◌, ◌*◌, ◌<◌, ◌≤◌, Bool, true, false, not, ℤ, pos, ◌+ℤ◌, List, [], ◌∷◌, ◌++◌, length, refl, sym, ap, subst, arith, ⊎_elim, inl}
use Rattle.std.proofs.lemmas.Bool.{cases_lt}
use Rattle.std.proofs.lemmas.Int.{ints}
use Rattle.nona_tree.specs.declared.plans.Plan.{Plan}
use Rattle.nona_tree.specs.declared.plans.Stage.{Stage}
use Rattle.nona_tree.specs.Entries.{Entry}
use Rattle.nona_tree.specs.Run.{done}
use Rattle.nona_plans.specs.Lawful.{BeginsSequential}
use Rattle.nona_fission.specs.Fission.{own_over}
use Rattle.net_flow.specs.Dealing.{due, number}
use Rattle.net_flow.specs.Flow.{Position, Claims, Unit_at, Sends, Receives, SendsEnd, Finished, busy, IsPositionOf}
use Rattle.net_flow.specs.Machines.{HasMover, RunsOut, is_over}
use Rattle.net_flow.specs.MoveCounts.{pipeline_moves}
use Rattle.net_flow.specs.Net.{Task, Net, is_finished, moves_of, net_machine, paused_net, step, task_at}
use Rattle.net_flow.specs.Shapes.{IsPipeline, IsWorker, IsTask, task_of, due_to}
use Rattle.net_flow.specs.Sound.{Meaning, LawfulWork, Holds}
use Rattle.net_flow.specs.Tracing.{numbers}
use Rattle.net_flow.proofs.BegunNet.{begun_is}
use Rattle.net_flow.proofs.Dealing.{dealt_down}
use Rattle.net_flow.proofs.Numbering.{task_with}
use Rattle.net_flow.proofs.Pipelines.{keeps, net_runs_out, net_kept_out, net_moves, never_stuck}
use Rattle.net_share.specs.Entries.{begun_in}
use Rattle.net_pipe.specs.Entries.{MayPipe, IsWithinStage, IsPipeNet, MayStep, MayStepAt, carried_from, carried_into, part_at, pipe_net, pipe_work, staging_in, stages_meaning}
use Rattle.net_pipe.specs.Works.{Staging, Values, entered, shape_of, stages_work}
use Rattle.net_pipe.proofs.Behind.{depth_between, parallel_at}
use Rattle.net_pipe.proofs.InStages.{stage_in}
use Rattle.net_pipe.proofs.PartsApart.{lawful_stages}
use Rattle.net_pipe.proofs.UnitsWithin.{begins, may_run, unit_within, iteration_left, packet_is}

-- the first stage is sequential

first_sequential : (stages : List Stage) → BeginsSequential stages → (stage_in stages 0).sequential ≡ true
first_sequential [] first = absurd first
first_sequential (x ∷ rest) first = first

some_stage : (stages : List Stage) → BeginsSequential stages → 1 ≤ length stages
some_stage [] first = absurd first
some_stage (x ∷ rest) first = omega arith

-- the one task of a sequential stage has all iterations, whichever number it has

alone_numbers : (W w d : ℕ) → numbers false W w d ≡ numbers false W 0 d
alone_numbers W w zero = refl
alone_numbers W w (suc d) = ap (λ (ks : List ℕ). ks ++ d ∷ []) (alone_numbers W w d)

came_from : (e : Entry) (g : Staging) (first r s k : ℕ) → r + 1 ≡ s → carried_from e g first r k ≡ carried_into e g first s k
came_from e g first r zero k next = absurd (omega (arith, next))
came_from e g first r (suc s) k next = ap (λ (i : ℕ). carried_from e g first i k) (let same : r ≡ s = omega (arith, next) in same)

-- the number of an iteration that is due to a task is one of those that were granted
number_below : (parallel : Bool) (W w b d : ℕ) → IsWorker parallel W w → d < due parallel W w b → number parallel W w d < b
number_below false W w b d is less = less
number_below true W w b d is less =
    ⊎_elim (λ (below : w + d * W < b). below) (λ (past : b ≤ w + d * W). let few = dealt_down W w b d is past in absurd (omega (arith, few, less))) (cases_lt (w + d * W) b)

module _ (e : Entry) (p : Plan) (W c first limit : ℕ) (h : MayPipe e p W c first limit) where
  abbrev g : Staging
  g = staging_in e p W c first

  abbrev its_meaning : Meaning Values (List ℤ)
  its_meaning = stages_meaning e g first

  straight_head : parallel_at g 0 ≡ false
  straight_head = ap not (first_sequential p.pipe (lawful_stages e p W c first limit h).first)

  pub is_pipeline : IsPipeline (shape_of (staging_in e p W c first))
  is_pipeline = record {
    some_stage = some_stage p.pipe (lawful_stages e p W c first limit h).first;
    some_worker = h.some_worker;
    some_room = h.some_room;
    sequential_head = straight_head;
  }

  -- an iteration begins in a stage
  begins_in : (s w d : ℕ) (held : List ℤ) (v : Values) → IsWorker (parallel_at g s) W w → number (parallel_at g s) W w d < limit → held ≡ carried_into e g first s (number (parallel_at g s) W w d)
      → its_meaning.between s w d v
      → its_meaning.within s w d 0 (record { store = entered g s (number (parallel_at g s) W w d) held v.store; held = held })
  begins_in s w d held v task below is ready =
      begins e p W c first limit h s w d task below v.store held ((e.low +ℤ pos first) +ℤ pos (number (parallel_at g s) W w d)) ready is (omega (arith, ints))

  -- in the head
  head_begins : (s w d : ℕ) (v : Values) → s ≡ 0 → d < limit → its_meaning.between s w d v → its_meaning.within s w d 0 ((stages_work g).enter s d [] v)
  head_begins zero w d v at below ready = by_kind (parallel_at g 0) straight_head ready (λ task. begins_in 0 0 d [] v task) where
    by_kind : (b : Bool) → b ≡ false → own_over (part_at e g first 0 0) (numbers b W w d) (begun_in e first) ≡ done v.store
        → (IsWorker b W 0 → number b W 0 d < limit → [] ≡ carried_into e g first 0 (number b W 0 d)
        → own_over (part_at e g first 0 0) (numbers b W 0 d) (begun_in e first) ≡ done v.store
        → IsWithinStage e g first 0 (numbers b W 0 d) (number b W 0 d) 0 (record { store = entered g 0 (number b W 0 d) [] v.store; held = [] }))
        → IsWithinStage e g first 0 (numbers b W w d) (number b W w d) 0 (record { store = entered g 0 d [] v.store; held = [] })
    by_kind true is old go = cc
    by_kind false is old go =
        let same = alone_numbers W w d in
        subst (λ (ks : List ℕ). IsWithinStage e g first 0 ks d 0 (record { store = entered g 0 d [] v.store; held = [] })) (sym same)
        (go refl below refl (subst (λ (ks : List ℕ). own_over (part_at e g first 0 0) ks (begun_in e first) ≡ done v.store) same old))
  head_begins (suc s) w d v at below ready = absurd (omega (arith, at))

  -- what the tasks compute keeps what their values mean
  pub lawful_work : LawfulWork (stages_work (staging_in e p W c first)) (stages_meaning e (staging_in e p W c first) first) limit
  lawful_work = record {
    enter_head = head_begins;
    enter = λ r s w d v next task below ready.
        begins_in s w d (carried_from e g first r (number (parallel_at g s) W w d)) v task.1 below (came_from e g first r s (number (parallel_at g s) W w d) next) ready;
    unit = λ s w d u v task below inside within. unit_within e p W c first limit h s w d task.1 below u v within inside;
    leave = λ s w d v task below within. iteration_left e p W c first limit h s w d task.1 below v within;
    packet = λ s w d v task below within. packet_is e p W c first limit h s w d task.1 below v within;
  }

  pub stages_begin : IsPipeNet e p W c first limit (pipe_net e p W c first limit)
  stages_begin =
      begun_is Values (List ℤ) (stages_work g) its_meaning is_pipeline limit (λ s w. record { store = begun_in e first; held = [] }) (λ s w task. refl)

  module _ (net : Net Values (List ℤ)) (here : IsPipeNet e p W c first limit net) where
    pub stages_step : (t : ℕ) → t < length net.tasks → is_finished (task_at (pipe_work e p W c first) net t).position ≡ false → IsPipeNet e p W c first limit (step (pipe_work e p W c first) net t)
    stages_step t below goes = keeps Values (List ℤ) (stages_work g) its_meaning is_pipeline limit lawful_work net t here below goes

    pub stages_move : is_over (net_machine (pipe_work e p W c first)) net ≡ false → HasMover (net_machine (pipe_work e p W c first)) net
    stages_move going = never_stuck Values (List ℤ) (stages_work g) its_meaning is_pipeline limit lawful_work net here going

    pub stages_moved : is_over (net_machine (pipe_work e p W c first)) net ≡ true → moves_of net ≡ pipeline_moves (shape_of (staging_in e p W c first)) net.granted
    stages_moved over = net_moves Values (List ℤ) (stages_work g) its_meaning is_pipeline limit lawful_work net here over

    pub stages_end : (end : Net Values (List ℤ)) × RunsOut (net_machine (pipe_work e p W c first)) net end × IsPipeNet e p W c first limit end × (is_over (net_machine (pipe_work e p W c first)) end ≡ true)
    stages_end =
        let out = net_runs_out Values (List ℤ) (stages_work g) its_meaning is_pipeline limit lawful_work net here in
        let kept = net_kept_out Values (List ℤ) (stages_work g) its_meaning is_pipeline limit lawful_work net out.0 out.1 here in (out.0, out.1, kept.0, kept.1)

    -- a task before a unit may run it

    may_at : (s w : ℕ) (x : Task Values) (q : Position) → IsTask (shape_of g) s w → IsPositionOf (shape_of g) s w q → x.done + busy q ≤ due_to (shape_of g) s w net.granted
        → Holds (stages_work g) its_meaning s w q x → MayStepAt g s q x.values.store
    may_at s w x Claims task inside begun held = depth_between e g first s (numbers (parallel_at g s) W w x.done) x.values.store held
    may_at s w x (Unit_at u) task inside begun held =
        let few = here.sound.few in
        let limit_is = here.limit_is in
        let below = number_below (parallel_at g s) W w net.granted x.done task.1 (omega (arith, begun)) in
        record {
          runs = may_run e p W c first limit h s w x.done task.1 (omega (arith, below, few, limit_is)) u x.values held.0 inside;
          many = held.0.many;
        }
    may_at s w x Sends task inside begun held = tt
    may_at s w x (Receives j) task inside begun held = depth_between e g first s (numbers (parallel_at g s) W w x.done) x.values.store held
    may_at s w x (SendsEnd l) task inside begun held = tt
    may_at s w x Finished task inside begun held = tt

    pub stages_may : (t : ℕ) → t < length net.tasks → MayStep (staging_in e p W c first) (task_at (pipe_work e p W c first) net t)
    stages_may t below =
        let at = task_with (shape_of g) (shape_of g).stages t (omega arith) (let tasks = here.sound.tasks in omega (arith, below, tasks)) in
        let s = at.0 in
        let w = at.1 in
        let fits = here.sound.flow.tasks s w at.2 in
        let x = task_at (stages_work g) net (task_of (shape_of g) s w) in
        subst (λ (i : ℕ). MayStep g (task_at (stages_work g) net i)) at.3
        (subst (λ (r : ℕ). MayStepAt g r x.position x.values.store) (sym (here.sound.stage s w at.2))
        (may_at s w x x.position at.2 fits.position fits.within (here.sound.holds s w at.2)))

-- what stands of the net without regard to what may go through the stages

module _ (e : Entry) (p : Plan) (W c first limit : ℕ) (net : Net Values (List ℤ)) (here : IsPipeNet e p W c first limit net) where
  pub granted_within : net.granted ≤ limit
  granted_within = let few = here.sound.few in let limit_is = here.limit_is in omega (arith, few, limit_is)

  pub stages_pause : IsPipeNet e p W c first limit (paused_net net)
  stages_pause =
      let s = here.sound in
      record {
        sound = record { few = s.few; shut = λ closed. inl refl; flow = s.flow; tasks = s.tasks; link_total = s.link_total; stage = s.stage; worker = s.worker; moves = s.moves; holds = s.holds; links = s.links };
        limit_is = here.limit_is;
      }
