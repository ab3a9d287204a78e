-- The laws of a pipeline whose tasks note their numbers.
use Rattle.std.proofs.Common.{◌≡◌, ◌<◌, ◌≤◌, ◌+◌, ◌-◌, ℕ, zero, suc, Bool, true, false, refl, sym, ap, ◌∙◌, arith, List, [], ◌∷◌, ◌++◌, length, get_or, length-append}
use Rattle.std.proofs.lemmas.List.{get_or_push}
use Rattle.net_flow.specs.Dealing.{number}
use Rattle.net_flow.specs.Flow.{Position, Claims, Unit_at, Sends, Receives, SendsEnd, Finished, busy}
use Rattle.net_flow.specs.Located.{IsLocated}
use Rattle.net_flow.specs.Machines.{is_over, RunsOut, HasMover}
use Rattle.net_flow.specs.MoveCounts.{pipeline_moves}
use Rattle.net_flow.specs.Net.{Task, Net, task_at, moves_of, step, paused_net, is_finished}
use Rattle.net_flow.specs.Shapes.{Shape, IsPipeline, IsTask, task_of}
use Rattle.net_flow.specs.Sound.{Holds, LawfulWork}
use Rattle.net_flow.specs.Tracing.{noted, tracing, numbers, HasNoted, noting, IsTraced, traced_net, traced_machine}
use Rattle.net_flow.proofs.BegunNet.{begun_is}
use Rattle.net_flow.proofs.Whereabouts.{is_located}
use Rattle.net_flow.proofs.Pipelines.{keeps, paused_keeps, net_runs_out, net_kept_out, net_moves, net_granted, never_stuck}

module _ (shape : Shape) (is : IsPipeline shape) (limit : ℕ) where
  last_noted : (v : List ℕ) (k : ℕ) → get_or (v ++ k ∷ []) (length (v ++ k ∷ []) - 1) 0 ≡ k
  last_noted v k =
      let n = length-append v (k ∷ []) in
      get_or_push v k 0 (length (v ++ k ∷ []) - 1) (omega (arith, n))

  head_number : (s w d : ℕ) → s ≡ 0 → number (shape.parallel s) shape.workers w d ≡ d
  head_number s w d first = let straight : shape.parallel s ≡ false = ap shape.parallel first ∙ is.sequential_head in ap (λ (q : Bool). number q shape.workers w d) straight

  enter_later : (s r w d k : ℕ) (v : List ℕ) → r + 1 ≡ s → v ≡ numbers (shape.parallel s) shape.workers w d → k ≡ number (shape.parallel s) shape.workers w d
      → noted s k k v ≡ numbers (shape.parallel s) shape.workers w (suc d)
  enter_later zero r w d k v next old is_k = absurd (omega (arith, next))
  enter_later (suc s) r w d k v next old is_k = ap (λ (z : List ℕ). z ++ k ∷ []) old ∙ ap (λ (i : ℕ). numbers (shape.parallel (suc s)) shape.workers w d ++ i ∷ []) is_k

  enter_first : (s w d : ℕ) (v : List ℕ) → s ≡ 0 → v ≡ numbers (shape.parallel s) shape.workers w d → noted s d 0 v ≡ numbers (shape.parallel s) shape.workers w (suc d)
  enter_first zero w d v first old = ap (λ (z : List ℕ). z ++ d ∷ []) old ∙ ap (λ (i : ℕ). numbers (shape.parallel 0) shape.workers w d ++ i ∷ []) (sym (head_number 0 w d refl))
  enter_first (suc s) w d v first old = absurd (omega (arith, first))

  traced_lawful : LawfulWork (tracing shape) (noting shape) limit
  traced_lawful = record {
    enter_head = λ s w d v first below old. enter_first s w d v first old;
    enter = λ r s w d v next is_task below old. enter_later s r w d (number (shape.parallel s) shape.workers w d) v next old refl;
    unit = λ s w d u v is_task below within old. old;
    leave = λ s w d v is_task below old. old ∙ ap (numbers (shape.parallel s) shape.workers w) (let e : suc d ≡ d + 1 = omega arith in e);
    packet = λ s w d v is_task below old.
        ap (λ (z : List ℕ). get_or z (length z - 1) 0) old ∙ last_noted (numbers (shape.parallel s) shape.workers w d) (number (shape.parallel s) shape.workers w d);
  }

  -- before the first step
  pub traced_begins : IsTraced shape limit (traced_net shape limit)
  traced_begins = begun_is (List ℕ) ℕ (tracing shape) (noting shape) is limit (λ s w. []) (λ s w task. refl)

  module _ (net : Net (List ℕ) ℕ) (here : IsTraced shape limit net) where
    pub traced_steps : (t : ℕ) → t < length net.tasks → is_finished (task_at (tracing shape) net t).position ≡ false → IsTraced shape limit (step (tracing shape) net t)
    traced_steps t below goes = keeps (List ℕ) ℕ (tracing shape) (noting shape) is limit traced_lawful net t here below goes

    pub traced_pauses : IsTraced shape limit (paused_net net)
    traced_pauses = paused_keeps (List ℕ) ℕ (tracing shape) (noting shape) is limit traced_lawful net here

    pub traced_never_stuck : is_over (traced_machine shape) net ≡ false → HasMover (traced_machine shape) net
    traced_never_stuck going = never_stuck (List ℕ) ℕ (tracing shape) (noting shape) is limit traced_lawful net here going

    pub traced_runs_out : (end : Net (List ℕ) ℕ) × RunsOut (traced_machine shape) net end
    traced_runs_out = let h = net_runs_out (List ℕ) ℕ (tracing shape) (noting shape) is limit traced_lawful net here in (h.0, h.1)

    pub traced_ends : (end : Net (List ℕ) ℕ) → RunsOut (traced_machine shape) net end → IsTraced shape limit end × (is_over (traced_machine shape) end ≡ true)
    traced_ends end out = net_kept_out (List ℕ) ℕ (tracing shape) (noting shape) is limit traced_lawful net end out here

    pub traced_moves : is_over (traced_machine shape) net ≡ true → moves_of net ≡ pipeline_moves shape net.granted
    traced_moves over = net_moves (List ℕ) ℕ (tracing shape) (noting shape) is limit traced_lawful net here over

    pub traced_granted : is_over (traced_machine shape) net ≡ true → (net.granted ≤ limit) × (net.paused ≡ false → net.granted ≡ limit)
    traced_granted over = net_granted (List ℕ) ℕ (tracing shape) (noting shape) is limit traced_lawful net here over

    pub traced_noted : (s w : ℕ) → IsTask shape s w → HasNoted shape net s w
    traced_noted s w is_task = by_position x.position (here.sound.holds s w is_task) where
      x : Task (List ℕ)
      x = task_at (tracing shape) net (task_of shape s w)

      none : (d : ℕ) → d ≡ d + 0
      none d = omega arith

      one : (d : ℕ) → suc d ≡ d + 1
      one d = omega arith

      by_position : (p : Position) → Holds (tracing shape) (noting shape) s w p (task_at (tracing shape) net (task_of shape s w))
          → let z = task_at (tracing shape) net (task_of shape s w) in z.values ≡ numbers (shape.parallel s) shape.workers w (z.done + busy p)
      by_position Claims h = h ∙ ap (numbers (shape.parallel s) shape.workers w) (none x.done)
      by_position (Unit_at u) h = h.0 ∙ ap (numbers (shape.parallel s) shape.workers w) (one x.done)
      by_position Sends h = h.0 ∙ ap (numbers (shape.parallel s) shape.workers w) (one x.done)
      by_position (Receives e) h = h ∙ ap (numbers (shape.parallel s) shape.workers w) (none x.done)
      by_position (SendsEnd i) h = h ∙ ap (numbers (shape.parallel s) shape.workers w) (none x.done)
      by_position Finished h = h ∙ ap (numbers (shape.parallel s) shape.workers w) (none x.done)

    pub traced_located : (k : ℕ) → k < net.granted → IsLocated (tracing shape) net k
    traced_located k below = is_located (List ℕ) ℕ (tracing shape) (noting shape) is net here.sound k below
