-- A net is sound before its first step.
use Rattle.std.proofs.Common.{◌≡◌, ◌≢◌, ◌⊎◌, ◌<◌, ◌+◌, ◌-◌, ◌*◌, ℕ, zero, suc, Bool, true, false, refl, sym, ap, subst, ◌∙◌, arith, inl, inr, [], ◌∷◌, ◌++◌, length, get_or, length-append}
use Rattle.std.proofs.lemmas.List.{get_or_append_left, get_or-append-add, get_or-replicate, length-replicate}
use Rattle.std.proofs.lemmas.Bool.{cases_eq}
use Rattle.net_flow.specs.Begun.{first_of, workers_of, tasks_of, begun_net}
use Rattle.net_flow.specs.Dealing.{over_link}
use Rattle.net_flow.specs.Flow.{Progress, is_closed, busy, IsProgress, idle, packets_on, sent_on, received_on}
use Rattle.net_flow.specs.MoveCounts.{beside, made, per_iteration}
use Rattle.net_flow.specs.Net.{Work, Task, no_task, task_at}
use Rattle.net_flow.specs.Shapes.{Shape, IsPipeline, IsTask, worker_on, tasks_in, first_task, task_of, link_of}
use Rattle.net_flow.specs.Sound.{Meaning, Holds, messages, message, flow_of, IsSound, IsNet}
use Rattle.net_flow.proofs.MessageCounts.{idle_extra, idle_ends_sent}
use Rattle.net_flow.proofs.Dealing.{dealt_none}
use Rattle.net_flow.proofs.MovesMade.{worker_below}
use Rattle.net_flow.proofs.Numbering.{first_mono, link_below}
use Rattle.net_flow.proofs.TaskKept.{links_of_some, worker_is}

module _ (V : Type 0) (shape : Shape) (values : ℕ → ℕ → V) (none : Task V) where
  workers_length : (s n : ℕ) → length (workers_of values s n) ≡ n
  workers_length s zero = refl
  workers_length s (suc n) = let h = workers_length s n in let k = length-append (workers_of values s n) (first_of values s n ∷ []) in omega (arith, h, k)

  workers_at : (s n w : ℕ) → w < n → get_or (workers_of values s n) w none ≡ first_of values s w
  workers_at s zero w below = absurd (omega (arith, below))
  workers_at s (suc n) w below = by_case (cases_eq w n) (λ less. workers_at s n w less) where
    by_case : (w ≡ n) ⊎ (w ≢ n) → (w < n → get_or (workers_of values s n) w none ≡ first_of values s w) → get_or (workers_of values s n ++ first_of values s n ∷ []) w none ≡ first_of values s w
    by_case (inl same) before =
        let e : w ≡ length (workers_of values s n) + 0 = let k = workers_length s n in omega (arith, same, k) in
        ap (λ (i : ℕ). get_or (workers_of values s n ++ first_of values s n ∷ []) i none) e
        ∙ get_or-append-add (workers_of values s n) (first_of values s n ∷ []) 0 none
        ∙ ap (first_of values s) (sym same)
    by_case (inr off) before =
        let less : w < n = omega (arith, below, off) in
        get_or_append_left (workers_of values s n) (first_of values s n ∷ []) none w (let k = workers_length s n in omega (arith, less, k)) ∙ before less

  pub tasks_length : (n : ℕ) → length (tasks_of shape values n) ≡ first_task shape n
  tasks_length zero = refl
  tasks_length (suc n) =
      let h = tasks_length n in
      let k = length-append (tasks_of shape values n) (workers_of values n (tasks_in (shape.parallel n) shape.workers)) in
      let j = workers_length n (tasks_in (shape.parallel n) shape.workers) in omega (arith, h, k, j)

  pub tasks_at : (n s w : ℕ) → s < n → w < tasks_in (shape.parallel s) shape.workers → get_or (tasks_of shape values n) (task_of shape s w) none ≡ first_of values s w
  tasks_at zero s w below within = absurd (omega (arith, below))
  tasks_at (suc n) s w below within = by_case (cases_eq s n) (λ less. tasks_at n s w less within) where
    by_case : (s ≡ n) ⊎ (s ≢ n) → (s < n → get_or (tasks_of shape values n) (task_of shape s w) none ≡ first_of values s w)
        → get_or (tasks_of shape values n ++ workers_of values n (tasks_in (shape.parallel n) shape.workers)) (task_of shape s w) none ≡ first_of values s w
    by_case (inl same) before =
        let e : task_of shape n w ≡ length (tasks_of shape values n) + w = let k = tasks_length n in omega (arith, k) in
        let at : get_or (tasks_of shape values n ++ workers_of values n (tasks_in (shape.parallel n) shape.workers)) (task_of shape n w) none ≡ first_of values n w =
        ap (λ (i : ℕ). get_or (tasks_of shape values n ++ workers_of values n (tasks_in (shape.parallel n) shape.workers)) i none) e
        ∙ get_or-append-add (tasks_of shape values n) (workers_of values n (tasks_in (shape.parallel n) shape.workers)) w none
        ∙ workers_at n (tasks_in (shape.parallel n) shape.workers) w (subst (λ (i : ℕ). w < tasks_in (shape.parallel i) shape.workers) same within) in
        subst (λ (i : ℕ). get_or (tasks_of shape values n ++ workers_of values n (tasks_in (shape.parallel n) shape.workers)) (task_of shape i w) none ≡ first_of values i w) (sym same) at
    by_case (inr off) before =
        let less : s < n = omega (arith, below, off) in
        let room : task_of shape s w < length (tasks_of shape values n) =
        let up = first_mono shape (suc s) n (omega (arith, less)) in
        let k = tasks_length n in omega (arith, within, up, k) in
        get_or_append_left (tasks_of shape values n) (workers_of values n (tasks_in (shape.parallel n) shape.workers)) none (task_of shape s w) room ∙ before less

module _ (V P : Type 0) (work : Work V P) (m : Meaning V P) (is : IsPipeline work.shape) (limit : ℕ) (values : ℕ → ℕ → V)
    (begins : (s w : ℕ) → IsTask work.shape s w → m.between s w 0 (values s w)) where
  first_at : (s w : ℕ) → IsTask work.shape s w → task_at work (begun_net work limit values) (task_of work.shape s w) ≡ first_of values s w
  first_at s w is_task = tasks_at V work.shape values (no_task work) work.shape.stages s w is_task.0 (worker_below (work.shape.parallel s) work.shape.workers w is_task.1)

  counts_first : (s w : ℕ) → IsTask work.shape s w → flow_of work (begun_net work limit values) s w ≡ record { position = idle s; done = 0 }
  counts_first s w is_task = ap (λ (x : Task V). let z : Progress = record { position = x.position; done = x.done } in z) (first_at s w is_task)

  over_link_none : (p : Bool) (l : ℕ) → l < work.shape.workers → over_link p work.shape.workers l 0 ≡ 0
  over_link_none true l below = refl
  over_link_none false l below = dealt_none work.shape.workers l below

  none_beside : (s w : ℕ) → beside work.shape s w (idle s) ≡ 0
  none_beside zero w = refl
  none_beside (suc s) w = refl

  fits_first : (s w : ℕ) (closed : Bool) → IsTask work.shape s w → IsProgress work.shape s w 0 closed (record { position = idle s; done = 0 })
  fits_first zero w closed is_task = record { position = refl; within = omega arith; all = λ h. (cc) }
  fits_first (suc s) w closed is_task = record { position = (omega arith, links_of_some (work.shape.parallel (suc s)) work.shape.workers is.some_worker); within = omega arith; all = λ h. (cc) }

  holds_first : (s w : ℕ) → IsTask work.shape s w → Holds work m s w (idle s) (first_of values s w)
  holds_first zero w is_task = begins zero w is_task
  holds_first (suc s) w is_task = begins (suc s) w is_task

  received_none : (s l : ℕ) → s < work.shape.stages → l < work.shape.workers → received_on work.shape (flow_of work (begun_net work limit values)) s l ≡ 0
  received_none s l within below =
      let c = counts_first s (worker_on (work.shape.parallel s) l) (within, worker_is (work.shape.parallel s) work.shape.workers l below) in
      let e : 0 + Rattle.net_flow.specs.Flow.extra (work.shape.parallel s) work.shape.workers (idle s) ≡ 0 = let h = idle_extra (work.shape.parallel s) work.shape.workers s in omega (arith, h) in
      ap (Rattle.net_flow.specs.Flow.received (work.shape.parallel s) work.shape.workers l) c ∙ ap (over_link (work.shape.parallel s) work.shape.workers l) e ∙ over_link_none (work.shape.parallel s) l below

  sent_none : (s l : ℕ) → s < work.shape.stages → l < work.shape.workers → sent_on work.shape (flow_of work (begun_net work limit values)) s l ≡ 0
  sent_none s l within below =
      let c = counts_first s (worker_on (work.shape.parallel s) l) (within, worker_is (work.shape.parallel s) work.shape.workers l below) in
      let a : sent_on work.shape (flow_of work (begun_net work limit values)) s l ≡ over_link (work.shape.parallel s) work.shape.workers l 0 + Rattle.net_flow.specs.Flow.ends_sent l (idle s) =
      ap (Rattle.net_flow.specs.Flow.sent (work.shape.parallel s) work.shape.workers l) c in
      let b = over_link_none (work.shape.parallel s) l below in
      let d = idle_ends_sent l s in omega (arith, a, b, d)

  begun_sound : IsSound work m (begun_net work limit values)
  begun_sound = record {
    few = omega arith;
    shut = λ h. (let k : is_closed (flow_of work (begun_net work limit values) 0 0).position ≡ false = ap (λ (x : Progress). is_closed x.position) (counts_first 0 0 (Rattle.net_flow.proofs.TaskKept.head_is_task work.shape is)) in cc);
    flow = record {
      head = ap (λ (x : Progress). x.done + busy x.position) (counts_first 0 0 (Rattle.net_flow.proofs.TaskKept.head_is_task work.shape is));
      tasks = λ s w is_task. subst (IsProgress work.shape s w 0 (is_closed (flow_of work (begun_net work limit values) 0 0).position)) (sym (counts_first s w is_task)) (fits_first s w (is_closed (flow_of work (begun_net work limit values) 0 0).position) is_task);
      links = λ r s l next within below. (let a = received_none s l within below in omega (arith, a));
    };
    tasks = tasks_length V work.shape values (no_task work) work.shape.stages;
    link_total = length-replicate ((work.shape.stages - 1) * work.shape.workers) [];
    stage = λ s w is_task. ap (λ (x : Task V). x.stage) (first_at s w is_task);
    worker = λ s w is_task. ap (λ (x : Task V). x.worker) (first_at s w is_task);
    moves = λ s w is_task. ap (λ (x : Task V). x.moves) (first_at s w is_task) ∙ sym (ap (made work.shape s w) (counts_first s w is_task) ∙ none_beside' s w);
    holds = λ s w is_task. subst (λ (x : Task V). Holds work m s w x.position x) (sym (first_at s w is_task)) (holds_first s w is_task);
    links = λ r l within below.
        let a = received_none (r + 1) l within below in
        let b = sent_none r l (omega (arith, within)) below in
        let z : sent_on work.shape (flow_of work (begun_net work limit values)) r l - received_on work.shape (flow_of work (begun_net work limit values)) (r + 1) l ≡ 0 = omega (arith, a, b) in
        get_or-replicate ((work.shape.stages - 1) * work.shape.workers) (link_of work.shape r l) [] [] (link_below work.shape r l within below)
        ∙ sym (ap (messages (message (m.carried r) work.shape.workers l (packets_on work.shape (flow_of work (begun_net work limit values)) r l)) (received_on work.shape (flow_of work (begun_net work limit values)) (r + 1) l)) z);
  } where
    none_beside' : (s w : ℕ) → 0 * per_iteration work.shape s + beside work.shape s w (idle s) ≡ 0
    none_beside' s w = let h = none_beside s w in omega (arith, h)

  -- so it is a net of this interval
  pub begun_is : IsNet work m limit (begun_net work limit values)
  begun_is = record { sound = begun_sound; limit_is = refl }
