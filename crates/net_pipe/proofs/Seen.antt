-- What the tasks saw of a net whose tasks have all finished: each what it leaves.
use Rattle.std.proofs.Common.{◌≡◌, ℕ, ◌<◌, ◌≤◌, Bool, true, false, ℤ, pos, List, length, map, get_or, refl, sym, ap, ◌∙◌, subst, arith}
use Rattle.std.proofs.lemmas.List.{get_or-map, length-map}
use Rattle.nona_tree.specs.declared.plans.Plan.{Plan}
use Rattle.nona_tree.specs.Entries.{Entry}
use Rattle.nona_tree.specs.Memory.{Memory}
use Rattle.nona_tree.specs.Run.{Ran, done}
use Rattle.nona_fission.specs.Fission.{Fission, MayBeApart, own_over, own_run}
use Rattle.net_flow.specs.Dealing.{due}
use Rattle.net_flow.specs.Machines.{is_over}
use Rattle.net_flow.specs.Net.{Task, Net, net_machine, no_task, task_at}
use Rattle.net_flow.specs.Shapes.{IsWorker, IsTask, first_task, task_of}
use Rattle.net_flow.specs.Tracing.{numbers}
use Rattle.net_flow.proofs.Numbering.{task_below, task_with}
use Rattle.net_flow.proofs.Pipelines.{net_values}
use Rattle.net_share.specs.Entries.{begun_in}
use Rattle.net_pipe.specs.Entries.{MayPipe, IsPipeNet, part_at, pipe_work, staging_in, stages_meaning, tasks_of}
use Rattle.net_pipe.specs.Works.{Staging, Values, shape_of, stages_work}
use Rattle.net_pipe.proofs.Behind.{parallel_at, same_over}
use Rattle.net_pipe.proofs.Owned.{owned_are}
use Rattle.net_pipe.proofs.PartsApart.{may_be_apart}
use Rattle.net_pipe.proofs.StageNets.{is_pipeline, lawful_work, granted_within}

-- a worker of a stage is one of its tasks, and each has one at least
pub worker_is_task : (parallel : Bool) (W w : ℕ) → IsWorker parallel W w → w < tasks_of parallel W
worker_is_task true W w is = is
worker_is_task false W w is = omega (arith, is)

pub task_is_worker : (parallel : Bool) (W w : ℕ) → w < tasks_of parallel W → IsWorker parallel W w
task_is_worker true W w below = below
task_is_worker false W w below = omega (arith, below)

pub first_is_worker : (parallel : Bool) (W : ℕ) → 1 ≤ W → IsWorker parallel W 0
first_is_worker true W some = omega (arith, some)
first_is_worker false W some = refl

module _ (e : Entry) (p : Plan) (W c first limit : ℕ) (h : MayPipe e p W c first limit) (net : Net Values (List ℤ)) (here : IsPipeNet e p W c first limit net)
    (over : is_over (net_machine (pipe_work e p W c first)) net ≡ true) where
  abbrev g : Staging
  g = staging_in e p W c first

  -- what the tasks of a stage have run
  abbrev pub granted_part : ℕ → Fission
  granted_part s = part_at e g first net.granted s

  pub granted_may : (s : ℕ) → MayBeApart (part_at e g first net.granted s)
  granted_may s = may_be_apart e p W c first limit h net.granted s (granted_within e p W c first limit net here)

  run_is : (s w : ℕ) → IsTask (shape_of g) s w → own_run (granted_part s) w ≡ done (task_at (stages_work g) net (task_of (shape_of g) s w)).values.store
  run_is s w task =
      ap (λ (ks : List ℕ). own_over (granted_part s) ks (begun_in e first)) (owned_are (parallel_at g s) W w net.granted h.some_worker task.1)
      ∙ sym (same_over e g first net.granted s (numbers (parallel_at g s) W w (due (parallel_at g s) W w net.granted)) (begun_in e first))
      ∙ net_values Values (List ℤ) (stages_work g) (stages_meaning e g first) (is_pipeline e p W c first limit h) limit (lawful_work e p W c first limit h) net here over s w task

  abbrev pub seen_stores : List Memory
  seen_stores = map (λ (x : Task Values). x.values.store) net.tasks

  pub count_seen : length seen_stores ≡ first_task (shape_of g) (length p.pipe)
  count_seen = length-map net.tasks (λ (x : Task Values). x.values.store) ∙ here.sound.tasks

  -- the store that a task saw
  pub seen_store : (s w : ℕ) → IsTask (shape_of g) s w → (d : Memory)
      → get_or seen_stores (task_of (shape_of g) s w) d ≡ (own_run (granted_part s) w).store
  seen_store s w task d =
      let none = no_task (stages_work g) in
      let below = task_below (shape_of g) s w task in
      get_or-map (λ (x : Task Values). x.values.store) net.tasks (task_of (shape_of g) s w) none d (let tasks = here.sound.tasks in omega (arith, below, tasks))
      ∙ sym (ap (λ (r : Ran). r.store) (run_is s w task))

  -- and what it saw there
  pub seen : (see : Memory → ℤ) (s w : ℕ) → IsTask (shape_of g) s w
      → get_or (map see seen_stores) (task_of (shape_of g) s w) (pos 0) ≡ see (own_run (granted_part s) w).store
  seen see s w task =
      let none = (no_task (stages_work g)).values.store in
      let below = task_below (shape_of g) s w task in
      let all = count_seen in
      get_or-map see seen_stores (task_of (shape_of g) s w) none (pos 0) (omega (arith, below, all)) ∙ ap see (seen_store s w task none)

  -- each number is that of a task
  pub seen_by : (t : ℕ) → t < length seen_stores → (s : ℕ) × (w : ℕ) × IsTask (shape_of g) s w × (task_of (shape_of g) s w ≡ t)
  seen_by t below = let all = count_seen in task_with (shape_of g) (length p.pipe) t (omega arith) (omega (arith, below, all))

  -- so what holds of what each task sees holds of all that is seen
  pub each_seen : (see : Memory → ℤ) (P : ℤ → Type 0) → ((s w : ℕ) → IsTask (shape_of g) s w → P (see (own_run (granted_part s) w).store))
      → (t : ℕ) → t < length (map see seen_stores) → P (get_or (map see seen_stores) t (pos 0))
  each_seen see P each t below =
      let all = length-map seen_stores see in
      let at = seen_by t (omega (arith, below, all)) in
      subst (λ (i : ℕ). P (get_or (map see seen_stores) i (pos 0))) at.3 (subst P (sym (seen see at.0 at.1 at.2)) (each at.0 at.1 at.2))

  -- and what one task sees is seen
  pub some_seen : (see : Memory → ℤ) (s w : ℕ) (v : ℤ) → IsTask (shape_of g) s w → see (own_run (granted_part s) w).store ≡ v
      → (t : ℕ) × (t < length (map see seen_stores)) × (get_or (map see seen_stores) t (pos 0) ≡ v)
  some_seen see s w v task is =
      let below = task_below (shape_of g) s w task in
      let all = count_seen in
      let more = length-map seen_stores see in
      (task_of (shape_of g) s w, omega (arith, below, all, more), seen see s w task ∙ is)
