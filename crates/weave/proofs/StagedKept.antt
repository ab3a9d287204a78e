-- What stands of the tasks of stages, after a pause, after a step, and at the end.
use Rattle.std.proofs.Common.{◌≡◌, ◌<◌, ◌≤◌, ◌^◌, ℕ, ℤ, Bool, true, false, List, [], ◌∷◌, length, map, refl, sym, ap, subst, ◌∙◌, arith}
use Rattle.std.specs.Prelude.{IfOk, OnOk, Result, Ok, Err}
use Rattle.nona_num.specs.declared.folds.Fold.{Fold}
use Rattle.nona_tree.specs.Memory.{Memory}
use Rattle.nona_tree.specs.Run.{Ran as Run, done}
use Rattle.nona_plans.specs.Units.{reductions_of}
use Rattle.morta_task.specs.Entries.{EntryView, loop_of, state_after}
use Rattle.net_flow.specs.Machines.{is_over}
use Rattle.net_flow.specs.Net.{Work, Task, Net, is_finished, moves_of, net_machine, step, task_at, waits_at}
use Rattle.net_pipe.specs.declared.pipeline.Pipeline.{Pipeline}
use Rattle.net_pipe.specs.Kept.{IsEnd, IsKept, MayMove, Stays, doing_of, net_of, store_of, work_of}
use Rattle.net_pipe.specs.Staged.{staging_of}
use Rattle.net_pipe.specs.Tasks.{TaskView, share_of, task_over}
use Rattle.net_share.specs.declared.sharing.StepEnd.{StepEnd}
use Rattle.net_share.specs.declared.sharing.StepEnd.TheVariants as step_end
use Rattle.net_share.specs.Gathered.{views_of}
use Rattle.net_pipe.specs.Entries.{IsPipeNet, pipe_work, staging_in}
use Rattle.net_pipe.specs.Settled.{IsSettledFromStages}
use Rattle.net_pipe.specs.Steps.{CanStep}
use Rattle.net_pipe.specs.Works.{Staging, Values, stages_work}
use Rattle.weave.specs.declared.staged_tasks.StagedTasks.{StagedTasks}
use Rattle.weave.specs.NetView.{Staged, StepSays, machine}
use Rattle.weave.specs.Staged.{staged_machine}
use Rattle.weave.specs.StagedTasks.{IsStagedFor, IsStagedTasks, capacity_of, done_before, staged_view, workers_of}
use Rattle.weave.proofs.Injected.{is_over_part}
use Rattle.weave.proofs.StagedMoves.{moves_few}
use Rattle.weave.proofs.Versions.{staged_is_part}

-- the same tasks, with another state of their machine
abbrev pub with_pipeline : StagedTasks → Pipeline → StagedTasks
with_pipeline t next = record t { pipeline = next }

-- what the entry asks of the tasks
abbrev pub asked_of : StagedTasks → Work Values (List ℤ)
asked_of t = pipe_work (loop_of t.entry.now) t.entry.now.plan (workers_of t) (capacity_of t) (done_before t)

-- what stands of their net, in the entry
abbrev pub StandsIn : StagedTasks → Net Values (List ℤ) → Type 0
StandsIn t net = IsPipeNet (loop_of t.entry.now) t.entry.now.plan (workers_of t) (capacity_of t) (done_before t) (net_of t.pipeline).limit net

-- what they compute is what the entry asks
pub work_is : (t : StagedTasks) → IsStagedTasks t → work_of t.pipeline ≡ asked_of t
work_is t s = ap stages_work s.staged.does

-- the limit is no matter of a step
pub limit_stays : (old next : Pipeline) → Stays old next → (net_of next).limit ≡ (net_of old).limit
limit_stays old next stays = λ i. (stays.stages i).limit

-- nor is what the stages do
pub does_stays : (old next : Pipeline) → Stays old next → doing_of next ≡ doing_of old
does_stays old next stays = λ i. staging_of (stays.stages i)

-- the tasks behind a step, as the definitions see them
pub view_stays : (t : StagedTasks) (next : Pipeline) → Stays t.pipeline next
    → staged_view (with_pipeline t next) ≡ Staged t.entry.now (done_before t) (workers_of t) (capacity_of t) (net_of next)
view_stays t next stays =
    λ i. Staged t.entry.now (done_before t) (does_stays t.pipeline next stays i).workers (does_stays t.pipeline next stays i).capacity (net_of next)

-- what stands before a step or a pause stands behind it, where the net does
pub still_stands : (t : StagedTasks) (next : Pipeline) → IsStagedTasks t → Stays t.pipeline next → IsKept next → StandsIn t (net_of next)
    → IsStagedTasks (with_pipeline t next)
still_stands t next s stays kept net =
    let e = t.entry.now in
    let b = done_before t in
    let same = does_stays t.pipeline next stays in
    let limit = limit_stays t.pipeline next stays in
    let held : IsStagedFor e b (workers_of t) (capacity_of t) (net_of t.pipeline).limit (with_pipeline t next) =
    record { may = s.staged.may; few = s.staged.few; does = same ∙ s.staged.does; net = net } in
    record {
      entered = s.entered;
      from = s.from;
      fits = λ k few. s.fits k (subst (λ (l : ℕ). k ≤ l) limit few);
      staged = subst (λ (g : Staging). IsStagedFor e b g.workers g.capacity (net_of next).limit (with_pipeline t next)) (sym same)
          (subst (λ (l : ℕ). IsStagedFor e b (workers_of t) (capacity_of t) l (with_pipeline t next)) (sym limit) held);
      kept = kept;
      store = s.store ∙ ap done (sym stays.store);
      reductions = s.reductions;
    }

-- its next step can be done
pub may_move : (t : StagedTasks) (task : ℕ) → IsStagedTasks t
    → CanStep (staging_in (loop_of t.entry.now) t.entry.now.plan (workers_of t) (capacity_of t) (done_before t)) (net_of t.pipeline) task → MayMove t.pipeline task
may_move t task s can = subst (λ (g : Staging). CanStep g (net_of t.pipeline) task) (sym s.staged.does) can

-- whether the task with this number has finished, and whether its next step waits
abbrev pub over_at : Work Values (List ℤ) → Net Values (List ℤ) → ℕ → Bool
over_at work net task = is_finished (task_at work net task).position

abbrev pub waits_in_at : Work Values (List ℤ) → Net Values (List ℤ) → ℕ → Bool
waits_in_at work net task = let x = task_at work net task in waits_at work net x x.position

-- what a step of the machine made of the net, with this work
pub record Stepped (work : Work Values (List ℤ)) (net next : Net Values (List ℤ)) (task : ℕ) : Type 0 where
  pub rests : over_at work net task ≡ true → next ≡ net
  pub moves : over_at work net task ≡ false → next ≡ step work net task

-- what a step of the machine says of the tasks, by how it ended
says_so : (e : EntryView) (b W c task : ℕ) (net next : Net Values (List ℤ)) (end : StepEnd)
    → (let w = pipe_work (loop_of e) e.plan W c b in IsEnd end (over_at w net task) (waits_in_at w net task) → Stepped w net next task)
    → (let w = pipe_work (loop_of e) e.plan W c b in IsEnd end (over_at w net task) (waits_in_at w net task))
    → StepSays end task (Staged e b W c net) (Staged e b W c next)
says_so e b W c task net next step_end.Moved did ended = (ended.0, ended.1, ap (Staged e b W c) ((did ended).moves ended.0))
says_so e b W c task net next step_end.Waits did ended = (ended.0, ended.1, ap (Staged e b W c) ((did ended).moves ended.0))
says_so e b W c task net next step_end.Finished did ended = (ended, ap (Staged e b W c) ((did ended).rests ended))

-- what a step made of it, in the entry
in_entry : (t : StagedTasks) (next : Pipeline) (task : ℕ) → IsStagedTasks t → Stepped (work_of t.pipeline) (net_of t.pipeline) (net_of next) task
    → Stepped (asked_of t) (net_of t.pipeline) (net_of next) task
in_entry t next task s did = subst (λ (w : Work Values (List ℤ)). Stepped w (net_of t.pipeline) (net_of next) task) (work_is t s) did

-- the net stands behind a step, of a task that has finished too
net_stepped : (t : StagedTasks) (next : Pipeline) (task : ℕ) → IsStagedTasks t → Stepped (asked_of t) (net_of t.pipeline) (net_of next) task
    → (over_at (asked_of t) (net_of t.pipeline) task ≡ false → StandsIn t (step (asked_of t) (net_of t.pipeline) task)) → StandsIn t (net_of next)
net_stepped t next task s did goes_on = by_finished (over_at (asked_of t) (net_of t.pipeline) task) refl where
  by_finished : (b : Bool) → over_at (asked_of t) (net_of t.pipeline) task ≡ b → StandsIn t (net_of next)
  by_finished true ended = subst (StandsIn t) (sym (did.rests ended)) s.staged.net
  by_finished false going = subst (StandsIn t) (sym (did.moves going)) (goes_on going)

module _ {E : Type 0} (r : Result StepEnd E) (t : StagedTasks) (next : Pipeline) (task : ℕ) (s : IsStagedTasks t)
    (rests : OnOk r (over_at (work_of t.pipeline) (net_of t.pipeline) task ≡ true → net_of next ≡ net_of t.pipeline))
    (moves : OnOk r (over_at (work_of t.pipeline) (net_of t.pipeline) task ≡ false → net_of next ≡ step (work_of t.pipeline) (net_of t.pipeline) task))
    (stays : OnOk r (Stays t.pipeline next)) where
  -- what a step says
  pub step_says : IfOk r (λ (end : StepEnd). IsEnd end (over_at (work_of t.pipeline) (net_of t.pipeline) task) (waits_in_at (work_of t.pipeline) (net_of t.pipeline) task))
      → IfOk r (λ (end : StepEnd). StepSays end task (staged_view t) (staged_view (with_pipeline t next)))
  step_says = by_end r rests moves stays where
    by_end : (q : Result StepEnd E) → OnOk q (over_at (work_of t.pipeline) (net_of t.pipeline) task ≡ true → net_of next ≡ net_of t.pipeline)
        → OnOk q (over_at (work_of t.pipeline) (net_of t.pipeline) task ≡ false → net_of next ≡ step (work_of t.pipeline) (net_of t.pipeline) task)
        → OnOk q (Stays t.pipeline next)
        → IfOk q (λ (end : StepEnd). IsEnd end (over_at (work_of t.pipeline) (net_of t.pipeline) task) (waits_in_at (work_of t.pipeline) (net_of t.pipeline) task))
        → IfOk q (λ (end : StepEnd). StepSays end task (staged_view t) (staged_view (with_pipeline t next)))
    by_end (Err e) a b c d = d
    by_end (Ok end) rest move same ended =
        let did = in_entry t next task s (record { rests = rest; moves = move }) in
        let is = subst (λ (w : Work Values (List ℤ)). IsEnd end (over_at w (net_of t.pipeline) task) (waits_in_at w (net_of t.pipeline) task)) (work_is t s) ended in
        subst (StepSays end task (staged_view t)) (sym (view_stays t next same))
        (says_so t.entry.now (done_before t) (workers_of t) (capacity_of t) task (net_of t.pipeline) (net_of next) end (λ z. did) is)

  -- what stands before a step stands behind it
  pub still_stepped : (over_at (asked_of t) (net_of t.pipeline) task ≡ false → StandsIn t (step (asked_of t) (net_of t.pipeline) task)) → OnOk r (IsKept next)
      → OnOk r (IsStagedTasks (with_pipeline t next))
  still_stepped goes_on = by_end r rests moves stays where
    by_end : (q : Result StepEnd E) → OnOk q (over_at (work_of t.pipeline) (net_of t.pipeline) task ≡ true → net_of next ≡ net_of t.pipeline)
        → OnOk q (over_at (work_of t.pipeline) (net_of t.pipeline) task ≡ false → net_of next ≡ step (work_of t.pipeline) (net_of t.pipeline) task)
        → OnOk q (Stays t.pipeline next) → OnOk q (IsKept next) → OnOk q (IsStagedTasks (with_pipeline t next))
    by_end (Err e) a b c d = d
    by_end (Ok end) rest move same kept =
        still_stands t next s same kept (net_stepped t next task s (in_entry t next task s (record { rests = rest; moves = move })) goes_on)

-- all tasks have finished, as the machine of an interval and as the tasks' own has it
pub over_in : (t : StagedTasks) → is_over machine (staged_view t) ≡ true → is_over (net_machine (asked_of t)) (net_of t.pipeline) ≡ true
over_in t over =
    let e = t.entry.now in
    let b = done_before t in
    sym (is_over_part (staged_machine e b (workers_of t) (capacity_of t)) machine (Staged e b (workers_of t) (capacity_of t)) (staged_is_part e b (workers_of t) (capacity_of t)) (net_of t.pipeline))
    ∙ over

pub over_is : (t : StagedTasks) → IsStagedTasks t → is_over machine (staged_view t) ≡ true → is_over (net_machine (work_of t.pipeline)) (net_of t.pipeline) ≡ true
over_is t s over = ap (λ (w : Work Values (List ℤ)). is_over (net_machine w) (net_of t.pipeline)) (work_is t s) ∙ over_in t over

-- all moves are few enough to be counted
pub moves_fit : (t : StagedTasks) → IsStagedTasks t → moves_of (net_of t.pipeline) < 2 ^ 64
moves_fit t s =
    let few = moves_few t.entry.now (done_before t) (net_of t.pipeline).limit (workers_of t) (capacity_of t) s.staged.may (net_of t.pipeline) s.staged.net in
    let all = s.staged.few.all in omega (arith, few, all)

-- what the tasks saw
values_of : (m : Memory) (tasks : List TaskView) → map (λ (x : Task Values). x.values.store) (map (task_over m) tasks) ≡ views_of share_of m tasks
values_of m [] = refl
values_of m (x ∷ rest) = ap (λ (vs : List Memory). (task_over m x).values.store ∷ vs) (values_of m rest)

pub seen_by : (n : Pipeline) → map (λ (x : Task Values). x.values.store) (net_of n).tasks ≡ views_of share_of (store_of n) n.tasks.items
seen_by n = values_of n.store n.tasks.items

-- what is settled from what the tasks saw is settled in the entry
pub settled_in : (t : StagedTasks) (m : Memory) → IsStagedTasks t
    → IsSettledFromStages (store_of t.pipeline) t.reductions.now (views_of share_of (store_of t.pipeline) t.pipeline.tasks.items) m
    → IsSettledFromStages (state_after t.entry.now (done_before t)).store (reductions_of t.entry.now.looped)
    (map (λ (x : Task Values). x.values.store) (net_of t.pipeline).tasks) m
settled_in t m s h =
    let views = map (λ (x : Task Values). x.values.store) (net_of t.pipeline).tasks in
    subst (λ (was : Memory). IsSettledFromStages was (reductions_of t.entry.now.looped) views m) (sym (ap (λ (r : Run). r.store) s.store))
    (subst (λ (rs : List (ℕ × Fold)). IsSettledFromStages (store_of t.pipeline) rs views m) s.reductions
    (subst (λ (vs : List Memory). IsSettledFromStages (store_of t.pipeline) t.reductions.now vs m) (sym (seen_by t.pipeline)) h))
