-- What stands of tasks that share iterations, after a pause, after a step, and at the end.
use Rattle.std.proofs.Common.{◌≡◌, ◌<◌, ◌≤◌, ◌+◌, ℕ, ℤ, pos, ◌+ℤ◌, Bool, true, false, List, [], ◌∷◌, length, map, refl, sym, ap, subst, ◌∙◌, arith, FitsSigned, if◌then◌else◌}
use Rattle.std.specs.Int.{w64}
use Rattle.std.specs.Prelude.{OnOk, Result, Ok, Err}
use Rattle.std.proofs.lemmas.Int.{ints}
use Rattle.std.proofs.lemmas.List.{length-map}
use Rattle.nona_tree.specs.Memory.{Memory}
use Rattle.nona_tree.specs.Run.{Ran as Run, done}
use Rattle.nona_num.specs.declared.folds.Fold.{Fold}
use Rattle.nona_plans.specs.Units.{reductions_of}
use Rattle.morta_task.specs.Entries.{EntryView, IsEntered, loop_of, state_after}
use Rattle.net_flow.specs.Flow.{Position, Claims, Unit_at, Sends, Receives, SendsEnd, Finished}
use Rattle.net_flow.specs.Machines.{is_over}
use Rattle.net_flow.specs.Net.{Work, Task, Net, net_machine, task_at, waits_at, waited, moved_at, step, is_finished}
use Rattle.net_flow.specs.Sharing.{SharedMeaning, HoldsShared}
use Rattle.net_share.specs.declared.sharing.Sharing.{Sharing}
use Rattle.net_share.specs.declared.sharing.StepEnd.{StepEnd}
use Rattle.net_share.specs.declared.sharing.StepEnd.TheVariants as step_end
use Rattle.net_share.specs.Entries.{IsEntryNet, MayShare, doing_in, work_in, meaning_in}
use Rattle.net_share.specs.Gathered.{views_of}
use Rattle.net_share.specs.Kept.{IsEnd, IsSharing, MayMove, Stays, net_of, store_of, work_of}
use Rattle.net_share.specs.May.{MayStep}
use Rattle.net_share.specs.Settled.{IsSettledFrom}
use Rattle.net_share.specs.Tasks.{TaskView, task_over, share_of}
use Rattle.net_share.specs.Works.{Doing, doing, sharing_work}
use Rattle.weave.specs.declared.shared_tasks.SharedTasks.{SharedTasks}
use Rattle.weave.specs.NetView.{Shared, StepSays, machine}
use Rattle.weave.specs.Shared.{shared_machine}
use Rattle.weave.specs.SharedTasks.{IsSharedTasks, done_before, workers_of, shared_view}
use Rattle.weave.proofs.Injected.{is_over_part}
use Rattle.weave.proofs.SeqLaws.{depth_after_some}
use Rattle.weave.proofs.Versions.{shared_is_part}

-- the same tasks, with another state of their machine
abbrev pub with_sharing : SharedTasks → Sharing → SharedTasks
with_sharing t next = record t { sharing = next }

-- what they compute is what the entry asks
pub work_is : (t : SharedTasks) → IsSharedTasks t → work_of t.sharing ≡ work_in (loop_of t.entry.now) (done_before t) (workers_of t)
work_is t s = ap (λ (d : Doing). sharing_work d (workers_of t)) s.does

-- the limit is no matter of a step
pub limit_stays : (old next : Sharing) → Stays old next → (net_of next).limit ≡ (net_of old).limit
limit_stays old next stays = λ i. (stays.iterations i).limit

-- what stands before a step or a pause stands behind it, where the net does
pub still_stands : (t : SharedTasks) (next : Sharing) → IsSharedTasks t → Stays t.sharing next → IsSharing next
    → IsEntryNet (loop_of t.entry.now) (done_before t) (net_of t.sharing).limit (workers_of t) (net_of next) → IsSharedTasks (with_sharing t next)
still_stands t next s stays sharing net =
    let e = loop_of t.entry.now in
    let b = done_before t in
    let limit = sym (limit_stays t.sharing next stays) in
    record {
      entered = s.entered;
      may = subst (λ (l : ℕ). MayShare e b l) limit s.may;
      from = s.from;
      fits = λ k few. s.fits k (subst (λ (l : ℕ). k ≤ l) (sym limit) few);
      some = subst (λ (w : ℕ). 1 ≤ w) (sym stays.count) s.some;
      does = (λ i. doing (stays.iterations i) (stays.depth i)) ∙ s.does;
      net = subst (λ (l : ℕ). IsEntryNet e b l (length next.tasks.items) (net_of next)) limit
          (subst (λ (w : ℕ). IsEntryNet e b (net_of t.sharing).limit w (net_of next)) (sym stays.count) net);
      sharing = sharing;
      store = s.store ∙ ap done (sym stays.store);
      reductions = s.reductions;
    }

-- a task that is there
pub task_there : (t : SharedTasks) (task : ℕ) → task < length (net_of t.sharing).tasks → task < workers_of t
task_there t task within = subst (λ (n : ℕ). task < n) (length-map t.sharing.tasks.items (task_over t.sharing.store)) within

-- its next step can't fail
pub may_move : (t : SharedTasks) (task : ℕ) → IsSharedTasks t
    → MayStep (doing_in (loop_of t.entry.now) (done_before t)) (task_at (work_in (loop_of t.entry.now) (done_before t) (workers_of t)) (net_of t.sharing) task)
    → MayMove t.sharing task
may_move t task s may =
    subst (λ (d : Doing). MayStep d (task_at (sharing_work d (workers_of t)) (net_of t.sharing) task)) (sym s.does) may

-- a task with this position never waits
never_waits : {V P : Type 0} (work : Work V P) (m : SharedMeaning V) (net : Net V P) (limit task : ℕ) (claimants : List ℕ) (x : Task V) (p : Position)
    → HoldsShared work m limit task claimants p x → waits_at work net x p ≡ false
never_waits work m net limit task claimants x Claims h = refl
never_waits work m net limit task claimants x (Unit_at u) h = refl
never_waits work m net limit task claimants x Sends h = absurd h
never_waits work m net limit task claimants x (Receives e) h = absurd h
never_waits work m net limit task claimants x (SendsEnd i) h = absurd h
never_waits work m net limit task claimants x Finished h = refl

-- a task that has finished doesn't wait, and its step changes nothing
rests : {V P : Type 0} (work : Work V P) (net : Net V P) (task : ℕ) (x : Task V) (p : Position) → is_finished p ≡ true
    → (if waits_at work net x p then waited net else moved_at work net task x p) ≡ net
rests work net task x Claims h = cc
rests work net task x (Unit_at u) h = cc
rests work net task x Sends h = cc
rests work net task x (Receives e) h = cc
rests work net task x (SendsEnd i) h = cc
rests work net task x Finished h = refl

-- what a step of the machine says of the tasks, by how it ended
pub does_so : (e : EntryView) (b W limit task : ℕ) (net next : Net Memory (Unit {0})) (end : StepEnd)
    → IsEntryNet (loop_of e) b limit W net → task < length net.tasks
    → IsEnd end (is_finished (task_at (work_in (loop_of e) b W) net task).position) → next ≡ step (work_in (loop_of e) b W) net task
    → StepSays end task (Shared e b W net) (Shared e b W next)
does_so e b W limit task net next step_end.Moved stands within ended moved = (
  ended,
  (let x = task_at (work_in (loop_of e) b W) net task in
      never_waits (work_in (loop_of e) b W) (meaning_in (loop_of e) b) net net.limit task stands.claimants x x.position (stands.sound.each task within).held),
  ap (Shared e b W) moved,
)
does_so e b W limit task net next step_end.Waits stands within ended moved = absurd ended
does_so e b W limit task net next step_end.Finished stands within ended moved = (
  ended,
  ap (Shared e b W) (moved ∙ rests (work_in (loop_of e) b W) net task (task_at (work_in (loop_of e) b W) net task) (task_at (work_in (loop_of e) b W) net task).position ended),
)

-- the net stands behind a step, of a task that has finished too
pub steps_so : (e : EntryView) (b W limit task : ℕ) (net next : Net Memory (Unit {0})) (finished : Bool) → IsEntryNet (loop_of e) b limit W net
    → is_finished (task_at (work_in (loop_of e) b W) net task).position ≡ finished → next ≡ step (work_in (loop_of e) b W) net task
    → (is_finished (task_at (work_in (loop_of e) b W) net task).position ≡ false → IsEntryNet (loop_of e) b limit W (step (work_in (loop_of e) b W) net task))
    → IsEntryNet (loop_of e) b limit W next
steps_so e b W limit task net next true stands finished moved goes_on =
    let x = task_at (work_in (loop_of e) b W) net task in
    subst (IsEntryNet (loop_of e) b limit W) (sym (moved ∙ rests (work_in (loop_of e) b W) net task x x.position finished)) stands
steps_so e b W limit task net next false stands going moved goes_on = subst (IsEntryNet (loop_of e) b limit W) (sym moved) (goes_on going)

-- what the tasks saw
values_of : (m : Memory) (tasks : List TaskView) → map (λ (x : Task Memory). x.values) (map (task_over m) tasks) ≡ views_of share_of m tasks
values_of m [] = refl
values_of m (x ∷ rest) = ap (λ (vs : List Memory). (task_over m x).values ∷ vs) (values_of m rest)

pub seen_by : (n : Sharing) → map (λ (x : Task Memory). x.values) (net_of n).tasks ≡ views_of share_of (store_of n) n.tasks.items
seen_by n = values_of n.store n.tasks.items

-- the index behind so many iterations
pub index_behind : (from low : ℤ) (b k : ℕ) → from ≡ low +ℤ pos b → (from +ℤ pos k) ≡ low +ℤ pos (b + k)
index_behind from low b k is = omega (arith, ints, is)

-- all tasks have finished, as the machine of an interval and as the tasks' own has it
pub over_in : (t : SharedTasks) → is_over machine (shared_view t) ≡ true
    → is_over (net_machine (work_in (loop_of t.entry.now) (done_before t) (workers_of t))) (net_of t.sharing) ≡ true
over_in t over =
    let e = t.entry.now in
    let b = done_before t in
    let w = workers_of t in
    sym (is_over_part (shared_machine e b w) machine (Shared e b w) (shared_is_part e b w) (net_of t.sharing)) ∙ over

pub over_is : (t : SharedTasks) → IsSharedTasks t → is_over machine (shared_view t) ≡ true
    → is_over (net_machine (work_of t.sharing)) (net_of t.sharing) ≡ true
over_is t s over =
    ap (λ (w : Work Memory (Unit {0})). is_over (net_machine w) (net_of t.sharing)) (work_is t s) ∙ over_in t over

-- what stands before a step stands behind it
stepped : (t : SharedTasks) (next : Sharing) (task : ℕ) → IsSharedTasks t
    → (let w = work_in (loop_of t.entry.now) (done_before t) (workers_of t) in
    is_finished (task_at w (net_of t.sharing) task).position ≡ false
    → IsEntryNet (loop_of t.entry.now) (done_before t) (net_of t.sharing).limit (workers_of t) (step w (net_of t.sharing) task))
    → net_of next ≡ step (work_of t.sharing) (net_of t.sharing) task → Stays t.sharing next → IsSharing next → IsSharedTasks (with_sharing t next)
stepped t next task s goes_on moved stays sharing =
    let w = work_in (loop_of t.entry.now) (done_before t) (workers_of t) in
    let in_entry : net_of next ≡ step w (net_of t.sharing) task =
    moved ∙ ap (λ (v : Work Memory (Unit {0})). step v (net_of t.sharing) task) (work_is t s)
    in
    still_stands t next s stays sharing
    (steps_so t.entry.now (done_before t) (workers_of t) (net_of t.sharing).limit task (net_of t.sharing) (net_of next)
    (is_finished (task_at w (net_of t.sharing) task).position) s.net refl in_entry goes_on)

pub still_stepped : {X E : Type 0} (r : Result X E) (t : SharedTasks) (next : Sharing) (task : ℕ) → IsSharedTasks t
    → (let w = work_in (loop_of t.entry.now) (done_before t) (workers_of t) in
    is_finished (task_at w (net_of t.sharing) task).position ≡ false
    → IsEntryNet (loop_of t.entry.now) (done_before t) (net_of t.sharing).limit (workers_of t) (step w (net_of t.sharing) task))
    → OnOk r (net_of next ≡ step (work_of t.sharing) (net_of t.sharing) task) → OnOk r (Stays t.sharing next) → OnOk r (IsSharing next)
    → OnOk r (IsSharedTasks (with_sharing t next))
still_stepped (Ok x) t next task s goes_on moved stays sharing = stepped t next task s goes_on moved stays sharing
still_stepped (Err e) t next task s goes_on moved stays sharing = moved

-- the scalars of the reductions are there
pub index_there : (e : EntryView) (b : ℕ) (m : Memory) → IsEntered e → state_after e b ≡ done m → e.looped.index.id ≤ length m.scalars
index_there e b m entered state =
    let id : e.looped.index.id ≡ length e.store.scalars = entered.scoped.0 in
    let depth = depth_after_some e b m state in
    omega (arith, id, depth)

-- what is settled from what the tasks saw is settled in the entry
pub settled_in : (t : SharedTasks) (m : Memory) → IsSharedTasks t
    → IsSettledFrom (store_of t.sharing) t.reductions.now (views_of share_of (store_of t.sharing) t.sharing.tasks.items) m
    → IsSettledFrom (state_after t.entry.now (done_before t)).store (reductions_of t.entry.now.looped)
    (map (λ (x : Task Memory). x.values) (net_of t.sharing).tasks) m
settled_in t m s h =
    let views = map (λ (x : Task Memory). x.values) (net_of t.sharing).tasks in
    subst (λ (was : Memory). IsSettledFrom was (reductions_of t.entry.now.looped) views m) (sym (ap (λ (r : Run). r.store) s.store))
    (subst (λ (rs : List (ℕ × Fold)). IsSettledFrom (store_of t.sharing) rs views m) s.reductions
    (subst (λ (vs : List Memory). IsSettledFrom (store_of t.sharing) t.reductions.now vs m) (sym (seen_by t.sharing)) h))

-- an index has 64 bits where it and none more has
pub first_fits : (z : ℤ) → FitsSigned w64 (z +ℤ pos 0) → FitsSigned w64 z
first_fits z h = subst (FitsSigned w64) (no_more z) h where
  no_more : (y : ℤ) → (y +ℤ pos 0) ≡ y
  no_more y = omega (arith, ints)
