-- Iterations of an entry of a loop that go through the stages of a plan.
use Rattle.std.specs.Prelude.{◌≡◌, ◌≢◌, ℕ, zero, suc, ◌+◌, ◌-◌, ◌%◌, ◌≤◌, Bool, true, false, not, ℤ, pos, ◌+ℤ◌, ◌≤ℤ◌, List, [], length, map, drop, IsTrue}
use Rattle.nona_tree.specs.declared.plans.Plan.{Plan}
use Rattle.nona_tree.specs.declared.trees.Stmt.{For}
use Rattle.nona_tree.specs.Entries.{Entry}
use Rattle.nona_tree.specs.Memory.{Memory, declare}
use Rattle.nona_tree.specs.Numbers.{AreI64}
use Rattle.nona_tree.specs.Run.{done}
use Rattle.nona_tree.specs.Scope.{IsSteady, AreScoped}
use Rattle.nona_forms.specs.Affine.{among}
use Rattle.nona_forms.specs.Calm.{is_calm}
use Rattle.nona_forms.specs.Guards.{guard_of}
use Rattle.nona_forms.specs.Separate.{IsLoopEntry}
use Rattle.nona_plans.specs.Plans.{IsLawfulPlan}
use Rattle.nona_fission.specs.Sharing.{Sharing, index_of}
use Rattle.nona_fission.specs.Fission.{Fission, portion, own_over, one_thread_local}
use Rattle.net_flow.specs.Begun.{begun_net}
use Rattle.net_flow.specs.Flow.{Position, Claims, Unit_at, Sends, Receives, SendsEnd, Finished}
use Rattle.net_flow.specs.Net.{Work, Task, Net}
use Rattle.net_flow.specs.Shapes.{number_of}
use Rattle.net_flow.specs.Sound.{Meaning, IsNet}
use Rattle.net_flow.specs.Tracing.{numbers}
use Rattle.net_share.specs.Entries.{begun_in}
use Rattle.net_share.specs.May.{MayRunFirst}
use Rattle.net_pipe.specs.Works.{Staging, Values, stage_at, unit_number, received_in, sent_from, value_for, shape_of, stages_work}

-- So many iterations of an entry at most may go through the stages of a plan, from the one with this number on, counted from the low
-- bound: they are iterations of a small calm loop that was entered, whose guard holds; the plan is lawful and has stages; and there
-- is a worker and room for a packet at least.
pub record MayPipe (e : Entry) (p : Plan) (workers capacity first limit : ℕ) : Type 0 where
  pub entered : IsLoopEntry e.looped e.store e.low e.last
  pub steady : IsSteady (For e.looped) []
  pub calm : IsTrue (is_calm e.looped)
  pub guarded : IsTrue (guard_of e.looped e.store e.low e.last e.turns)
  pub lawful : IsLawfulPlan e.looped p
  pub staged : p.pipe ≢ []
  pub some_worker : 1 ≤ workers
  pub some_room : 1 ≤ capacity
  pub within : (e.low +ℤ pos (first + limit)) ≤ℤ e.last

-- what the stages do
abbrev pub staging_in : Entry → Plan → ℕ → ℕ → ℕ → Staging
staging_in e p workers capacity first = record {
  body = e.looped.body;
  from = e.low +ℤ pos first;
  turns = e.turns;
  depth = length e.store.scalars;
  workers = workers;
  capacity = capacity;
  pipe = p.pipe;
  crossing = p.crossing;
}

-- how many tasks share the iterations in a stage, and which of them owns an iteration
abbrev pub tasks_of : Bool → ℕ → ℕ
tasks_of true workers = workers
tasks_of false workers = 1

abbrev pub owner_of : Bool → ℕ → ℕ → ℕ
owner_of true workers k = k % workers
owner_of false workers k = 0

-- the first so many of these iterations, as the tasks of a stage share them
abbrev pub sharing_at : Entry → Staging → ℕ → ℕ → ℕ → Sharing
sharing_at e g first count s =
    let parallel = not (stage_at g s).sequential in
    record { entry = e; first = first; count = count; tasks = tasks_of parallel g.workers; owner = owner_of parallel g.workers }

-- the values that the locals which cross behind a stage have in one thread, in an iteration
abbrev pub carried_from : Entry → Staging → ℕ → ℕ → ℕ → List ℤ
carried_from e g first s k = map (one_thread_local (sharing_at e g first 0 s) k) (sent_from g s)

-- and those with which an iteration begins in a stage
abbrev pub carried_into : Entry → Staging → ℕ → ℕ → ℕ → List ℤ
carried_into e g first zero k = []
carried_into e g first (suc s) k = carried_from e g first s k

-- what the tasks of a stage run of these iterations
abbrev pub part_at : Entry → Staging → ℕ → ℕ → ℕ → Fission
part_at e g first count s = record {
  sharing = sharing_at e g first count s;
  own = λ unit. among unit (stage_at g s).units;
  folded = [];
  locals = λ k position. value_for (received_in g s) (carried_into e g first s k) position;
}

-- What a task of a stage has within its iteration k, counted from the first one, with u own units done, behind iterations with these
-- numbers: the packet of the iteration; and what the first units make of the store behind those iterations, from where the
-- others run on to the same end. No more scalars stand in it than those around the loop, the index, and one for each unit so far.
pub record IsWithinStage (e : Entry) (g : Staging) (first s : ℕ) (before : List ℕ) (k u : ℕ) (v : Values) : Type 0 where
  pub begun : Memory
  pub ready : own_over (part_at e g first 0 s) before (begun_in e first) ≡ done begun
  pub held : v.held ≡ carried_into e g first s k
  pub goes_on : portion (λ unit. among unit (stage_at g s).units) (value_for (received_in g s) (carried_into e g first s k)) 1 g.body g.turns
      (declare (index_of e first k) begun)
      ≡ portion (λ unit. among unit (stage_at g s).units) (value_for (received_in g s) (carried_into e g first s k)) (unit_number g s u)
      (drop (unit_number g s u - 1) g.body) g.turns v.store
  pub fits : AreI64 v.store
  pub scoped : AreScoped (drop (unit_number g s u - 1) g.body) (length v.store.scalars) (length v.store.arrays)
  pub many : length v.store.scalars ≤ g.depth + unit_number g s u

-- What the tasks' values mean: the store of each is what its own units of the iterations that it has done make of the store at its
-- beginning, one iteration after another; and a packet has the values of one thread.
abbrev pub stages_meaning : Entry → Staging → ℕ → Meaning Values (List ℤ)
stages_meaning e g first = record {
  between = λ s w d v. own_over (part_at e g first 0 s) (numbers (not (stage_at g s).sequential) g.workers w d) (begun_in e first) ≡ done v.store;
  within = λ s w d u v. IsWithinStage e g first s (numbers (not (stage_at g s).sequential) g.workers w d) (number_of (shape_of g) s w d) u v;
  carried = carried_from e g first;
}

-- what the tasks of the stages compute
abbrev pub pipe_work : Entry → Plan → ℕ → ℕ → ℕ → Work Values (List ℤ)
pipe_work e p workers capacity first = stages_work (staging_in e p workers capacity first)

-- what stands of the net of an interval of so many iterations at most, which go through the stages
abbrev pub IsPipeNet : Entry → Plan → ℕ → ℕ → ℕ → ℕ → Net Values (List ℤ) → Type 0
IsPipeNet e p workers capacity first limit net =
    let g = staging_in e p workers capacity first in IsNet (stages_work g) (stages_meaning e g first) limit net

-- the net of such an interval before its first step
abbrev pub pipe_net : Entry → Plan → ℕ → ℕ → ℕ → ℕ → Net Values (List ℤ)
pipe_net e p workers capacity first limit =
    begun_net (pipe_work e p workers capacity first) limit (λ s w. record { store = begun_in e first; held = [] })

-- A stage's own unit may run on a store, in which no more scalars stand than those around the loop, the index, and one for each unit
-- before it.
pub record MayDo (g : Staging) (s u : ℕ) (m : Memory) : Type 0 where
  pub runs : MayRunFirst (drop (unit_number g s u - 1) g.body) g.turns m
  pub many : length m.scalars ≤ g.depth + unit_number g s u

-- the next step of a task with this stage and position that sees this store can't fail: where it is before a claim or a receive, it has
-- the scalars around the loop alone; and where it is before a unit, this one may run
abbrev pub MayStepAt : Staging → ℕ → Position → Memory → Type 0
MayStepAt g s Claims m = length m.scalars ≡ g.depth
MayStepAt g s (Unit_at u) m = MayDo g s u m
MayStepAt g s Sends m = Unit {0}
MayStepAt g s (Receives e) m = length m.scalars ≡ g.depth
MayStepAt g s (SendsEnd l) m = Unit {0}
MayStepAt g s Finished m = Unit {0}

-- the next step of a task can't fail
abbrev pub MayStep : Staging → Task Values → Type 0
MayStep g x = MayStepAt g x.stage x.position x.values.store
