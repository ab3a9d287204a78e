-- What stands of a net of one stage at every moment, whose tasks share the claims; one task alone is the net with one worker.
use Rattle.std.specs.Prelude.{◌≡◌, ◌⊎◌, ℕ, ◌+◌, ◌*◌, ◌<◌, ◌≤◌, true, ◌==◌, if◌then◌else◌, List, [], ◌∷◌, ◌++◌, length, get_or, sum_by}
use Rattle.net_flow.specs.Shapes.{Shape}
use Rattle.net_flow.specs.Flow.{Position, Claims, Unit_at, Sends, Receives, SendsEnd, Finished, busy}
use Rattle.net_flow.specs.Net.{Work, Task, Net, task_at}

-- the shape of a net whose W tasks share the claims of iterations of so many units
abbrev pub sharing_shape : ℕ → ℕ → Shape
sharing_shape W units = record { stages = 1; workers = W; capacity = 1; parallel = λ s. true; units = λ s. units }

-- the numbers that were granted to a task, in rising order, where these are the tasks to which they were granted, the last one first
abbrev pub claimed_by : List ℕ → ℕ → List ℕ
claimed_by [] t = []
claimed_by (o ∷ rest) t = if o == t then claimed_by rest t ++ length rest ∷ [] else claimed_by rest t

-- What the values of a task mean: between two iterations, by the numbers that it claimed; and within the iteration of a further
-- number, by the units that are done.
pub record SharedMeaning (V : Type 0) : Type 1 where
  pub between : ℕ → List ℕ → V → Type 0
  pub within : ℕ → List ℕ → ℕ → ℕ → V → Type 0

-- The work keeps the meaning: each law says what one step of one task does to its own values, in an iteration whose number is
-- below the bound.
pub record LawfulSharing {V P : Type 0} (work : Work V P) (m : SharedMeaning V) (bound : ℕ) : Type 0 where
  pub enter : (t : ℕ) (claimants : List ℕ) (v : V) → length claimants < bound → m.between t (claimed_by claimants t) v
      → m.within t (claimed_by claimants t) (length claimants) 0 (work.enter 0 (length claimants) work.no_packet v)
  pub unit : (t : ℕ) (claimants : List ℕ) (u : ℕ) (v : V) → length claimants < bound → u < work.shape.units 0
      → m.within t (claimed_by claimants t) (length claimants) u v
      → m.within t (claimed_by claimants t) (length claimants) (u + 1) (work.unit 0 u v)
  pub leave : (t : ℕ) (claimants : List ℕ) (v : V) → length claimants < bound
      → m.within t (claimed_by claimants t) (length claimants) (work.shape.units 0) v
      → m.between t (claimed_by claimants t ++ length claimants ∷ []) (work.leave 0 v)

-- What stands of a task within an iteration: its number is the one behind the claims before it, the task claimed it last, and its
-- values are those with the units before this one done.
pub record InIteration {V P : Type 0} (work : Work V P) (m : SharedMeaning V) (limit t : ℕ) (claimants : List ℕ) (u : ℕ) (x : Task V) : Type 0 where
  pub before : List ℕ
  pub below : length before < limit
  pub number : x.iteration ≡ length before
  pub took : claimed_by claimants t ≡ claimed_by before t ++ length before ∷ []
  pub values : m.within t (claimed_by before t) (length before) u x.values
  pub inner : u < work.shape.units 0

-- the values of a task with this position
abbrev pub HoldsShared : {V P : Type 0} → Work V P → SharedMeaning V → ℕ → ℕ → List ℕ → Position → Task V → Type 0
HoldsShared work m limit t claimants Claims x = m.between t (claimed_by claimants t) x.values
HoldsShared work m limit t claimants (Unit_at u) x = InIteration work m limit t claimants u x
HoldsShared work m limit t claimants Sends x = ⊥
HoldsShared work m limit t claimants (Receives e) x = ⊥
HoldsShared work m limit t claimants (SendsEnd i) x = ⊥
HoldsShared work m limit t claimants Finished x = m.between t (claimed_by claimants t) x.values

-- the moves of a task with this position beside those of the iterations that it has done
abbrev pub sharing_beside : Position → ℕ
sharing_beside Claims = 0
sharing_beside (Unit_at u) = 1 + u
sharing_beside Sends = 0
sharing_beside (Receives e) = 0
sharing_beside (SendsEnd i) = 0
sharing_beside Finished = 1

-- What stands of a task: it is of the one stage, holds values with their meaning, and has moved as often as its progress says; and
-- where it has finished, its claim was refused.
pub record IsSharing {V P : Type 0} (work : Work V P) (m : SharedMeaning V) (limit : ℕ) (claimants : List ℕ) (refused : Type 0) (t : ℕ) (x : Task V) : Type 0 where
  pub stage : x.stage ≡ 0
  pub held : HoldsShared work m limit t claimants x.position x
  pub moves : x.moves ≡ x.done * (1 + work.shape.units 0) + sharing_beside x.position
  pub shut : x.position ≡ Finished → refused

-- What stands of a net, where these tasks were granted the numbers so far: there is one of them for each number, and it is a task
-- of the net; no more was granted than the limit; each task stands; and together they have begun what was granted.
pub record IsShared {V P : Type 0} (work : Work V P) (m : SharedMeaning V) (net : Net V P) (claimants : List ℕ) : Type 0 where
  pub all : length claimants ≡ net.granted
  pub few : net.granted ≤ net.limit
  pub real : (k : ℕ) → k < length claimants → get_or claimants k 0 < length net.tasks
  pub each : (t : ℕ) → t < length net.tasks
      → IsSharing work m net.limit claimants ((net.paused ≡ true) ⊎ (net.granted ≡ net.limit)) t (task_at work net t)
  pub begun : sum_by (λ x. x.done + busy x.position) net.tasks ≡ net.granted

-- A net of an interval with this limit and so many tasks, of which this stands.
pub record IsSharedNet {V P : Type 0} (work : Work V P) (m : SharedMeaning V) (limit many : ℕ) (net : Net V P) : Type 0 where
  pub claimants : List ℕ
  pub sound : IsShared work m net claimants
  pub limit_is : net.limit ≡ limit
  pub tasks : length net.tasks ≡ many
