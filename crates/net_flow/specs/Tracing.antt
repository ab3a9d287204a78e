-- Tasks that note the numbers of their iterations: the head the numbers that it is granted, the others what their packets say.
use Rattle.std.specs.Prelude.{◌≡◌, ℕ, zero, suc, ◌+◌, ◌-◌, ◌<◌, Bool, List, [], ◌∷◌, ◌++◌, length, get_or, Contains}
use Rattle.net_flow.specs.Machines.{Machine}
use Rattle.net_flow.specs.Dealing.{number}
use Rattle.net_flow.specs.Shapes.{Shape, task_of}
use Rattle.net_flow.specs.Flow.{busy}
use Rattle.net_flow.specs.Net.{Work, Task, Net, task_at, net_machine}
use Rattle.net_flow.specs.Begun.{begun_net}
use Rattle.net_flow.specs.Sound.{Meaning, IsNet}
use Rattle.net_flow.specs.Sharing.{SharedMeaning, sharing_shape, claimed_by, IsSharedNet}

-- what a task notes when it begins an iteration
abbrev pub noted : ℕ → ℕ → ℕ → List ℕ → List ℕ
noted zero k p v = v ++ k ∷ []
noted (suc s) k p v = v ++ p ∷ []

-- the work of noting: the packet of an iteration is the number that was noted last
abbrev pub tracing : Shape → Work (List ℕ) ℕ
tracing shape = record {
  shape = shape;
  enter = noted;
  unit = λ s u v. v;
  leave = λ s v. v;
  packet = λ s v. get_or v (length v - 1) 0;
  no_packet = 0;
  no_values = [];
}

-- the numbers of the first d iterations of a task, in order
abbrev pub numbers : Bool → ℕ → ℕ → ℕ → List ℕ
numbers p W w zero = []
numbers p W w (suc d) = numbers p W w d ++ number p W w d ∷ []

-- what notes mean in a pipeline: a task has noted the numbers of the iterations that it has begun, and a packet carries its number
abbrev pub noting : Shape → Meaning (List ℕ) ℕ
noting shape = record {
  between = λ s w d v. v ≡ numbers (shape.parallel s) shape.workers w d;
  within = λ s w d u v. v ≡ numbers (shape.parallel s) shape.workers w (suc d);
  carried = λ s k. k;
}

-- what notes mean where claims are shared: a task has noted the numbers that it claimed
abbrev pub noting_claims : SharedMeaning (List ℕ)
noting_claims = record { between = λ t ks v. v ≡ ks; within = λ t ks k u v. v ≡ ks ++ k ∷ [] }

-- a net of this shape before its first step, whose tasks have noted nothing
abbrev pub traced_net : Shape → ℕ → Net (List ℕ) ℕ
traced_net shape limit = begun_net (tracing shape) limit (λ s w. [])

-- the machine of such nets
abbrev pub traced_machine : Shape → Machine (Net (List ℕ) ℕ)
traced_machine shape = net_machine (tracing shape)

-- a net of a pipeline, whose tasks note their numbers, as it stands at every moment
abbrev pub IsTraced : Shape → ℕ → Net (List ℕ) ℕ → Type 0
IsTraced shape limit net = IsNet (tracing shape) (noting shape) limit net

-- a net of W tasks that share the claims of iterations of so many units, and note their numbers, as it stands at every moment
abbrev pub IsTracedSharing : ℕ → ℕ → ℕ → Net (List ℕ) ℕ → Type 0
IsTracedSharing W units limit net = IsSharedNet (tracing (sharing_shape W units)) noting_claims limit W net

-- what a task of a pipeline has noted: the numbers of the iterations that it has begun, in order
abbrev pub HasNoted : Shape → Net (List ℕ) ℕ → ℕ → ℕ → Type 0
HasNoted shape net s w =
    let x = task_at (tracing shape) net (task_of shape s w) in
    x.values ≡ numbers (shape.parallel s) shape.workers w (x.done + busy x.position)

-- what the task with this number has noted, where W tasks share the claims
abbrev pub notes_of : ℕ → ℕ → Net (List ℕ) ℕ → ℕ → List ℕ
notes_of W units net t = let x : Task (List ℕ) = task_at (tracing (sharing_shape W units)) net t in x.values

-- These are the tasks to which the numbers so far were granted, the last one first: one of the W tasks for each number, and each
-- task has noted just the numbers that were granted to it, in rising order.
pub record AreClaimants (W units : ℕ) (net : Net (List ℕ) ℕ) (claimants : List ℕ) : Type 0 where
  pub all : length claimants ≡ net.granted
  pub real : (k : ℕ) → k < length claimants → get_or claimants k 0 < W
  pub noted : (t : ℕ) → t < W → notes_of W units net t ≡ claimed_by claimants t

-- just one of W tasks that share the claims has claimed this number
abbrev pub IsClaimedOnce : ℕ → ℕ → Net (List ℕ) ℕ → ℕ → Type 0
IsClaimedOnce W units net k =
    (t : ℕ) × (t < W) × Contains (notes_of W units net t) k × ((o : ℕ) → o < W → Contains (notes_of W units net o) k → o ≡ t)
