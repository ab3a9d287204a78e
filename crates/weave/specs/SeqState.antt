-- What the machine of an interval under `seq` keeps: it has what one thread has there.
use Rattle.std.specs.Prelude.{◌≡◌, ◌⊎◌, ℕ, ◌+◌, ◌-◌, ◌*◌, ◌<◌, ◌≤◌, pos, ◌+ℤ◌, List, ◌∷◌, length}
use Rattle.nona_tree.specs.declared.outcomes.Outcome.{Outcome}
use Rattle.nona_tree.specs.declared.outcomes.Outcome.TheVariants as outcome
use Rattle.nona_tree.specs.declared.trees.Stmt.{Stmt}
use Rattle.nona_tree.specs.Memory.{Memory, declare}
use Rattle.nona_tree.specs.Run.{done, run_all}
use Rattle.nona_tree.specs.Scope.{AreScoped}
use Rattle.morta_task.specs.Entries.{EntryView, state_after}
use Rattle.weave.specs.SeqNet.{SeqNet, Stand, Claims, Unit_of, Finished}

-- so many iterations of an entry are done, and in the next one these units are left
pub record InIteration (e : EntryView) (k : ℕ) (units : List Stmt) (m : Memory) : Type 0 where
  pub begun : Memory
  pub ready : state_after e k ≡ done begun
  pub goes_on : run_all e.looped.body e.turns (declare (e.low +ℤ pos k) begun) ≡ run_all units e.turns m
  pub scoped : AreScoped units (length m.scalars) (length m.arrays)

-- The store is the one that one thread has where the task stands: after the iterations so far, or within the last of them;
-- once the task has finished, the end is that of the last iteration too.
abbrev pub StandsAt : Stand → SeqNet → Type 0
StandsAt Claims net = (state_after net.entry (net.before + net.granted) ≡ done net.store) × (net.end ≡ outcome.Done)
StandsAt (Unit_of s rest) net =
    (k : ℕ) × (net.before + net.granted ≡ k + 1) × InIteration net.entry k (s ∷ rest) net.store × (1 ≤ net.granted) × (net.end ≡ outcome.Done)
StandsAt Finished net =
    (state_after net.entry (net.before + net.granted) ≡ record { store = net.store; end = net.end })
    × ((net.end ≡ outcome.Done) ⊎ (1 ≤ net.granted))

-- the most moves of a task that stands so, where so many iterations may still be granted, each of so many units
abbrev pub moves_at : Stand → ℕ → ℕ → ℕ
moves_at Claims more units = more * (units + 1) + 1
moves_at (Unit_of s rest) more units = more * (units + 1) + 1 + (length rest + 1)
moves_at Finished more units = 0

-- the most moves that are left
abbrev pub moves_left : SeqNet → ℕ
moves_left net = moves_at net.place (net.limit - net.granted) (length net.entry.looped.body)

-- Of so many iterations, each a claim and so many units, the last one stopped in a unit behind which some were left.
abbrev pub StopsWithin : ℕ → ℕ → ℕ → Type 0
StopsWithin moves granted units = (left : ℕ) × (left < units) × (moves + left ≡ granted * (units + 1))

-- The moves of a task that has finished, by how its last iteration ended: a claim and each unit for each iteration and the
-- claim that was refused, or up to the unit that stopped it.
abbrev pub HasEndedAfter : Outcome → ℕ → ℕ → ℕ → Type 0
HasEndedAfter outcome.Done moves granted units = moves ≡ granted * (units + 1) + 1
HasEndedAfter (outcome.Trap t) moves granted units = StopsWithin moves granted units
HasEndedAfter (outcome.OutOfTurns at) moves granted units = StopsWithin moves granted units

-- the moves of a task that stands so, where so many iterations were granted, each of so many units
abbrev pub HasMovedAt : Stand → Outcome → ℕ → ℕ → ℕ → Type 0
HasMovedAt Claims end moves granted units = moves ≡ granted * (units + 1)
HasMovedAt (Unit_of s rest) end moves granted units = (length rest < units) × (moves + (length rest + 1) ≡ granted * (units + 1))
HasMovedAt Finished end moves granted units = HasEndedAfter end moves granted units

-- the moves so far: a claim and each unit for each iteration so far
abbrev pub HasMoved : SeqNet → Type 0
HasMoved net = HasMovedAt net.place net.end net.moves net.granted (length net.entry.looped.body)

-- the machine has what one thread has there, and has moved as often as its iterations ask
pub record IsSound (net : SeqNet) : Type 0 where
  pub within : net.granted ≤ net.limit
  pub quiet : (state_after net.entry (net.before + net.granted - 1)).end ≡ outcome.Done
  pub stands : StandsAt net.place net
  pub counted : HasMoved net
