-- What a task's next step needs, so that it can't fail.
use Rattle.std.specs.Prelude.{◌≡◌, ℕ, List, [], ◌∷◌, drop, length}
use Rattle.nona_tree.specs.declared.outcomes.Outcome.TheVariants as outcome
use Rattle.nona_tree.specs.declared.trees.Stmt.{Stmt}
use Rattle.nona_tree.specs.Memory.{Memory}
use Rattle.nona_tree.specs.Numbers.{AreI64}
use Rattle.nona_tree.specs.Run.{run}
use Rattle.nona_tree.specs.Scope.{IsScoped}
use Rattle.net_flow.specs.Flow.{Position, Claims, Unit_at, Sends, Receives, SendsEnd, Finished}
use Rattle.net_flow.specs.Net.{Task}
use Rattle.net_share.specs.Works.{Doing}

-- A statement may run on a store: this has numbers of 64 bits alone, and all that the statement names; and the run is done.
pub record MayRun (s : Stmt) (n : ℕ) (m : Memory) : Type 0 where
  pub fits : AreI64 m
  pub scoped : IsScoped s (length m.scalars) (length m.arrays)
  pub ends : (run s n m).end ≡ outcome.Done

-- the first of these statements may run
abbrev pub MayRunFirst : List Stmt → ℕ → Memory → Type 0
MayRunFirst [] n m = Unit {0}
MayRunFirst (s ∷ rest) n m = MayRun s n m

-- the next step of a task that has this position and sees this store can't fail: where it is before a claim, it has the scalars
-- around the loop alone; and where it is before a unit, this one may run
abbrev pub MayStepAt : Doing → Position → Memory → Type 0
MayStepAt does Claims m = length m.scalars ≡ does.depth
MayStepAt does (Unit_at u) m = MayRunFirst (drop u does.body) does.turns m
MayStepAt does Sends m = Unit {0}
MayStepAt does (Receives e) m = Unit {0}
MayStepAt does (SendsEnd l) m = Unit {0}
MayStepAt does Finished m = Unit {0}

-- a task with this position is before a unit
abbrev pub IsAtUnit : Position → Type 0
IsAtUnit Claims = ⊥
IsAtUnit (Unit_at u) = Unit {0}
IsAtUnit Sends = ⊥
IsAtUnit (Receives e) = ⊥
IsAtUnit (SendsEnd l) = ⊥
IsAtUnit Finished = ⊥

-- the next step of a task can't fail
abbrev pub MayStep : Doing → Task Memory → Type 0
MayStep does x = MayStepAt does x.position x.values
