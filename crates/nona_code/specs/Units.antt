-- What a unit needs, and how it ends.
use Rattle.std.specs.Prelude.{◌≡◌, ℕ, ◌+◌, Bool, false, length}
use Rattle.std.specs.List.{AllByRecursion}
use Rattle.nona_tree.specs.declared.outcomes.Outcome.TheVariants as outcome
use Rattle.nona_tree.specs.declared.trees.Stmt.{Stmt}
use Rattle.nona_tree.specs.Memory.{Memory}
use Rattle.nona_tree.specs.Numbers.{AreI64}
use Rattle.nona_tree.specs.Run.{Ran, run}
use Rattle.nona_tree.specs.Scope.{IsScoped}
use Rattle.nona_tree.specs.Deeds.{deeds}
use Rattle.nona_code.specs.declared.frame.UnitEnd.{UnitEnd}
use Rattle.nona_code.specs.declared.frame.UnitEnd.TheVariants as unit
use Rattle.nona_store.specs.Banks.{Limits, Allows, HasRoom}
use Rattle.nona_code.specs.SoundView.{SoundView}
use Rattle.nona_code.specs.Stands.{StandsFor, on_cells}

-- the code stands for a statement whose scalars and arrays the store has, and the bank allows what its run does
pub record IsUnit (code : SoundView) (m : Memory) (limits : Limits) (n : ℕ) : Type 0 where
  pub statement : Stmt
  pub stands : StandsFor code.instrs statement
  pub scoped : IsScoped statement (length m.scalars) (length m.arrays)
  pub fits : AreI64 m
  pub allowed : AllByRecursion (Allows limits) (on_cells (deeds statement n m))
  pub room : HasRoom limits.room (length m.scalars + code.scalars)

-- a unit has ended as this run; only a bank that isn't firm runs out of memory
abbrev pub HasEnded : Ran → Memory → UnitEnd → Bool → Type 0
HasEnded r m unit.Done firm = r ≡ record { store = m; end = outcome.Done }
HasEnded r m (unit.Trap kind at) firm = r ≡ record { store = m; end = outcome.Trap (record { kind = kind; at = at }) }
HasEnded r m (unit.OutOfTurns at) firm = r ≡ record { store = m; end = outcome.OutOfTurns at }
HasEnded r m unit.NoMemory firm = firm ≡ false

-- a unit ran as each statement does that the code stands for and whose scalars and arrays the store has
abbrev pub RunsAs : SoundView → ℕ → Memory → Memory → UnitEnd → Limits → Type 0
RunsAs code n old new end limits =
    (s : Stmt) → StandsFor code.instrs s → IsScoped s (length old.scalars) (length old.arrays)
    → HasEnded (run s n old) new end limits.firm
