-- A controller, as contracts see it.
use Rattle.std.specs.Prelude.{ℕ, None, [], ◌∷◌, ◌==◌, if◌then◌else◌}
use Rattle.decima.specs.Rates.{Rate}
use Rattle.morta_task.specs.Entries.{EntryView}
use Rattle.morta_task.specs.Running.{seq_one}
use Rattle.morta_control.specs.declared.controller.Phase.{Phase}
use Rattle.morta_control.specs.declared.controller.Phase.TheVariants.{Calibrate, Optimise, Monitor}
use Rattle.morta_control.specs.Decisions.{Decision, Calibrates, Optimises, Monitors, calibrate, decide}

-- for how many workers it asks at most; the number of the entry that it is at, and 0 before the first; and what it has
-- decided there
pub record ControllerView : Type 0 where
  pub workers : ℕ
  pub number : ℕ
  pub decision : Decision

-- a controller before its first entry
abbrev pub new_controller : ℕ → ControllerView
new_controller workers = record { workers = workers; number = 0; decision = Calibrates None (seq_one ∷ []) }

-- a controller at an entry: where it is at another one, it begins anew
abbrev pub come_to : EntryView → ControllerView → ControllerView
come_to e c =
    if c.number == e.number then c else record { workers = c.workers; number = e.number; decision = calibrate c.workers e }

-- a controller that has decided by the rate of one more interval of an entry
abbrev pub decided : EntryView → ControllerView → Rate → ControllerView
decided e c rate = record c { decision = decide c.workers e c.decision rate }

-- the phase of a decision
abbrev pub phase_of : Decision → Phase
phase_of (Calibrates best left) = Calibrate
phase_of (Optimises half best left) = Optimise
phase_of (Monitors kept) = Monitor
