-- What a controller keeps.
use Rattle.std.specs.Prelude.{ℕ, ◌*◌, ◌≤◌, List, [], ◌∷◌, None, Some}
use Rattle.std.specs.declared.option.Option.{Option}
use Rattle.decima.specs.Rates.{rate_of_reading}
use Rattle.morta_task.specs.declared.limits.TheConstants.{WORKERS}
use Rattle.morta_task.specs.declared.schemes.Config.{Config}
use Rattle.morta_task.specs.Entries.{EntryView}
use Rattle.morta_task.specs.Running.{IsConfig}
use Rattle.morta_control.specs.declared.controller.Controller.TheInside.{Inside}
use Rattle.morta_control.specs.declared.offers.Offer.{Offer}
use Rattle.morta_control.specs.declared.stages.Left.{Left}
use Rattle.morta_control.specs.declared.stages.Left.TheVariants.{One, Two, Three}
use Rattle.morta_control.specs.declared.stages.Probed.{Probed}
use Rattle.morta_control.specs.declared.stages.Stage.{Stage}
use Rattle.morta_control.specs.declared.stages.Stage.TheVariants as stage
use Rattle.morta_control.specs.ControllerView.{ControllerView}
use Rattle.morta_control.specs.Decisions.{Probe, Decision, Calibrates, Optimises, Monitors}

-- which versions an entry offers beside `seq`
abbrev pub offer_of : EntryView → Offer
offer_of e = record { any = e.any; pipe = e.pipe }

-- the configurations that are left, in order
abbrev pub left_of : Left → List Config
left_of (One c) = c ∷ []
left_of (Two c d) = c ∷ d ∷ []
left_of (Three c d e) = c ∷ d ∷ e ∷ []

-- the configurations that are left, where there are any
abbrev pub rest_of : Option Left → List Config
rest_of None = []
rest_of (Some left) = left_of left

-- a probe, as contracts see it
abbrev pub probe_of : Probed → Probe
probe_of p = record { config = p.config; rate = rate_of_reading p.reading }

-- the best probe, where there is one
abbrev pub best_of : Option Probed → Option Probe
best_of None = None
best_of (Some p) = Some (probe_of p)

-- what a stage decides
abbrev pub decision_of : Stage → Decision
decision_of (stage.Calibrates best left) = Calibrates (best_of best) (left_of left)
decision_of (stage.Optimises half best left) = Optimises half (probe_of best) (left_of left)
decision_of (stage.Monitors kept) = Monitors (probe_of kept)

-- a controller, as contracts see it
abbrev pub view_of : Inside → ControllerView
view_of a = record { workers = a.workers; number = a.number; decision = decision_of a.stage }

-- a configuration of no more than so many workers
pub record IsUpTo (workers : ℕ) (c : Config) : Type 0 where
  pub config : IsConfig c
  pub few : c.workers ≤ workers

-- each configuration that is left has no more than so many workers
abbrev pub AreUpTo : ℕ → Left → Type 0
AreUpTo workers (One c) = IsUpTo workers c
AreUpTo workers (Two c d) = IsUpTo workers c × IsUpTo workers d
AreUpTo workers (Three c d e) = IsUpTo workers c × IsUpTo workers d × IsUpTo workers e

-- and so has each of those that are left, where there are any
abbrev pub IsRestUpTo : ℕ → Option Left → Type 0
IsRestUpTo workers None = Unit {0}
IsRestUpTo workers (Some left) = AreUpTo workers left

-- the best probe, where there is one, has no more than so many workers
abbrev pub IsBestUpTo : ℕ → Option Probed → Type 0
IsBestUpTo workers None = Unit {0}
IsBestUpTo workers (Some p) = IsUpTo workers p.config

-- Each configuration of a stage has no more than so many workers. A round of optimising is at no more than half of
-- them, so that where a configuration has too few for fewer, there are enough for more.
abbrev pub IsStage : ℕ → Stage → Type 0
IsStage workers (stage.Calibrates best left) = IsBestUpTo workers best × AreUpTo workers left
IsStage workers (stage.Optimises half best left) = (2 * half ≤ workers) × IsUpTo workers best.config × AreUpTo workers left
IsStage workers (stage.Monitors kept) = IsUpTo workers kept.config

-- a controller has a worker at least, and no more than there may be; and so has each configuration of its stage
pub record IsController (a : Inside) : Type 0 where
  pub some : 1 ≤ a.workers
  pub few : a.workers ≤ WORKERS
  pub stage : IsStage a.workers a.stage
