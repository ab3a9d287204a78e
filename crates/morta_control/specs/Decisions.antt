-- What a controller decides: which configurations it probes, which one it keeps, and when it begins again.
use Rattle.std.specs.Prelude.{ℕ, ◌+◌, ◌-◌, ◌/◌, ◌==◌, ◌||◌, Bool, true, false, List, [], ◌∷◌, ◌++◌, nat_lt}
use Rattle.std.specs.Prelude.{filter, fold, map, None, Some, if◌then◌else◌}
use Rattle.std.specs.declared.option.Option.{Option}
use Rattle.std.specs.Int.{int_gap}
use Rattle.decima.specs.Rates.{Rate, is_below, has_fallen}
use Rattle.morta_task.specs.declared.schemes.Scheme.{Scheme}
use Rattle.morta_task.specs.declared.schemes.Scheme.TheVariants.{Seq, Any, Pipe}
use Rattle.morta_task.specs.declared.schemes.Config.{Config}
use Rattle.morta_task.specs.declared.schemes.Ask.{Ask}
use Rattle.morta_task.specs.declared.intervals.Interval.{Interval}
use Rattle.morta_task.specs.Entries.{EntryView, offers}
use Rattle.morta_task.specs.LogView.{LogView}
use Rattle.morta_task.specs.Running.{seq_one}
use Rattle.morta_control.specs.declared.limits.TheConstants.{PROBED, WATCHED}

-- a configuration, and the rate of the interval in which it was probed
pub record Probe : Type 0 where
  pub config : Config
  pub rate : Rate

-- What a controller does next. It calibrates: it probes one version after another, with the best probe so far and the
-- configurations that are left, of which the first is next; or it optimises: it probes so many workers fewer and more;
-- or it monitors the configuration that it keeps.
pub data Decision : Type 0 where
  Calibrates : (best : Option Probe) → (left : List Config) → Decision
  Optimises : (half : ℕ) → (best : Probe) → (left : List Config) → Decision
  Monitors : (kept : Probe) → Decision

-- what is probed first: each version that the entry offers, one thread and then all workers
abbrev pub versions : ℕ → EntryView → List Config
versions workers e =
    filter (λ c. offers e c.scheme) (seq_one ∷ record { scheme = Any; workers = workers } ∷ record { scheme = Pipe; workers = workers } ∷ [])

-- at an entry, a controller with so many workers calibrates
abbrev pub calibrate : ℕ → EntryView → Decision
calibrate workers e = Calibrates None (versions workers e)

-- a configuration with so many workers fewer, where one is left at least
abbrev pub fewer : ℕ → Config → List Config
fewer half c = if nat_lt half c.workers then record c { workers = c.workers - half } ∷ [] else []

-- a configuration with so many workers more, where there are as many
abbrev pub more : ℕ → ℕ → Config → List Config
more workers half c = if nat_lt workers (c.workers + half) then [] else record c { workers = c.workers + half } ∷ []

-- whether a version is that of one thread
abbrev pub is_sequential : Scheme → Bool
is_sequential Seq = true
is_sequential Any = false
is_sequential Pipe = false

-- Behind a round: so many workers fewer and then more than the best probe has are probed; where that is none, or the
-- best is one thread, it is kept.
abbrev pub optimise : ℕ → ℕ → Probe → Decision
optimise workers half best =
    if (half == 0) || is_sequential best.config.scheme then Monitors best
    else Optimises half best (fewer half best.config ++ more workers half best.config)

-- the better of two probes: the one with the greater rate, and of equals the first
abbrev pub better : Probe → Probe → Probe
better best probe = if is_below best.rate probe.rate then probe else best

-- the best of the probes so far, where there is one, and another
abbrev pub best_with : Option Probe → Probe → Probe
best_with None probe = probe
best_with (Some best) probe = better best probe

-- What is decided once the interval that was asked for had this rate. Behind the last probe of a round the next round
-- is at half the distance, rounded down. Where the kept configuration has fallen below seven eighths of its probe's
-- rate, all begins again.
abbrev pub decide : ℕ → EntryView → Decision → Rate → Decision
decide workers e (Calibrates best []) rate = Calibrates best []
decide workers e (Calibrates best (c ∷ [])) rate = optimise workers (workers / 2) (best_with best (record { config = c; rate = rate }))
decide workers e (Calibrates best (c ∷ d ∷ left)) rate = Calibrates (Some (best_with best (record { config = c; rate = rate }))) (d ∷ left)
decide workers e (Optimises half best []) rate = Optimises half best []
decide workers e (Optimises half best (c ∷ [])) rate = optimise workers (half / 2) (better best (record { config = c; rate = rate }))
decide workers e (Optimises half best (c ∷ d ∷ left)) rate = Optimises half (better best (record { config = c; rate = rate })) (d ∷ left)
decide workers e (Monitors kept) rate = if has_fallen rate kept.rate then calibrate workers e else Monitors kept

-- the rate of an interval: the iterations that it did, by its ticks
abbrev pub rate_of : Interval → Rate
rate_of i = record { iterations = int_gap i.from i.done.to; ticks = i.done.ticks }

-- the rates of an entry's intervals, by the entry's number
abbrev pub rates_of : ℕ → List Interval → List Rate
rates_of number intervals = map rate_of (filter (λ i. i.entry == number) intervals)

-- what is asked: the first configuration that is left to probe, or the kept one
abbrev pub next_of : Decision → Ask
next_of (Calibrates best []) = record { config = seq_one; until = Some PROBED }
next_of (Calibrates best (c ∷ left)) = record { config = c; until = Some PROBED }
next_of (Optimises half best []) = record { config = best.config; until = Some PROBED }
next_of (Optimises half best (c ∷ left)) = record { config = c; until = Some PROBED }
next_of (Monitors kept) = record { config = kept.config; until = Some WATCHED }

-- what a controller with so many workers has decided for an entry behind a log: by the rates of the entry's intervals
abbrev pub decision_at : ℕ → EntryView → LogView → Decision
decision_at workers e log = fold (decide workers e) (calibrate workers e) (rates_of e.number log.intervals)

-- what a controller with so many workers asks for an entry behind a log
abbrev pub control_asks : ℕ → EntryView → LogView → Ask
control_asks workers e log = next_of (decision_at workers e log)
