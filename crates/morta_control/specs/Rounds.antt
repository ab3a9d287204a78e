-- What rounds of probes come to.
use Rattle.std.specs.Prelude.{◌≡◌, ℕ, zero, suc, ◌+◌, ◌/◌, ◌≤◌, Bool, true, false, nat_lt, if◌then◌else◌}
use Rattle.std.specs.Prelude.{List, [], ◌∷◌, All, take, slice_get, Some}
use Rattle.decima.specs.Rates.{Rate, is_below}
use Rattle.morta_task.specs.declared.schemes.Config.{Config}
use Rattle.morta_task.specs.Entries.{EntryView}
use Rattle.morta_control.specs.Decisions.{Probe, Decision, Calibrates, Optimises, Monitors, decide}

-- configurations that were probed one after another, each with its rate
abbrev pub probes_of : List Config → List Rate → List Probe
probes_of [] rates = []
probes_of (c ∷ configs) [] = []
probes_of (c ∷ configs) (rate ∷ rates) = record { config = c; rate = rate } ∷ probes_of configs rates

-- each of these rates has a tick at least
abbrev pub HaveTicks : List Rate → Type 0
HaveTicks rates = All (λ (rate : Rate). 1 ≤ rate.ticks) rates

-- the first of these probes than which none of them has a greater rate: each of those before it has a lesser one
pub record IsGreatest (kept : Probe) (probes : List Probe) : Type 0 where
  pub place : ℕ
  pub there : slice_get probes place ≡ Some kept
  pub greatest : All (λ (probe : Probe). is_below kept.rate probe.rate ≡ false) probes
  pub first : All (λ (probe : Probe). is_below probe.rate kept.rate ≡ true) (take place probes)

-- whether a controller probes
abbrev pub is_probing : Decision → Bool
is_probing (Calibrates best left) = true
is_probing (Optimises half best left) = true
is_probing (Monitors kept) = false

-- how many of the intervals with these rates are probes, before the first that isn't
abbrev pub probes_made : ℕ → EntryView → Decision → List Rate → ℕ
probes_made workers e d [] = 0
probes_made workers e d (rate ∷ rates) = if is_probing d then probes_made workers e (decide workers e d rate) rates + 1 else 0

-- how often a number can be halved, rounded down, until it is 1, but no more than so often
abbrev pub halvings : ℕ → ℕ → ℕ
halvings zero n = 0
halvings (suc most) n = if nat_lt n 2 then 0 else halvings most (n / 2) + 1

-- the logarithm of a number to base 2, rounded down: how often it can be halved until it is 1
abbrev pub floor_log2 : ℕ → ℕ
floor_log2 n = halvings n n
