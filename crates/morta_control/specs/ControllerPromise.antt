-- What a controller promises.
use Rattle.std.specs.Prelude.{◌≡◌, ℕ, ℤ, ◌≤◌, All, List, [], ◌∷◌, ◌++◌, length, None}
use Rattle.morta_task.specs.declared.schemes.Ask.{Ask}
use Rattle.morta_task.specs.declared.intervals.Interval.{Interval}
use Rattle.morta_task.specs.Entries.{EntryView}
use Rattle.morta_task.specs.LogView.{LogView, IsAtHand}
use Rattle.morta_task.specs.Promise.{Promise}
use Rattle.morta_task.specs.Running.{IsFor}
use Rattle.morta_control.specs.ControllerView.{ControllerView}
use Rattle.morta_control.specs.Decisions.{decision_at, control_asks}

-- what a controller with so many workers may ask for an entry: where it is the one at hand of a log, what it has
-- decided behind it
abbrev pub MayBeAsked : ℕ → EntryView → LogView → Ask → Type 0
MayBeAsked workers e log ask = IsAtHand log e → ask ≡ control_asks workers e log

-- no interval of a log is of an entry behind the one that a controller is at
abbrev pub HasNoneLater : ControllerView → LogView → Type 0
HasNoneLater c log = All (λ (i : Interval). i.entry ≤ c.number) log.intervals

-- a controller is at the last entry of a log, of which it has decided by all intervals
pub record StandsFor (c : ControllerView) (log : LogView) : Type 0 where
  pub number : c.number ≡ length log.entries
  pub none_later : HasNoneLater c log
  pub decided : (front : List EntryView) (e : EntryView) → log.entries ≡ front ++ e ∷ [] → c.decision ≡ decision_at c.workers e log

-- a controller is at the entry at hand of a log, and has decided by all of its intervals
pub record HasCome (c : ControllerView) (log : LogView) (e : EntryView) : Type 0 where
  pub at_hand : IsAtHand log e
  pub number : c.number ≡ e.number
  pub none_later : HasNoneLater c log
  pub decided : c.decision ≡ decision_at c.workers e log

-- it has come to an entry, and asked for what it has decided
pub record HasAsked (c : ControllerView) (log : LogView) (e : EntryView) (ask : Ask) : Type 0 where
  pub come : HasCome c log e
  pub asked : ask ≡ control_asks c.workers e log

-- what it asked for has run
pub record HasRun (c : ControllerView) (log : LogView) (e : EntryView) (i : Interval) : Type 0 where
  pub from : ℤ
  pub ask : Ask
  pub asked : HasAsked c log e ask
  pub ran : IsFor e from ask i

-- It asks alone, for the entry at hand, by the rates of that entry's intervals. It may ask for each version. It runs
-- nothing, tells no ticks, and says no more of a log than what it asks.
abbrev pub controller_promise : Promise ControllerView
controller_promise = record {
  serves = λ c l p s. ⊥;
  ticks_to_come = λ c. None;
  meets = λ c e k from done. Unit {0};
  names = λ c s. Unit {0};
  may_ask = λ c e log ask. MayBeAsked c.workers e log ask;
  stands_for = λ c log. StandsFor c log;
  asked = λ c log e from ask. HasAsked c log e ask;
  ran = λ c log e i. HasRun c log e i;
  led = λ c. ⊥;
  alone = λ c. Unit {0};
  log_relation = λ c log. Unit {0};
}
