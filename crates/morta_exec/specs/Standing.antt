-- What is true between two intervals of a run.
use Rattle.std.specs.Prelude.{◌≡◌, ℕ, ◌+◌, ◌-◌, ◌≤◌, ℤ, List, [], ◌∷◌, ◌++◌, length, None, Some, slice_get, MatchOption}
use Rattle.std.specs.declared.option.Option.{Option}
use Rattle.morta_task.specs.declared.intervals.Interval.{Interval}
use Rattle.morta_task.specs.declared.intervals.Handoff.{Handoff}
use Rattle.morta_task.specs.Entries.{EntryView, IsEntered}
use Rattle.morta_task.specs.LogView.{LogView}
use Rattle.morta_task.specs.Promise.{Promise, Keeps}
use Rattle.morta_task.specs.Running.{IsIn, IsHandoff, IsDone, HandsOn, limit_of}
use Rattle.morta_task.specs.Legal.{last_in, begun, ComesNext}
use Rattle.morta_exec.specs.declared.start.Pending.{Pending}
use Rattle.morta_exec.specs.Began.{Began, all_entries}
use Rattle.morta_exec.specs.Log.{LogStands}

-- the ticks still to come behind these intervals, where they are told
abbrev pub AreLeft : Option (ℕ → ℕ) → Option (ℕ → ℕ) → List Interval → Type 0
AreLeft None now is = now ≡ None
AreLeft (Some told) now is = now ≡ Some (λ j. told (length is + j))

-- between two intervals, with a log of those before: it is as it must be, and what runs and asks is the one that the run
-- began with, which stands for this log now
pub record StandsBetween {M : Type 0} (promise : Promise M) (b : Began M) (now : M) (log : LogView) : Type 0 where
  pub so_far : LogStands promise (all_entries b) b.first log
  pub keeps : Keeps promise b.first now
  pub stands : promise.stands_for now log
  pub ticks : AreLeft (promise.ticks_to_come b.first) (promise.ticks_to_come now) log.intervals
  pub begun : begun log.intervals ≡ length log.entries
  pub few : length log.entries ≤ length log.intervals

-- an entry of the run
pub record IsOfRun {M : Type 0} (b : Began M) (e : EntryView) : Type 0 where
  pub entered : IsEntered e
  pub region : IsIn e b.image
  pub named : slice_get (all_entries b) (e.number - 1) ≡ Some e
  pub first : 1 ≤ e.number

-- an entry is kept for the log until it has an interval; so many are in the log
abbrev pub KeptFor : Option EntryView → ℕ → EntryView → Type 0
KeptFor kept count e = MatchOption kept (count ≡ e.number) (λ k. (k ≡ e) × (count + 1 ≡ e.number))

-- between two intervals, where the next one is of this entry and begins so
pub record StandsBefore {M : Type 0} (promise : Promise M) (b : Began M) (now : M) (e : EntryView) (log : LogView) (pending : Pending) : Type 0 where
  pub stands : StandsBetween promise b now log
  pub state : IsHandoff e pending.handoff
  pub next : ComesNext (all_entries b) (last_in log.intervals) e pending.handoff.next
  pub listed : KeptFor pending.kept (length log.entries) e

-- an interval of an entry was run from this index on, and logged
pub record HasRunInterval (e : EntryView) (from : ℤ) (old new : LogView) (handoff : Handoff) (i : Interval) : Type 0 where
  pub added : new.intervals ≡ old.intervals ++ i ∷ []
  pub counted : length new.entries ≡ e.number
  pub number : i.entry ≡ e.number
  pub begins : i.from ≡ from
  pub done : IsDone e i.ran i.from (limit_of e i.from i.asked.until) i.done
  pub hands_on : HandsOn e i.done handoff
