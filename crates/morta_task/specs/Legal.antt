-- A legal log: what stands in it, one interval after another.
use Rattle.std.specs.Prelude.{◌≡◌, ◌⊎◌, ℕ, ◌+◌, ◌-◌, ◌<◌, ℤ, List, [], ◌∷◌, ◌++◌, length, take, None, Some, slice_get}
use Rattle.std.specs.declared.option.Option.{Option}
use Rattle.morta_task.specs.declared.schemes.Ask.{Ask}
use Rattle.morta_task.specs.declared.intervals.Cut.{Cut}
use Rattle.morta_task.specs.declared.intervals.Cut.TheVariants.{Limit, Paused, Trap, Turns}
use Rattle.morta_task.specs.declared.intervals.Interval.{Interval}
use Rattle.morta_task.specs.Entries.{EntryView, last, before}
use Rattle.morta_task.specs.LogView.{LogView}
use Rattle.morta_task.specs.Running.{IsDone, chosen, limit_of}

-- the last of a list that begins with this one
abbrev pub last_from : {A : Type 0} → A → List A → A
last_from x [] = x
last_from x (y ∷ ys) = last_from y ys

-- the last of a list
abbrev pub last_in : {A : Type 0} → List A → Option A
last_in [] = None
last_in (x ∷ xs) = Some (last_from x xs)

-- each of a list has a property, by those before it
abbrev pub EachFrom : {A : Type 0} → (List A → A → Type 0) → List A → List A → Type 0
EachFrom P front [] = Unit {0}
EachFrom P front (x ∷ xs) = P front x × EachFrom P (front ++ x ∷ []) xs

-- the number of an interval's entry, and 0 where there is none
abbrev pub entry_number : Option Interval → ℕ
entry_number None = 0
entry_number (Some i) = i.entry

-- how many entries have an interval
abbrev pub begun : List Interval → ℕ
begun is = entry_number (last_in is)

-- the log that these intervals of these entries make
abbrev pub log_of : List EntryView → List Interval → LogView
log_of es is = record { entries = take (begun is) es; intervals = is }

-- nothing follows a trap, and nothing follows where turns ran out
abbrev pub GoesOnBehind : Cut → Type 0
GoesOnBehind Limit = Unit {0}
GoesOnBehind Paused = Unit {0}
GoesOnBehind (Trap t) = ⊥
GoesOnBehind (Turns at) = ⊥

-- the entry of an interval is at its end with it
pub record IsClosed (es : List EntryView) (i : Interval) : Type 0 where
  pub entry : EntryView
  pub named : slice_get es (i.entry - 1) ≡ Some entry
  pub whole : i.done.to ≡ last entry
  pub goes_on : GoesOnBehind i.done.cut

-- an interval goes on where the one before it, of the same entry, stopped short of the end
pub record Continues (i : Interval) (e : EntryView) (from : ℤ) : Type 0 where
  pub same : i.entry ≡ e.number
  pub joins : from ≡ i.done.to
  pub short : before e i.done.to < before e (last e)
  pub goes_on : GoesOnBehind i.done.cut

-- an interval begins the entry behind that of the one before it, at its low
pub record Begins (es : List EntryView) (i : Interval) (e : EntryView) (from : ℤ) : Type 0 where
  pub next : e.number ≡ i.entry + 1
  pub low : from ≡ e.low
  pub closed : IsClosed es i

-- an interval of this entry, from this index on, may come next
abbrev pub ComesNext : List EntryView → Option Interval → EntryView → ℤ → Type 0
ComesNext es None e from = (e.number ≡ 1) × (from ≡ e.low)
ComesNext es (Some i) e from = Continues i e from ⊎ Begins es i e from

-- One interval of a legal log, by those before it: it is of an entry of the run, and may come next; what was asked may be
-- asked for that entry after the log so far; that ran, or one thread where the entry doesn't offer it; and the interval did
-- what any runner does up to the limit.
pub record IsLegal (may_ask : EntryView → LogView → Ask → Type 0) (es : List EntryView) (front : List Interval) (i : Interval) : Type 0 where
  pub entry : EntryView
  pub named : slice_get es (i.entry - 1) ≡ Some entry
  pub number : i.entry ≡ entry.number
  pub order : ComesNext es (last_in front) entry i.from
  pub asked : may_ask entry (log_of es front) i.asked
  pub ran : i.ran ≡ chosen entry i.asked.config
  pub done : IsDone entry i.ran i.from (limit_of entry i.from i.asked.until) i.done

-- a legal log, up to its last interval: its entries are the run's, in order, from the first interval of each on
pub record IsLegalLog (may_ask : EntryView → LogView → Ask → Type 0) (es : List EntryView) (log : LogView) : Type 0 where
  pub entries : log.entries ≡ take (begun log.intervals) es
  pub intervals : EachFrom (IsLegal may_ask es) [] log.intervals

-- the last interval is that of the run's last entry, and ends it
abbrev pub EndsAll : List EntryView → Option Interval → Type 0
EndsAll es None = es ≡ []
EndsAll es (Some i) = (i.entry ≡ length es) × (GoesOnBehind i.done.cut → IsClosed es i)

-- the log of a run that ended
pub record IsWholeLog (may_ask : EntryView → LogView → Ask → Type 0) (es : List EntryView) (log : LogView) : Type 0 where
  pub legal : IsLegalLog may_ask es log
  pub ended : EndsAll es (last_in log.intervals)
