-- The places that a run comes to behind a log.
use Rattle.std.specs.Prelude.{◌≡◌, ℕ, ◌-◌, ◌≤◌, ℤ, List, length, None, Some, slice_get}
use Rattle.std.specs.declared.option.Option.{Option}
use Rattle.nona_tree.specs.Memory.{Memory}
use Rattle.morta_task.specs.declared.intervals.Interval.{Interval}
use Rattle.morta_task.specs.Entries.{EntryView, before, state_after}
use Rattle.morta_task.specs.Legal.{last_in, begun, IsClosed, ComesNext, EndsAll}
use Rattle.morta_exec.specs.declared.entry_run.TheConstants.{MOST}

-- the most intervals that a log has
abbrev pub most : ℕ
most = MOST

-- the last interval, where there is one, ends its entry, and nothing keeps the run from going on
abbrev pub ClosedBy : List EntryView → Option Interval → Type 0
ClosedBy es None = Unit {0}
ClosedBy es (Some i) = IsClosed es i

-- A place that a run comes to behind some intervals, with its store: behind the last interval; where the entry begins that
-- comes next; or at the end of the run, where none comes.
pub data ComesBehind (es : List EntryView) (end : Memory) (is : List Interval) : Memory → Type 0 where
  after_interval : (i : Interval) (e : EntryView) → last_in is ≡ Some i → slice_get es (i.entry - 1) ≡ Some e
      → ComesBehind es end is (state_after e (before e i.done.to)).store
  before_entry : (e : EntryView) → ClosedBy es (last_in is) → slice_get es (begun is) ≡ Some e → ComesBehind es end is e.store
  at_end : EndsAll es (last_in is) → ComesBehind es end is end

-- a place that a run comes to behind the intervals of a log, of which there are no more than a log has
pub record IsBehind (es : List EntryView) (end : Memory) (is : List Interval) (place : Memory) : Type 0 where
  pub few : length is ≤ most
  pub comes : ComesBehind es end is place

-- The store where the next interval would start: in an entry that was begun, or at the low of the next one.
pub record StartsNext (es : List EntryView) (is : List Interval) (m : Memory) : Type 0 where
  pub entry : EntryView
  pub named : slice_get es (entry.number - 1) ≡ Some entry
  pub from : ℤ
  pub next : ComesNext es (last_in is) entry from
  pub store : m ≡ (state_after entry (before entry from)).store
