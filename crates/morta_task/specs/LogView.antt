-- A log, as contracts see it.
use Rattle.std.specs.Prelude.{◌≡◌, ◌+◌, ◌==◌, List, [], ◌∷◌, ◌++◌, length, if◌then◌else◌}
use Rattle.morta_task.specs.declared.intervals.Interval.{Interval}
use Rattle.morta_task.specs.Entries.{EntryView}

-- the entries that have an interval, and all intervals, both in order
pub record LogView : Type 0 where
  pub entries : List EntryView
  pub intervals : List Interval

-- nothing was run yet
abbrev pub empty_log : LogView
empty_log = record { entries = []; intervals = [] }

-- a log with one more interval, of this entry, which stands in it from its first interval on
abbrev pub with_interval : LogView → EntryView → Interval → LogView
with_interval log e i = record {
  entries = if length log.entries == e.number then log.entries else log.entries ++ e ∷ [];
  intervals = log.intervals ++ i ∷ [];
}

-- an entry is the one at hand of a log: its last one, or the one that comes next
pub data IsAtHand (log : LogView) (e : EntryView) : Type 0 where
  last_one : (front : List EntryView) → log.entries ≡ front ++ e ∷ [] → e.number ≡ length front + 1 → IsAtHand log e
  next_one : e.number ≡ length log.entries + 1 → IsAtHand log e
