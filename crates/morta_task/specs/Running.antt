-- What an interval does, whoever runs it.
use Rattle.std.specs.Prelude.{◌≡◌, ℕ, ◌+◌, ◌-◌, ◌<◌, ◌≤◌, IsTrue, ℤ, None, Some, min, nat_lt, slice_get, if◌then◌else◌}
use Rattle.std.specs.declared.option.Option.{Option}
use Rattle.std.specs.Int.{int_gap}
use Rattle.nona_tree.specs.declared.outcomes.Outcome.{Outcome}
use Rattle.nona_tree.specs.declared.outcomes.Outcome.TheVariants as outcome
use Rattle.nona_tree.specs.declared.plans.Plan.{Plan}
use Rattle.nona_tree.specs.declared.trees.Loop.{Loop}
use Rattle.nona_tree.specs.Run.{done}
use Rattle.morta_task.specs.declared.limits.TheConstants.{WORKERS}
use Rattle.morta_task.specs.RegionView.{RegionView}
use Rattle.morta_task.specs.declared.schemes.Scheme.{Scheme}
use Rattle.morta_task.specs.declared.schemes.Scheme.TheVariants.{Seq, Any, Pipe}
use Rattle.morta_task.specs.declared.schemes.Config.{Config}
use Rattle.morta_task.specs.declared.schemes.Ask.{Ask}
use Rattle.morta_task.specs.declared.intervals.Cut.{Cut}
use Rattle.morta_task.specs.declared.intervals.Cut.TheVariants.{Limit, Paused, Trap, Turns}
use Rattle.morta_task.specs.declared.intervals.Ran.{Ran}
use Rattle.morta_task.specs.declared.intervals.Interval.{Interval}
use Rattle.morta_task.specs.declared.intervals.Handoff.{Handoff}
use Rattle.morta_task.specs.ImageView.{ImageView}
use Rattle.morta_task.specs.Entries.{EntryView, IsEntered, offers, last, before, IsWithin, state_after}

-- how many workers a configuration has: one under `seq`, else up to the most that there may be
abbrev pub HasWorkers : Scheme → ℕ → Type 0
HasWorkers Seq workers = workers ≡ 1
HasWorkers Any workers = (1 ≤ workers) × (workers ≤ WORKERS)
HasWorkers Pipe workers = (1 ≤ workers) × (workers ≤ WORKERS)

-- a configuration with as many workers as it may have
abbrev pub IsConfig : Config → Type 0
IsConfig c = HasWorkers c.scheme c.workers

-- one thread
abbrev pub seq_one : Config
seq_one = record { scheme = Seq; workers = 1 }

-- what runs where this is asked: the same, or one thread where the entry doesn't offer the version
abbrev pub chosen : EntryView → Config → Config
chosen e c = if offers e c.scheme then c else seq_one

-- so many iterations, or fewer where that is asked
abbrev pub limited : ℕ → Option ℕ → ℕ
limited count None = count
limited count (Some most) = min count most

-- the limit of an interval that begins at this index
abbrev pub limit_of : EntryView → ℤ → Option ℕ → ℕ
limit_of e from until = limited (int_gap from (last e)) until

-- the region of an entry is in the image, with the loop and the plan that the entry names
pub record IsIn (e : EntryView) (image : ImageView) : Type 0 where
  pub code : RegionView
  pub first : 1 ≤ e.region
  pub there : slice_get image.regions (e.region - 1) ≡ Some code
  pub looped : code.looped ≡ e.looped
  pub plan : code.plan ≡ e.plan

-- a handoff of an entry: all iterations before the next one are done, and its store is the one that one thread has then
pub record IsHandoff (e : EntryView) (handoff : Handoff) : Type 0 where
  pub within : IsWithin e handoff.next
  pub state : state_after e (before e handoff.next) ≡ done handoff.store

-- The conditions of an interval: the entry's region is in the image; the runner serves its loop and plan with the version;
-- the entry offers it; the handoff is one of this entry; and the limit lies within the entry.
pub record MayRun (serves : Loop → Plan → Scheme → Type 0) (image : ImageView) (e : EntryView) (handoff : Handoff) (config : Config)
    (limit : ℕ) : Type 0 where
  pub entered : IsEntered e
  pub region : IsIn e image
  pub served : serves e.looped e.plan config.scheme
  pub offered : IsTrue (offers e config.scheme)
  pub workers : IsConfig config
  pub state : IsHandoff e handoff
  pub room : limit ≤ int_gap handoff.next (last e)

-- What a cut says where a iterations of the entry were done before the interval and b after it: all up to the limit were
-- done, or fewer; or one thread came to an end in the last one.
abbrev pub CutSays : EntryView → Config → ℕ → ℕ → ℕ → Cut → Type 0
CutSays e c a limit b Limit = (b ≡ a + limit) × ((state_after e b).end ≡ outcome.Done)
CutSays e c a limit b Paused = (b < a + limit) × ((state_after e b).end ≡ outcome.Done)
CutSays e c a limit b (Trap t) = (c.scheme ≡ Seq) × (a < b) × ((state_after e b).end ≡ outcome.Trap t)
CutSays e c a limit b (Turns at) = (c.scheme ≡ Seq) × (a < b) × ((state_after e b).end ≡ outcome.OutOfTurns at)

-- why an interval ends, by the end of its last iteration and how many of it were begun: that end, where it isn't done; a pause,
-- where fewer were begun than the limit; or the limit
abbrev pub cut_of : Outcome → ℕ → ℕ → Cut
cut_of outcome.Done begun limit = if nat_lt begun limit then Paused else Limit
cut_of (outcome.Trap t) begun limit = Trap t
cut_of (outcome.OutOfTurns at) begun limit = Turns at

-- What an interval did from an index on: it ended within the limit; each iteration before its last one is done in one
-- thread; its cut says how it ended; and it took a tick at least.
pub record IsDone (e : EntryView) (c : Config) (from : ℤ) (limit : ℕ) (done : Ran) : Type 0 where
  pub within : IsWithin e done.to
  pub begins : before e from ≤ before e done.to
  pub ends : before e done.to ≤ before e from + limit
  pub quiet : (k : ℕ) → k < before e done.to - 1 → (state_after e (k + 1)).end ≡ outcome.Done
  pub cut : CutSays e c (before e from) limit (before e done.to) done.cut
  pub ticks : 1 ≤ done.ticks

-- what an interval hands on: its next iteration is the one behind its last, and its store is the one that one thread has then
pub record HandsOn (e : EntryView) (done : Ran) (handoff : Handoff) : Type 0 where
  pub next : handoff.next ≡ done.to
  pub store : handoff.store ≡ (state_after e (before e done.to)).store

-- the ticks to come, where they are told: the first are those of the interval, and the others move up
abbrev pub MovesOn : Option (ℕ → ℕ) → Option (ℕ → ℕ) → ℕ → Type 0
MovesOn None new ticks = new ≡ None
MovesOn (Some told) new ticks = (ticks ≡ told 0) × (new ≡ Some (λ j. told (j + 1)))

-- the interval of an entry for a request, with what ran and what it did
abbrev pub interval_of : EntryView → Ask → Config → ℤ → Ran → Interval
interval_of e ask config from done = record { entry = e.number; asked = ask; ran = config; from = from; done = done }

-- an interval of an entry for a request ran what is chosen for it
abbrev pub IsFor : EntryView → ℤ → Ask → Interval → Type 0
IsFor e from ask i = i ≡ interval_of e ask (chosen e ask.config) from i.done

-- an interval of this entry lies within it
pub record IsOf (e : EntryView) (i : Interval) : Type 0 where
  pub number : i.entry ≡ e.number
  pub from : IsWithin e i.from
  pub to : IsWithin e i.done.to
  pub begins : before e i.from ≤ before e i.done.to
  pub ticks : 1 ≤ i.done.ticks
