-- What a whole run does.
use Rattle.std.specs.Prelude.{◌≡◌, ℕ, ◌+◌, ◌-◌, ◌≤◌, ◌∷◌, ◌++◌, List, [], length, All, None, Some, slice_get}
use Rattle.std.specs.declared.option.Option.{Option}
use Rattle.nona_tree.specs.declared.outcomes.Outcome.{Outcome}
use Rattle.nona_tree.specs.declared.trees.Loop.{Loop}
use Rattle.nona_tree.specs.declared.trees.Stmt.{For}
use Rattle.nona_tree.specs.Memory.{Memory, Extends}
use Rattle.nona_tree.specs.Run.{Ran, done, Reaches}
use Rattle.nona_tree.specs.Numbers.{AreI64, IsI64, IsI64Stmt}
use Rattle.nona_tree.specs.Scope.{IsScoped, IsSteady}
use Rattle.nona_tree.specs.Smallness.{IsSmallLoop}
use Rattle.nona_tree.specs.Entries.{regions_all, count_all, IsEntryOf}
use Rattle.nona_code.specs.Course.{Course}
use Rattle.morta_task.specs.declared.opening.Opening.{Opening}
use Rattle.morta_task.specs.RegionView.{RegionView}
use Rattle.morta_task.specs.ImageView.{ImageView, is_region_of}
use Rattle.morta_task.specs.Entries.{EntryView, entered, numbered_from}
use Rattle.morta_task.specs.LogView.{LogView}
use Rattle.morta_task.specs.Promise.{Promise}
use Rattle.morta_task.specs.Legal.{last_in, EndsAll}
use Rattle.morta_exec.specs.declared.start.Arrival.{Arrival}
use Rattle.morta_exec.specs.Began.{Began, all_entries, whole_run}
use Rattle.morta_exec.specs.Log.{LogStands}
use Rattle.morta_exec.specs.Places.{most, ClosedBy, IsBehind}
use Rattle.morta_exec.specs.Standing.{StandsBetween}
use Rattle.morta_exec.specs.EntryRun.{whole_loop, IsOn}

-- the entries of a run from this number on, at regions that it comes to
abbrev pub to_come : {M : Type 0} → Began M → ℕ → Course → List EntryView
to_come b number rest = numbered_from b.image.regions b.from.turns number rest.entries

-- Between two entries of a run: the last entry in the log is at its end; what a frame has left once the loop at hand is done
-- in this store is the rest of the run; and what is printed in it is printed at a place that the run comes to next.
pub record Between {M : Type 0} (promise : Promise M) (left : Ran → Course → Type 0) (b : Began M) (now : M) (m : Memory) (log : LogView) : Type 0 where
  pub stands : StandsBetween promise b now log
  pub closed : ClosedBy (all_entries b) (last_in log.intervals)
  pub rest : Course
  pub left_is : left (done m) rest
  pub ran : rest.ran ≡ whole_run b
  pub comes : all_entries b ≡ log.entries ++ to_come b (length log.entries + 1) rest
  pub are_regions : All (IsEntryOf (regions_all (is_region_of b.image) b.image.main)) rest.entries
  pub place : Memory
  pub behind : IsBehind (all_entries b) (whole_run b).store log.intervals place
  pub from_here : Extends m.printed place.printed
  pub printed : Extends place.printed (whole_run b).store.printed

-- A run has come to this entry, which is not in the log yet, and a frame has left what comes behind the entry's loop.
pub record AtEntry {M : Type 0} (promise : Promise M) (left : Ran → Course → Type 0) (b : Began M) (now : M) (log : LogView) (e : EntryView) : Type 0 where
  pub stands : StandsBetween promise b now log
  pub closed : ClosedBy (all_entries b) (last_in log.intervals)
  pub few : length log.intervals ≤ most
  pub rest : Course
  pub goes_on : left (whole_loop e) rest
  pub ran : rest.ran ≡ whole_run b
  pub comes : all_entries b ≡ log.entries ++ (e ∷ to_come b (length log.entries + 1 + 1) rest)
  pub are_regions : All (IsEntryOf (regions_all (is_region_of b.image) b.image.main)) rest.entries
  pub number : e.number ≡ length log.entries + 1
  pub on : IsOn b e

-- a run is at its end
pub record IsOver {M : Type 0} (promise : Promise M) (b : Began M) (log : LogView) (store : Memory) (end : Outcome) : Type 0 where
  pub reaches : Reaches (whole_run b) store end
  pub log_stands : LogStands promise (all_entries b) b.first log
  pub whole : EndsAll (all_entries b) (last_in log.intervals)
  pub few : length log.intervals ≤ most

-- behind an entry a run goes on to the next one, or is at its end
abbrev pub GoesOnTo : {M : Type 0} → Promise M → (Ran → Course → Type 0) → Began M → M → LogView → Memory → Option Outcome → Type 0
GoesOnTo promise left b now log store None = Between promise left b now store log
GoesOnTo promise left b now log store (Some end) = IsOver promise b log store end

-- The region of an image with this number may be entered in this store, which has the scalars and the arrays that its loop names.
pub record CanEnter (image : ImageView) (number : ℕ) (m : Memory) : Type 0 where
  pub first : 1 ≤ number
  pub few : number ≤ count_all (is_region_of image) image.main
  pub looped : Loop
  pub there : slice_get (regions_all (is_region_of image) image.main) (number - 1) ≡ Some looped
  pub scoped : IsScoped (For looped) (length m.scalars) (length m.arrays)

-- an entry opens so, in this store: it is to the region of an image with this number
pub record IsOpened (image : ImageView) (opening : Opening) (n : ℕ) (m : Memory) (e : EntryView) : Type 0 where
  pub code : RegionView
  pub there : slice_get image.regions (opening.region - 1) ≡ Some code
  pub looped : slice_get (regions_all (is_region_of image) image.main) (opening.region - 1) ≡ Some code.looped
  pub steady : IsSteady (For code.looped) []
  pub small : IsSmallLoop code.looped
  pub numbers : IsI64Stmt (For code.looped)
  pub store_numbers : AreI64 m
  pub low_number : IsI64 opening.low
  pub high_number : IsI64 opening.high
  pub entry : e ≡ entered opening code.looped code.plan n m

-- an entry is kept for the log, and its first interval begins at its low in its store
pub record BeginsEntry (a : Arrival) : Type 0 where
  pub kept : a.pending.kept ≡ Some a.entry
  pub next : a.pending.handoff.next ≡ a.entry.low
  pub store : a.pending.handoff.store ≡ a.entry.store
