-- What a run in one thread does, from one region to the next.
use Rattle.std.specs.Prelude.{◌≡◌, ℕ, ◌+◌, ◌-◌, ◌≤◌, length, All, None, Some}
use Rattle.std.specs.declared.option.Option.{Option}
use Rattle.nona_tree.specs.declared.outcomes.Outcome.{Outcome}
use Rattle.nona_tree.specs.Memory.{Memory}
use Rattle.nona_tree.specs.Run.{Ran, done, Reaches}
use Rattle.nona_tree.specs.Entries.{regions_all, IsEntryOf}
use Rattle.nona_main.specs.Course.{Course}
use Rattle.morta_task.specs.ImageView.{is_region_of}
use Rattle.morta_task.specs.Entries.{EntryView, IsEntered}
use Rattle.morta_task.specs.Running.{IsIn}
use Rattle.morta_exec.specs.Began.{Began, whole_run}
use Rattle.morta_exec.specs.EntryRun.{whole_loop}

-- Between two regions: what a frame has left once the loop at hand is done in this store is the rest of the run, which comes to
-- so many regions.
pub record IsThrough {M : Type 0} (left : Ran → Course → Type 0) (b : Began M) (m : Memory) (count : ℕ) : Type 0 where
  pub rest : Course
  pub left_is : left (done m) rest
  pub ran : rest.ran ≡ whole_run b
  pub are_regions : All (IsEntryOf (regions_all (is_region_of b.image) b.image.main)) rest.entries
  pub many : length rest.entries ≡ count

-- A run has come to this entry, and a frame has left what comes behind the entry's loop; with it so many regions come.
pub record IsBefore {M : Type 0} (left : Ran → Course → Type 0) (b : Began M) (e : EntryView) (count : ℕ) : Type 0 where
  pub entered : IsEntered e
  pub region : IsIn e b.image
  pub rest : Course
  pub goes_on : left (whole_loop e) rest
  pub ran : rest.ran ≡ whole_run b
  pub are_regions : All (IsEntryOf (regions_all (is_region_of b.image) b.image.main)) rest.entries
  pub many : length rest.entries + 1 ≡ count

-- the run goes on, and one region less comes; or it is at its end
abbrev pub GoesThrough : {M : Type 0} → (Ran → Course → Type 0) → Began M → ℕ → Memory → Option Outcome → Type 0
GoesThrough left b count store None = (1 ≤ count) × IsThrough left b store (count - 1)
GoesThrough left b count store (Some end) = Reaches (whole_run b) store end
