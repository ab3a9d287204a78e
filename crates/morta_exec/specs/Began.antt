-- What a run begins with, as contracts see it.
use Rattle.std.specs.Prelude.{List}
use Rattle.nona_tree.specs.Run.{Ran, run_all}
use Rattle.morta_task.specs.ImageView.{ImageView}
use Rattle.morta_task.specs.Entries.{EntryView, entries_of}
use Rattle.morta_exec.specs.declared.start.Beginning.{Beginning}
use Rattle.morta_exec.specs.declared.start.Start.{Start}

-- the entries of the run of an image
abbrev pub entries_from : ImageView → Beginning → List EntryView
entries_from image from = entries_of image from.turns from.store

-- the run of an image
abbrev pub run_from : ImageView → Beginning → Ran
run_from image from = run_all image.main from.turns from.store

-- the image that is run, the store and the turn bound, and what runs and asks as it was then
pub record Began (M : Type 0) : Type 0 where
  pub image : ImageView
  pub from : Beginning
  pub first : M

-- what a start tells of that
abbrev pub began : {M K : Type 0} → Start M K → Began M
began s = record {
  image = s.image.now;
  from = record { store = s.store.value; turns = s.turns };
  first = s.morta.value;
}

-- the entries of the run
abbrev pub all_entries : {M : Type 0} → Began M → List EntryView
all_entries b = entries_from b.image b.from

-- the whole run
abbrev pub whole_run : {M : Type 0} → Began M → Ran
whole_run b = run_from b.image b.from
