-- The entries of a program's run.
use Rattle.std.specs.Prelude.{ℕ, ℤ, List}
use Rattle.nona_tree.specs.declared.trees.Program.{Program}
use Rattle.nona_tree.specs.Run.{start_of}
use Rattle.morta_task.specs.Entries.{EntryView, entries_of}
use Rattle.morta_task.specs.ImageView.{ImageView}

-- the entries of the run of an image of a program over an input
abbrev pub entries_in : ImageView → Program → List ℤ → ℕ → List EntryView
entries_in image tree numbers turns = entries_of image turns (start_of tree numbers)
