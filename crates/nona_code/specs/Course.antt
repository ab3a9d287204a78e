-- How a run ends, and the regions that it comes to on the way.
use Rattle.std.specs.Prelude.{ℕ, Bool, List, [], ◌∷◌, ◌++◌}
use Rattle.nona_tree.specs.declared.outcomes.Outcome.{Outcome}
use Rattle.nona_tree.specs.declared.trees.Loop.{Loop}
use Rattle.nona_tree.specs.declared.trees.Stmt.{Stmt}
use Rattle.nona_tree.specs.Memory.{Memory}
use Rattle.nona_tree.specs.Run.{Ran, run_all}
use Rattle.nona_tree.specs.Entries.{Opened, entries_all}

-- the end of a run, and each region that it comes to, in order
pub record Course : Type 0 where
  pub ran : Ran
  pub entries : List Opened

-- a run that has come to its end
abbrev pub ended : Memory → Outcome → Course
ended m end = record { ran = record { store = m; end = end }; entries = [] }

-- one course, and then the one that goes on from its end
abbrev pub joined : Course → (Ran → Course) → Course
joined first later = record { ran = (later first.ran).ran; entries = first.entries ++ (later first.ran).entries }

-- an entry, and then the course that follows
abbrev pub opens : Opened → Course → Course
opens entry rest = record { ran = rest.ran; entries = entry ∷ rest.entries }

-- the course of one statement after another, whose regions are chosen by this test and where the first has this number
abbrev pub course_of : (Loop → Bool) → ℕ → List Stmt → ℕ → Memory → Course
course_of chosen first ss n m = record { ran = run_all ss n m; entries = entries_all chosen first ss n m }
