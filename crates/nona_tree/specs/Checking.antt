-- What a checked program keeps, and what a loop asks of the scalars of a store.
use Rattle.std.specs.Prelude.{◌≡◌, ℕ, [], length}
use Rattle.nona_tree.specs.declared.trees.Loop.{Loop}
use Rattle.nona_tree.specs.declared.trees.Stmt.{Stmt, For}
use Rattle.nona_tree.specs.declared.trees.Program.{Program}
use Rattle.nona_tree.specs.Memory.{Memory}
use Rattle.nona_tree.specs.Scope.{IsScoped, IsSteady}
use Rattle.nona_tree.specs.Faults.{faults_of}
use Rattle.nona_tree.specs.Ids.{ids_of}
use Rattle.nona_tree.specs.Smallness.{IsSmall}
use Rattle.nona_tree.specs.Numbers.{IsI64Program}
use Rattle.nona_tree.specs.Places.{HasOwnPlaces}

-- a small program of numbers of 64 bits without a fault, each name of which has its id and each loop a place of its own
abbrev pub IsChecked : Program → Type 0
IsChecked p = IsSmall p × (faults_of p ≡ []) × (ids_of p ≡ p) × IsI64Program p × HasOwnPlaces p

-- a store has the scalars of a statement: those that it names from outside are there, each one that it declares has the
-- number of the scalars that are visible there as its id, and it assigns no index of a loop in it
abbrev pub HasScalarsOf : Memory → Stmt → Type 0
HasScalarsOf m s = ((arrays : ℕ) × IsScoped s (length m.scalars) arrays) × IsSteady s []

-- a store has the scalars of a loop
abbrev pub HasScalars : Memory → Loop → Type 0
HasScalars m l = HasScalarsOf m (For l)
