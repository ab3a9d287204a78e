-- The order in which arrays and variables are declared, and what an array adds to the faults.
use Rattle.std.specs.Prelude.{ℕ, ◌+◌, Bool, true, false, not, nat_lt, List, [], ◌∷◌, ◌++◌}
use Rattle.nona_tree.specs.declared.faults.ProgramFault.{ProgramFault}
use Rattle.nona_tree.specs.declared.trees.ArrayDecl.{ArrayDecl}
use Rattle.nona_tree.specs.declared.trees.VarDecl.{VarDecl}
use Rattle.nona_tree.specs.Faults.{new_faults, cells_faults}
use Rattle.nona_tree.specs.Run.{count_of}
use Rattle.nona_tree.specs.Seen.{Seen, array_decl}

-- whether an array is declared next, where these arrays and variables are left
abbrev pub array_is_next : List ArrayDecl → List VarDecl → Bool
array_is_next [] vars = false
array_is_next (a ∷ arrays) [] = true
array_is_next (a ∷ arrays) (v ∷ vars) = not (nat_lt v.name.at a.name.at)

-- the faults of an array's declaration, before which so many cells are declared
abbrev pub array_decl_faults : ArrayDecl → Seen → ℕ → List ProgramFault
array_decl_faults a seen cells = new_faults a.name seen ++ cells_faults (array_decl a) (cells + count_of a.cells)
