use Rattle.std.proofs.Common.{◌≡◌, ◌++◌, take}
use Rattle.nona_forms.specs.References.{references_all}
use Rattle.nona_graph.specs.Touched.{arrays_of}
use Rattle.nona_graph.proofs.touching.+stmt_arrays.Given as goal

-- the arrays of the statements so far are there
abbrev pub invariant-push_all_arrays-loop-s : goal.invariant-push_all_arrays-loop-s
invariant-push_all_arrays-loop-s l = l.arrays.items ≡ l.initial.arrays.items ++ arrays_of (references_all (take l.s-index l.stmts))
