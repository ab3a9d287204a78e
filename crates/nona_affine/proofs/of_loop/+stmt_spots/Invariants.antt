use Rattle.std.proofs.Common.{◌≡◌, ◌++◌, take}
use Rattle.nona_forms.specs.References.{references_all}
use Rattle.nona_affine.specs.Spotted.{spots_in}
use Rattle.nona_affine.proofs.of_loop.+stmt_spots.Given as goal

-- the accesses of the statements so far are there
abbrev pub invariant-push_all-loop-s : goal.invariant-push_all-loop-s
invariant-push_all-loop-s l = record {
  spots : l.spots.items ≡ l.initial.spots.items ++ spots_in l.names l.initial.around (references_all (take l.s-index l.stmts));
  around : l.around ≡ l.initial.around;
}
