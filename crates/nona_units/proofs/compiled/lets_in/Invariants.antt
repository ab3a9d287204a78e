use Rattle.std.proofs.Common.{◌≡◌, ◌++◌, drop, map}
use Rattle.nona_tree.specs.Scope.{is_let}
use Rattle.nona_units.proofs.compiled.lets_in.Given as goal

-- those so far, and those of the statements that are left, are those of all
abbrev pub invariant-loop-s : goal.invariant-loop-s
invariant-loop-s l = l.lets.items ++ map is_let (drop l.s-index l.body) ≡ map is_let l.body
