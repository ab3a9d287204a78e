use Rattle.std.proofs.Common.{◌≡◌, take}
use Rattle.std.specs.Prelude.{map}
use Rattle.nona_tree.specs.declared.trees.VarDecl.{VarDecl}
use Rattle.nona_store.proofs.store.declared_values.Given as goal

-- the values of the variables so far
abbrev pub invariant-loop-declared : goal.invariant-loop-declared
invariant-loop-declared l = l.scalars.items ≡ map (λ (d : VarDecl). d.value) (take l.declared-index l.vars)
