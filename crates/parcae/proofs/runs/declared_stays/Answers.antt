use Rattle.std.proofs.Common.{ap, length, arith, pos, ℕ, ℤ, List}
use Rattle.std.specs.Prelude.{replicate}
use Rattle.std.proofs.lemmas.List.{length-map}
use Rattle.nona_tree.specs.declared.trees.ArrayDecl.{ArrayDecl}
use Rattle.nona_tree.specs.declared.trees.VarDecl.{VarDecl}
use Rattle.nona_tree.specs.Run.{start_of, run_all, count_of}
use Rattle.parcae.proofs.runs.declared_stays.Goals as goal

-- statements drop none of the scalars around them
pub returns-clause-vars : goal.returns-clause-vars
returns-clause-vars c = λ p input n.
    omega (arith, c.scalars_stay.ensures.no_fewer p.body n (start_of p input), length-map p.vars (λ (d : VarDecl). d.value))

-- a run leaves as many arrays as there were
pub returns-clause-arrays : goal.returns-clause-arrays
returns-clause-arrays c = λ p input n.
    omega (arith, ap (λ (l : List ℕ). length l) (c.lengths_stay.ensures.all p.body n (start_of p input)), length-map (run_all p.body n (start_of p input)).store.arrays (λ (l : List ℤ). length l), length-map (start_of p input).arrays (λ (l : List ℤ). length l), length-map p.arrays (λ (d : ArrayDecl). replicate (count_of d.cells) (pos 0)))

-- a small program has few declarations
pub returns-clause-few : goal.returns-clause-few
returns-clause-few c = λ p checked. omega (arith, checked.0.0)
