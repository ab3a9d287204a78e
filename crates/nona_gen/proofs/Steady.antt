-- One statement after another keeps each scalar that none of them assigns.
use Rattle.std.proofs.Common.{◌≡◌, ℕ, ◌<◌, [], ◌∷◌, length, refl, ◌∙◌, arith}
use Rattle.std.proofs.lemmas.List.Elements.{Contains-push}
use Rattle.nona_tree.specs.declared.outcomes.Outcome.{Outcome}
use Rattle.nona_tree.specs.declared.outcomes.Outcome.TheVariants as outcome
use Rattle.nona_tree.specs.declared.trees.Stmt.{Row_of-Stmt, end_of-Stmt, more_of-Stmt}
use Rattle.nona_tree.specs.Memory.{Memory, scalar_at}
use Rattle.nona_tree.specs.Run.{Ran, then_from, run, run_row}
use Rattle.nona_tree.specs.Scope.{IsRowSteady}
use Rattle.nona_tree.proofs.Keeps.{NoFewer, scalars_kept, run_kept}
use Rattle.nona_tree.proofs.Steady.{unassigned_stays}

then_keeps : (id : ℕ) (first m : Memory) (e : Outcome) (go : Memory → Ran) → scalar_at m id ≡ scalar_at first id → scalar_at (go m).store id ≡ scalar_at m id
    → scalar_at (then_from m e go).store id ≡ scalar_at first id
then_keeps id first m outcome.Done go h k = k ∙ h
then_keeps id first m (outcome.Trap t) go h k = h
then_keeps id first m (outcome.OutOfTurns at) go h k = h

pub row_steady : {j : _} (row : Row_of-Stmt j) (id n : ℕ) (m : Memory) → IsRowSteady row (id ∷ []) → id < length m.scalars → scalar_at (run_row row n m).store id ≡ scalar_at m id
row_steady end_of-Stmt id n m steady below = refl
row_steady (more_of-Stmt s rest) id n m steady below =
    let more = run_kept NoFewer scalars_kept s n m in
    then_keeps id m (run s n m).store (run s n m).end (run_row rest n)
    (unassigned_stays s (id ∷ []) id (Contains-push [] id) steady.0 n m below)
    (row_steady rest id n (run s n m).store steady.1 (omega (arith, below, more)))
