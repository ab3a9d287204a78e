use Rattle.std.proofs.Common.{◌≡◌, ◌≤◌, ◌==◌, ℕ, length}
use Rattle.nona_plans.specs.Walks.{IsUnit}
use Rattle.nona_graph.specs.Sets.{has_at}
use Rattle.nona_graph.proofs.grouping.singles.Given as goal

abbrev pub invariant-loop-unit : goal.invariant-loop-unit
invariant-loop-unit l = (length l.rows.items ≡ l.unit) × ((i j : ℕ) → IsUnit l.unit i → IsUnit 64 j → has_at l.rows.items i j ≡ (i == j))
