use Rattle.std.proofs.Common.{◌≡◌, ◌||◌, ℕ, length, drop}
use Rattle.nona_plans.specs.Walks.{IsUnit, has_edge}
use Rattle.nona_graph.specs.Sets.{has_at}
use Rattle.nona_graph.proofs.grouping.add_edges.Given as goal

abbrev pub invariant-loop-edge : goal.invariant-loop-edge
invariant-loop-edge l = record {
  size : length l.rows ≡ length l.fn.rows;
  edges : (i j : ℕ) → IsUnit (length l.fn.rows) i → IsUnit (length l.fn.rows) j → (has_at l.fn.rows i j || has_edge l.edges i j) ≡ (has_at l.rows i j || has_edge (drop l.edge-index l.edges) i j);
}
