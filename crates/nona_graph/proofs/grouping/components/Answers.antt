use Rattle.std.proofs.Common.{sym, subst}
use Rattle.nona_plans.specs.Walks.{AreBetween}
use Rattle.nona_graph.proofs.Passed.{all_ends}
use Rattle.nona_graph.proofs.grouping.components.Goals as goal

pub rows_of-requires-clause-edges : goal.rows_of-requires-clause-edges
rows_of-requires-clause-edges c = all_ends c.args.graph.now.units c.as_slice.result.now (subst (λ es. AreBetween c.args.graph.now.units es) (sym c.as_slice.ensures) c.requires.edges)
