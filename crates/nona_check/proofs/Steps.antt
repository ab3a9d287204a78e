-- What checking an expression or a statement adds up to, from its parts.
use Rattle.nona_tree.proofs.CheckEquations.{faults-Cell, faults-Neg, faults-Not, faults-Binary, ids_at-Cell, ids_at-Neg, ids_at-Not, ids_at-Binary, faults-If, faults-While, faults-For, ids_at-If, ids_at-While, ids_at-For}
use Rattle.nona_check.proofs.FirstLaws.{first_from-append}

-- at an expression
pub ruleset expr_steps = (first_from-append, faults-Cell, faults-Neg, faults-Not, faults-Binary, ids_at-Cell, ids_at-Neg, ids_at-Not, ids_at-Binary)

-- at a statement
pub ruleset stmt_steps = (first_from-append, faults-If, faults-While, faults-For, ids_at-If, ids_at-While, ids_at-For)
