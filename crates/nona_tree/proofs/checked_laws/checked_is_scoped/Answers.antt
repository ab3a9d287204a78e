use Rattle.nona_tree.proofs.Unfaulted.{checked_scoped, begun_scoped, checked_steady}
use Rattle.nona_tree.proofs.checked_laws.checked_is_scoped.Goals as goal

pub returns-clause-declared : goal.returns-clause-declared
returns-clause-declared c = checked_scoped

pub returns-clause-begun : goal.returns-clause-begun
returns-clause-begun c = begun_scoped

pub returns-clause-steady : goal.returns-clause-steady
returns-clause-steady c = checked_steady
