use Rattle.nona_num.proofs.FoldLaws.{join_assoc, join_comm, join_unit, join_fits}
use Rattle.nona_num.proofs.folds.fold_laws.Goals as goal

pub returns-clause-associative : goal.returns-clause-associative
returns-clause-associative c = join_assoc

pub returns-clause-commutative : goal.returns-clause-commutative
returns-clause-commutative c = join_comm

pub returns-clause-unit : goal.returns-clause-unit
returns-clause-unit c = join_unit

pub returns-clause-join_fits : goal.returns-clause-join_fits
returns-clause-join_fits c = join_fits
