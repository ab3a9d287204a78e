use Rattle.nona_tree.proofs.DeedLaws.{scalar_stays, cell_stays, printed_stays}
use Rattle.nona_tree.proofs.deed_laws.unset_stays.Goals as goal

pub returns-clause-scalars : goal.returns-clause-scalars
returns-clause-scalars c = scalar_stays

pub returns-clause-cells : goal.returns-clause-cells
returns-clause-cells c = cell_stays

pub returns-clause-printed : goal.returns-clause-printed
returns-clause-printed c = printed_stays
