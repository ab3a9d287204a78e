use Rattle.nona_tree.proofs.DeedLaws.{scalar_stays_in_all, cell_stays_in_all, printed_stays_in_all}
use Rattle.nona_tree.proofs.deed_laws.all_unset_stays.Goals as goal

pub returns-clause-scalars : goal.returns-clause-scalars
returns-clause-scalars c = scalar_stays_in_all

pub returns-clause-cells : goal.returns-clause-cells
returns-clause-cells c = cell_stays_in_all

pub returns-clause-printed : goal.returns-clause-printed
returns-clause-printed c = printed_stays_in_all
