use Rattle.nona_fission.proofs.Whole.{cells_keep, scalars_keep, numbers_keep, printed_keep, depth_keep, sizes_keep}
use Rattle.nona_fission.proofs.iterations.tasks_keep.Goals as goal

pub returns-clause-cells : goal.returns-clause-cells
returns-clause-cells c = cells_keep

pub returns-clause-scalars : goal.returns-clause-scalars
returns-clause-scalars c = scalars_keep

pub returns-clause-numbers : goal.returns-clause-numbers
returns-clause-numbers c = numbers_keep

pub returns-clause-printed : goal.returns-clause-printed
returns-clause-printed c = printed_keep

pub returns-clause-depth : goal.returns-clause-depth
returns-clause-depth c = depth_keep

pub returns-clause-sizes : goal.returns-clause-sizes
returns-clause-sizes c = sizes_keep
