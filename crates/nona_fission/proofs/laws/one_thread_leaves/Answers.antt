use Rattle.nona_fission.proofs.Left.{thread_ends, depth_left, arrays_left, sizes_left, cells_left, scalars_left, printed_left}
use Rattle.nona_fission.proofs.laws.one_thread_leaves.Goals as goal

pub returns-clause-done : goal.returns-clause-done
returns-clause-done c = thread_ends

pub returns-clause-depth : goal.returns-clause-depth
returns-clause-depth c = depth_left

pub returns-clause-arrays : goal.returns-clause-arrays
returns-clause-arrays c = arrays_left

pub returns-clause-sizes : goal.returns-clause-sizes
returns-clause-sizes c = sizes_left

pub returns-clause-cells : goal.returns-clause-cells
returns-clause-cells c = cells_left

pub returns-clause-scalars : goal.returns-clause-scalars
returns-clause-scalars c = scalars_left

pub returns-clause-printed : goal.returns-clause-printed
returns-clause-printed c = printed_left
