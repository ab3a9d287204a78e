use Rattle.nona_fission.proofs.Whole.{task_done, written, written_once, left, scalars_stay, reductions_join, printed_stays, depth_stays, sizes_stay}
use Rattle.nona_fission.proofs.iterations.iterations_may_be_shared.Goals as goal

pub returns-clause-done : goal.returns-clause-done
returns-clause-done c = task_done

pub returns-clause-written : goal.returns-clause-written
returns-clause-written c = written

pub returns-clause-once : goal.returns-clause-once
returns-clause-once c = written_once

pub returns-clause-left : goal.returns-clause-left
returns-clause-left c = left

pub returns-clause-scalars : goal.returns-clause-scalars
returns-clause-scalars c = scalars_stay

pub returns-clause-reductions : goal.returns-clause-reductions
returns-clause-reductions c = reductions_join

pub returns-clause-printed : goal.returns-clause-printed
returns-clause-printed c = printed_stays

pub returns-clause-depth : goal.returns-clause-depth
returns-clause-depth c = depth_stays

pub returns-clause-sizes : goal.returns-clause-sizes
returns-clause-sizes c = sizes_stay
