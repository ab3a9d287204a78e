use Rattle.nona_fission.proofs.Together.{task_done, written, written_once, left, scalars_agree}
use Rattle.nona_fission.proofs.laws.units_may_be_apart.Goals as goal

pub returns-clause-done : goal.returns-clause-done
returns-clause-done c = task_done

pub returns-clause-written : goal.returns-clause-written
returns-clause-written c = written

pub returns-clause-once : goal.returns-clause-once
returns-clause-once c = written_once

pub returns-clause-left : goal.returns-clause-left
returns-clause-left c = left

pub returns-clause-scalars : goal.returns-clause-scalars
returns-clause-scalars c = scalars_agree
