use Rattle.weave.specs.SeqNet.{seq_machine}
use Rattle.weave.specs.Shared.{shared_machine}
use Rattle.weave.specs.Staged.{staged_machine}
use Rattle.weave.proofs.Agree.{runs_out_once}
use Rattle.weave.proofs.laws.runs_out_to_one.Goals as goal

pub returns-clause-one_task : goal.returns-clause-one_task
returns-clause-one_task c = runs_out_once seq_machine

pub returns-clause-shared_tasks : goal.returns-clause-shared_tasks
returns-clause-shared_tasks c = λ e before workers. runs_out_once (shared_machine e before workers)

pub returns-clause-staged_tasks : goal.returns-clause-staged_tasks
returns-clause-staged_tasks c = λ e before workers capacity. runs_out_once (staged_machine e before workers capacity)
