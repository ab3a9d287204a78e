use Rattle.net_pipe.proofs.SettledStages.{stages_settle}
use Rattle.net_pipe.proofs.StageNets.{granted_within, stages_end, stages_moved}
use Rattle.net_pipe.proofs.laws.stages_settle.Goals as goal

pub returns-clause-settled : goal.returns-clause-settled
returns-clause-settled c = λ e p W capacity first limit net m h here over settled. stages_settle e p W capacity first limit h net here over m settled

pub returns-clause-moves : goal.returns-clause-moves
returns-clause-moves c = λ e p W capacity first limit net h here over. stages_moved e p W capacity first limit h net here over

pub returns-clause-granted : goal.returns-clause-granted
returns-clause-granted c = granted_within

pub returns-clause-ends : goal.returns-clause-ends
returns-clause-ends c = λ e p W capacity first limit net h here. stages_end e p W capacity first limit h net here
