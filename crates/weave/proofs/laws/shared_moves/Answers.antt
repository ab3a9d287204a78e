use Rattle.weave.proofs.TaskMoves.{moves_in_all, most_of, granted_within}
use Rattle.weave.proofs.laws.shared_moves.Goals as goal

pub returns-clause-end : goal.returns-clause-end
returns-clause-end c = moves_in_all

pub returns-clause-most : goal.returns-clause-most
returns-clause-most c = most_of

pub returns-clause-granted : goal.returns-clause-granted
returns-clause-granted c = granted_within
