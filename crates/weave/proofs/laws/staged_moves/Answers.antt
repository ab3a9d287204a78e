use Rattle.weave.proofs.StagedMoves.{moves_in_all, most_of, granted_few}
use Rattle.weave.proofs.laws.staged_moves.Goals as goal

pub returns-clause-end : goal.returns-clause-end
returns-clause-end c = λ e before limit workers capacity commands end may. moves_in_all e before limit workers capacity may commands end

pub returns-clause-most : goal.returns-clause-most
returns-clause-most c = most_of

pub returns-clause-granted : goal.returns-clause-granted
returns-clause-granted c = λ e before limit workers capacity commands end may. granted_few e before limit workers capacity may commands end
