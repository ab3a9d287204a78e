use Rattle.weave.proofs.Exact.{moves_at_each, moves_at_end, grants_all}
use Rattle.weave.proofs.laws.seq_moves.Goals as goal

pub returns-clause-each : goal.returns-clause-each
returns-clause-each c = moves_at_each

pub returns-clause-end : goal.returns-clause-end
returns-clause-end c = moves_at_end

pub returns-clause-granted : goal.returns-clause-granted
returns-clause-granted c = grants_all
