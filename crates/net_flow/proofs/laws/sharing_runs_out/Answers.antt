use Rattle.net_flow.proofs.TracedSharing.{shared_never_stuck, shared_runs_out, shared_ends, shared_moves}
use Rattle.net_flow.proofs.laws.sharing_runs_out.Goals as goal

pub returns-clause-never_stuck : goal.returns-clause-never_stuck
returns-clause-never_stuck c = shared_never_stuck

pub returns-clause-runs_out : goal.returns-clause-runs_out
returns-clause-runs_out c = shared_runs_out

pub returns-clause-ends : goal.returns-clause-ends
returns-clause-ends c = λ W units limit net end here out. shared_ends W units limit net here end out

pub returns-clause-moves : goal.returns-clause-moves
returns-clause-moves c = shared_moves
