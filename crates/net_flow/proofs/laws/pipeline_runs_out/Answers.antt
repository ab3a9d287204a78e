use Rattle.net_flow.proofs.TracedPipelines.{traced_never_stuck, traced_runs_out, traced_ends, traced_moves}
use Rattle.net_flow.proofs.laws.pipeline_runs_out.Goals as goal

pub returns-clause-never_stuck : goal.returns-clause-never_stuck
returns-clause-never_stuck c = λ shape limit net is here going. traced_never_stuck shape is limit net here going

pub returns-clause-runs_out : goal.returns-clause-runs_out
returns-clause-runs_out c = λ shape limit net is here. traced_runs_out shape is limit net here

pub returns-clause-ends : goal.returns-clause-ends
returns-clause-ends c = λ shape limit net end is here out. traced_ends shape is limit net here end out

pub returns-clause-moves : goal.returns-clause-moves
returns-clause-moves c = λ shape limit net is here over. traced_moves shape is limit net here over
