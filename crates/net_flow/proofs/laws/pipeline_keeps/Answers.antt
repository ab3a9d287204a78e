use Rattle.net_flow.proofs.TracedPipelines.{traced_begins, traced_steps, traced_pauses}
use Rattle.net_flow.proofs.laws.pipeline_keeps.Goals as goal

pub returns-clause-begins : goal.returns-clause-begins
returns-clause-begins c = λ shape limit is. traced_begins shape is limit

pub returns-clause-steps : goal.returns-clause-steps
returns-clause-steps c = λ shape limit t net is here below goes. traced_steps shape is limit net here t below goes

pub returns-clause-pauses : goal.returns-clause-pauses
returns-clause-pauses c = λ shape limit net is here. traced_pauses shape is limit net here
