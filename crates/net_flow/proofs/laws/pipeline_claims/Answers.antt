use Rattle.std.proofs.Common.{ℕ, List}
use Rattle.net_flow.specs.Tracing.{tracing}
use Rattle.net_flow.proofs.StepForm.{pause_holds}
use Rattle.net_flow.proofs.TracedPipelines.{traced_noted, traced_located, traced_granted}
use Rattle.net_flow.proofs.laws.pipeline_claims.Goals as goal

pub returns-clause-pause : goal.returns-clause-pause
returns-clause-pause c = λ shape net t mark. pause_holds (List ℕ) ℕ (tracing shape) net t mark

pub returns-clause-noted : goal.returns-clause-noted
returns-clause-noted c = λ shape limit s w net is here task. traced_noted shape is limit net here s w task

pub returns-clause-granted : goal.returns-clause-granted
returns-clause-granted c = λ shape limit net is here over. traced_granted shape is limit net here over

pub returns-clause-located : goal.returns-clause-located
returns-clause-located c = λ shape limit k net is here below. traced_located shape is limit net here k below
