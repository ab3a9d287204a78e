use Rattle.std.proofs.Common.{ℕ, List}
use Rattle.net_flow.specs.Sharing.{sharing_shape}
use Rattle.net_flow.specs.Tracing.{tracing}
use Rattle.net_flow.proofs.StepForm.{pause_holds}
use Rattle.net_flow.proofs.TracedSharing.{shared_claims, shared_once, shared_granted}
use Rattle.net_flow.proofs.laws.sharing_claims.Goals as goal

pub returns-clause-claims : goal.returns-clause-claims
returns-clause-claims c = shared_claims

pub returns-clause-once : goal.returns-clause-once
returns-clause-once c = λ W units limit k net here below. shared_once W units limit net here k below

pub returns-clause-pause : goal.returns-clause-pause
returns-clause-pause c = λ W units t net mark. pause_holds (List ℕ) ℕ (tracing (sharing_shape W units)) net t mark

pub returns-clause-granted : goal.returns-clause-granted
returns-clause-granted c = λ W units limit net some here over. shared_granted W units limit net here some over
