use Rattle.net_flow.proofs.TracedSharing.{shared_begins, shared_steps, shared_pauses}
use Rattle.net_flow.proofs.laws.sharing_keeps.Goals as goal

pub returns-clause-begins : goal.returns-clause-begins
returns-clause-begins c = shared_begins

pub returns-clause-steps : goal.returns-clause-steps
returns-clause-steps c = λ W units limit t net here below goes. shared_steps W units limit net here t below goes

pub returns-clause-pauses : goal.returns-clause-pauses
returns-clause-pauses c = shared_pauses
