use Rattle.morta_control.proofs.Legal.{log_decided}
use Rattle.morta_control.proofs.laws.requests_are_decided.Goals as goal

pub returns : goal.returns
returns c = log_decided
