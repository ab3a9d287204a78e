use Rattle.net_share.proofs.Apart.{are_there, are_apart}
use Rattle.net_share.proofs.laws.reductions_stand.Goals as goal

pub returns-clause-there : goal.returns-clause-there
returns-clause-there c = are_there

pub returns-clause-apart : goal.returns-clause-apart
returns-clause-apart c = are_apart
