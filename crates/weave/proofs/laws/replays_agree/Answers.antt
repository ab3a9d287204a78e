use Rattle.weave.proofs.Agree.{first_part, whole_equal}
use Rattle.weave.proofs.laws.replays_agree.Goals as goal

pub returns-clause-first_part : goal.returns-clause-first_part
returns-clause-first_part c = first_part

pub returns-clause-whole : goal.returns-clause-whole
returns-clause-whole c = whole_equal
