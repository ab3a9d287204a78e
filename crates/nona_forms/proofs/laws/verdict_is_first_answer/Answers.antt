use Rattle.nona_forms.proofs.Cascade.{by_rules}
use Rattle.nona_forms.proofs.laws.verdict_is_first_answer.Goals as goal

pub returns : goal.returns
returns c = by_rules
