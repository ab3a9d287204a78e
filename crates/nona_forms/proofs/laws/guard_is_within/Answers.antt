use Rattle.nona_forms.proofs.GuardLies.{guard_lies}
use Rattle.nona_forms.proofs.laws.guard_is_within.Goals as goal

pub returns : goal.returns
returns c = guard_lies
