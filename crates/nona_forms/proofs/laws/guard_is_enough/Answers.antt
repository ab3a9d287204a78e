use Rattle.nona_forms.proofs.GuardDone.{guard_done}
use Rattle.nona_forms.proofs.laws.guard_is_enough.Goals as goal

pub returns : goal.returns
returns c = guard_done
