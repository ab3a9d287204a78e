use Rattle.nona_forms.proofs.Touching.{deeds_touch, begins_after}
use Rattle.nona_forms.proofs.laws.deeds_touch.Goals as goal

pub returns-clause-touched : goal.returns-clause-touched
returns-clause-touched c = deeds_touch

pub returns-clause-begins : goal.returns-clause-begins
returns-clause-begins c = begins_after
