use Rattle.nona_fission.proofs.Handed.{handed_on}
use Rattle.nona_fission.proofs.laws.own_units_hand_on.Goals as goal

pub returns : goal.returns
returns c = handed_on
