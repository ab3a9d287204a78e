use Rattle.nona_code.proofs.Allowed.{all_deeds}
use Rattle.nona_code.proofs.frame.stores_allow_all.Goals as goal

pub returns : goal.returns
returns c = all_deeds
