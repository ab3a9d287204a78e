use Rattle.nona_fission.proofs.Together.{printed_agrees}
use Rattle.nona_fission.proofs.laws.own_units_print.Goals as goal

pub returns : goal.returns
returns c = printed_agrees
