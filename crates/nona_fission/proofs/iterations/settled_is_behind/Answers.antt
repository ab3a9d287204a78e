use Rattle.nona_fission.proofs.Whole.{settled_is_behind}
use Rattle.nona_fission.proofs.iterations.settled_is_behind.Goals as goal

pub returns : goal.returns
returns c = settled_is_behind
