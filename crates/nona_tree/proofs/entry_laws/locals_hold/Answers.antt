use Rattle.nona_tree.proofs.Steady.{local_holds}
use Rattle.nona_tree.proofs.entry_laws.locals_hold.Goals as goal

pub returns : goal.returns
returns c = local_holds
