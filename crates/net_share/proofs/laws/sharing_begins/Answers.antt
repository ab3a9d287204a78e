use Rattle.net_share.proofs.EntryNets.{begins}
use Rattle.net_share.proofs.laws.sharing_begins.Goals as goal

pub returns : goal.returns
returns c = begins
