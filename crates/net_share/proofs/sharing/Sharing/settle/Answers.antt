use Rattle.std.proofs.Common.{sym, subst}
use Rattle.net_share.specs.Gathered.{views_of}
use Rattle.net_share.specs.Kept.{store_of}
use Rattle.net_share.specs.Settled.{IsSettledFrom}
use Rattle.net_share.specs.Tasks.{share_of}
use Rattle.net_share.proofs.Gathering.{gathered_settles}
use Rattle.net_share.proofs.sharing.Sharing.settle.Goals as goal

pub returns : goal.returns
returns c =
    let n = c.args.self in
    let rs = c.args.reductions.now in
    subst (IsSettledFrom (store_of n) rs (views_of share_of (store_of n) n.tasks.items)) (sym c.settled.ensures)
    (gathered_settles share_of rs n.tasks.items (store_of n) c.requires.apart c.requires.there)
