use Rattle.std.proofs.Common.{arith}
use Rattle.net_share.specs.Tasks.{share_of}
use Rattle.net_share.proofs.Paging.{alike_many}
use Rattle.net_share.proofs.settling.settle_array.Goals as goal

pub settle_page-requires : goal.settle_page-requires
settle_page-requires c =
    omega (arith, c.requires, alike_many share_of c.args.store.now c.pages.store c.args.tasks.now.items c.pages.tasks.items c.pages.invariant)
