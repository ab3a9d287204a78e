use Rattle.std.proofs.Common.{arith}
use Rattle.net_share.specs.Tasks.{share_of}
use Rattle.net_share.proofs.Paging.{alike_many}
use Rattle.net_share.proofs.settling.settle_pages.Goals as goal

pub settle_array-requires : goal.settle_array-requires
settle_array-requires c =
    omega (arith, c.arrays-test.true, c.min-many.ensures, c.count_arrays.ensures, alike_many share_of c.args.store.now c.arrays.store c.args.tasks.now.items c.arrays.tasks.items c.arrays.invariant)
