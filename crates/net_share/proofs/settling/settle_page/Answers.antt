use Rattle.net_share.specs.Tasks.{share_of}
use Rattle.net_share.proofs.Paging.{page_settled}
use Rattle.net_share.proofs.settling.settle_page.Goals as goal

pub returns : goal.returns
returns c =
    page_settled share_of c.args.array c.args.index c.args.store.now c.move_page.new.store c.args.tasks.now.items c.keep_page.new.tasks.items c.move_page.new.tasks.items
    c.keep_page.ensures c.move_page.ensures.tasks c.move_page.ensures.store
