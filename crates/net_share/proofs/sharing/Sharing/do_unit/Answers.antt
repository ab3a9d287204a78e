use Rattle.std.proofs.Common.{sym}
use Rattle.net_share.specs.Kept.{work_of}
use Rattle.net_share.proofs.Moves.{unit_is}
use Rattle.net_share.proofs.sharing.Sharing.do_unit.Goals as goal

pub returns-clause-net : goal.returns-clause-net
returns-clause-net c =
    let n = c.args.self.now in
    unit_is (work_of n) n.granted n.iterations.limit n.paused n.store n.tasks.items c.args.task c.index_mut.result.now c.requires.there
    (sym c.index_mut.ensures.value) c.args.unit c.does_unit.new.self c.in_ok-does_unit.ensures.task
