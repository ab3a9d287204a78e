use Rattle.std.proofs.Common.{◌∙◌, Bool, ap, sym, arith, length, if◌then◌else◌}
use Rattle.net_flow.specs.Flow.{Unit_at}
use Rattle.net_flow.specs.Net.{Task, leaves}
use Rattle.nona_tree.specs.Memory.{Memory}
use Rattle.net_share.specs.Tasks.{task_over}
use Rattle.net_share.specs.Works.{doing, task_work}
use Rattle.net_share.proofs.Moves.{not_below}
use Rattle.net_share.proofs.task.Task.arrive.Goals as goal

pub returns-else-unit-count-clause-task : goal.returns-else-unit-count-clause-task
returns-else-unit-count-clause-task c m =
    let work = task_work (doing c.args.iterations.now c.args.depth) in
    let x = task_over m c.args.self.now in
    let u = c.args.unit in
    let past = not_below u (length c.args.iterations.now.units.now.body) (omega (arith, c.if-unit-count.false, c.count.ensures)) in
    c.leave.ensures.task c.args.iterations.now m
    ∙ ap (λ (q : Bool). let y : Task Memory = if q then record x { position = Unit_at u } else leaves work x in y) (sym past)
