use Rattle.std.proofs.Common.{ap, ◌∙◌}
use Rattle.std.specs.Prelude.{vec_capacity}
use Rattle.net_share.specs.Tasks.{task_over}
use Rattle.net_share.proofs.Beginning.{new_over}
use Rattle.net_share.proofs.begun.first_task.Goals as goal

pub returns-clause-task : goal.returns-clause-task
returns-clause-task c =
    let m = c.args.store.now in
    ap (task_over m) c.in_ok-task.ensures
    ∙ new_over c.args.reductions.now m c.args.number (vec_capacity c.in_ok-scalars.scalars) c.args.units.now.room c.in_ok-scalars.scalars.items c.in_ok-scalars.ensures.scalars
