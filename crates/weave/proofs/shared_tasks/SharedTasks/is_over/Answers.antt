use Rattle.std.proofs.Common.{sym, ap, ◌∙◌}
use Rattle.nona_tree.specs.Memory.{Memory}
use Rattle.net_flow.specs.Machines.{is_over}
use Rattle.net_flow.specs.Net.{Work, net_machine}
use Rattle.net_share.specs.Kept.{net_of}
use Rattle.weave.specs.NetView.{Shared, machine}
use Rattle.weave.specs.Shared.{shared_machine}
use Rattle.weave.specs.SharedTasks.{done_before, workers_of}
use Rattle.weave.proofs.Injected.{is_over_part}
use Rattle.weave.proofs.SharedKept.{work_is}
use Rattle.weave.proofs.Versions.{shared_is_part}
use Rattle.weave.proofs.shared_tasks.SharedTasks.is_over.Goals as goal

pub returns : goal.returns
returns c =
    let t = c.args.self.now in
    let e = t.entry.now in
    let b = done_before t in
    let w = workers_of t in
    c.is_over.ensures
    ∙ ap (λ (work : Work Memory (Unit {0})). is_over (net_machine work) (net_of t.sharing)) (work_is t c.requires)
    ∙ sym (is_over_part (shared_machine e b w) machine (Shared e b w) (shared_is_part e b w) (net_of t.sharing))
