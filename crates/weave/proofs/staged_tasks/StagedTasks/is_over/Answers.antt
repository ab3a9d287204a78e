use Rattle.std.proofs.Common.{ℤ, List, sym, ap, ◌∙◌}
use Rattle.net_flow.specs.Machines.{is_over}
use Rattle.net_flow.specs.Net.{Work, net_machine}
use Rattle.net_pipe.specs.Kept.{net_of}
use Rattle.net_pipe.specs.Works.{Values}
use Rattle.weave.specs.NetView.{Staged, machine}
use Rattle.weave.specs.Staged.{staged_machine}
use Rattle.weave.specs.StagedTasks.{capacity_of, done_before, workers_of}
use Rattle.weave.proofs.Injected.{is_over_part}
use Rattle.weave.proofs.StagedKept.{work_is}
use Rattle.weave.proofs.Versions.{staged_is_part}
use Rattle.weave.proofs.staged_tasks.StagedTasks.is_over.Goals as goal

pub returns : goal.returns
returns c =
    let t = c.args.self.now in
    let e = t.entry.now in
    let b = done_before t in
    let w = workers_of t in
    let k = capacity_of t in
    c.is_over.ensures
    ∙ ap (λ (work : Work Values (List ℤ)). is_over (net_machine work) (net_of t.pipeline)) (work_is t c.requires)
    ∙ sym (is_over_part (staged_machine e b w k) machine (Staged e b w k) (staged_is_part e b w k) (net_of t.pipeline))
