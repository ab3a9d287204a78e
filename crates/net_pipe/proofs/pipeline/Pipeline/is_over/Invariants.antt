use Rattle.std.proofs.Common.{◌≡◌, ◌-◌, ◌&&◌, length}
use Rattle.net_flow.specs.Machines.{is_over, over_from}
use Rattle.net_flow.specs.Net.{net_machine}
use Rattle.net_pipe.specs.Kept.{net_of, work_of}
use Rattle.net_pipe.proofs.pipeline.Pipeline.is_over.Given as goal

-- all have finished where those so far have, and those that are left
abbrev pub invariant-tasks : goal.invariant-tasks
invariant-tasks l =
    let machine = net_machine (work_of l.self) in
    (l.over && over_from machine (length l.self.tasks.items - l.task) l.task (net_of l.self)) ≡ is_over machine (net_of l.self)
