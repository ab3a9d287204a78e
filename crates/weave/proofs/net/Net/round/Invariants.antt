use Rattle.std.proofs.Common.{◌≡◌, ◌-◌}
use Rattle.net_flow.specs.Machines.{round, round_from}
use Rattle.weave.specs.NetView.{machine, tasks_of}
use Rattle.weave.specs.Nets.{IsNet, view_of}
use Rattle.weave.proofs.net.Net.round.Given as goal

-- the steps that are left lead to where all of them lead, of as many tasks
abbrev pub invariant-tasks : goal.invariant-tasks
invariant-tasks l =
    record {
      net : round machine (view_of l.initial.self) ≡ round_from machine (tasks_of (view_of l.self) - l.task) l.task (view_of l.self);
      many : tasks_of (view_of l.self) ≡ tasks_of (view_of l.initial.self);
      sound : IsNet l.self;
    }
