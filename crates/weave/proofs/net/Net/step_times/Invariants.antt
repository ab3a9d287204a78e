use Rattle.std.proofs.Common.{◌≡◌, ◌-◌, ◌<◌}
use Rattle.net_flow.specs.Machines.{step_times}
use Rattle.weave.specs.NetView.{machine, tasks_of}
use Rattle.weave.specs.Nets.{IsNet, view_of}
use Rattle.weave.proofs.net.Net.step_times.Given as goal

-- the steps that are left lead to where all of them lead
abbrev pub invariant-steps : goal.invariant-steps
invariant-steps l =
    record {
      net : step_times machine l.moves l.task (view_of l.initial.self) ≡ step_times machine (l.moves - l._taken) l.task (view_of l.self);
      there : l.task < tasks_of (view_of l.self);
      sound : IsNet l.self;
    }
