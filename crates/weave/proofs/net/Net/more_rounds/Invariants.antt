use Rattle.std.proofs.Common.{◌≤◌}
use Rattle.net_flow.specs.Machines.{RunsOut}
use Rattle.weave.specs.NetView.{NetView, machine}
use Rattle.weave.specs.Nets.{IsNet, left_in, view_of}
use Rattle.weave.proofs.net.Net.more_rounds.Given as goal

-- what runs out from here on has run out from the beginning, and no more moves are left
abbrev pub invariant-rounds : goal.invariant-rounds
invariant-rounds l =
    record {
      net : (end : NetView) → RunsOut machine (view_of l.self) end → RunsOut machine (view_of l.initial.self) end;
      left : left_in (view_of l.self) ≤ left_in (view_of l.initial.self);
      sound : IsNet l.self;
    }
