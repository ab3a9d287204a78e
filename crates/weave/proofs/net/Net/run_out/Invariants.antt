use Rattle.net_flow.specs.Machines.{RunsOut}
use Rattle.weave.specs.NetView.{NetView, machine}
use Rattle.weave.specs.Nets.{IsNet, left_in, view_of}
use Rattle.weave.proofs.net.Net.run_out.Given as goal

-- what runs out from here on has run out from the beginning
abbrev pub invariant-rounds : goal.invariant-rounds
invariant-rounds l =
    record {
      net : (end : NetView) → RunsOut machine (view_of l.self) end → RunsOut machine (view_of l.initial.self) end;
      sound : IsNet l.self;
    }

abbrev pub decreases-rounds : goal.decreases-rounds
decreases-rounds l = left_in (view_of l.self)
