use Rattle.std.proofs.Common.{◌≡◌, drop}
use Rattle.weave.specs.Following.{follow}
use Rattle.weave.specs.NetView.{machine}
use Rattle.weave.specs.Nets.{IsNet, view_of}
use Rattle.weave.proofs.following.follow.Given as goal

-- the commands that are left lead to where all of them lead
abbrev pub invariant-commands : goal.invariant-commands
invariant-commands l =
    record {
      follows : follow machine (drop l.first l.commands) (view_of l.initial.net) ≡ follow machine (drop l.at l.commands) (view_of l.net);
      sound : IsNet l.net;
    }
