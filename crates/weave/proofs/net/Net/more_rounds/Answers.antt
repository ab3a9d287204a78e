use Rattle.std.proofs.Common.{◌≤◌, sym, subst, arith}
use Rattle.net_flow.specs.Machines.{RunsOut}
use Rattle.weave.specs.NetView.{NetView, machine}
use Rattle.weave.specs.Nets.{left_in, view_of}
use Rattle.weave.proofs.Rounds.{left_no_more, runs_before}
use Rattle.weave.proofs.net.Net.more_rounds.Goals as goal

pub rounds-preserved : goal.rounds-preserved
rounds-preserved c =
    let net = view_of c.rounds.self in
    let next = view_of c.round.new.self in
    let is = c.in_ok-round.ensures.net in
    let no_more : left_in next ≤ left_in net = subst (λ (n : NetView). left_in n ≤ left_in net) (sym is) (left_no_more c.rounds.self c.rounds.invariant.sound) in
    let before = c.rounds.invariant.left in
    record {
      net = λ end out. c.rounds.invariant.net end (runs_before machine net end (subst (λ (n : NetView). RunsOut machine n end) is out));
      left = omega (arith, no_more, before);
      sound = c.in_ok-round.ensures.sound;
    }
