use Rattle.std.proofs.Common.{◌<◌, sym, subst, ◌∙◌, arith}
use Rattle.net_flow.specs.Machines.{RunsOut, at_end, one_round}
use Rattle.weave.specs.NetView.{NetView, machine}
use Rattle.weave.specs.Nets.{left_in, view_of}
use Rattle.weave.proofs.LeftIn.{left_falls}
use Rattle.weave.proofs.net.Net.run_out.Goals as goal

pub rounds-smaller : goal.rounds-smaller
rounds-smaller c =
    let going = sym c.is_over.ensures ∙ c.rounds-test.true in
    let fell : left_in (view_of c.round.new.self) < left_in (view_of c.rounds.self) =
    subst (λ (n : NetView). left_in n < left_in (view_of c.rounds.self)) (sym c.in_ok-round.ensures.net) (left_falls c.rounds.self c.rounds.invariant.sound going)
    in
    let more = c.in_ok-more_rounds.ensures.left in
    omega (arith, fell, more)

pub rounds-preserved : goal.rounds-preserved
rounds-preserved c = record {
  net = λ end out. c.rounds.invariant.net end
      (one_round (view_of c.rounds.self) end (sym c.is_over.ensures ∙ c.rounds-test.true)
      (subst (λ (n : NetView). RunsOut machine n end) c.in_ok-round.ensures.net (c.in_ok-more_rounds.ensures.net end out)));
  sound = c.in_ok-more_rounds.ensures.sound;
}

pub returns-clause-net : goal.returns-clause-net
returns-clause-net c = c.rounds.invariant.net _ (at_end (view_of c.rounds.self) (sym c.is_over.ensures ∙ c.rounds-test.false))
