use Rattle.std.proofs.Common.{drop, sym, ◌∙◌}
use Rattle.weave.specs.Nets.{view_of}
use Rattle.weave.proofs.Commands.{all_left, on_next, stays}
use Rattle.weave.proofs.following.follow.Goals as goal

pub returns-then-is_over-clause-follows : goal.returns-then-is_over-clause-follows
returns-then-is_over-clause-follows c =
    c.commands.invariant.follows ∙ all_left (drop c.commands.at c.args.commands.now) (view_of c.commands.net) (sym c.is_over.ensures ∙ c.if-is_over.true)

pub returns-then-not-branch-clause-follows : goal.returns-then-not-branch-clause-follows
returns-then-not-branch-clause-follows c =
    c.commands.invariant.follows
    ∙ stays c.args.commands.now c.commands.at _ (view_of c.commands.net) (view_of c.obey.new.net) c.in_ok-obey.field-0 c.commands-test.true c.in_ok-obey.ensures.obeys c.if-not-branch.true

pub commands-preserved : goal.commands-preserved
commands-preserved c = record {
  follows = c.commands.invariant.follows
      ∙ on_next c.args.commands.now c.commands.at _ (view_of c.commands.net) (view_of c.obey.new.net) c.in_ok-obey.field-0 c.commands-test.true c.in_ok-obey.ensures.obeys c.if-not-branch.false;
  sound = c.in_ok-obey.ensures.sound;
}
