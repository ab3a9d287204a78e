use Rattle.std.proofs.Common.{◌<◌, sym, subst, ◌∙◌}
use Rattle.net_share.specs.declared.sharing.StepEnd.{StepEnd}
use Rattle.weave.specs.NetView.{StepSays}
use Rattle.weave.specs.Nets.{view_of}
use Rattle.weave.proofs.Counted.{tasks_stay}
use Rattle.weave.proofs.Steps.{times_moved, times_stopped}
use Rattle.weave.proofs.net.Net.step_times.Goals as goal

pub returns-in-Waits : goal.returns-in-Waits
returns-in-Waits c = record {
  net = sym (c.steps.invariant.net
      ∙ times_stopped c.in_ok-step.field-0 c.args.moves c.steps._taken c.args.task (view_of c.steps.self) (view_of c.step.new.self) c.steps-test.true c.in-Waits.is c.in_ok-step.ensures.says);
  sound = c.in_ok-step.ensures.sound;
}

pub steps-preserved : goal.steps-preserved
steps-preserved c =
    let net = view_of c.steps.self in
    let next = view_of c.step.new.self in
    let says = subst (λ (end : StepEnd). StepSays end c.args.task net next) c.in-Moved.is c.in_ok-step.ensures.says in
    record {
      net = c.steps.invariant.net ∙ times_moved c.args.moves c.steps._taken c.args.task net next c.steps-test.true says;
      there = subst (λ n. c.args.task < n) (sym (tasks_stay c.in_ok-step.field-0 c.args.task net next c.steps.invariant.there c.in_ok-step.ensures.says)) c.steps.invariant.there;
      sound = c.in_ok-step.ensures.sound;
    }
