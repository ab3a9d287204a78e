use Rattle.std.proofs.Common.{subst}
use Rattle.std.specs.declared.option.Option.{Option}
use Rattle.morta_control.specs.ControllerInside.{IsRestUpTo}
use Rattle.morta_control.specs.declared.stages.Left.{Left}
use Rattle.morta_control.proofs.stages.Stage.calibrated.Goals as goal

-- the best probe is of the configurations of the round, and those that are left are too
pub returns-in-Some-clause-stage : goal.returns-in-Some-clause-stage
returns-in-Some-clause-stage c = (
  c.best_with-best.ensures.up_to c.args.workers c.requires.best (c.split-rest.ensures.next c.args.workers c.requires.left),
  subst (λ (rest : Option Left). IsRestUpTo c.args.workers rest) c.in-Some.is (c.split-rest.ensures.rest c.args.workers c.requires.left),
)
