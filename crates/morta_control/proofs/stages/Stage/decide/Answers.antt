use Rattle.std.proofs.Common.{sym, ap, ◌∙◌}
use Rattle.decima.specs.Rates.{rate_of_reading}
use Rattle.morta_control.specs.ControllerInside.{decision_of}
use Rattle.morta_control.specs.Decisions as decisions
use Rattle.morta_control.specs.declared.stages.Stage.{Stage}
use Rattle.morta_control.proofs.stages.Stage.decide.Goals as goal

pub returns-in-Calibrates-clause-decision : goal.returns-in-Calibrates-clause-decision
returns-in-Calibrates-clause-decision c = λ e offer.
    c.calibrated.ensures.decision e
    ∙ ap (λ (s : Stage). decisions.decide c.args.workers e (decision_of s) (rate_of_reading c.args.reading)) (sym c.in-Calibrates.is)

pub returns-in-Optimises-clause-decision : goal.returns-in-Optimises-clause-decision
returns-in-Optimises-clause-decision c = λ e offer.
    c.optimised.ensures.decision e
    ∙ ap (λ (s : Stage). decisions.decide c.args.workers e (decision_of s) (rate_of_reading c.args.reading)) (sym c.in-Optimises.is)
