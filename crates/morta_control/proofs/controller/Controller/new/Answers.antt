use Rattle.std.proofs.Common.{sym, subst}
use Rattle.morta_task.specs.LogView.{empty_log}
use Rattle.morta_control.specs.ControllerPromise.{StandsFor}
use Rattle.morta_control.specs.Decisions.{Decision}
use Rattle.morta_control.proofs.Coming.{stands_at_first}
use Rattle.morta_control.proofs.controller.Controller.new.Goals as goal

pub returns-clause-stands : goal.returns-clause-stands
returns-clause-stands c =
    subst (λ (d : Decision). StandsFor (record { workers = c.args.workers; number = 0; decision = d }) empty_log) (sym c.new.ensures.decision)
    (stands_at_first c.args.workers)
