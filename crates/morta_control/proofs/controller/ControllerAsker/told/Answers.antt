use Rattle.std.proofs.Common.{◌≡◌, sym, ap, subst, ◌∙◌}
use Rattle.decima.specs.Rates.{Rate}
use Rattle.morta_task.specs.LogView.{with_interval}
use Rattle.morta_control.specs.ControllerPromise.{StandsFor}
use Rattle.morta_control.specs.ControllerView.{ControllerView, decided}
use Rattle.morta_control.specs.Decisions.{rate_of}
use Rattle.morta_control.proofs.Coming.{keeps_by, stands_on}
use Rattle.morta_control.proofs.controller.ControllerAsker.told.Goals as goal

pub returns-clause-stands : goal.returns-clause-stands
returns-clause-stands c = λ log run.
    let here : c.decide.new.self ≡ decided c.args.entry.now c.args.self.now (rate_of c.args.interval.now) =
    c.decide.ensures c.args.entry.now c.of.ensures ∙ ap (λ (r : Rate). decided c.args.entry.now c.args.self.now r) c.reading_of.ensures in
    subst (λ (w : ControllerView). StandsFor w (with_interval log c.args.entry.now c.args.interval.now)) (sym here)
    (stands_on c.args.self.now log c.args.entry.now c.args.interval.now run)

pub returns-clause-keeps : goal.returns-clause-keeps
returns-clause-keeps c =
    keeps_by c.args.self.now c.decide.new.self (sym (ap (λ (w : ControllerView). w.workers) (c.decide.ensures c.args.entry.now c.of.ensures)))
