use Rattle.std.proofs.Common.{◌≡◌, sym, ap, subst, ◌∙◌}
use Rattle.morta_control.specs.ControllerPromise.{HasCome}
use Rattle.morta_control.specs.ControllerView.{ControllerView, come_to}
use Rattle.morta_control.specs.Decisions.{next_of}
use Rattle.morta_control.proofs.Coming.{come_keeps, keeps_by, comes, asks}
use Rattle.morta_control.proofs.controller.ControllerAsker.ask.Goals as goal

pub returns-clause-may : goal.returns-clause-may
returns-clause-may c = λ log stands hand.
    let here : c.come_to.new.self ≡ come_to c.args.entry.now c.args.self.now = c.come_to.ensures c.args.entry.now c.number.ensures c.of.ensures in
    c.next.ensures.ask ∙ ap (λ (w : ControllerView). next_of w.decision) here ∙ asks c.args.self.now log c.args.entry.now hand stands

pub returns-clause-asked : goal.returns-clause-asked
returns-clause-asked c = λ log hand stands.
    let here : c.come_to.new.self ≡ come_to c.args.entry.now c.args.self.now = c.come_to.ensures c.args.entry.now c.number.ensures c.of.ensures in
    let come : HasCome c.come_to.new.self log c.args.entry.now =
    subst (λ (w : ControllerView). HasCome w log c.args.entry.now) (sym here) (comes c.args.self.now log c.args.entry.now hand stands) in
    record { come = come; asked = c.next.ensures.ask ∙ ap next_of come.decided }

pub returns-clause-keeps : goal.returns-clause-keeps
returns-clause-keeps c =
    let here : c.come_to.new.self ≡ come_to c.args.entry.now c.args.self.now = c.come_to.ensures c.args.entry.now c.number.ensures c.of.ensures in
    keeps_by c.args.self.now c.come_to.new.self (sym (ap (λ (w : ControllerView). w.workers) here ∙ come_keeps c.args.entry.now c.args.self.now))
