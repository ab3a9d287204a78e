use Rattle.parcae.proofs.Replaying.{serves_all, control_led}
use Rattle.parcae.proofs.replays.controlled.Goals as goal

pub returns-clause-serves : goal.returns-clause-serves
returns-clause-serves c = λ p region code s there asked. serves_all p c.plan_is_lawful.ensures region code s there

pub returns-clause-led : goal.returns-clause-led
returns-clause-led c = control_led c.requests_are_decided.ensures _ c.args.workers c.args.links (rw c.new.ensures.items at c.new-2.ensures) c.new-3.ensures.value
