use Rattle.parcae.specs.Leads.{control_leads}
use Rattle.parcae.proofs.replays.replay_controlled.Goals as goal

pub replay_led-requires-clause-serves : goal.replay_led-requires-clause-serves
replay_led-requires-clause-serves g c = c.controlled-morta.ensures.serves c.args.program.now

pub returns : goal.returns
returns g c = c.replay_led.ensures (control_leads c.args.workers) c.args.asked.links c.controlled-morta.ensures.led
