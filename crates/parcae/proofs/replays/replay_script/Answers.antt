use Rattle.parcae.specs.Leads.{script_leads}
use Rattle.parcae.proofs.Replaying.{serves_all, script_led, script_stands}
use Rattle.parcae.proofs.replays.replay_script.Goals as goal

pub replay_led-requires-clause-stands : goal.replay_led-requires-clause-stands
replay_led-requires-clause-stands g c = script_stands c.new-weave.result c.args.asked.links c.args.script.commands.items c.new-weave.ensures

pub replay_led-requires-clause-serves : goal.replay_led-requires-clause-serves
replay_led-requires-clause-serves g c = λ region code s there asked. serves_all c.args.program.now c.plan_is_lawful.ensures region code s there

pub returns : goal.returns
returns g c =
    let links = c.args.asked.links in
    let commands = c.args.script.commands.items in
    c.replay_led.ensures (script_leads links commands) links (script_led c.new-weave.result links commands c.new-weave.ensures)
