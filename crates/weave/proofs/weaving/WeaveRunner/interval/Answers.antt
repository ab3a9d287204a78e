use Rattle.weave.proofs.Asks.{goes_on}
use Rattle.weave.proofs.weaving.WeaveRunner.interval.Goals as goal

pub returns-clause-goes_on : goal.returns-clause-goes_on
returns-clause-goes_on c =
    goes_on c.args.self.now c.run.new.self c.args.entry.now c.args.config c.args.handoff.next c.args.limit c.in_ok-done.done.1 c.in_ok-done.ensures.replayed c.in_ok-done.ensures.left
