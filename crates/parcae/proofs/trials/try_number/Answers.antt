use Rattle.parcae.specs.Trials.{trial_unbegun}
use Rattle.parcae.proofs.Ending.{ends_unbegun}
use Rattle.parcae.proofs.trials.try_number.Goals as goal

-- memory ran out before the numbers were there
pub returns-in_default : goal.returns-in_default
returns-in_default g c = rw c.bare.ensures (ends_unbegun _ (g.K.Sink.written c.args.out.now) (g.K.Sink.faults c.args.out.now) trial_unbegun)

-- memory ran out before the replay
pub returns-in-Err : goal.returns-in-Err
returns-in-Err g c = rw c.bare-in-Err.ensures (ends_unbegun _ (g.K.Sink.written c.args.out.now) (g.K.Sink.faults c.args.out.now) trial_unbegun)
