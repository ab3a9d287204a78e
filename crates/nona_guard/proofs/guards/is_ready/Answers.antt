use Rattle.nona_guard.proofs.Ready.{guard_ready}
use Rattle.nona_guard.proofs.guards.is_ready.Goals as goal

pub returns : goal.returns
returns c = guard_ready c.args.guard.now c.args.store.now c.requires
