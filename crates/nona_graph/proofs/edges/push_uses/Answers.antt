use Rattle.nona_graph.proofs.EdgeSteps.{uses_next}
use Rattle.nona_graph.proofs.edges.push_uses.Goals as goal

pub loop-unit-preserved : goal.loop-unit-preserved
loop-unit-preserved c = uses_next c.args.looped.now c.args.local c.loop-unit.unit c.args.edges.now c.loop-unit.edges c.push_use.new.edges c.loop-unit.invariant c.in_ok-push_use.ensures
