use Rattle.std.proofs.Common.{[]}
use Rattle.nona_plans.specs.Units.{carried_arrays}
use Rattle.nona_graph.proofs.TieSteps.{both_arrays}
use Rattle.nona_graph.proofs.tying.share_carried.Goals as goal

pub returns : goal.returns
returns c =
    both_arrays c.args.looped.now c.args.parts.now.units.items c.deref.result.now c.args.u c.args.v (carried_arrays [] c.args.looped.now) c.arrays_meet.result c.deref.ensures.value c.requires.parts.units c.requires.u c.requires.v (c.arrays_meet.ensures (carried_arrays [] c.args.looped.now) c.requires.parts.carried)
