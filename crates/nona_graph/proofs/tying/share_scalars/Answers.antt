use Rattle.std.proofs.Common.{[]}
use Rattle.nona_plans.specs.Units.{carried_scalars}
use Rattle.nona_graph.proofs.TieSteps.{both_scalars}
use Rattle.nona_graph.proofs.tying.share_scalars.Goals as goal

pub returns : goal.returns
returns c =
    both_scalars c.args.looped.now c.args.parts.now.units.items c.deref.result.now c.args.u c.args.v (carried_scalars c.args.looped.now) c.scalars_meet.result c.deref.ensures.value c.requires.parts.units c.requires.u c.requires.v (c.scalars_meet.ensures (carried_scalars c.args.looped.now) c.requires.parts.scalars)
