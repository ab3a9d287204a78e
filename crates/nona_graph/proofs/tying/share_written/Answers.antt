use Rattle.std.proofs.Common.{[]}
use Rattle.nona_plans.specs.Units.{written_arrays}
use Rattle.nona_graph.proofs.TieSteps.{both_arrays}
use Rattle.nona_graph.proofs.tying.share_written.Goals as goal

pub returns : goal.returns
returns c =
    both_arrays c.args.looped.now c.args.parts.now.units.items c.deref.result.now c.args.u c.args.v (written_arrays [] c.args.looped.now) c.arrays_meet.result c.deref.ensures.value c.requires.parts.units c.requires.u c.requires.v (c.arrays_meet.ensures (written_arrays [] c.args.looped.now) c.requires.parts.written)
