use Rattle.nona_graph.proofs.TieSteps.{has_printed}
use Rattle.nona_graph.proofs.tying.does_print.Goals as goal

pub returns : goal.returns
returns c = has_printed c.args.looped.now c.args.parts.now.units.items c.deref.result.now c.args.unit c.prints_there.result c.deref.ensures.value c.requires.parts.units c.requires.unit c.prints_there.ensures
