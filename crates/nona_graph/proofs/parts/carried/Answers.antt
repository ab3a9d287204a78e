use Rattle.nona_graph.proofs.Pairs.{carried_same}
use Rattle.nona_graph.proofs.parts.carried.Goals as goal

pub returns : goal.returns
returns c =
    carried_same c.args.looped.now c.args.shape.now c.args.spots.now c.in_ok-arrays.arrays.items c.of.result c.requires.spots c.requires.shape c.in_ok-arrays.ensures c.of.ensures
