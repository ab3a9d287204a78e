use Rattle.std.proofs.Common.{arith}
use Rattle.nona_graph.proofs.TieSteps.{has_named}
use Rattle.nona_graph.proofs.tying.does_name.Goals as goal

pub returns-then-at-len : goal.returns-then-at-len
returns-then-at-len c =
    has_named c.args.looped.now c.args.parts.now.units.items c.deref.result.now c.args.unit c.args.id c.scalars_have.result c.deref.ensures.value c.requires.parts.units c.requires.unit (let h = c.if-at-len.true in let l = c.len.ensures in omega (arith, h, l)) c.scalars_have.ensures
