use Rattle.std.proofs.Common.{◌++◌}
use Rattle.nona_graph.proofs.CalmEquations.{in-Cell, in-Neg, in-Not, in-Binary}
use Rattle.nona_graph.proofs.calmness.+expr_calm.Goals as goal

pub returns-in_ok-calm-in-Cell : goal.returns-in_ok-calm-in-Cell
returns-in_ok-calm-in-Cell t c =
    in-Cell c.args.e.now c.in-Cell.place c.get-access.result.now (c.args.inner.now ++ c.args.names.now) c.in_ok-plain-in-Cell.plain c.in_ok-calm-in-Cell.calm c.are_both.result c.in-Cell.is c.get-access.ensures c.in_ok-plain-in-Cell.ensures c.in_ok-calm-in-Cell.ensures c.are_both.ensures

pub returns-in_ok-calm-in-Neg : goal.returns-in_ok-calm-in-Neg
returns-in_ok-calm-in-Neg t c =
    in-Neg c.args.e.now c.in-Neg.part c.get.result.now (c.args.inner.now ++ c.args.names.now) c.in_ok-calm-in-Neg.calm c.in-Neg.is c.get.ensures c.in_ok-calm-in-Neg.ensures

pub returns-in_ok-calm-in-Not : goal.returns-in_ok-calm-in-Not
returns-in_ok-calm-in-Not t c =
    in-Not c.args.e.now c.in-Not.part c.get-in-Not.result.now (c.args.inner.now ++ c.args.names.now) c.in_ok-calm-in-Not.calm c.in-Not.is c.get-in-Not.ensures c.in_ok-calm-in-Not.ensures

pub returns-in_ok-second-in-Binary : goal.returns-in_ok-second-in-Binary
returns-in_ok-second-in-Binary t c =
    let b = c.in-Binary in
    in-Binary c.args.e.now b.op b.at b.left b.right c.get-in-Binary-2.result.now c.get-in-Binary-3.result.now c.get-in-Binary.result.now (c.args.inner.now ++ c.args.names.now) c.is_safe-safe.result c.in_ok-first-in-Binary.first c.in_ok-second-in-Binary.second c.are_both-in-Binary.result c.are_both-in-Binary-2.result b.is c.get-in-Binary.ensures c.get-in-Binary-2.ensures c.get-in-Binary-3.ensures c.is_safe-safe.ensures c.in_ok-first-in-Binary.ensures c.in_ok-second-in-Binary.ensures c.are_both-in-Binary.ensures c.are_both-in-Binary-2.ensures
