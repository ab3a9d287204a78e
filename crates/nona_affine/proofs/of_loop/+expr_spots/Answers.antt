use Rattle.std.proofs.Common.{◌++◌}
use Rattle.nona_affine.proofs.ReferenceEquations.{spots-Cell, spots-Neg, spots-Not, spots-Binary}
use Rattle.nona_affine.proofs.of_loop.+expr_spots.Goals as goal

pub returns-in_ok-push_expr-in-Cell : goal.returns-in_ok-push_expr-in-Cell
returns-in_ok-push_expr-in-Cell t c =
    spots-Cell c.args.e.now c.in-Cell.place c.get-access.result.now (c.args.around.now.indices ++ c.args.names.now) c.args.around.now.loops c.args.spots.now.items c.push_spot.new.spots.items c.push_expr.new.spots.items c.in-Cell.is c.get-access.ensures c.in_ok-push_spot-in-Cell.ensures c.in_ok-push_expr-in-Cell.ensures

pub returns-in_ok-push_expr-in-Neg : goal.returns-in_ok-push_expr-in-Neg
returns-in_ok-push_expr-in-Neg t c =
    spots-Neg c.args.e.now c.in-Neg.part c.get.result.now (c.args.around.now.indices ++ c.args.names.now) c.args.around.now.loops c.args.spots.now.items c.push_expr-in-Neg.new.spots.items c.in-Neg.is c.get.ensures c.in_ok-push_expr-in-Neg.ensures

pub returns-in_ok-push_expr-in-Not : goal.returns-in_ok-push_expr-in-Not
returns-in_ok-push_expr-in-Not t c =
    spots-Not c.args.e.now c.in-Not.part c.get-in-Not.result.now (c.args.around.now.indices ++ c.args.names.now) c.args.around.now.loops c.args.spots.now.items c.push_expr-in-Not.new.spots.items c.in-Not.is c.get-in-Not.ensures c.in_ok-push_expr-in-Not.ensures

pub returns-in_ok-push_expr-in-Binary-2 : goal.returns-in_ok-push_expr-in-Binary-2
returns-in_ok-push_expr-in-Binary-2 t c =
    let b = c.in-Binary in
    spots-Binary c.args.e.now b.op b.at b.left b.right c.get-in-Binary.result.now c.get-in-Binary-2.result.now (c.args.around.now.indices ++ c.args.names.now) c.args.around.now.loops c.args.spots.now.items c.push_expr-in-Binary.new.spots.items c.push_expr-in-Binary-2.new.spots.items b.is c.get-in-Binary.ensures c.get-in-Binary-2.ensures c.in_ok-push_expr-in-Binary.ensures c.in_ok-push_expr-in-Binary-2.ensures
