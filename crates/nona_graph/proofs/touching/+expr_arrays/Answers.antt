use Rattle.nona_graph.proofs.ArrayEquations.{arrays-Cell, arrays-Neg, arrays-Not, arrays-Binary}
use Rattle.nona_graph.proofs.touching.+expr_arrays.Goals as goal

pub returns-in_ok-push_expr-in-Cell : goal.returns-in_ok-push_expr-in-Cell
returns-in_ok-push_expr-in-Cell t c =
    arrays-Cell c.args.e.now c.in-Cell.place c.get-access.result.now c.args.arrays.now.items c.push.new.self.items c.push_expr.new.arrays.items c.in-Cell.is c.get-access.ensures c.in_ok-push-in-Cell.ensures.items c.in_ok-push_expr-in-Cell.ensures

pub returns-in_ok-push_expr-in-Neg : goal.returns-in_ok-push_expr-in-Neg
returns-in_ok-push_expr-in-Neg t c =
    arrays-Neg c.args.e.now c.in-Neg.part c.get.result.now c.args.arrays.now.items c.push_expr-in-Neg.new.arrays.items c.in-Neg.is c.get.ensures c.in_ok-push_expr-in-Neg.ensures

pub returns-in_ok-push_expr-in-Not : goal.returns-in_ok-push_expr-in-Not
returns-in_ok-push_expr-in-Not t c =
    arrays-Not c.args.e.now c.in-Not.part c.get-in-Not.result.now c.args.arrays.now.items c.push_expr-in-Not.new.arrays.items c.in-Not.is c.get-in-Not.ensures c.in_ok-push_expr-in-Not.ensures

pub returns-in_ok-push_expr-in-Binary-2 : goal.returns-in_ok-push_expr-in-Binary-2
returns-in_ok-push_expr-in-Binary-2 t c =
    let b = c.in-Binary in
    arrays-Binary c.args.e.now b.op b.at b.left b.right c.get-in-Binary.result.now c.get-in-Binary-2.result.now c.args.arrays.now.items c.push_expr-in-Binary.new.arrays.items c.push_expr-in-Binary-2.new.arrays.items b.is c.get-in-Binary.ensures c.get-in-Binary-2.ensures c.in_ok-push_expr-in-Binary.ensures c.in_ok-push_expr-in-Binary-2.ensures
