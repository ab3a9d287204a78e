use Rattle.nona_graph.proofs.MentionEquations.{mentions-Cell, mentions-Neg, mentions-Not, mentions-Binary}
use Rattle.nona_graph.proofs.mentioning.+expr_mentions.Goals as goal

pub returns-in_ok-push_expr-in-Cell : goal.returns-in_ok-push_expr-in-Cell
returns-in_ok-push_expr-in-Cell t c =
    mentions-Cell c.args.e.now c.in-Cell.place c.get.result.now c.args.found.now.items c.push_expr.new.found.items c.in-Cell.is c.get.ensures c.in_ok-push_expr-in-Cell.ensures

pub returns-in_ok-push_expr-in-Neg : goal.returns-in_ok-push_expr-in-Neg
returns-in_ok-push_expr-in-Neg t c =
    mentions-Neg c.args.e.now c.in-Neg.part c.get-in-Neg.result.now c.args.found.now.items c.push_expr-in-Neg.new.found.items c.in-Neg.is c.get-in-Neg.ensures c.in_ok-push_expr-in-Neg.ensures

pub returns-in_ok-push_expr-in-Not : goal.returns-in_ok-push_expr-in-Not
returns-in_ok-push_expr-in-Not t c =
    mentions-Not c.args.e.now c.in-Not.part c.get-in-Not.result.now c.args.found.now.items c.push_expr-in-Not.new.found.items c.in-Not.is c.get-in-Not.ensures c.in_ok-push_expr-in-Not.ensures

pub returns-in_ok-push_expr-in-Binary-2 : goal.returns-in_ok-push_expr-in-Binary-2
returns-in_ok-push_expr-in-Binary-2 t c =
    let b = c.in-Binary in
    mentions-Binary c.args.e.now b.op b.at b.left b.right c.get-in-Binary.result.now c.get-in-Binary-2.result.now c.args.found.now.items c.push_expr-in-Binary.new.found.items c.push_expr-in-Binary-2.new.found.items b.is c.get-in-Binary.ensures c.get-in-Binary-2.ensures c.in_ok-push_expr-in-Binary.ensures c.in_ok-push_expr-in-Binary-2.ensures
