use Rattle.std.proofs.Common.{◌++◌}
use Rattle.nona_guard.proofs.AskedEquations.{checks-Cell, checks-Neg, checks-Not, checks-Binary}
use Rattle.nona_guard.proofs.asking.+expr_checks.Goals as goal

pub returns-in_ok-push_expr-in-Cell : goal.returns-in_ok-push_expr-in-Cell
returns-in_ok-push_expr-in-Cell t c =
    checks-Cell c.args.e.now c.in-Cell.place c.get-access.result.now (c.args.inner.now ++ c.args.names.now) c.args.checks.now c.push_place.new.checks c.push_expr.new.checks c.in-Cell.is c.get-access.ensures c.in_ok-push_place-in-Cell.ensures c.in_ok-push_expr-in-Cell.ensures

pub returns-in_ok-push_expr-in-Neg : goal.returns-in_ok-push_expr-in-Neg
returns-in_ok-push_expr-in-Neg t c =
    checks-Neg c.args.e.now c.in-Neg.part c.get.result.now (c.args.inner.now ++ c.args.names.now) c.args.checks.now c.push_expr-in-Neg.new.checks c.in-Neg.is c.get.ensures c.in_ok-push_expr-in-Neg.ensures

pub returns-in_ok-push_expr-in-Not : goal.returns-in_ok-push_expr-in-Not
returns-in_ok-push_expr-in-Not t c =
    checks-Not c.args.e.now c.in-Not.part c.get-in-Not.result.now (c.args.inner.now ++ c.args.names.now) c.args.checks.now c.push_expr-in-Not.new.checks c.in-Not.is c.get-in-Not.ensures c.in_ok-push_expr-in-Not.ensures

pub returns-in_ok-push_expr-in-Binary-2 : goal.returns-in_ok-push_expr-in-Binary-2
returns-in_ok-push_expr-in-Binary-2 t c =
    let b = c.in-Binary in
    checks-Binary c.args.e.now b.op b.at b.left b.right c.get-in-Binary.result.now c.get-in-Binary-2.result.now (c.args.inner.now ++ c.args.names.now) c.args.checks.now c.push_expr-in-Binary.new.checks c.push_expr-in-Binary-2.new.checks b.is c.get-in-Binary.ensures c.get-in-Binary-2.ensures c.in_ok-push_expr-in-Binary.ensures c.in_ok-push_expr-in-Binary-2.ensures
