use Rattle.std.proofs.Common.{◌∙◌, arith}
use Rattle.nona_affine.proofs.ReferenceEquations.{spots-If, spots-While, spots-For, spots_more}
use Rattle.nona_affine.proofs.of_loop.+stmt_spots.Goals as goal

pub push_all-loop-s-preserved : goal.push_all-loop-s-preserved
push_all-loop-s-preserved t c = record {
  spots = spots_more c.args.stmts.now c.loop-s.s-index c.s-item.result c.args.names.now c.args.around.now c.loop-s.around c.args.spots.now.items c.loop-s.spots.items c.push_stmt.new.spots.items (omega (arith, c.loop-s-test.true)) c.s-item.is c.loop-s.invariant.around c.loop-s.invariant.spots c.in_ok-push_stmt.ensures.spots;
  around = c.in_ok-push_stmt.ensures.around ∙ c.loop-s.invariant.around;
}

pub push_loop-returns-clause-spots : goal.push_loop-returns-clause-spots
push_loop-returns-clause-spots t c =
    spots-For c.args.l.now c.as_slice.result.now c.args.names.now c.args.around.now c.enter.new.self c.args.spots.now.items c.push_expr.new.spots.items c.push_expr-2.new.spots.items c.push_all.new.spots.items c.as_slice.ensures c.in_ok-push_expr.ensures c.in_ok-push_expr-2.ensures c.in_ok-enter.ensures.indices c.in_ok-enter.ensures.loops c.in_ok-push_all.ensures.spots

pub push_stmt-returns-in_ok-push_all-in-If-2-clause-spots : goal.push_stmt-returns-in_ok-push_all-in-If-2-clause-spots
push_stmt-returns-in_ok-push_all-in-If-2-clause-spots t c =
    let b = c.in-If in
    spots-If c.args.s.now b.test b.yes b.no c.as_slice.result.now c.as_slice-in-If.result.now c.args.names.now c.args.around.now c.push_all.new.around c.args.spots.now.items c.push_expr-in-If.new.spots.items c.push_all.new.spots.items c.push_all-in-If.new.spots.items b.is c.as_slice.ensures c.as_slice-in-If.ensures c.in_ok-push_expr-in-If.ensures c.in_ok-push_all-in-If.ensures.spots c.in_ok-push_all-in-If.ensures.around c.in_ok-push_all-in-If-2.ensures.spots

pub push_stmt-returns-in_ok-push_all-in-While-clause-spots : goal.push_stmt-returns-in_ok-push_all-in-While-clause-spots
push_stmt-returns-in_ok-push_all-in-While-clause-spots t c =
    let b = c.in-While in
    spots-While c.args.s.now b.test b.body c.as_slice-in-While.result.now b.at c.args.names.now c.args.around.now c.args.spots.now.items c.push_expr-in-While.new.spots.items c.push_all-in-While.new.spots.items b.is c.as_slice-in-While.ensures c.in_ok-push_expr-in-While.ensures c.in_ok-push_all-in-While.ensures.spots
