use Rattle.std.proofs.Common.{arith}
use Rattle.nona_graph.proofs.ArrayEquations.{arrays-If, arrays-While, arrays-For, arrays_more}
use Rattle.nona_graph.proofs.touching.+stmt_arrays.Goals as goal

pub push_all_arrays-loop-s-preserved : goal.push_all_arrays-loop-s-preserved
push_all_arrays-loop-s-preserved t c =
    arrays_more c.args.stmts.now c.loop-s.s-index c.s-item.result c.args.arrays.now.items c.loop-s.arrays.items c.push_arrays.new.arrays.items (omega (arith, c.loop-s-test.true)) c.s-item.is c.loop-s.invariant c.in_ok-push_arrays.ensures

pub push_arrays-returns-in_ok-push_all_arrays-in-If-2 : goal.push_arrays-returns-in_ok-push_all_arrays-in-If-2
push_arrays-returns-in_ok-push_all_arrays-in-If-2 t c =
    let b = c.in-If in
    arrays-If c.args.s.now b.test b.yes b.no c.as_slice.result.now c.as_slice-in-If.result.now c.args.arrays.now.items c.push_expr-in-If.new.arrays.items c.push_all_arrays.new.arrays.items c.push_all_arrays-in-If.new.arrays.items b.is c.as_slice.ensures c.as_slice-in-If.ensures c.in_ok-push_expr-in-If.ensures c.in_ok-push_all_arrays-in-If.ensures c.in_ok-push_all_arrays-in-If-2.ensures

pub push_arrays-returns-in_ok-push_all_arrays-in-While : goal.push_arrays-returns-in_ok-push_all_arrays-in-While
push_arrays-returns-in_ok-push_all_arrays-in-While t c =
    let b = c.in-While in
    arrays-While c.args.s.now b.test b.body c.as_slice-in-While.result.now b.at c.args.arrays.now.items c.push_expr-in-While.new.arrays.items c.push_all_arrays-in-While.new.arrays.items b.is c.as_slice-in-While.ensures c.in_ok-push_expr-in-While.ensures c.in_ok-push_all_arrays-in-While.ensures

pub push_arrays-returns-in_ok-push_all_arrays-in-For : goal.push_arrays-returns-in_ok-push_all_arrays-in-For
push_arrays-returns-in_ok-push_all_arrays-in-For t c =
    arrays-For c.args.s.now c.in-For.l c.as_slice-in-For.result.now c.args.arrays.now.items c.push_expr-in-For.new.arrays.items c.push_expr-in-For-2.new.arrays.items c.push_all_arrays-in-For.new.arrays.items c.in-For.is c.as_slice-in-For.ensures c.in_ok-push_expr-in-For.ensures c.in_ok-push_expr-in-For-2.ensures c.in_ok-push_all_arrays-in-For.ensures
