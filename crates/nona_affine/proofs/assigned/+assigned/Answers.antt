use Rattle.std.proofs.Common.{arith}
use Rattle.nona_affine.proofs.AssignedEquations.{assigned_if, assigned_while, assigned_for, assigned_more}
use Rattle.nona_affine.proofs.assigned.+assigned.Goals as goal

pub push_all_assigned-loop-s-preserved : goal.push_all_assigned-loop-s-preserved
push_all_assigned-loop-s-preserved t c =
    assigned_more c.args.stmts.now c.loop-s.s-index c.s-item.result c.args.ids.now.items c.loop-s.ids.items c.push_assigned.new.ids.items (omega (arith, c.loop-s-test.true)) c.s-item.is c.loop-s.invariant c.in_ok-push_assigned.ensures

pub push_assigned-returns-in_ok-push_all_assigned-in-If-2 : goal.push_assigned-returns-in_ok-push_all_assigned-in-If-2
push_assigned-returns-in_ok-push_all_assigned-in-If-2 t c =
    let b = c.in-If in
    assigned_if c.args.s.now b.test b.yes b.no c.as_slice.result.now c.as_slice-in-If.result.now c.args.ids.now.items c.push_all_assigned.new.ids.items c.push_all_assigned-in-If.new.ids.items b.is c.as_slice.ensures c.as_slice-in-If.ensures c.in_ok-push_all_assigned-in-If.ensures c.in_ok-push_all_assigned-in-If-2.ensures

pub push_assigned-returns-in_ok-push_all_assigned-in-While : goal.push_assigned-returns-in_ok-push_all_assigned-in-While
push_assigned-returns-in_ok-push_all_assigned-in-While t c =
    let b = c.in-While in
    assigned_while c.args.s.now b.test b.body c.as_slice-in-While.result.now b.at c.args.ids.now.items c.push_all_assigned-in-While.new.ids.items b.is c.as_slice-in-While.ensures c.in_ok-push_all_assigned-in-While.ensures

pub push_assigned-returns-in_ok-push_all_assigned-in-For : goal.push_assigned-returns-in_ok-push_all_assigned-in-For
push_assigned-returns-in_ok-push_all_assigned-in-For t c =
    assigned_for c.args.s.now c.in-For.l c.as_slice-in-For.result.now c.args.ids.now.items c.push_all_assigned-in-For.new.ids.items c.in-For.is c.as_slice-in-For.ensures c.in_ok-push_all_assigned-in-For.ensures
