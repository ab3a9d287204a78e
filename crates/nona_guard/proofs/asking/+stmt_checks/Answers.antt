use Rattle.std.proofs.Common.{◌∙◌, arith}
use Rattle.nona_guard.proofs.AskedEquations.{checks-If, checks-For, checks_more}
use Rattle.nona_guard.proofs.asking.+stmt_checks.Goals as goal

pub push_all-loop-s-preserved : goal.push_all-loop-s-preserved
push_all-loop-s-preserved t c = record {
  checks = checks_more c.args.stmts.now c.loop-s.s-index c.s-item.result c.args.names.now c.args.inner.now c.loop-s.inner c.args.checks.now c.loop-s.checks c.push_stmt.new.checks (omega (arith, c.loop-s-test.true)) c.s-item.is c.loop-s.invariant.inner c.loop-s.invariant.checks c.in_ok-push_stmt.ensures.checks;
  inner = c.in_ok-push_stmt.ensures.inner ∙ c.loop-s.invariant.inner;
}

pub push_loop-returns-clause-checks : goal.push_loop-returns-clause-checks
push_loop-returns-clause-checks t c =
    checks-For c.args.l.now c.as_slice.result.now c.in_ok-low.low c.in_ok-high.high c.args.names.now c.args.inner.now c.push.new.self c.new-body.result c.push_all.new.checks c.args.checks.now c.push_turns.new.checks c.as_slice.ensures c.in_ok-low.ensures c.in_ok-high.ensures c.in_ok-push.ensures c.new-body.ensures c.in_ok-push_all.ensures.checks c.in_ok-push_turns.ensures

pub push_stmt-returns-in_ok-push_all-in-If-2-clause-checks : goal.push_stmt-returns-in_ok-push_all-in-If-2-clause-checks
push_stmt-returns-in_ok-push_all-in-If-2-clause-checks t c =
    let b = c.in-If in
    checks-If c.args.s.now b.test b.yes b.no c.as_slice.result.now c.as_slice-in-If.result.now c.args.names.now c.args.inner.now c.push_all.new.inner c.args.checks.now c.push_expr-in-If.new.checks c.push_all.new.checks c.push_all-in-If.new.checks b.is c.as_slice.ensures c.as_slice-in-If.ensures c.in_ok-push_expr-in-If.ensures c.in_ok-push_all-in-If.ensures.checks c.in_ok-push_all-in-If.ensures.inner c.in_ok-push_all-in-If-2.ensures.checks
