use Rattle.nona_graph.proofs.CalmEquations.{in-If, in-For}
use Rattle.nona_graph.proofs.calmness.+stmt_calm.Goals as goal

pub is_calm_loop-returns-clause-calm : goal.is_calm_loop-returns-clause-calm
is_calm_loop-returns-clause-calm t c =
    in-For c.args.l.now c.as_slice.result.now c.args.names.now c.args.inner.now c.push.new.self c.in_ok-low.low c.in_ok-high.high c.in_ok-body.body c.are_both.result c.are_both-2.result c.as_slice.ensures c.in_ok-low.ensures c.in_ok-high.ensures c.in_ok-push.ensures c.in_ok-body.ensures.calm c.are_both.ensures c.are_both-2.ensures

pub is_calm_stmt-returns-in_ok-second-in-If-clause-calm : goal.is_calm_stmt-returns-in_ok-second-in-If-clause-calm
is_calm_stmt-returns-in_ok-second-in-If-clause-calm t c =
    let b = c.in-If in
    in-If c.args.s.now b.test b.yes b.no c.as_slice.result.now c.as_slice-in-If.result.now c.args.names.now c.args.inner.now c.is_calm_all.new.inner c.in_ok-tested-in-If.tested c.in_ok-first-in-If.first c.in_ok-second-in-If.second c.are_both.result c.are_both-in-If.result b.is c.as_slice.ensures c.as_slice-in-If.ensures c.in_ok-tested-in-If.ensures c.in_ok-first-in-If.ensures.calm c.in_ok-first-in-If.ensures.inner c.in_ok-second-in-If.ensures.calm c.are_both.ensures c.are_both-in-If.ensures
