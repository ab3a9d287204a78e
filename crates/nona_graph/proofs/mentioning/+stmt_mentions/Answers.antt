use Rattle.std.proofs.Common.{arith}
use Rattle.nona_graph.proofs.MentionEquations.{mentions-If, mentions-While, mentions-For, mentions_more}
use Rattle.nona_graph.proofs.mentioning.+stmt_mentions.Goals as goal

pub push_all_mentions-loop-s-preserved : goal.push_all_mentions-loop-s-preserved
push_all_mentions-loop-s-preserved t c =
    mentions_more c.args.stmts.now c.loop-s.s-index c.s-item.result c.args.found.now.items c.loop-s.found.items c.push_mentions.new.found.items (omega (arith, c.loop-s-test.true)) c.s-item.is c.loop-s.invariant c.in_ok-push_mentions.ensures

pub push_mentions-returns-in_ok-push_all_mentions-in-If-2 : goal.push_mentions-returns-in_ok-push_all_mentions-in-If-2
push_mentions-returns-in_ok-push_all_mentions-in-If-2 t c =
    let b = c.in-If in
    mentions-If c.args.s.now b.test b.yes b.no c.as_slice.result.now c.as_slice-in-If.result.now c.args.found.now.items c.push_expr.new.found.items c.push_all_mentions.new.found.items c.push_all_mentions-in-If.new.found.items b.is c.as_slice.ensures c.as_slice-in-If.ensures c.in_ok-push_expr-in-If.ensures c.in_ok-push_all_mentions-in-If.ensures c.in_ok-push_all_mentions-in-If-2.ensures

pub push_mentions-returns-in_ok-push_all_mentions-in-While : goal.push_mentions-returns-in_ok-push_all_mentions-in-While
push_mentions-returns-in_ok-push_all_mentions-in-While t c =
    let b = c.in-While in
    mentions-While c.args.s.now b.test b.body c.as_slice-in-While.result.now b.at c.args.found.now.items c.push_expr-in-While.new.found.items c.push_all_mentions-in-While.new.found.items b.is c.as_slice-in-While.ensures c.in_ok-push_expr-in-While.ensures c.in_ok-push_all_mentions-in-While.ensures

pub push_mentions-returns-in_ok-push_all_mentions-in-For : goal.push_mentions-returns-in_ok-push_all_mentions-in-For
push_mentions-returns-in_ok-push_all_mentions-in-For t c =
    mentions-For c.args.s.now c.in-For.l c.as_slice-in-For.result.now c.args.found.now.items c.push.new.self.items c.push_expr-in-For.new.found.items c.push_expr-in-For-2.new.found.items c.push_all_mentions-in-For.new.found.items c.in-For.is c.as_slice-in-For.ensures c.in_ok-push-in-For.ensures.items c.in_ok-push_expr-in-For.ensures c.in_ok-push_expr-in-For-2.ensures c.in_ok-push_all_mentions-in-For.ensures
