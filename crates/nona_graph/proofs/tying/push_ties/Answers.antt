use Rattle.std.proofs.Common.{arith}
use Rattle.nona_graph.proofs.TieSteps.{ties_next, ties_done}
use Rattle.nona_graph.proofs.tying.push_ties.Goals as goal

pub loop-v-preserved : goal.loop-v-preserved
loop-v-preserved c = ties_next c.args.looped.now c.args.u c.loop-v.v c.args.ties.now.items c.loop-v.ties.items c.push_tie.new.ties.items c.loop-v.invariant c.in_ok-push_tie.ensures

pub returns : goal.returns
returns c =
    ties_done c.args.looped.now c.args.u c.loop-v.v c.args.ties.now.items c.loop-v.ties.items c.loop-v.invariant
    (let a = c.loop-v-test.false in let b = c.loop-v.auto.v-end in let l = c.len-count.ensures in let few = c.requires.few in omega (arith, a, b, l, few))
