use Rattle.std.proofs.Common.{ap, sym, ◌∙◌}
use Rattle.nona_plans.specs.Stages.{is_ready}
use Rattle.nona_stages.proofs.Passing.{pick_found, pick_over, pick_none}
use Rattle.nona_stages.proofs.waiting.first_ready.Goals as goal

pub returns-then-can_be_placed-clause-first : goal.returns-then-can_be_placed-clause-first
returns-then-can_be_placed-clause-first c = c.loop-place.invariant ∙ pick_found (is_ready c.args.graph.now c.args.placed.now) c.args.left.now c.loop-place.place c.index-left-place.result c.loop-place-test.true
    (ap (is_ready c.args.graph.now c.args.placed.now) (sym c.index-left-place.is) ∙ sym c.can_be_placed.ensures ∙ c.if-can_be_placed.true)

pub loop-place-preserved : goal.loop-place-preserved
loop-place-preserved c = c.loop-place.invariant ∙ pick_over (is_ready c.args.graph.now c.args.placed.now) c.args.left.now c.loop-place.place c.index-left-place.result c.loop-place-test.true
    (ap (is_ready c.args.graph.now c.args.placed.now) (sym c.index-left-place.is) ∙ sym c.can_be_placed.ensures ∙ c.if-can_be_placed.false)

pub returns-clause-first : goal.returns-clause-first
returns-clause-first c = c.loop-place.invariant ∙ pick_none (is_ready c.args.graph.now c.args.placed.now) c.args.left.now c.loop-place.place c.loop-place-test.false
