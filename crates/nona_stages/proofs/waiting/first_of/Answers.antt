use Rattle.std.proofs.Common.{ap, sym, ◌&&◌, ◌∙◌}
use Rattle.nona_plans.specs.Stages.{is_ready, same_kind}
use Rattle.nona_stages.proofs.Passing.{pick_found, pick_over, pick_none}
use Rattle.nona_stages.proofs.waiting.first_of.Goals as goal

pub returns-then-can_join-clause-first : goal.returns-then-can_join-clause-first
returns-then-can_join-clause-first c = c.loop-place.invariant ∙ pick_found (λ x. same_kind c.args.kind x.sequential && is_ready c.args.graph.now c.args.placed.now x) c.args.left.now c.loop-place.place c.index-left-place.result c.loop-place-test.true
    (ap (λ x. same_kind c.args.kind x.sequential && is_ready c.args.graph.now c.args.placed.now x) (sym c.index-left-place.is) ∙ sym c.can_join.ensures ∙ c.if-can_join.true)

pub loop-place-preserved : goal.loop-place-preserved
loop-place-preserved c = c.loop-place.invariant ∙ pick_over (λ x. same_kind c.args.kind x.sequential && is_ready c.args.graph.now c.args.placed.now x) c.args.left.now c.loop-place.place c.index-left-place.result c.loop-place-test.true
    (ap (λ x. same_kind c.args.kind x.sequential && is_ready c.args.graph.now c.args.placed.now x) (sym c.index-left-place.is) ∙ sym c.can_join.ensures ∙ c.if-can_join.false)

pub returns-clause-first : goal.returns-clause-first
returns-clause-first c = c.loop-place.invariant ∙ pick_none (λ x. same_kind c.args.kind x.sequential && is_ready c.args.graph.now c.args.placed.now x) c.args.left.now c.loop-place.place c.loop-place-test.false
