use Rattle.std.proofs.Common.{◌+◌, ◌++◌, ap, sym, ◌&&◌, ◌∙◌, drop}
use Rattle.nona_plans.specs.Stages.{are_fed}
use Rattle.nona_stages.proofs.Passing.{fed_next}
use Rattle.nona_stages.proofs.waiting.all_fed.Goals as goal

pub loop-edge-preserved : goal.loop-edge-preserved
loop-edge-preserved c =
    c.loop-edge.invariant
    ∙ fed_next c.loop-edge.fed c.args.edges.now c.loop-edge.edge-index _ c.args.units.now c.args.placed.now c.loop-edge-test.true
    ∙ ap (λ b. b && are_fed (drop (c.loop-edge.edge-index + 1) c.args.edges.now) (c.args.units.now ++ c.args.placed.now) c.args.units.now) (sym (c.are_both-fed.ensures ∙ ap (λ b. c.loop-edge.fed && b) c.is_fed.ensures))
