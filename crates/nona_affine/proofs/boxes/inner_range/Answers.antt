use Rattle.std.proofs.Common.{◌*◌, ◌^◌, ◌∙◌, sym}
use Rattle.nona_affine.proofs.SmallRanges.{one_more, none_fixed, if_none, one_step}
use Rattle.nona_affine.proofs.boxes.inner_range.Goals as goal

pub returns-in-None-clause-range : goal.returns-in-None-clause-range
returns-in-None-clause-range c =
    if_none _ _ (none_fixed c.args.index c.args.inner.now c.args.terms.now c.loop-t.t-index _ c.loop-t.total c.loop-t-test.true (sym c.add_term.ensures.sum ∙ c.in-None.is))

pub loop-t-preserved : goal.loop-t-preserved
loop-t-preserved c =
    let step = one_more c.args.index c.args.inner.now c.args.terms.now c.loop-t.t-index _ c.loop-t.total c.in-Some.next c.loop-t-test.true c.loop-t.invariant.fixed c.loop-t.invariant.total (sym c.add_term.ensures.sum ∙ c.in-Some.is) in
    record { fixed = step.0; total = step.1; small = one_step c.loop-t.t-index c.in-Some.next (c.in-Some.ensures.small (c.loop-t.t-index * 2 ^ 95) c.loop-t.invariant.small) }
