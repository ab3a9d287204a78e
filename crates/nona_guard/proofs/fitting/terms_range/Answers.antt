use Rattle.std.proofs.Common.{◌+◌, ◌*◌, ◌^◌, ◌∙◌, ap, sym, drop}
use Rattle.nona_forms.specs.Boxes.{box, sum_range}
use Rattle.nona_guard.specs.Checks.{ranges_by}
use Rattle.nona_guard.proofs.BoxLoops.{box_next, box_end, one_step}
use Rattle.nona_guard.proofs.fitting.terms_range.Goals as goal

pub loop-t-preserved : goal.loop-t-preserved
loop-t-preserved c =
    let ranges = ranges_by c.args.index c.args.store.now c.args.bounds.now in
    record {
      total = c.loop-t.invariant.total ∙ box_next c.loop-t.total ranges c.args.terms.now c.loop-t.t-index _ c.loop-t-test.true ∙ ap (λ r. sum_range r (box ranges (drop (c.loop-t.t-index + 1) c.args.terms.now))) (sym c.add-total.ensures.sum);
      small = one_step c.loop-t.t-index c.add-total.result (c.add-total.ensures.small (2 ^ 64 + c.loop-t.t-index * 2 ^ 95) c.loop-t.invariant.small);
    }

pub returns-clause-range : goal.returns-clause-range
returns-clause-range c =
    sym (c.loop-t.invariant.total ∙ box_end c.loop-t.total (ranges_by c.args.index c.args.store.now c.args.bounds.now) c.args.terms.now c.loop-t.t-index c.loop-t-test.false)
