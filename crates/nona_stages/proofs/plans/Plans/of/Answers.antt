use Rattle.std.proofs.Common.{refl}
use Rattle.nona_stages.proofs.Places.{next_added}
use Rattle.nona_stages.proofs.plans.Plans.of.Goals as goal

pub regions-preserved : goal.regions-preserved
regions-preserved c =
    next_added c.regions.by_place c.add.new.by_place c.args.seen.now c.regions.passed _ c.index-seen-at.result refl c.regions-test.true c.index-seen-at.is c.in_ok-add.ensures c.regions.invariant
