use Rattle.std.proofs.Common.{arith}
use Rattle.nona_plans.specs.Plans.{links_of}
use Rattle.nona_stages.proofs.Linking.{links_whole}
use Rattle.nona_stages.proofs.crossing.links.Goals as goal

pub returns : goal.returns
returns c =
    let low = c.loop-at.auto.at in let end = c.loop-at.auto.at-end in let past = c.loop-at-test.false in
    links_whole c.args.looped.now c.loop-at.earlier c.loop-at.links (links_of c.args.looped.now c.args.stages.now) c.args.stages.now c.loop-at.at (omega (arith, low, end, past)) (omega (arith, low, end, past)) c.loop-at.invariant
