use Rattle.std.proofs.Common.{◌<◌, length, ◌∙◌, arith}
use Rattle.nona_check.proofs.KnownNames.{one_less, first_left}
use Rattle.nona_check.proofs.names.Names.cut.Goals as goal

pub loop-newest-preserved : goal.loop-newest-preserved
loop-newest-preserved c =
    let below : c.loop-newest._newest < length c.args.self.now = omega (arith, c.loop-newest-test.true, c.count-newest-end.ensures) in (
      omega (arith, c.loop-newest.invariant.0),
      omega (arith, below),
      one_less c.args.self.now c.loop-newest.self _ c.loop-newest._newest c.args.count c.loop-newest.invariant.0 below c.loop-newest.invariant.2 c.drop_newest.ensures,
    )

pub returns : goal.returns
returns c =
    c.loop-newest.invariant.2
    ∙ first_left c.args.self.now c.loop-newest._newest c.args.count c.loop-newest.invariant.0 (omega (arith, c.loop-newest-test.false, c.count-newest-end.ensures)) c.loop-newest.invariant.1
