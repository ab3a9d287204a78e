use Rattle.std.proofs.Common.{drop, arith}
use Rattle.std.proofs.lemmas.List.{drop_all}
use Rattle.nona_gen.proofs.Imaging.{all_codes}
use Rattle.nona_gen.proofs.image.codes_of.Goals as goal

pub returns : goal.returns
returns c = all_codes _ (drop c.loop-s.s-index c.args.body.now) c.args.body.now (drop_all c.loop-s.s-index c.args.body.now (omega arith)) c.loop-s.invariant
