use Rattle.nona_affine.proofs.PairLoops.{gcd_same}
use Rattle.nona_affine.proofs.arithmetic.gcd.Goals as goal

pub returns : goal.returns
returns c = gcd_same c.args.a c.args.b c.euclid.result (c.pair_laws.ensures.gcd c.args.a c.args.b) c.euclid.ensures
