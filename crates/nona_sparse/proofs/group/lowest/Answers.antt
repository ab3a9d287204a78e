use Rattle.std.specs.Int.{w64}
use Rattle.std.proofs.lemmas.Nat.Bits.{bit_at-trailing_zeros}
use Rattle.nona_sparse.proofs.group.lowest.Goals as goal

pub returns-clause-marked : goal.returns-clause-marked
returns-clause-marked c = (bit_at-trailing_zeros w64 c.args.marks c.requires c.ranges.marks.fits).1

pub returns-clause-least : goal.returns-clause-least
returns-clause-least c = (bit_at-trailing_zeros w64 c.args.marks c.requires c.ranges.marks.fits).2
