use Rattle.std.specs.Int.{w64}
use Rattle.std.proofs.lemmas.Nat.Bits.{bit_at_clear_same, bit_at_clear_other}
use Rattle.nona_sparse.proofs.group.without_mark.Goals as goal

pub returns-clause-unmarked : goal.returns-clause-unmarked
returns-clause-unmarked c = bit_at_clear_same w64 c.args.marks c.args.place c.requires

pub returns-clause-others : goal.returns-clause-others
returns-clause-others c = λ q within differs. bit_at_clear_other w64 c.args.marks c.args.place c.requires q within differs
