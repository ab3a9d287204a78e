use Rattle.std.proofs.Common.{drop}
use Rattle.nona_gen.proofs.Imaging.{AreFirst}
use Rattle.nona_gen.proofs.image.codes_of.Given as goal

-- the codes so far stand for the first statements
abbrev pub invariant-loop-s : goal.invariant-loop-s
invariant-loop-s l = AreFirst l.codes.items (drop l.s-index l.body) l.body
