use Rattle.std.proofs.Common.{◌≡◌, ◌++◌, length}
use Rattle.nona_affine.specs.Tallies.{AreUsed, terms_in}
use Rattle.nona_affine.proofs.sums.listed.Given as goal

abbrev pub invariant-loop-id : goal.invariant-loop-id
invariant-loop-id l = record {
  used : AreUsed l.sums;
  listed : l.terms.items ++ terms_in l.turned l.sums.entries ≡ terms_in l.turned l.fn.sums.entries;
}

abbrev pub decreases-loop-id : goal.decreases-loop-id
decreases-loop-id l = length l.sums.entries
