use Rattle.std.proofs.Common.{◌≡◌, ◌+ℤ◌, ℕ, ℤ, length}
use Rattle.nona_affine.specs.Tallies.{AreUsed, signed, sum_at}
use Rattle.nona_affine.proofs.sums.pour.Given as goal

abbrev pub invariant-loop-id : goal.invariant-loop-id
invariant-loop-id l = record {
  into : AreUsed l.into;
  from : AreUsed l.from;
  total : (scalar : ℕ → ℤ) → sum_at scalar l.into.entries +ℤ signed l.turned (sum_at scalar l.from.entries) ≡ sum_at scalar l.fn.into.entries +ℤ signed l.turned (sum_at scalar l.fn.from.entries);
}

abbrev pub decreases-loop-id : goal.decreases-loop-id
decreases-loop-id l = length l.from.entries
