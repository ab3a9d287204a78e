use Rattle.std.proofs.Common.{◌≡◌, drop}
use Rattle.nona_affine.specs.Steps.{has_range}
use Rattle.nona_affine.proofs.ranges.is_given.Given as goal

abbrev pub invariant-loop-given : goal.invariant-loop-given
invariant-loop-given l = has_range l.bounds l.fn.id ≡ has_range (drop l.given-index l.bounds) l.fn.id
