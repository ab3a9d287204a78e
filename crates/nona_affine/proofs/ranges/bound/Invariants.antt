use Rattle.std.proofs.Common.{◌≡◌, drop}
use Rattle.nona_affine.specs.Steps.{range_among}
use Rattle.nona_affine.proofs.ranges.bound.Given as goal

abbrev pub invariant-loop-given : goal.invariant-loop-given
invariant-loop-given l = range_among l.bounds l.fn.id ≡ range_among (drop l.given-index l.bounds) l.fn.id
