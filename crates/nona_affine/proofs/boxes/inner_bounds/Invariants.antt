use Rattle.std.proofs.Common.{◌≡◌, drop}
use Rattle.nona_forms.specs.Verdicts.{bounds_of}
use Rattle.nona_affine.proofs.boxes.inner_bounds.Given as goal

abbrev pub invariant-loop-l : goal.invariant-loop-l
invariant-loop-l l = bounds_of l.inner l.fn.id ≡ bounds_of (drop l.l-index l.inner) l.fn.id
