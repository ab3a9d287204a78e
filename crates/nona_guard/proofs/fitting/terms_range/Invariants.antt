use Rattle.std.proofs.Common.{◌≡◌, ◌+◌, ◌*◌, ◌^◌, drop}
use Rattle.nona_affine.specs.Small.{IsSmallRange}
use Rattle.nona_forms.specs.Boxes.{box, sum_range}
use Rattle.nona_guard.specs.Checks.{ranges_by}
use Rattle.nona_guard.proofs.fitting.terms_range.Given as goal

abbrev pub invariant-loop-t : goal.invariant-loop-t
invariant-loop-t l = record {
  total : sum_range l.fn.start (box (ranges_by l.fn.index l.store l.bounds) l.terms) ≡ sum_range l.total (box (ranges_by l.fn.index l.store l.bounds) (drop l.t-index l.terms));
  small : IsSmallRange (2 ^ 64 + l.t-index * 2 ^ 95) l.total;
}
