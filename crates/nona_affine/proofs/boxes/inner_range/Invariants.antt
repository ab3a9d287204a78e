use Rattle.std.proofs.Common.{◌≡◌, ◌*◌, ◌^◌, true, take}
use Rattle.nona_forms.specs.Verdicts.{all_fixed, inner_box, inner_terms}
use Rattle.nona_affine.specs.Small.{IsSmallRange}
use Rattle.nona_affine.proofs.boxes.inner_range.Given as goal

abbrev pub invariant-loop-t : goal.invariant-loop-t
invariant-loop-t l = record {
  fixed : all_fixed l.inner (inner_terms l.fn.index (take l.t-index l.terms)) ≡ true;
  total : l.total ≡ inner_box l.inner (inner_terms l.fn.index (take l.t-index l.terms));
  small : IsSmallRange (l.t-index * 2 ^ 95) l.total;
}
