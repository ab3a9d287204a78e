use Rattle.std.proofs.Common.{◌≡◌, ◌≤◌, ◌-◌, length, drop}
use Rattle.nona_forms.specs.Verdicts.{invariant_terms}
use Rattle.nona_affine.proofs.pairs.next_before.Given as goal

abbrev pub invariant-loop-place : goal.invariant-loop-place
invariant-loop-place l = record {
  within : l.place ≤ length l.terms;
  from : l.fn.from ≤ l.place;
  skipped : invariant_terms l.fn.index (drop l.fn.from l.terms) ≡ invariant_terms l.fn.index (drop l.place l.terms);
}

abbrev pub decreases-loop-place : goal.decreases-loop-place
decreases-loop-place l = length l.terms - l.place
