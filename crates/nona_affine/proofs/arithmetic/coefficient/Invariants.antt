use Rattle.std.proofs.Common.{◌≡◌, ◌≤◌, ◌*◌, ◌^◌, ◌+ℤ◌, drop}
use Rattle.std.specs.Prelude.{unsigned_abs}
use Rattle.nona_forms.specs.Verdicts.{coefficient_of}
use Rattle.nona_affine.proofs.arithmetic.coefficient.Given as goal

abbrev pub invariant-loop-t : goal.invariant-loop-t
invariant-loop-t l = record {
  id : l.sum.id ≡ l.fn.id;
  sum : coefficient_of l.fn.id l.terms ≡ l.sum.coefficient +ℤ coefficient_of l.fn.id (drop l.t-index l.terms);
  small : unsigned_abs l.sum.coefficient ≤ l.t-index * 2 ^ 31;
}
