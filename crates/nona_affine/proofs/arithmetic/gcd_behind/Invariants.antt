use Rattle.std.proofs.Common.{◌≡◌, drop}
use Rattle.nona_forms.specs.Verdicts.{inner_terms, gcd_terms}
use Rattle.nona_affine.proofs.arithmetic.gcd_behind.Given as goal

abbrev pub invariant-loop-t : goal.invariant-loop-t
invariant-loop-t l = gcd_terms l.fn.first (inner_terms l.fn.index l.terms) ≡ gcd_terms l.divisor (inner_terms l.fn.index (drop l.t-index l.terms))
