use Rattle.std.proofs.Common.{refl}
use Rattle.nona_forms.proofs.Differing.{reached}
use Rattle.nona_forms.proofs.Division.{gcd_divides, divides_found}
use Rattle.nona_forms.proofs.Meanings.{multiple_some}
use Rattle.nona_forms.proofs.laws.pair_laws.Goals as goal

pub returns-clause-gcd : goal.returns-clause-gcd
returns-clause-gcd c = gcd_divides

pub returns-clause-multiples : goal.returns-clause-multiples
returns-clause-multiples c = λ g q. divides_found g _ (q, refl)

pub returns-clause-reached : goal.returns-clause-reached
returns-clause-reached c = λ fixed a d low high. reached fixed a d low high

pub returns-clause-reaches : goal.returns-clause-reaches
returns-clause-reaches c = multiple_some
