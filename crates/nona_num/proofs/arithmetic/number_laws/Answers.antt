use Rattle.std.proofs.lemmas.Int.{SFits-int_wrap}
use Rattle.std.specs.Int.{w64}
use Rattle.nona_num.proofs.NumberLaws.{wrapped_is_congruent, and_fits, or_fits, xor_fits, shr_fits, rem_fits}
use Rattle.nona_num.proofs.arithmetic.number_laws.Goals as goal

pub returns-clause-congruent : goal.returns-clause-congruent
returns-clause-congruent c = wrapped_is_congruent

pub returns-clause-wrapped_fits : goal.returns-clause-wrapped_fits
returns-clause-wrapped_fits c = SFits-int_wrap w64

pub returns-clause-and_fits : goal.returns-clause-and_fits
returns-clause-and_fits c = and_fits

pub returns-clause-or_fits : goal.returns-clause-or_fits
returns-clause-or_fits c = or_fits

pub returns-clause-xor_fits : goal.returns-clause-xor_fits
returns-clause-xor_fits c = xor_fits

pub returns-clause-shr_fits : goal.returns-clause-shr_fits
returns-clause-shr_fits c = shr_fits

pub returns-clause-rem_fits : goal.returns-clause-rem_fits
returns-clause-rem_fits c = rem_fits
