use Rattle.morta_control.proofs.Keeping.{calibrated_keeps, optimised_keeps}
use Rattle.morta_control.proofs.laws.kept_is_the_greatest.Goals as goal

pub returns-clause-calibrated : goal.returns-clause-calibrated
returns-clause-calibrated c = λ workers e rates ticks same. calibrated_keeps workers e _ _ rates ticks same

pub returns-clause-optimised : goal.returns-clause-optimised
returns-clause-optimised c = λ workers half e best left rates some tick ticks same. optimised_keeps workers half e best left rates some tick ticks same
