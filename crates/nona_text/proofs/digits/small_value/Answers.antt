use Rattle.std.proofs.Common.{arith}
use Rattle.nona_text.proofs.Numbers.{few_digits}
use Rattle.nona_text.proofs.digits.small_value.Goals as goal

pub returns : goal.returns
returns c = omega (arith, c.value.ensures, few_digits _ c.requires.digits c.requires.few)
