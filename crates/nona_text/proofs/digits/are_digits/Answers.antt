use Rattle.std.proofs.Common.{◌∙◌}
use Rattle.nona_text.proofs.Numbers.{each_digit}
use Rattle.nona_text.proofs.digits.are_digits.Goals as goal

pub returns-in-len1-up : goal.returns-in-len1-up
returns-in-len1-up c = c.all_digits.ensures ∙ each_digit _ c.in-len1-up.len_at_least
