use Rattle.nona_text.proofs.Numbers.{within}
use Rattle.nona_text.proofs.law.numbers_are_within.Goals as goal

pub returns : goal.returns
returns c = within
