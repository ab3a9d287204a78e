use Rattle.nona_lex.proofs.Spread.{tokens_spread}
use Rattle.nona_lex.proofs.law.gaps_are_blank.Goals as goal

pub returns : goal.returns
returns c = tokens_spread
