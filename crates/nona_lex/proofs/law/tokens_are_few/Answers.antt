use Rattle.nona_lex.proofs.Few.{tokens_few}
use Rattle.nona_lex.proofs.law.tokens_are_few.Goals as goal

pub returns : goal.returns
returns c = tokens_few
