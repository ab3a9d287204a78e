use Rattle.nona_lex.proofs.TokenNumbers.{tokens_fit}
use Rattle.nona_lex.proofs.law.tokens_are_i64.Goals as goal

pub returns : goal.returns
returns c = tokens_fit
