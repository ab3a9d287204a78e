use Rattle.nona_lex.proofs.Lexing.{lexemes_follow}
use Rattle.nona_lex.proofs.Spelled.{front_is_spelled}
use Rattle.nona_lex.proofs.Longest.{front_is_longest}
use Rattle.nona_lex.proofs.law.longest_match.Goals as goal

pub returns : goal.returns
returns c = record { spelled = front_is_spelled; longest = front_is_longest; onward = lexemes_follow }
