use Rattle.nona_lex.specs.Bounds.{tokens_of}
use Rattle.nona_parse.proofs.program.reads_one_tree.Goals as goal

pub returns : goal.returns
returns c = λ text p q a b. c.grammar_is_read.ensures.one_tree (tokens_of text).spots p q a.1 b.1
