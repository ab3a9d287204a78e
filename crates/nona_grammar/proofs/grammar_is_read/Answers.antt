use Rattle.nona_grammar.proofs.Programs.{program_complete, program_sound, one_tree}
use Rattle.nona_grammar.proofs.grammar_is_read.Goals as goal

pub returns : goal.returns
returns c = record { complete = program_complete; sound = program_sound; one_tree = one_tree }
