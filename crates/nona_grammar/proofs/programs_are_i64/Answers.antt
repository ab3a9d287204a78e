use Rattle.nona_grammar.proofs.ProgramNumbers.{program_numbers}
use Rattle.nona_grammar.proofs.programs_are_i64.Goals as goal

pub returns : goal.returns
returns c = program_numbers
