use Rattle.nona_grammar.proofs.Sizes.{program_size}
use Rattle.nona_grammar.proofs.Nesting.{program_nesting}
use Rattle.nona_grammar.proofs.programs_are_small.Goals as goal

pub returns : goal.returns
returns c = record { size = program_size; nesting = program_nesting }
