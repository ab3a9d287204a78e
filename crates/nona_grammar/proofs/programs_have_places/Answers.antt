use Rattle.nona_grammar.proofs.TokenPlaces.{tokens_rise}
use Rattle.nona_grammar.proofs.ProgramPlaces.{program_places}
use Rattle.nona_grammar.proofs.programs_have_places.Goals as goal

pub returns : goal.returns
returns c = record { rising = tokens_rise; places = program_places }
