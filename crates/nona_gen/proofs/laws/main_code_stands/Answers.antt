use Rattle.nona_gen.proofs.MainPlain.{main_plain}
use Rattle.nona_gen.proofs.MainStands.{program_stands}
use Rattle.nona_gen.proofs.Keeping.{program_sound}
use Rattle.nona_gen.proofs.laws.main_code_stands.Goals as goal

pub returns-clause-stands : goal.returns-clause-stands
returns-clause-stands c = program_stands

pub returns-clause-sound : goal.returns-clause-sound
returns-clause-sound c = program_sound

pub returns-clause-plain : goal.returns-clause-plain
returns-clause-plain c chosen s none first depth p = main_plain chosen first s depth p none
