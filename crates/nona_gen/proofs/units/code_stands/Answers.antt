use Rattle.nona_gen.proofs.Standing.{unit_stands}
use Rattle.nona_gen.proofs.Keeping.{unit_sound}
use Rattle.nona_gen.proofs.units.code_stands.Goals as goal

pub returns-clause-stands : goal.returns-clause-stands
returns-clause-stands c = unit_stands

pub returns-clause-sound : goal.returns-clause-sound
returns-clause-sound c = unit_sound
