use Rattle.nona_store.proofs.Overlaying.{covered, as_long}
use Rattle.nona_store.proofs.laws.overlays_cover.Goals as goal

pub returns-clause-cell : goal.returns-clause-cell
returns-clause-cell c = covered

pub returns-clause-length : goal.returns-clause-length
returns-clause-length c = as_long
