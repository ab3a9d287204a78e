use Rattle.nona_tree.proofs.Named.{named_again}
use Rattle.nona_tree.proofs.entry_laws.regions_have_places.Goals as goal

pub returns : goal.returns
returns c = named_again
