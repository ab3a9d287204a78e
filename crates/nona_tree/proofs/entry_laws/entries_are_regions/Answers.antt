use Rattle.nona_tree.proofs.Regions.{entries_of_regions}
use Rattle.nona_tree.proofs.entry_laws.entries_are_regions.Goals as goal

pub returns : goal.returns
returns c = entries_of_regions
