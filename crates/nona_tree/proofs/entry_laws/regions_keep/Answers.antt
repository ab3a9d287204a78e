use Rattle.nona_tree.proofs.InRegions.{steady_regions_all, numbers_regions_all, small_regions, numbered_regions}
use Rattle.nona_tree.proofs.entry_laws.regions_keep.Goals as goal

pub returns-clause-steady : goal.returns-clause-steady
returns-clause-steady c = steady_regions_all

pub returns-clause-numbers : goal.returns-clause-numbers
returns-clause-numbers c = numbers_regions_all

pub returns-clause-small : goal.returns-clause-small
returns-clause-small c = small_regions

pub returns-clause-few : goal.returns-clause-few
returns-clause-few c = numbered_regions
