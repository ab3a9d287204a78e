use Rattle.nona_tree.proofs.Overwritten.{same_faults, same_ids, same_size, same_nesting}
use Rattle.nona_tree.proofs.IdsNumbers.{same_numbers}
use Rattle.nona_tree.proofs.IdsPlaces.{same_places, ids_checked}
use Rattle.nona_tree.proofs.checked_laws.ids_settle.Goals as goal

pub returns-clause-faults : goal.returns-clause-faults
returns-clause-faults c = same_faults

pub returns-clause-ids : goal.returns-clause-ids
returns-clause-ids c = same_ids

pub returns-clause-size : goal.returns-clause-size
returns-clause-size c = same_size

pub returns-clause-nesting : goal.returns-clause-nesting
returns-clause-nesting c = same_nesting

pub returns-clause-checked : goal.returns-clause-checked
returns-clause-checked c = ids_checked

pub returns-clause-numbers : goal.returns-clause-numbers
returns-clause-numbers c = same_numbers

pub returns-clause-places : goal.returns-clause-places
returns-clause-places c = same_places
