use Rattle.nona_tree.proofs.Steady.{unassigned_stays, all_unassigned_stays}
use Rattle.nona_tree.proofs.entry_laws.unassigned_stays.Goals as goal

pub returns-clause-one : goal.returns-clause-one
returns-clause-one c = unassigned_stays

pub returns-clause-all : goal.returns-clause-all
returns-clause-all c = all_unassigned_stays
