use Rattle.nona_tree.proofs.Keeps.{SameArrays, arrays_kept, run_kept, all_kept, turns_kept}
use Rattle.nona_tree.proofs.laws.lengths_stay.Goals as goal

pub returns-clause-one : goal.returns-clause-one
returns-clause-one c = run_kept SameArrays arrays_kept

pub returns-clause-all : goal.returns-clause-all
returns-clause-all c = all_kept SameArrays arrays_kept

pub returns-clause-turns : goal.returns-clause-turns
returns-clause-turns c = turns_kept SameArrays arrays_kept
