use Rattle.nona_tree.proofs.I64.{start_fits, value_fits, run_fits, all_fit, turns_fit}
use Rattle.nona_tree.proofs.laws.numbers_stay.Goals as goal

pub returns-clause-start : goal.returns-clause-start
returns-clause-start c = start_fits

pub returns-clause-value : goal.returns-clause-value
returns-clause-value c = value_fits

pub returns-clause-one : goal.returns-clause-one
returns-clause-one c = run_fits

pub returns-clause-all : goal.returns-clause-all
returns-clause-all c = all_fit

pub returns-clause-turns : goal.returns-clause-turns
returns-clause-turns c = turns_fit
