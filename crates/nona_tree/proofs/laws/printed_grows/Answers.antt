use Rattle.nona_tree.proofs.Keeps.{MorePrinted, printed_kept, run_kept, all_kept, turns_kept}
use Rattle.nona_tree.proofs.laws.printed_grows.Goals as goal

pub returns-clause-one : goal.returns-clause-one
returns-clause-one c = run_kept MorePrinted printed_kept

pub returns-clause-all : goal.returns-clause-all
returns-clause-all c = all_kept MorePrinted printed_kept

pub returns-clause-turns : goal.returns-clause-turns
returns-clause-turns c = turns_kept MorePrinted printed_kept
