use Rattle.nona_tree.proofs.EntryLaws.{after_one_more, after_stays}
use Rattle.nona_tree.proofs.entry_laws.after_next.Goals as goal

pub returns-clause-next : goal.returns-clause-next
returns-clause-next c = after_one_more

pub returns-clause-stays : goal.returns-clause-stays
returns-clause-stays c = after_stays
