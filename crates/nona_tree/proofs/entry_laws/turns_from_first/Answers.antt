use Rattle.nona_tree.proofs.FromFirst.{turns_from_first_on, gives_from_first_on}
use Rattle.nona_tree.proofs.entry_laws.turns_from_first.Goals as goal

pub returns-clause-turns : goal.returns-clause-turns
returns-clause-turns c = turns_from_first_on

pub returns-clause-entries : goal.returns-clause-entries
returns-clause-entries c = gives_from_first_on

pub returns-clause-deeds : goal.returns-clause-deeds
returns-clause-deeds c = gives_from_first_on
