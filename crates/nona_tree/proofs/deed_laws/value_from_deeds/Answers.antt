use Rattle.nona_tree.proofs.Seen.{value_from_what_it_sees, deeds_from_what_it_sees}
use Rattle.nona_tree.proofs.deed_laws.value_from_deeds.Goals as goal

pub returns-clause-value : goal.returns-clause-value
returns-clause-value c = value_from_what_it_sees

pub returns-clause-deeds : goal.returns-clause-deeds
returns-clause-deeds c = deeds_from_what_it_sees
