use Rattle.nona_tree.proofs.EntryLaws.{loop_whole, loop_starved, loop_ended}
use Rattle.nona_tree.proofs.entry_laws.loop_is_after.Goals as goal

pub returns-clause-whole : goal.returns-clause-whole
returns-clause-whole c = loop_whole

pub returns-clause-starved : goal.returns-clause-starved
returns-clause-starved c = loop_starved

pub returns-clause-ended : goal.returns-clause-ended
returns-clause-ended c = loop_ended
