use Rattle.nona_fission.proofs.Partials.{copies_join, whole_copies_join}
use Rattle.nona_fission.proofs.laws.apart_copies_join.Goals as goal

pub returns-clause-partials : goal.returns-clause-partials
returns-clause-partials c = copies_join

pub returns-clause-whole : goal.returns-clause-whole
returns-clause-whole c = whole_copies_join
