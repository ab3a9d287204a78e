use Rattle.nona_fission.proofs.Partials.{partials_join, whole_joins}
use Rattle.nona_fission.proofs.laws.apart_partials_join.Goals as goal

pub returns-clause-partials : goal.returns-clause-partials
returns-clause-partials c = partials_join

pub returns-clause-whole : goal.returns-clause-whole
returns-clause-whole c = whole_joins
