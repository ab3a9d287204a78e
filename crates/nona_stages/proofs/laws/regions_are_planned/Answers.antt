use Rattle.nona_stages.proofs.Planned.{places_kept, plans_kept, all_parallel, parallel_is_calm}
use Rattle.nona_stages.proofs.laws.regions_are_planned.Goals as goal

pub returns-clause-places : goal.returns-clause-places
returns-clause-places c = places_kept

pub returns-clause-plans : goal.returns-clause-plans
returns-clause-plans c = plans_kept

pub returns-clause-parallel : goal.returns-clause-parallel
returns-clause-parallel c = λ p. all_parallel p.body

pub returns-clause-calm : goal.returns-clause-calm
returns-clause-calm c = parallel_is_calm
