use Rattle.std.proofs.Common.{◌≡◌, ◌++◌, [], ◌-◌, drop}
use Rattle.nona_plans.specs.Plans.{links_from}
use Rattle.nona_stages.proofs.crossing.links.Given as goal

-- the links so far and those after the other stages are all
abbrev pub invariant-loop-at : goal.invariant-loop-at
invariant-loop-at l = l.links ++ links_from l.looped l.earlier (drop (l.at - 1) l.stages) ≡ links_from l.looped [] l.stages
