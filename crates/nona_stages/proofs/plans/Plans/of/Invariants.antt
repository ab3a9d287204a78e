use Rattle.std.proofs.Common.{◌-◌, drop, length}
use Rattle.nona_stages.specs.PlansInside.{AreIndexed}
use Rattle.nona_stages.proofs.plans.Plans.of.Given as goal

-- the places of what was passed have their indices
abbrev pub invariant-regions : goal.invariant-regions
invariant-regions l = AreIndexed l.by_place l.seen (drop (length l.seen - l.passed) l.seen)
