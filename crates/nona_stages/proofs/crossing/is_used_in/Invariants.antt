use Rattle.std.proofs.Common.{◌≡◌, ◌||◌, drop}
use Rattle.std.specs.List.{list_any}
use Rattle.nona_plans.specs.Units.{uses}
use Rattle.nona_stages.proofs.crossing.is_used_in.Given as goal

-- it is used where one so far uses it, or one of the others
abbrev pub invariant-loop-unit : goal.invariant-loop-unit
invariant-loop-unit l = list_any (uses l.looped l.local) l.units ≡ (l.found || list_any (uses l.looped l.local) (drop l.unit-index l.units))
