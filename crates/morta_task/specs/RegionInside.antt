-- What a region keeps.
use Rattle.std.specs.Prelude.{◌≡◌}
use Rattle.nona_plans.specs.Units.{reductions_of}
use Rattle.nona_guard.specs.Guards.{IsGuardOf}
use Rattle.morta_task.specs.declared.regions.RegionCode.TheInside.{Inside}
use Rattle.morta_task.specs.RegionView.{RegionView}

-- a region, as contracts see it
abbrev pub region_of : Inside → RegionView
region_of a = record { looped = a.looped.value; plan = a.plan }

-- its units are the statements at the top of its loop's body, its place is that of the loop, and its guard and its reductions are the loop's
pub record IsRegion (a : Inside) : Type 0 where
  pub units : a.units.body ≡ a.looped.value.body
  pub place : a.place ≡ a.looped.value.at
  pub guard : IsGuardOf a.looped.value a.guard
  pub reductions : a.reductions.items ≡ reductions_of a.looped.value
