use Rattle.std.proofs.Common.{◌≡◌, take}
use Rattle.std.specs.Prelude.{map}
use Rattle.morta_task.specs.RegionView.{RegionView}
use Rattle.morta_task.proofs.image.places_of.Given as goal

-- the places so far are those of the regions so far
abbrev pub invariant-loop-region : goal.invariant-loop-region
invariant-loop-region l = l.places.items ≡ map (λ (region : RegionView). region.looped.at) (take l.region-index l.regions)
