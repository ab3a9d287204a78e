-- The accesses of a part of a body, inside some loops, as the dependence test sees them.
use Rattle.std.specs.Prelude.{ℕ, List, ◌++◌, map}
use Rattle.nona_forms.specs.declared.shapes.Spot.{Spot}
use Rattle.nona_forms.specs.References.{Reference}
use Rattle.nona_affine.specs.declared.around.Around.{Around}
use Rattle.nona_affine.specs.Lists.{spot_in}

-- accesses of a part, inside some loops, where these other scalars may occur
abbrev pub spots_in : List ℕ → Around → List Reference → List Spot
spots_in names around xs = map (spot_in (around.indices ++ names) around.loops) xs
