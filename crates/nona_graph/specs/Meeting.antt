-- Accesses of a loop that may meet, as the dependence test sees them.
use Rattle.std.specs.Prelude.{ℕ, ◌==◌, Bool, not, ◌&&◌, ◌||◌}
use Rattle.nona_forms.specs.declared.shapes.LoopShape.{LoopShape}
use Rattle.nona_forms.specs.declared.shapes.Spot.{Spot}
use Rattle.nona_forms.specs.Verdicts.{is_apart}

-- whether two accesses are of one array, one of them writes, and they aren't told apart
abbrev pub do_meet : LoopShape → Spot → Spot → Bool
do_meet shape x y = (x.array == y.array) && ((x.write || y.write) && not (is_apart shape x y))

-- the same of accesses of this array
abbrev pub meet_in : LoopShape → ℕ → Spot → Spot → Bool
meet_in shape a x y = (x.array == a) && ((y.array == a) && ((x.write || y.write) && not (is_apart shape x y)))
