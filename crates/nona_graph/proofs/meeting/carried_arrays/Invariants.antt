use Rattle.std.proofs.Common.{◌≡◌, ◌||◌, ℕ, drop}
use Rattle.nona_forms.specs.Affine.{among}
use Rattle.nona_plans.specs.Units.{has_pair}
use Rattle.nona_graph.specs.Meeting.{meet_in}
use Rattle.nona_graph.proofs.meeting.carried_arrays.Given as goal

-- an array has a pair where it was found already, or where it has one from the next access on
abbrev pub invariant-loop-at : goal.invariant-loop-at
invariant-loop-at l = (a : ℕ) → has_pair (meet_in l.shape a) l.spots ≡ (among a l.arrays.items || has_pair (meet_in l.shape a) (drop l.at l.spots))
