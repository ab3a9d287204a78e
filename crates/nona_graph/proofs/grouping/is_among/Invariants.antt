use Rattle.std.proofs.Common.{◌≡◌, ◌||◌, drop}
use Rattle.nona_forms.specs.Affine.{among}
use Rattle.nona_graph.proofs.grouping.is_among.Given as goal

abbrev pub invariant-loop-other : goal.invariant-loop-other
invariant-loop-other l = among l.unit l.units ≡ (l.found || among l.unit (drop l.other-index l.units))
