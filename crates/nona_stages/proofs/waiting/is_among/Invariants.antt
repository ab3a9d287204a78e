use Rattle.std.proofs.Common.{◌≡◌, ◌||◌, drop}
use Rattle.nona_forms.specs.Affine.{among}
use Rattle.nona_stages.proofs.waiting.is_among.Given as goal

-- it is among all where it was found already or is among the others
abbrev pub invariant-loop-other : goal.invariant-loop-other
invariant-loop-other l = among l.unit l.units ≡ (l.found || among l.unit (drop l.other-index l.units))
