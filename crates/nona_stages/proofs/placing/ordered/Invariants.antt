use Rattle.std.proofs.Common.{◌≡◌, filter}
use Rattle.nona_forms.specs.Affine.{among}
use Rattle.nona_plans.specs.Components.{up_to}
use Rattle.nona_stages.proofs.placing.ordered.Given as goal

abbrev pub invariant-loop-unit : goal.invariant-loop-unit
invariant-loop-unit l = l.units ≡ filter (λ u. among u l.stage.units) (up_to l.unit)
