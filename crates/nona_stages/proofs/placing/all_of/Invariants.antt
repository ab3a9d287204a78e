use Rattle.std.proofs.Common.{◌≡◌, ◌++◌, drop}
use Rattle.nona_plans.specs.Stages.{all_units}
use Rattle.nona_stages.proofs.placing.all_of.Given as goal

abbrev pub invariant-loop-component : goal.invariant-loop-component
invariant-loop-component l = l.units ++ all_units (drop l.component-index l.components) ≡ all_units l.components
