-- What was picked, by its place in a list.
use Rattle.std.specs.Prelude.{ℕ, ◌+◌, List, [], ◌∷◌, ◌++◌, take, drop, slice_index_or, Some, None, false}
use Rattle.std.specs.declared.option.Option.{Option}
use Rattle.nona_plans.specs.declared.graphs.Component.{Component}
use Rattle.nona_plans.specs.Stages.{with_front}

-- a component with no unit
abbrev pub no_component : Component
no_component = record { units = []; sequential = false }

-- the component at a place, and all others
abbrev pub picked_at : Option ℕ → List Component → Option (Component × List Component)
picked_at None cs = None
picked_at (Some i) cs = Some (slice_index_or cs i no_component, take i cs ++ drop (i + 1) cs)

-- components before those that were left
abbrev pub with_fronts : List Component → Option (Component × List Component) → Option (Component × List Component)
with_fronts [] o = o
with_fronts (c ∷ cs) o = with_front c (with_fronts cs o)
