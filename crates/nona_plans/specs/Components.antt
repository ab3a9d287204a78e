-- The strongly connected components of a dependence graph: units between which walks lead both ways.
use Rattle.std.specs.Prelude.{ℕ, zero, suc, Bool, false, ◌&&◌, ◌||◌, if◌then◌else◌, List, [], ◌∷◌, ◌++◌, filter}
use Rattle.nona_plans.specs.declared.graphs.Tie.{Tie}
use Rattle.nona_plans.specs.declared.graphs.Component.{Component}
use Rattle.nona_plans.specs.declared.graphs.Graph.{Graph}
use Rattle.nona_forms.specs.Affine.{among}
use Rattle.nona_plans.specs.Walks.{are_together}

-- the numbers from 1 to n
abbrev pub up_to : ℕ → List ℕ
up_to zero = []
up_to (suc n) = up_to n ++ suc n ∷ []

-- whether a loop-carried tie joins two of these units, or one with itself
abbrev pub has_carried : List Tie → List ℕ → Bool
has_carried [] units = false
has_carried (t ∷ ties) units = (t.carried && (among t.first units && among t.second units)) || has_carried ties units

-- the component of a unit: all units that walks lead to and back from
abbrev pub component_of : Graph → ℕ → Component
component_of g u =
    let units = filter (are_together g.edges g.units u) (up_to g.units) in
    record { units = units; sequential = has_carried g.ties units }

-- whether a unit stands in one of these components
abbrev pub is_held : ℕ → List Component → Bool
is_held u [] = false
is_held u (c ∷ cs) = among u c.units || is_held u cs

-- the components of the units from 1 to n: each unit in turn begins its own, unless it stands in one already
abbrev pub components_to : Graph → ℕ → List Component
components_to g zero = []
components_to g (suc n) =
    let cs = components_to g n in if is_held (suc n) cs then cs else cs ++ component_of g (suc n) ∷ []

-- the components of a graph, in order of their least unit
abbrev pub components_of : Graph → List Component
components_of g = components_to g g.units
