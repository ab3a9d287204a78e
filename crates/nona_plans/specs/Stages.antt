-- The choice of stages from the components of a dependence graph.
use Rattle.std.specs.Prelude.{ℕ, zero, suc, ◌-◌, Bool, true, not, ◌&&◌, ◌||◌, if◌then◌else◌, List, [], ◌∷◌, ◌++◌, length, filter, Some, None}
use Rattle.std.specs.declared.option.Option.{Option}
use Rattle.nona_tree.specs.declared.plans.Stage.{Stage}
use Rattle.nona_plans.specs.declared.graphs.Component.{Component}
use Rattle.nona_plans.specs.declared.graphs.Graph.{Graph}
use Rattle.nona_forms.specs.Affine.{among}
use Rattle.nona_plans.specs.declared.limits.TheConstants.{STAGES}
use Rattle.nona_plans.specs.Components.{up_to, components_of}

-- whether each edge to one of the units comes from one of the sources
abbrev pub are_fed : List (ℕ × ℕ) → List ℕ → List ℕ → Bool
are_fed [] sources units = true
are_fed (e ∷ edges) sources units = (not (among e.1 units) || among e.0 sources) && are_fed edges sources units

-- a component is ready where each edge into it comes from it or from a unit that was placed
abbrev pub is_ready : Graph → List ℕ → Component → Bool
is_ready g placed c = are_fed g.edges (c.units ++ placed) c.units

-- whether two kinds are the same
abbrev pub same_kind : Bool → Bool → Bool
same_kind a b = if a then b else not b

-- the first component that passes a test, and all others
abbrev pub with_front : Component → Option (Component × List Component) → Option (Component × List Component)
with_front c None = None
with_front c (Some p) = Some (p.0, c ∷ p.1)

abbrev pub pick : (Component → Bool) → List Component → Option (Component × List Component)
pick test [] = None
pick test (c ∷ cs) = if test c then Some (c, cs) else with_front c (pick test cs)

-- goes on with a component that was picked and those that are left, or otherwise
abbrev pub on_picked : {A : Type 0} → Option (Component × List Component) → A → (Component → List Component → A) → A
on_picked None other go = other
on_picked (Some p) other go = go p.0 p.1

-- goes on with one stage less to open, or otherwise
abbrev pub on_room : {A : Type 0} → ℕ → A → (ℕ → A) → A
on_room zero other go = other
on_room (suc room) other go = go room

-- all units of these components
abbrev pub all_units : List Component → List ℕ
all_units [] = []
all_units (c ∷ cs) = c.units ++ all_units cs

-- a stage that a component begins, and one that it joins
abbrev pub begun_by : Component → Stage
begun_by c = record { sequential = c.sequential; units = c.units }

abbrev pub joined_by : Stage → Component → Stage
joined_by s c = record s { units = s.units ++ c.units }

-- a stage with its units in text order
abbrev pub in_order : Graph → Stage → Stage
in_order g s = record s { units = filter (λ u. among u s.units) (up_to g.units) }

-- the last stage, which takes all that is left
abbrev pub last_stage : Graph → List Component → List Stage
last_stage g left = in_order g (record { sequential = true; units = all_units left }) ∷ []

-- the next stages, where these units are placed: the first component that is ready opens one; where no other may be opened, or none
-- is ready, all that is left is the last stage
abbrev pub next_stages : Graph → ℕ → List ℕ → List Component → (ℕ → Component → List Component → List Stage) → List Stage
next_stages g room placed left go =
    on_room room (last_stage g left) (λ fewer. on_picked (pick (is_ready g placed) left) (last_stage g left) (go fewer))

-- the stages from the current one on, where these units are placed before it, so many more may be opened before the last one,
-- and k components are left: the first that is ready and of the stage's kind joins it; where there is none, the next stages
-- follow
abbrev pub stages_from : Graph → ℕ → ℕ → List ℕ → Stage → List Component → List Stage
stages_from g zero room placed s left = in_order g s ∷ []
stages_from g (suc k) room placed s left =
    on_picked (pick (λ c. same_kind s.sequential c.sequential && is_ready g (placed ++ s.units) c) left)
    (in_order g s ∷ next_stages g room (placed ++ s.units) left (λ fewer c rest. stages_from g k fewer (placed ++ s.units) (begun_by c) rest))
    (λ c rest. stages_from g k room placed (joined_by s c) rest)

-- the stages of a graph: the first is sequential and begins empty, and the last takes the rest
abbrev pub stages_of : Graph → List Stage
stages_of g =
    let cs = components_of g in stages_from g (length cs) (STAGES - 2) [] (record { sequential = true; units = [] }) cs
