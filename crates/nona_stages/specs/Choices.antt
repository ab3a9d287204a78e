-- Stages that are being chosen, step by step.
use Rattle.std.specs.Prelude.{◌≡◌, ◌<◌, ◌&&◌, Bool, ℕ, ◌+◌, ◌-◌, true, List, [], ◌∷◌, ◌++◌, length, take, drop, slice_index_or}
use Rattle.nona_plans.specs.declared.graphs.Component.{Component}
use Rattle.nona_plans.specs.declared.graphs.Graph.{Graph}
use Rattle.nona_stages.specs.declared.placing.Choice.{Choice}
use Rattle.nona_tree.specs.declared.plans.Stage.{Stage}
use Rattle.nona_plans.specs.Stages.{is_ready, same_kind, all_units, begun_by, joined_by, in_order, stages_from}
use Rattle.nona_stages.specs.Picking.{no_component}

abbrev pub component_at : List Component → ℕ → Component
component_at cs i = slice_index_or cs i no_component

abbrev pub others_at : List Component → ℕ → List Component
others_at cs i = take i cs ++ drop (i + 1) cs

-- a component has joined the current stage
abbrev pub joined_choice : Choice → Component → List Component → Choice
joined_choice c x rest = record c { stage = joined_by c.stage x; left = rest }

-- the current stage has ended, and the next one is empty
abbrev pub closed_choice : Graph → Choice → Choice
closed_choice g c =
    record { done = c.done ++ in_order g c.stage ∷ []; placed = c.placed ++ c.stage.units; stage = record { sequential = true; units = [] }; room = c.room; left = c.left }

-- a component is the current stage
abbrev pub begun_choice : Choice → Component → List Component → Choice
begun_choice c x rest = record c { stage = begun_by x; room = c.room - 1; left = rest }

-- all that is left is the last stage
abbrev pub ended_choice : Choice → Choice
ended_choice c = record c { stage = record { sequential = true; units = all_units c.left }; left = [] }

-- the stages that come of it
abbrev pub come_of : Graph → Choice → List Stage
come_of g c = c.done ++ stages_from g (length c.left) c.room c.placed c.stage c.left

-- the test of the components that may join the current stage, and of those that may begin one
abbrev pub may_join : Graph → Choice → Component → Bool
may_join g c x = same_kind c.stage.sequential x.sequential && is_ready g (c.placed ++ c.stage.units) x

abbrev pub may_begin : Graph → Choice → Component → Bool
may_begin g c = is_ready g (c.placed ++ c.stage.units)

-- fewer components are left, and the same stages come of it
abbrev pub Steps : Graph → Choice → Choice → Type 0
Steps g c n = (come_of g n ≡ come_of g c) × (length n.left < length c.left)
