-- Stages of small graphs, computed by the definition.
use Rattle.std.proofs.Common.{◌≡◌, true, false, [], ◌∷◌, refl}
use Rattle.nona_plans.specs.declared.graphs.Graph.{Graph}
use Rattle.nona_plans.specs.Components.{components_of}
use Rattle.nona_plans.specs.Stages.{stages_of}

-- a chain of four units, of which the first and the third have a carried tie with themselves
chain : Graph
chain = record { units = 4; edges = (1, 2) ∷ (2, 3) ∷ (3, 4) ∷ []; ties = record { first = 1; second = 1; carried = true } ∷ record { first = 3; second = 3; carried = true } ∷ [] }

chain_stages : stages_of chain ≡ record { sequential = true; units = 1 ∷ [] } ∷ record { sequential = false; units = 2 ∷ [] } ∷ record { sequential = true; units = 3 ∷ [] } ∷ record { sequential = false; units = 4 ∷ [] } ∷ []
unfolding chain
chain_stages = refl

-- the first stage may stay empty
late : Graph
late = record { units = 2; edges = (1, 2) ∷ []; ties = record { first = 2; second = 2; carried = true } ∷ [] }

late_stages : stages_of late ≡ record { sequential = true; units = [] } ∷ record { sequential = false; units = 1 ∷ [] } ∷ record { sequential = true; units = 2 ∷ [] } ∷ []
unfolding late
late_stages = refl

-- two units that lead to each other are one component
abbrev pub ring : Graph
ring = record { units = 3; edges = (3, 1) ∷ (1, 3) ∷ (1, 2) ∷ []; ties = record { first = 1; second = 3; carried = false } ∷ [] }

pub ring_components : components_of ring ≡ record { units = 1 ∷ 3 ∷ []; sequential = false } ∷ record { units = 2 ∷ []; sequential = false } ∷ []
ring_components = refl
