-- What stages must be, so that each iteration may go through them one after another while others are in other stages.
use Rattle.std.specs.Prelude.{◌≡◌, ◌⊎◌, ℕ, suc, ◌+◌, ◌≤◌, Bool, true, false, not, ◌||◌, if◌then◌else◌, List, [], ◌∷◌, length, All}
use Rattle.std.specs.List.{AllByRecursion}
use Rattle.std.specs.List.Sorted.{IsStrictlyIncreasing}
use Rattle.nona_tree.specs.declared.plans.Stage.{Stage}
use Rattle.nona_plans.specs.declared.graphs.Tie.{Tie}
use Rattle.nona_plans.specs.declared.graphs.Graph.{Graph}
use Rattle.nona_plans.specs.Walks.{has_edge, IsUnit}
use Rattle.nona_forms.specs.Affine.{among}
use Rattle.nona_plans.specs.declared.graphs.Component.{Component}
use Rattle.nona_plans.specs.declared.limits.TheConstants.{STAGES, PARALLEL}
use Rattle.nona_plans.specs.Components.{has_carried, component_of, is_held}

-- 1 where it holds, else 0
abbrev pub one_if : Bool → ℕ
one_if true = 1
one_if false = 0

-- in how many of the stages a unit stands
abbrev pub times_in : ℕ → List Stage → ℕ
times_in u [] = 0
times_in u (s ∷ stages) = one_if (among u s.units) + times_in u stages

-- the number from 0 of the first stage in which a unit stands
abbrev pub stage_of : ℕ → List Stage → ℕ
stage_of u [] = 0
stage_of u (s ∷ stages) = if among u s.units then 0 else suc (stage_of u stages)

-- how many of the stages are parallel
abbrev pub count_parallel : List Stage → ℕ
count_parallel [] = 0
count_parallel (s ∷ stages) = one_if (not s.sequential) + count_parallel stages

-- the first stage is sequential
abbrev pub BeginsSequential : List Stage → Type 0
BeginsSequential [] = ⊥
BeginsSequential (s ∷ stages) = s.sequential ≡ true

-- a stage is sequential, or the one behind it is
abbrev pub BreaksAfter : Stage → List Stage → Type 0
BreaksAfter s [] = Unit {0}
BreaksAfter s (r ∷ stages) = (s.sequential || r.sequential) ≡ true

-- no two neighbours are both parallel
abbrev pub NoNeighbours : List Stage → Type 0
NoNeighbours [] = Unit {0}
NoNeighbours (s ∷ stages) = BreaksAfter s stages × NoNeighbours stages

-- the units of a stage are units of the graph, in text order
abbrev pub IsInOrder : Graph → Stage → Type 0
IsInOrder g s = IsStrictlyIncreasing s.units × All (IsUnit g.units) s.units

-- a parallel stage doesn't hold both ends of a loop-carried tie
abbrev pub IsUntied : Graph → Stage → Type 0
IsUntied g s = s.sequential ≡ false → has_carried g.ties s.units ≡ false

-- lawful stages: each unit stands in one of them, in text order within it; the first is sequential; each edge leads to the same or a
-- later one; a parallel one holds no loop-carried tie; no two neighbours are parallel; and they are few
pub record AreLawful (g : Graph) (stages : List Stage) : Type 0 where
  pub once : (u : ℕ) → IsUnit g.units u → times_in u stages ≡ 1
  pub ordered : AllByRecursion (IsInOrder g) stages
  pub first : BeginsSequential stages
  pub forward : (i j : ℕ) → has_edge g.edges i j ≡ true → stage_of i stages ≤ stage_of j stages
  pub untied : AllByRecursion (IsUntied g) stages
  pub alone : NoNeighbours stages
  pub few : length stages ≤ STAGES
  pub few_parallel : count_parallel stages ≤ PARALLEL

-- two units are one, or edges lead both ways between them
abbrev pub AreJoined : Graph → ℕ → ℕ → Type 0
AreJoined g i j = (i ≡ j) ⊎ ((has_edge g.edges i j ≡ true) × (has_edge g.edges j i ≡ true))

-- each tie is between units of the graph, which it joins
abbrev pub AreTied : Graph → List Tie → Type 0
AreTied g [] = Unit {0}
AreTied g (t ∷ ties) = (AreJoined g t.first t.second × IsUnit g.units t.first × IsUnit g.units t.second) × AreTied g ties

-- a graph whose edges and ties are between its units
pub record IsGraph (g : Graph) : Type 0 where
  pub edges : (i j : ℕ) → has_edge g.edges i j ≡ true → IsUnit g.units i × IsUnit g.units j
  pub ties : AreTied g g.ties

-- a component of the graph is that of some unit
abbrev pub IsComponent : Graph → Component → Type 0
IsComponent g c = (u : ℕ) × IsUnit g.units u × (c ≡ component_of g u)

-- each edge to a unit of these components comes from one of them, or from a unit that was placed
abbrev pub AreClosed : Graph → List ℕ → List Component → Type 0
AreClosed g placed left =
    (i j : ℕ) → has_edge g.edges i j ≡ true → is_held j left ≡ true → (among i placed || is_held i left) ≡ true
