-- The plan of a loop, and what any plan must be so that each of its versions gives what one iteration after another gives.
use Rattle.std.specs.Prelude.{◌≡◌, ◌≢◌, ℕ, ◌≤◌, Bool, true, false, not, ◌&&◌, if◌then◌else◌, nat_le, List, [], ◌∷◌, ◌++◌, map, filter, length}
use Rattle.std.specs.List.{list_all, list_any, AllByRecursion}
use Rattle.nona_tree.specs.declared.trees.Loop.{Loop}
use Rattle.nona_tree.specs.declared.plans.Stage.{Stage}
use Rattle.nona_tree.specs.declared.plans.Plan.{Plan}
use Rattle.nona_forms.specs.Affine.{among}
use Rattle.nona_forms.specs.Calm.{is_calm}
use Rattle.nona_plans.specs.Components.{components_of}
use Rattle.nona_plans.specs.Stages.{stages_of}
use Rattle.nona_plans.specs.declared.limits.TheConstants.{CROSSING}
use Rattle.nona_plans.specs.Lawful.{AreLawful}
use Rattle.nona_plans.specs.Mentions.{prints}
use Rattle.nona_plans.specs.Units.{locals_of, uses, ties_of, graph_of}

-- all units of these stages
abbrev pub units_of : List Stage → List ℕ
units_of [] = []
units_of (s ∷ stages) = s.units ++ units_of stages

-- the ids of the never assigned locals that are declared in the one list of units and used in the other
abbrev pub crossing : Loop → List ℕ → List ℕ → List ℕ
crossing l earlier later =
    map (λ v. v.id) (filter (λ v. not v.assigned && (among v.unit earlier && list_any (uses l v) later)) (locals_of l))

-- those that cross the link after each stage but the last, where earlier units stand before these stages
abbrev pub links_from : Loop → List ℕ → List Stage → List (List ℕ)
links_from l earlier [] = []
links_from l earlier (s ∷ []) = []
links_from l earlier (s ∷ (r ∷ stages)) =
    crossing l (earlier ++ s.units) (r.units ++ units_of stages) ∷ links_from l (earlier ++ s.units) (r ∷ stages)

abbrev pub links_of : Loop → List Stage → List (List ℕ)
links_of l stages = links_from l [] stages

-- whether some stage is parallel
abbrev pub some_parallel : List Stage → Bool
some_parallel stages = list_any (λ s. not s.sequential) stages

-- whether few locals cross each link
abbrev pub are_narrow : List (List ℕ) → Bool
are_narrow links = list_all (λ ids. nat_le (length ids) CROSSING) links

-- a plan with no version, and one with these stages, where one of them is parallel and few locals cross each link
abbrev pub bare : Plan
bare = record { any = false; pipe = []; crossing = [] }

abbrev pub staged : Bool → List Stage → List (List ℕ) → Plan
staged any stages links =
    if some_parallel stages && are_narrow links then record { any = any; pipe = stages; crossing = links }
    else record { any = any; pipe = []; crossing = [] }

-- whether each task may take any iteration whole: no component is sequential and nothing prints
abbrev pub is_free : Loop → Bool
is_free l = not (list_any prints l.body) && not (list_any (λ c. c.sequential) (components_of (graph_of l)))

-- the plan of a loop
abbrev pub plan_of : Loop → Plan
plan_of l =
    if is_calm l then staged (is_free l) (stages_of (graph_of l)) (links_of l (stages_of (graph_of l))) else bare

-- few locals cross each link
abbrev pub IsNarrow : List (List ℕ) → Type 0
IsNarrow links = AllByRecursion (λ ids. length ids ≤ CROSSING) links

-- a lawful plan: it has versions only of a calm loop; work sharing where no tie is loop-carried and nothing prints; two or more lawful
-- stages, or none; and for each link the locals that cross it, which are few
pub record IsLawfulPlan (l : Loop) (p : Plan) : Type 0 where
  pub any_calm : p.any ≡ true → is_calm l ≡ true
  pub any_untied : p.any ≡ true → list_any (λ t. t.carried) (ties_of l) ≡ false
  pub any_silent : p.any ≡ true → list_any prints l.body ≡ false
  pub pipe_calm : p.pipe ≢ [] → is_calm l ≡ true
  pub stages : p.pipe ≢ [] → AreLawful (graph_of l) p.pipe
  pub two : p.pipe ≢ [] → 2 ≤ length p.pipe
  pub links : p.crossing ≡ links_of l p.pipe
  pub narrow : IsNarrow p.crossing
