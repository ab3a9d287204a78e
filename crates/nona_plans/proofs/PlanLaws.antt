-- The plan of a loop is lawful.
use Rattle.std.proofs.Common.{◌≡◌, ℕ, ◌≤◌, ◌&&◌, ◌||◌, not, Bool, true, false, List, [], ◌∷◌, length, nat_le, refl, ap, arith, if◌then◌else◌}
use Rattle.std.specs.List.{AllByRecursion, list_any}
use Rattle.nona_tree.specs.declared.trees.Loop.{Loop}
use Rattle.nona_tree.specs.declared.plans.Stage.{Stage}
use Rattle.nona_forms.specs.Calm.{is_calm}
use Rattle.nona_plans.specs.declared.graphs.Tie.{Tie}
use Rattle.nona_plans.specs.declared.graphs.Component.{Component}
use Rattle.nona_plans.specs.declared.graphs.Graph.{Graph}
use Rattle.nona_forms.specs.Affine.{among}
use Rattle.nona_plans.specs.Components.{components_of}
use Rattle.nona_plans.specs.declared.limits.TheConstants.{CROSSING}
use Rattle.nona_plans.specs.Stages.{stages_of}
use Rattle.nona_plans.specs.Lawful.{one_if, AreTied, IsGraph, AreLawful, BeginsSequential}
use Rattle.nona_plans.proofs.Leading.{both}
use Rattle.nona_plans.proofs.Choosing.{holders, has_first, IsFree}
use Rattle.nona_plans.proofs.Held.{held_once, all_free}
use Rattle.nona_plans.proofs.LawfulStages.{all_lawful}
use Rattle.nona_plans.specs.Mentions.{prints}
use Rattle.nona_plans.specs.Units.{ties_of, graph_of}
use Rattle.nona_plans.specs.Plans.{links_of, some_parallel, are_narrow, bare, staged, is_free, plan_of, IsLawfulPlan, IsNarrow}
use Rattle.nona_plans.proofs.BetweenUnits.{is_graph}

-- where no component is sequential, no tie is carried
not_true : (b : Bool) → not b ≡ true → b ≡ false
not_true true e = cc
not_true false e = refl

unheld_at : (u : ℕ) (c : Component) (cs : List Component) (b : Bool) → c.sequential ≡ b → (b || list_any (λ d. d.sequential) cs) ≡ false → (c.sequential ≡ false → among u c.units ≡ false) → (list_any (λ d. d.sequential) cs ≡ false → holders u cs ≡ 0)
    → holders u (c ∷ cs) ≡ 0
unheld_at u c cs true k e f h = cc
unheld_at u c cs false k e f h = let one = ap one_if (f k) in let more = h e in omega (arith, one, more)

unheld : (g : Graph) (u : ℕ) (cs : List Component) → AllByRecursion (IsFree g) cs → list_any (λ c. c.sequential) cs ≡ false → ((units : List ℕ) → has_first g.ties units ≡ false → among u units ≡ false) → holders u cs ≡ 0
unheld g u [] f e h = refl
unheld g u (c ∷ cs) f e h = unheld_at u c cs c.sequential refl e (λ k. h c.units (f.0 k)) (λ k. unheld g u cs f.1 k h)

first_false : (c a r : Bool) → c ≡ true → ((c && a) || r) ≡ false → a ≡ false
first_false true true r e h = cc
first_false true false r e h = refl
first_false false a r e h = cc

rest_false : (a r : Bool) → (a || r) ≡ false → r ≡ false
rest_false true r h = cc
rest_false false r h = h

none_carried_at : (t : Tie) (ties : List Tie) (b : Bool) → t.carried ≡ b → (t.carried ≡ true → ⊥) → list_any (λ x. x.carried) ties ≡ false → (b || list_any (λ x. x.carried) ties) ≡ false
none_carried_at t ties true e never h = absurd (never e)
none_carried_at t ties false e never h = h

none_carried : (g : Graph) → IsGraph g → list_any (λ c. c.sequential) (components_of g) ≡ false → (ties : List Tie) → AreTied g ties → ((units : List ℕ) → has_first g.ties units ≡ false → has_first ties units ≡ false)
    → list_any (λ t. t.carried) ties ≡ false
none_carried g is e [] h k = refl
none_carried g is e (t ∷ ties) h k =
    none_carried_at t ties t.carried refl
    (λ c. let zero = unheld g t.first (components_of g) (all_free g is) e (λ units f. first_false t.carried (among t.first units) (has_first ties units) c (k units f)) in let one = held_once g t.first h.0.1 in omega (arith, zero, one))
    (none_carried g is e ties h.1 (λ units f. rest_false (t.carried && among t.first units) (has_first ties units) (k units f)))

-- at most 8 locals cross each link
narrow : (links : List (List ℕ)) → are_narrow links ≡ true → IsNarrow links
narrow [] e = tt
narrow (ids ∷ links) e = narrow_at ids links (nat_le (length ids) CROSSING) refl e (narrow links)
  where
    narrow_at : (ids : List ℕ) (links : List (List ℕ)) (b : Bool) → nat_le (length ids) CROSSING ≡ b → (b && are_narrow links) ≡ true → (are_narrow links ≡ true → IsNarrow links) → IsNarrow (ids ∷ links)
    narrow_at ids links true k e h = (grind (arith, k), h e)
    narrow_at ids links false k e h = cc

-- the first is sequential, so where one is parallel there are two
two_stages : (stages : List Stage) → BeginsSequential stages → some_parallel stages ≡ true → 2 ≤ length stages
two_stages [] b e = absurd b
two_stages (s ∷ []) b e = two_at s.sequential b e
  where
    two_at : (q : Bool) → q ≡ true → (not q || false) ≡ true → 2 ≤ 1
    two_at true k h = cc
    two_at false k h = cc
two_stages (s ∷ (r ∷ stages)) b e = omega arith

-- a plan with stages, where they are lawful
pub record IsPart (l : Loop) (any : Bool) : Type 0 where
  pub calm : is_calm l ≡ true
  pub untied : any ≡ true → list_any (λ t. t.carried) (ties_of l) ≡ false
  pub silent : any ≡ true → list_any prints l.body ≡ false

staged_lawful : (l : Loop) (any : Bool) → IsPart l any → (stages : List Stage) → AreLawful (graph_of l) stages → (b : Bool) → (some_parallel stages && are_narrow (links_of l stages)) ≡ b
    → IsLawfulPlan l (if b then record { any = any; pipe = stages; crossing = links_of l stages } else record { any = any; pipe = []; crossing = [] })
staged_lawful l any h stages k true e =
    let two = both (some_parallel stages) (are_narrow (links_of l stages)) e in
    record { any_calm = λ x. h.calm; any_untied = h.untied; any_silent = h.silent; pipe_calm = λ x. h.calm; stages = λ x. k; two = (λ x. two_stages stages k.first two.0); links = refl; narrow = narrow (links_of l stages) two.1 }
staged_lawful l any h stages k false e =
    record { any_calm = λ x. h.calm; any_untied = h.untied; any_silent = h.silent; pipe_calm = λ x. h.calm; stages = λ x. absurd (x refl); two = (λ x. absurd (x refl)); links = refl; narrow = tt }

free_of : (l : Loop) → is_free l ≡ true → (list_any prints l.body ≡ false) × (list_any (λ c. c.sequential) (components_of (graph_of l)) ≡ false)
free_of l e =
    let two = both (not (list_any prints l.body)) (not (list_any (λ c. c.sequential) (components_of (graph_of l)))) e in
    (not_true (list_any prints l.body) two.0, not_true (list_any (λ c. c.sequential) (components_of (graph_of l))) two.1)

lawful_at : (l : Loop) (b : Bool) → is_calm l ≡ b → IsLawfulPlan l (if b then staged (is_free l) (stages_of (graph_of l)) (links_of l (stages_of (graph_of l))) else bare)
lawful_at l true e =
    let g = graph_of l in
    staged_lawful l (is_free l)
    (record { calm = e; untied = λ x. none_carried g (is_graph l) (free_of l x).1 (ties_of l) (is_graph l).ties (λ units f. f); silent = λ x. (free_of l x).0 })
    (stages_of g) (all_lawful g (is_graph l)) (some_parallel (stages_of g) && are_narrow (links_of l (stages_of g))) refl
lawful_at l false e =
    record { any_calm = λ x. cc; any_untied = λ x. cc; any_silent = λ x. cc; pipe_calm = λ x. absurd (x refl); stages = λ x. absurd (x refl); two = (λ x. absurd (x refl)); links = refl; narrow = tt }

pub lawful : (l : Loop) → IsLawfulPlan l (plan_of l)
lawful l = lawful_at l (is_calm l) refl
