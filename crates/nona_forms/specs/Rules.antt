-- The dependence test as a table of rules, of which the first that answers counts.
use Rattle.std.specs.Prelude.{Bool, not, ◌&&◌, ◌||◌, if◌then◌else◌, ◌-ℤ◌, List, [], ◌∷◌, Some, None}
use Rattle.std.specs.List.{list_all}
use Rattle.std.specs.declared.option.Option.{Option}
use Rattle.nona_tree.specs.Value.{is_zero}
use Rattle.nona_forms.specs.declared.shapes.LoopShape.{LoopShape}
use Rattle.nona_forms.specs.declared.shapes.Spot.{Spot}
use Rattle.nona_forms.specs.declared.shapes.Verdict.{Verdict}
use Rattle.nona_forms.specs.declared.shapes.Verdict.TheVariants.{Apart, Maybe}
use Rattle.nona_forms.specs.declared.terms.Term.{Term}
use Rattle.nona_forms.specs.Affine.{Affine}
use Rattle.nona_forms.specs.Verdicts.{invariant_terms, inner_terms, coefficient_of, same_terms, some_empty, is_undivided, is_too_near, is_too_far}

-- a rule that answers so where this holds, and else leaves it to those behind it
abbrev pub answers : Bool → Verdict → Option Verdict
answers b v = if b then Some v else None

-- the invariant parts differ: nothing is known
abbrev pub invariants_rule : LoopShape → Affine → Affine → Option Verdict
invariants_rule shape f g = answers (not (same_terms (invariant_terms shape.index f.terms) (invariant_terms shape.index g.terms))) Maybe

-- the region, or an inner loop around one of the two, has constant bounds and no turn
abbrev pub empty_rule : LoopShape → Spot → Spot → Option Verdict
empty_rule shape x y = answers (some_empty shape x y) Apart

-- whether a coefficient is 0
abbrev pub is_nothing : Term → Bool
is_nothing t = is_zero t.coefficient

-- whether the coefficients of the region's index and of all inner indices are 0
abbrev pub has_no_index : LoopShape → Affine → Bool
has_no_index shape f = is_zero (coefficient_of shape.index f.terms) && list_all is_nothing (inner_terms shape.index f.terms)

-- no index occurs: the constants decide
abbrev pub constants_rule : LoopShape → Affine → Affine → Option Verdict
constants_rule shape f g =
    if has_no_index shape f && has_no_index shape g then Some (if is_zero (g.constant -ℤ f.constant) then Maybe else Apart) else None

-- the greatest common divisor of the coefficients of all indices doesn't divide the difference of the constants
abbrev pub divisor_rule : LoopShape → Affine → Affine → Option Verdict
divisor_rule shape f g = answers (is_undivided shape f g) Apart

-- the region's index has one coefficient in both, and no distance between two iterations makes up for the rest
abbrev pub distance_rule : LoopShape → Spot → Spot → Affine → Affine → Option Verdict
distance_rule shape x y f g = answers (is_too_near shape x y f g) Apart

-- the region's index has two coefficients, and the difference of the constants lies outside what all indices make
abbrev pub bounds_rule : LoopShape → Spot → Spot → Affine → Affine → Option Verdict
bounds_rule shape x y f g = answers (is_too_far shape x y f g) Apart

-- the rules on two forms, in order
abbrev pub rules_of : LoopShape → Spot → Spot → Affine → Affine → List (Option Verdict)
rules_of shape x y f g =
    invariants_rule shape f g ∷ empty_rule shape x y ∷ constants_rule shape f g
    ∷ divisor_rule shape f g ∷ distance_rule shape x y f g ∷ bounds_rule shape x y f g ∷ []

-- the first answer, and Maybe where no rule answers
abbrev pub first_answer : List (Option Verdict) → Verdict
first_answer [] = Maybe
first_answer (None ∷ rest) = first_answer rest
first_answer (Some v ∷ rest) = v

-- Maybe where one of the two has no form
abbrev pub answer_on : Option Affine → Option Affine → (Affine → Affine → Verdict) → Verdict
answer_on (Some f) (Some g) go = go f g
answer_on _ _ go = Maybe

-- what the table says of two accesses: Maybe where one of them is wrapped or has no form, else its first answer
abbrev pub verdict_by_rules : LoopShape → Spot → Spot → Verdict
verdict_by_rules shape x y =
    if x.wrap || y.wrap then Maybe else answer_on x.form y.form (λ f g. first_answer (rules_of shape x y f g))
