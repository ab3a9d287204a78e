-- Each unit stands in one component, and a parallel one has no end of a carried tie.
use Rattle.std.proofs.Common.{◌≡◌, ◌⊎◌, ⊎_elim, ℕ, zero, suc, ◌+◌, ◌≤◌, ◌==◌, ◌&&◌, ◌||◌, Bool, true, false, List, [], ◌∷◌, ◌++◌, refl, sym, ap, ◌∙◌, subst, arith, if◌then◌else◌}
use Rattle.std.specs.List.{AllByRecursion}
use Rattle.nona_plans.specs.declared.graphs.Tie.{Tie}
use Rattle.nona_plans.specs.declared.graphs.Component.{Component}
use Rattle.nona_plans.specs.declared.graphs.Graph.{Graph}
use Rattle.nona_plans.specs.Walks.{has_edge, IsUnit, leads, are_together}
use Rattle.nona_forms.specs.Affine.{among}
use Rattle.nona_plans.specs.Components.{up_to, has_carried, component_of, is_held, components_to, components_of}
use Rattle.nona_plans.specs.Lawful.{one_if, AreTied, IsGraph}
use Rattle.nona_plans.proofs.Leading.{same_units, or_left, or_right, both, and_both, leads_self, leads_edge, meeting}
use Rattle.nona_plans.proofs.Lists.{or_false, among_filter, unit_among, among_unit, and_true}
use Rattle.nona_plans.proofs.Choosing.{by_either, holders, has_first, IsFree}

-- to be together is to be equal in kind
pub together_self : (g : Graph) (u : ℕ) → are_together g.edges g.units u u ≡ true
together_self g u = and_both (leads g.edges g.units u u) _ (leads_self g.edges g.units u) (leads_self g.edges g.units u)

pub together_turned : (g : Graph) (u v : ℕ) → are_together g.edges g.units u v ≡ true → are_together g.edges g.units v u ≡ true
together_turned g u v e =
    let two = both (leads g.edges g.units u v) (leads g.edges g.units v u) e in and_both (leads g.edges g.units v u) _ two.1 two.0

pub together_joined : (g : Graph) (u v w : ℕ) → IsUnit g.units v → are_together g.edges g.units u v ≡ true → are_together g.edges g.units v w ≡ true → are_together g.edges g.units u w ≡ true
together_joined g u v w unit e f =
    let a = both (leads g.edges g.units u v) (leads g.edges g.units v u) e in
    let b = both (leads g.edges g.units v w) (leads g.edges g.units w v) f in
    and_both (leads g.edges g.units u w) _ (meeting g.edges g.units v u w unit.0 unit.1 a.0 b.0) (meeting g.edges g.units v w u unit.0 unit.1 b.1 a.1)

-- a unit is in the component of another where they are together
pub in_component : (g : Graph) (r u : ℕ) → IsUnit g.units u → among u (component_of g r).units ≡ are_together g.edges g.units r u
in_component g r u unit =
    among_filter (are_together g.edges g.units r) u (up_to g.units) ∙ and_true (are_together g.edges g.units r u) (among u (up_to g.units)) (unit_among g.units u unit)

pub component_unit : (g : Graph) (r u : ℕ) → among u (component_of g r).units ≡ true → IsUnit g.units u
component_unit g r u e =
    among_unit g.units u (both (are_together g.edges g.units r u) (among u (up_to g.units)) (sym (among_filter (are_together g.edges g.units r) u (up_to g.units)) ∙ e)).1

-- a component is that of some unit
abbrev pub IsMade : Graph → Component → Type 0
IsMade g c = (r : ℕ) × IsUnit g.units r × (c ≡ component_of g r)

made_with : (g : Graph) (c : Component) (u v : ℕ) → IsMade g c → IsUnit g.units u → IsUnit g.units v → are_together g.edges g.units u v ≡ true → among u c.units ≡ true → among v c.units ≡ true
made_with g c u v (r, unit, is) a b e h =
    let same : (x : ℕ) → IsUnit g.units x → among x c.units ≡ are_together g.edges g.units r x = (λ x k. ap (λ d. among x d.units) is ∙ in_component g r x k) in
    same v b ∙ together_joined g r u v a (sym (same u a) ∙ h) e

held_with : (g : Graph) (cs : List Component) (u v : ℕ) → AllByRecursion (IsMade g) cs → IsUnit g.units u → IsUnit g.units v → are_together g.edges g.units u v ≡ true → is_held u cs ≡ true → is_held v cs ≡ true
held_with g [] u v m a b e h = cc
held_with g (c ∷ cs) u v m a b e h =
    by_either (among u c.units) (is_held u cs) h
    (λ k. or_left (among v c.units) (is_held v cs) (made_with g c u v m.0 a b e k))
    (λ k. or_right (among v c.units) (is_held v cs) (held_with g cs u v m.1 a b e k))

-- held is to be in at least one
some_held : (u : ℕ) (cs : List Component) → is_held u cs ≡ true → 1 ≤ holders u cs
some_held u [] e = cc
some_held u (c ∷ cs) e = by_either (among u c.units) (is_held u cs) e (λ k. let one = ap one_if k in omega (arith, one)) (λ k. let more = some_held u cs k in omega (arith, more))

none_one : (a b : Bool) (h : ℕ) → (a || b) ≡ false → (b ≡ false → h ≡ 0) → one_if a + h ≡ 0
none_one true b h e k = cc
none_one false b h e k = let z = k e in omega (arith, z)

none_held : (u : ℕ) (cs : List Component) → is_held u cs ≡ false → holders u cs ≡ 0
none_held u [] e = refl
none_held u (c ∷ cs) e = none_one (among u c.units) (is_held u cs) (holders u cs) e (none_held u cs)

held_push : (u : ℕ) (cs : List Component) (c : Component) → is_held u (cs ++ c ∷ []) ≡ (is_held u cs || among u c.units)
held_push u [] c = or_false (among u c.units)
held_push u (d ∷ cs) c = ap (λ b. among u d.units || b) (held_push u cs c) ∙ sym (three (among u d.units) (is_held u cs) (among u c.units))
  where
    three : (x y z : Bool) → ((x || y) || z) ≡ (x || (y || z))
    three true y z = refl
    three false y z = refl

holders_push : (u : ℕ) (cs : List Component) (c : Component) → holders u (cs ++ c ∷ []) ≡ holders u cs + one_if (among u c.units)
holders_push u [] c = omega arith
holders_push u (d ∷ cs) c = let more = holders_push u cs c in omega (arith, more)

made_push : (g : Graph) (cs : List Component) (c : Component) → AllByRecursion (IsMade g) cs → IsMade g c → AllByRecursion (IsMade g) (cs ++ c ∷ [])
made_push g [] c m k = (k, tt)
made_push g (d ∷ cs) c m k = (m.0, made_push g cs c m.1 k)

-- the components of the units from 1 to m
pub record AreSome (g : Graph) (m : ℕ) (cs : List Component) : Type 0 where
  pub held : (u : ℕ) → IsUnit m u → is_held u cs ≡ true
  pub once : (u : ℕ) → IsUnit g.units u → holders u cs ≤ 1
  pub made : AllByRecursion (IsMade g) cs

up_last : (m u : ℕ) (P : ℕ → Type 0) (same : Bool) → (u == suc m) ≡ same → IsUnit (suc m) u → (IsUnit m u → P u) → P (suc m) → P u
up_last m u P true e unit h k = subst P (sym (same_units u (suc m) e)) k
up_last m u P false e unit h k = h ((omega (arith, unit)), grind (arith, e, unit))

still_once : (a b : Bool) (h : ℕ) → (a ≡ true → b ≡ true → ⊥) → (a ≡ false → h ≡ 0) → h ≤ 1 → h + one_if b ≤ 1
still_once true true h never z l = absurd (never refl refl)
still_once true false h never z l = omega (arith, l)
still_once false true h never z l = let e = z refl in omega (arith, e)
still_once false false h never z l = omega (arith, l)

some_at : (g : Graph) (m : ℕ) (b : Bool) → is_held (suc m) (components_to g m) ≡ b → suc m ≤ g.units → AreSome g m (components_to g m)
    → AreSome g (suc m) (if b then components_to g m else components_to g m ++ component_of g (suc m) ∷ [])
some_at g m true e l h =
    record { held = λ u unit. up_last m u (λ x. is_held x (components_to g m) ≡ true) (u == suc m) refl unit (h.held u) e; once = h.once; made = h.made }
some_at g m false e l h =
    let cs = components_to g m in let c = component_of g (suc m) in
    let unit_new : IsUnit g.units (suc m) = (omega arith, l) in
    record {
      held = λ u unit. held_push u cs c ∙ up_last m u (λ x. (is_held x cs || among x c.units) ≡ true) (u == suc m) refl unit
          (λ k. or_left (is_held u cs) (among u c.units) (h.held u k))
          (or_right (is_held (suc m) cs) (among (suc m) c.units) (in_component g (suc m) (suc m) unit_new ∙ together_self g (suc m)));
      once = λ u unit. subst (λ x. x ≤ 1) (sym (holders_push u cs c))
          (still_once (is_held u cs) (among u c.units) (holders u cs)
          (λ x y. let t : is_held (suc m) cs ≡ true = held_with g cs u (suc m) h.made unit unit_new (together_turned g (suc m) u (sym (in_component g (suc m) u unit) ∙ y)) x in cc)
          (none_held u cs) (h.once u unit));
      made = made_push g cs c h.made (suc m, unit_new, refl);
    }

some_to : (g : Graph) (m : ℕ) → m ≤ g.units → AreSome g m (components_to g m)
some_to g zero l = record { held = λ u unit. absurd (omega (arith, unit)); once = λ u unit. omega arith; made = tt }
some_to g (suc m) l = some_at g m (is_held (suc m) (components_to g m)) refl l (some_to g m (omega (arith, l)))

pub all_made : (g : Graph) → AllByRecursion (IsMade g) (components_of g)
all_made g = (some_to g g.units (omega arith)).made

pub held_once : (g : Graph) (u : ℕ) → IsUnit g.units u → holders u (components_of g) ≡ 1
held_once g u unit =
    let all = some_to g g.units (omega arith) in
    let least = some_held u (components_of g) (all.held u unit) in let most = all.once u unit in omega (arith, least, most)

-- a parallel component has no end of a carried tie
tie_free : (t a b p q : Bool) → ((t && (a && b)) || p) ≡ false → (a ≡ true → b ≡ true) → (p ≡ false → q ≡ false) → ((t && a) || q) ≡ false
tie_free true true true p q e h k = cc
tie_free true true false p q e h k = let no : false ≡ true = h refl in cc
tie_free true false b p q e h k = k e
tie_free false a b p q e h k = k e

other_end : (g : Graph) (r first second : ℕ) → (first ≡ second) ⊎ ((has_edge g.edges first second ≡ true) × (has_edge g.edges second first ≡ true)) → IsUnit g.units first → IsUnit g.units second
    → among first (component_of g r).units ≡ true → among second (component_of g r).units ≡ true
other_end g r first second h a b e =
    ⊎_elim
    (λ same. sym (ap (λ x. among x (component_of g r).units) same) ∙ e)
    (λ edges. in_component g r second b ∙ together_joined g r first second a (sym (in_component g r first a) ∙ e)
    (and_both (leads g.edges g.units first second) _ (leads_edge g.edges g.units first second edges.0) (leads_edge g.edges g.units second first edges.1)))
    h

ties_free : (g : Graph) (r : ℕ) (ties : List Tie) → AreTied g ties → has_carried ties (component_of g r).units ≡ false → has_first ties (component_of g r).units ≡ false
ties_free g r [] h e = refl
ties_free g r (t ∷ ties) h e =
    let units = (component_of g r).units in
    tie_free t.carried (among t.first units) (among t.second units) (has_carried ties units) (has_first ties units) e (other_end g r t.first t.second h.0.0 h.0.1 h.0.2) (ties_free g r ties h.1)

made_free : (g : Graph) → IsGraph g → (c : Component) → IsMade g c → IsFree g c
made_free g is c (r, unit, same) e =
    ap (λ d. has_first g.ties d.units) same ∙ ties_free g r g.ties is.ties (sym (ap (λ d. d.sequential) same) ∙ e)

each_free : (g : Graph) → IsGraph g → (cs : List Component) → AllByRecursion (IsMade g) cs → AllByRecursion (IsFree g) cs
each_free g is [] m = tt
each_free g is (c ∷ cs) m = (made_free g is c m.0, each_free g is cs m.1)

pub all_free : (g : Graph) → IsGraph g → AllByRecursion (IsFree g) (components_of g)
all_free g is = each_free g is (components_of g) (all_made g)
