-- Where components are left, one is ready: from one that isn't, an edge leads back to one that fewer units lead to.
use Rattle.std.proofs.Common.{◌≡◌, ◌≢◌, ℕ, zero, suc, ◌+◌, ◌≤◌, ◌<◌, ◌==◌, ◌&&◌, ◌||◌, not, Bool, true, false, List, [], ◌∷◌, ◌++◌, refl, sym, ap, ◌∙◌, arith}
use Rattle.std.specs.List.{AllByRecursion, list_any}
use Rattle.nona_plans.specs.declared.graphs.Component.{Component}
use Rattle.nona_plans.specs.declared.graphs.Graph.{Graph}
use Rattle.nona_plans.specs.Walks.{has_edge, IsUnit, leads, are_together}
use Rattle.nona_forms.specs.Affine.{among}
use Rattle.nona_plans.specs.Components.{up_to, is_held}
use Rattle.nona_plans.specs.Stages.{are_fed, is_ready}
use Rattle.nona_plans.specs.Lawful.{one_if, IsGraph, IsComponent, AreClosed}
use Rattle.nona_plans.proofs.Leading.{same_units, or_left, or_right, both, and_both, leads_self, leads_edge, meeting}
use Rattle.nona_plans.proofs.Lists.{among_append, among_either, unit_among}
use Rattle.nona_plans.proofs.Choosing.{by_either}
use Rattle.nona_plans.proofs.Held.{together_self, together_turned, together_joined, in_component}

-- how many of these units lead to a unit
count_leading : Graph → ℕ → List ℕ → ℕ
count_leading g u [] = 0
count_leading g u (x ∷ xs) = one_if (leads g.edges g.units x u) + count_leading g u xs

one_less : (a b : Bool) → (a ≡ true → b ≡ true) → one_if a ≤ one_if b
one_less true b h = let e = ap one_if (h refl) in omega (arith, e)
one_less false b h = omega arith

no_more : (g : Graph) (u v : ℕ) (xs : List ℕ) → ((x : ℕ) → leads g.edges g.units x u ≡ true → leads g.edges g.units x v ≡ true) → count_leading g u xs ≤ count_leading g v xs
unfolding count_leading
no_more g u v [] h = omega arith
no_more g u v (x ∷ xs) h =
    let here = one_less (leads g.edges g.units x u) (leads g.edges g.units x v) (h x) in let more = no_more g u v xs h in omega (arith, here, more)

fewer : (g : Graph) (u v : ℕ) (xs : List ℕ) → ((x : ℕ) → leads g.edges g.units x u ≡ true → leads g.edges g.units x v ≡ true) → leads g.edges g.units v u ≡ false → among v xs ≡ true → count_leading g u xs < count_leading g v xs
unfolding count_leading
fewer g u v [] h e k = cc
fewer g u v (x ∷ xs) h e k =
    by_either (v == x) (among v xs) (sym (among_either v x xs) ∙ k)
    (λ same.
    let is : v ≡ x = same_units v x same in
    let low : one_if (leads g.edges g.units x u) ≡ 0 = ap one_if (ap (λ y. leads g.edges g.units y u) (sym is) ∙ e) in
    let high : one_if (leads g.edges g.units x v) ≡ 1 = ap one_if (ap (λ y. leads g.edges g.units y v) (sym is) ∙ leads_self g.edges g.units v) in
    let more = no_more g u v xs h in omega (arith, low, high, more))
    (λ later. let here = one_less (leads g.edges g.units x u) (leads g.edges g.units x v) (h x) in let more = fewer g u v xs h e later in omega (arith, here, more))

-- an edge that keeps a component from being ready
pub record IsUnfed (edges : List (ℕ × ℕ)) (sources units : List ℕ) : Type 0 where
  pub from : ℕ
  pub to : ℕ
  pub edge : has_edge edges from to ≡ true
  pub inside : among to units ≡ true
  pub outside : among from sources ≡ false

more_unfed : (d : ℕ × ℕ) (edges : List (ℕ × ℕ)) (sources units : List ℕ) → IsUnfed edges sources units → IsUnfed (d ∷ edges) sources units
more_unfed d edges sources units u =
    record { from = u.from; to = u.to; edge = or_right ((d.0 == u.from) && (d.1 == u.to)) (has_edge edges u.from u.to) u.edge; inside = u.inside; outside = u.outside }

unfed_at : (d : ℕ × ℕ) (edges : List (ℕ × ℕ)) (sources units : List ℕ) (inside outside : Bool) → among d.1 units ≡ inside → among d.0 sources ≡ outside → ((not inside || outside) && are_fed edges sources units) ≡ false
    → (are_fed edges sources units ≡ false → IsUnfed edges sources units) → IsUnfed (d ∷ edges) sources units
unfed_at d edges sources units true false a b e h =
    record { from = d.0; to = d.1; edge = or_left ((d.0 == d.0) && (d.1 == d.1)) (has_edge edges d.0 d.1) (and_both (d.0 == d.0) (d.1 == d.1) (grind arith) (grind arith)); inside = a; outside = b }
unfed_at d edges sources units true true a b e h = more_unfed d edges sources units (h e)
unfed_at d edges sources units false outside a b e h = more_unfed d edges sources units (h e)

unfed : (edges : List (ℕ × ℕ)) (sources units : List ℕ) → are_fed edges sources units ≡ false → IsUnfed edges sources units
unfed [] sources units e = cc
unfed (d ∷ edges) sources units e = unfed_at d edges sources units (among d.1 units) (among d.0 sources) refl refl e (unfed edges sources units)

-- the component that holds a unit
pub record Holds (g : Graph) (u : ℕ) (cs : List Component) : Type 0 where
  pub part : Component
  pub with : among u part.units ≡ true
  pub made : IsComponent g part
  pub all : (x : ℕ) → among x part.units ≡ true → is_held x cs ≡ true
  pub found : (test : Component → Bool) → test part ≡ true → list_any test cs ≡ true

more_holds : (g : Graph) (u : ℕ) (c : Component) (cs : List Component) → Holds g u cs → Holds g u (c ∷ cs)
more_holds g u c cs h =
    record { part = h.part; with = h.with; made = h.made; all = λ x e. or_right (among x c.units) (is_held x cs) (h.all x e); found = λ test e. or_right (test c) (list_any test cs) (h.found test e) }

holder : (g : Graph) (u : ℕ) (cs : List Component) → AllByRecursion (IsComponent g) cs → is_held u cs ≡ true → Holds g u cs
holder g u [] m e = cc
holder g u (c ∷ cs) m e =
    by_either (among u c.units) (is_held u cs) e
    (λ k. record { part = c; with = k; made = m.0; all = λ x h. or_left (among x c.units) (is_held x cs) h; found = λ test h. or_left (test c) (list_any test cs) h })
    (λ k. more_holds g u c cs (holder g u cs m.1 k))

-- two units of a component are together, and a unit that is together with one of them is in it
in_made : (g : Graph) (c : Component) (u x : ℕ) → IsComponent g c → IsUnit g.units u → IsUnit g.units x → among u c.units ≡ true → are_together g.edges g.units u x ≡ true → among x c.units ≡ true
in_made g c u x (r, unit, is) a b h e =
    ap (λ d. among x d.units) is ∙ in_component g r x b ∙ together_joined g r u x a (sym (ap (λ d. among u d.units) is ∙ in_component g r u a) ∙ h) e

of_made : (g : Graph) (c : Component) (u x : ℕ) → IsComponent g c → IsUnit g.units u → IsUnit g.units x → among u c.units ≡ true → among x c.units ≡ true → are_together g.edges g.units u x ≡ true
of_made g c u x (r, unit, is) a b h k =
    together_joined g u r x unit (together_turned g r u (sym (ap (λ d. among u d.units) is ∙ in_component g r u a) ∙ h)) (sym (ap (λ d. among x d.units) is ∙ in_component g r x b) ∙ k)

split_false : (a b : Bool) → (a || b) ≡ false → (a ≡ false) × (b ≡ false)
split_false true b e = cc
split_false false b e = (refl, e)

or_last : (a b : Bool) → a ≡ false → (a || b) ≡ true → b ≡ true
or_last true b e h = cc
or_last false b e h = h

false_from : (b : Bool) → (b ≡ true → ⊥) → b ≡ false
false_from true h = absurd (h refl)
false_from false h = refl

-- back along the edge
back : (g : Graph) (placed : List ℕ) (left : List Component) (u m : ℕ) → IsGraph g → AreClosed g placed left → IsUnit g.units u → Holds g u left → count_leading g u (up_to g.units) < suc m
    → ((i : ℕ) → IsUnit g.units i → is_held i left ≡ true → count_leading g i (up_to g.units) < m → list_any (is_ready g placed) left ≡ true)
    → (c : Component) → IsUnfed g.edges (c.units ++ placed) c.units → among u c.units ≡ true → IsComponent g c → ((x : ℕ) → among x c.units ≡ true → is_held x left ≡ true) → list_any (is_ready g placed) left ≡ true
back g placed left u m is closed unit h l prior c f with_u made all =
    let i = f.from in let j = f.to in
    let unit_i : IsUnit g.units i = (is.edges i j f.edge).0 in
    let unit_j : IsUnit g.units j = (is.edges i j f.edge).1 in
    let out = split_false (among i c.units) (among i placed) (sym (among_append i c.units placed) ∙ f.outside) in
    let together = both (leads g.edges g.units u j) (leads g.edges g.units j u) (of_made g c u j made unit unit_j with_u f.inside) in
    let to_u : leads g.edges g.units i u ≡ true = meeting g.edges g.units j i u unit_j.0 unit_j.1 (leads_edge g.edges g.units i j f.edge) together.1 in
    let not_back : leads g.edges g.units u i ≡ false =
    false_from (leads g.edges g.units u i) (λ e. let t : among i c.units ≡ true = in_made g c u i made unit unit_i with_u (and_both (leads g.edges g.units u i) (leads g.edges g.units i u) e to_u) in absurd (cc)) in
    let less = fewer g i u (up_to g.units) (λ x e. meeting g.edges g.units i x u unit_i.0 unit_i.1 e to_u) not_back (unit_among g.units u unit) in
    prior i unit_i (or_last (among i placed) (is_held i left) out.1 (closed i j f.edge (all j f.inside))) (omega (arith, less, l))

ready_at : (g : Graph) (placed : List ℕ) (left : List Component) (u m : ℕ) (b : Bool) → IsGraph g → AreClosed g placed left → IsUnit g.units u → (h : Holds g u left) → is_ready g placed h.part ≡ b → count_leading g u (up_to g.units) < suc m
    → ((i : ℕ) → IsUnit g.units i → is_held i left ≡ true → count_leading g i (up_to g.units) < m → list_any (is_ready g placed) left ≡ true) → list_any (is_ready g placed) left ≡ true
ready_at g placed left u m true is closed unit h e l prior = h.found (is_ready g placed) e
ready_at g placed left u m false is closed unit h e l prior =
    back g placed left u m is closed unit h l prior h.part (unfed g.edges (h.part.units ++ placed) h.part.units e) h.with h.made h.all

find_ready : (g : Graph) (placed : List ℕ) (left : List Component) → IsGraph g → AllByRecursion (IsComponent g) left → AreClosed g placed left → (m u : ℕ) → IsUnit g.units u → is_held u left ≡ true → count_leading g u (up_to g.units) < m
    → list_any (is_ready g placed) left ≡ true
find_ready g placed left is made closed zero u unit held l = absurd (omega (arith, l))
find_ready g placed left is made closed (suc m) u unit held l =
    let h = holder g u left made held in
    ready_at g placed left u m (is_ready g placed h.part) is closed unit h refl l (λ i a b c. find_ready g placed left is made closed m i a b c)

pub some_ready : (g : Graph) (placed : List ℕ) (left : List Component) → IsGraph g → AllByRecursion (IsComponent g) left → AreClosed g placed left → left ≢ [] → list_any (is_ready g placed) left ≡ true
some_ready g placed [] is made closed some = absurd (some refl)
some_ready g placed (c ∷ left) is made closed some = begin made.0
  where
    begin : IsComponent g c → list_any (is_ready g placed) (c ∷ left) ≡ true
    begin (r, unit, same) =
        find_ready g placed (c ∷ left) is made closed (suc (count_leading g r (up_to g.units))) r unit
        (or_left (among r c.units) (is_held r left) (ap (λ d. among r d.units) same ∙ in_component g r r unit ∙ together_self g r)) (omega arith)
