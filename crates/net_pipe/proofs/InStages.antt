-- The stage in which a unit stands, where stages are lawful.
use Rattle.std.proofs.Common.{◌≡◌, ⊎_elim, ℕ, zero, suc, ◌<◌, ◌≤◌, ◌==◌, Bool, true, false, ◌&&◌, List, [], ◌∷◌, length, map, filter, get_or, refl, sym, ap, ◌∙◌, subst, arith, if◌then◌else◌}
use Rattle.std.specs.List.{AllByRecursion, Contains, flat_map}
use Rattle.std.proofs.lemmas.List.Elements.{Contains-append_left, Contains-append_right}
use Rattle.nona_tree.specs.declared.plans.Stage.{Stage}
use Rattle.nona_tree.specs.declared.trees.Loop.{Loop}
use Rattle.nona_forms.specs.Affine.{among}
use Rattle.nona_plans.specs.declared.graphs.Graph.{Graph}
use Rattle.nona_plans.specs.declared.graphs.Local.{Local}
use Rattle.nona_plans.specs.declared.graphs.Tie.{Tie}
use Rattle.nona_plans.specs.Components.{up_to, has_carried}
use Rattle.nona_plans.specs.Lawful.{one_if, times_in, stage_of, IsUntied, AreLawful, AreJoined, AreTied}
use Rattle.nona_plans.specs.Units.{uses, ties_of, tie_edges, local_edges, edges_of, locals_of, graph_of}
use Rattle.nona_plans.specs.Walks.{has_edge, IsUnit}
use Rattle.nona_plans.proofs.BetweenUnits.{is_graph}
use Rattle.nona_plans.proofs.Leading.{or_left, or_right, and_both}
use Rattle.nona_plans.proofs.Lists.{unit_among}
use Rattle.nona_fission.proofs.Untied.{in_among, in_filter, in_map, or_none, same_number}
use Rattle.net_pipe.specs.Works.{no_stage}

-- the stage with this number
abbrev pub stage_in : List Stage → ℕ → Stage
stage_in stages s = get_or stages s no_stage

-- a unit stands in a stage
abbrev pub Stands : List Stage → ℕ → ℕ → Type 0
Stands stages s u = among u (stage_in stages s).units ≡ true

some_time : (stages : List Stage) (s u : ℕ) → Stands stages s u → 1 ≤ times_in u stages
some_time [] s u h = cc
some_time (x ∷ rest) zero u h = let one : one_if (among u x.units) ≡ 1 = ap one_if h in omega (arith, one)
some_time (x ∷ rest) (suc s) u h = let k = some_time rest s u h in omega (arith, k)

-- a unit that stands in one stage stands in the one that has its number
pub stands_in : (stages : List Stage) (s u : ℕ) → times_in u stages ≡ 1 → Stands stages s u → stage_of u stages ≡ s
stands_in [] s u once h = cc
stands_in (x ∷ rest) zero u once h = ap (λ (b : Bool). if b then 0 else suc (stage_of u rest)) h
stands_in (x ∷ rest) (suc s) u once h = by_first (among u x.units) refl (stands_in rest s u) where
  by_first : (b : Bool) → among u x.units ≡ b → (times_in u rest ≡ 1 → Stands rest s u → stage_of u rest ≡ s) → (if b then 0 else suc (stage_of u rest)) ≡ suc s
  by_first true e later =
      let one : one_if (among u x.units) ≡ 1 = ap one_if e in
      let more = some_time rest s u h in absurd (omega (arith, once, one, more))
  by_first false e later =
      let none : one_if (among u x.units) ≡ 0 = ap one_if e in ap suc (later (omega (arith, once, none)) h)

-- and it does stand there
pub stage_stands : (stages : List Stage) (u : ℕ) → 1 ≤ times_in u stages → (stage_of u stages < length stages) × Stands stages (stage_of u stages) u
stage_stands [] u some = absurd (omega (arith, some))
stage_stands (x ∷ rest) u some = by_first (among u x.units) refl (stage_stands rest u) where
  by_first : (b : Bool) → among u x.units ≡ b → (1 ≤ times_in u rest → (stage_of u rest < length rest) × Stands rest (stage_of u rest) u)
      → ((if b then 0 else suc (stage_of u rest)) < length (x ∷ rest)) × Stands (x ∷ rest) (if b then 0 else suc (stage_of u rest)) u
  by_first true e later = (omega arith, e)
  by_first false e later =
      let none : one_if (among u x.units) ≡ 0 = ap one_if e in
      let at = later (omega (arith, some, none)) in
      let below = at.0 in (omega (arith, below), at.1)

-- units of one stage stand in the same stages
same_truth : (b c : Bool) → (b ≡ true → c ≡ true) → (c ≡ true → b ≡ true) → b ≡ c
same_truth true c h g = sym (h refl)
same_truth false true h g = g refl
same_truth false false h g = refl

follows : (stages : List Stage) (s u v : ℕ) → times_in u stages ≡ 1 → times_in v stages ≡ 1 → stage_of u stages ≡ stage_of v stages → Stands stages s u → Stands stages s v
follows stages s u v once_u once_v same h =
    subst (λ (i : ℕ). Stands stages i v) (sym same ∙ stands_in stages s u once_u h) (stage_stands stages v (omega (arith, once_v))).1

pub same_stage : (stages : List Stage) (s u v : ℕ) → times_in u stages ≡ 1 → times_in v stages ≡ 1 → stage_of u stages ≡ stage_of v stages
    → among u (stage_in stages s).units ≡ among v (stage_in stages s).units
same_stage stages s u v once_u once_v same =
    same_truth (among u (stage_in stages s).units) (among v (stage_in stages s).units) (follows stages s u v once_u once_v same) (follows stages s v u once_v once_u (sym same))

-- what holds of each stage
pub in_each : (P : Stage → Type 0) → P no_stage → (stages : List Stage) (s : ℕ) → AllByRecursion P stages → P (stage_in stages s)
in_each P none [] s h = none
in_each P none (x ∷ rest) zero h = h.0
in_each P none (x ∷ rest) (suc s) h = in_each P none rest s h.1

-- ties

tie_is : (g : Graph) (ties : List Tie) (t : Tie) → AreTied g ties → Contains ties t → AreJoined g t.first t.second × IsUnit g.units t.first × IsUnit g.units t.second
tie_is g [] t h (k, within, is) = absurd (omega (arith, within))
tie_is g (x ∷ ties) t h (zero, within, is) = subst (λ (z : Tie). AreJoined g z.first z.second × IsUnit g.units z.first × IsUnit g.units z.second) is h.0
tie_is g (x ∷ ties) t h (suc k, within, is) = tie_is g ties t h.1 (k, omega (arith, within), is)

not_carried : (a b c : Bool) → (a && (b && c)) ≡ false → b ≡ true → c ≡ true → a ≡ false
not_carried false b c e first second = refl
not_carried true true true e first second = cc
not_carried true true false e first second = cc
not_carried true false c e first second = cc

none_carried : (ties : List Tie) (units : List ℕ) (t : Tie) → Contains ties t → has_carried ties units ≡ false → among t.first units ≡ true → among t.second units ≡ true → t.carried ≡ false
none_carried [] units t (k, within, is) none first second = absurd (omega (arith, within))
none_carried (x ∷ ties) units t (zero, within, is) none first second =
    let here = (or_none (x.carried && (among x.first units && among x.second units)) (has_carried ties units) none).0 in
    not_carried t.carried (among t.first units) (among t.second units) (subst (λ (z : Tie). (z.carried && (among z.first units && among z.second units)) ≡ false) is here) first second
none_carried (x ∷ ties) units t (suc k, within, is) none first second =
    none_carried ties units t (k, omega (arith, within), is) (or_none (x.carried && (among x.first units && among x.second units)) (has_carried ties units) none).1 first second

module _ (l : Loop) (stages : List Stage) (lawful : AreLawful (graph_of l) stages) where
  -- both units of a tie stand in a stage, or none does
  pub tied_together : (s : ℕ) (t : Tie) → Contains (ties_of l) t → among t.first (stage_in stages s).units ≡ among t.second (stage_in stages s).units
  tied_together s t c =
      let is = tie_is (graph_of l) (ties_of l) t (is_graph l).ties c in
      ⊎_elim
      (λ (one : t.first ≡ t.second). ap (λ (u : ℕ). among u (stage_in stages s).units) one)
      (λ (both : (has_edge (edges_of l) t.first t.second ≡ true) × (has_edge (edges_of l) t.second t.first ≡ true)).
      (let up = lawful.forward t.first t.second both.0 in
      let down = lawful.forward t.second t.first both.1 in
      same_stage stages s t.first t.second (lawful.once t.first is.1) (lawful.once t.second is.2) (omega (arith, up, down))))
      is.0

  -- no tie of a unit of a parallel stage is loop-carried
  pub parallel_free : (s : ℕ) → (stage_in stages s).sequential ≡ false → (t : Tie) → Contains (ties_of l) t → Stands stages s t.first → t.carried ≡ false
  parallel_free s parallel t c first =
      none_carried (ties_of l) (stage_in stages s).units t c (in_each (IsUntied (graph_of l)) (λ e. cc) stages s lawful.untied parallel) first
      (sym (tied_together s t c) ∙ first)

-- the edges of a local that is never assigned

edge_in : (edges : List (ℕ × ℕ)) (i j : ℕ) → Contains edges (i, j) → has_edge edges i j ≡ true
edge_in [] i j (k, within, is) = absurd (omega (arith, within))
edge_in (x ∷ edges) i j (zero, within, is) =
    or_left _ (has_edge edges i j) (subst (λ (z : ℕ × ℕ). ((z.0 == i) && (z.1 == j)) ≡ true) (sym is) (and_both _ _ (same_number i) (same_number j)))
edge_in (x ∷ edges) i j (suc k, within, is) = or_right _ (has_edge edges i j) (edge_in edges i j (k, omega (arith, within), is))

in_flat : {A B : Type 0} (f : A → List B) (xs : List A) (x : A) (y : B) → Contains xs x → Contains (f x) y → Contains (flat_map f xs) y
in_flat f [] x y (k, within, is) c = absurd (omega (arith, within))
in_flat f (z ∷ zs) x y (zero, within, is) c = Contains-append_left (f z) (flat_map f zs) y (subst (λ w. Contains (f w) y) (sym is) c)
in_flat f (z ∷ zs) x y (suc k, within, is) c = Contains-append_right (f z) (flat_map f zs) y (in_flat f zs x y (k, omega (arith, within), is) c)

local_edge : (l : Loop) (v : Local) (u : ℕ) → Contains (locals_of l) v → v.assigned ≡ false → IsUnit (length l.body) u → uses l v u ≡ true → has_edge (edges_of l) v.unit u ≡ true
local_edge l v u c plain unit used =
    let its = map (λ (i : ℕ). (v.unit, i)) (filter (uses l v) (up_to (length l.body))) in
    let inside : Contains its (v.unit, u) = in_map (λ (i : ℕ). (v.unit, i)) (filter (uses l v) (up_to (length l.body))) u
    (in_filter (uses l v) (up_to (length l.body)) u (in_among u (up_to (length l.body)) (unit_among (length l.body) u unit)) used) in
    edge_in (edges_of l) v.unit u
    (Contains-append_right (flat_map tie_edges (ties_of l)) (flat_map (local_edges l) (locals_of l)) (v.unit, u)
    (in_flat (local_edges l) (locals_of l) v (v.unit, u) c (subst (λ (b : Bool). Contains (if b then [] else its) (v.unit, u)) (sym plain) inside)))

module _ (l : Loop) (stages : List Stage) (lawful : AreLawful (graph_of l) stages) (v : Local) (u : ℕ) (listed : Contains (locals_of l) v) (plain : v.assigned ≡ false)
    (unit : IsUnit (length l.body) u) (used : uses l v u ≡ true) where
  -- it is declared in no later stage than that of a unit that uses it
  pub declared_before : stage_of v.unit stages ≤ stage_of u stages
  declared_before = lawful.forward v.unit u (local_edge l v u listed plain unit used)

  pub declaring_unit : IsUnit (length l.body) v.unit
  declaring_unit = ((is_graph l).edges v.unit u (local_edge l v u listed plain unit used)).0
