-- The locals that cross from one stage to the next, and the values that a packet has for them.
use Rattle.std.proofs.Common.{◌≡◌, ◌⊎◌, inl, inr, ⊎_elim, ℕ, zero, suc, ◌<◌, ◌≤◌, ◌==◌, Bool, true, false, not, ◌&&◌, ◌||◌, ℤ, pos, List, [], ◌∷◌, ◌++◌, map, filter, get_or, refl, sym, ap, ◌∙◌, arith, if◌then◌else◌}
use Rattle.std.specs.List.{Contains, list_any}
use Rattle.nona_tree.specs.declared.plans.Stage.{Stage}
use Rattle.nona_tree.specs.declared.trees.Loop.{Loop}
use Rattle.nona_forms.specs.Affine.{among}
use Rattle.nona_plans.specs.declared.graphs.Local.{Local}
use Rattle.nona_plans.specs.Plans.{units_of, crossing, links_from}
use Rattle.nona_plans.specs.Units.{uses, locals_of}
use Rattle.nona_plans.proofs.Leading.{same_units, both, or_left, or_right, and_both}
use Rattle.nona_plans.proofs.Lists.{among_append}
use Rattle.nona_fission.proofs.Untied.{any_of, among_in, in_among, in_filter, in_map, of_filter, first_in, later_in, same_array}
use Rattle.net_pipe.specs.Works.{value_for}
use Rattle.net_pipe.proofs.InStages.{Stands}

-- a unit stands among earlier ones or in a stage up to this one, or in a stage behind it
abbrev pub StandsTo : List ℕ → List Stage → ℕ → ℕ → Type 0
StandsTo earlier stages r u = (among u earlier ≡ true) ⊎ ((j : ℕ) × (j ≤ r) × Stands stages j u)

abbrev pub StandsBehind : List Stage → ℕ → ℕ → Type 0
StandsBehind stages r u = (i : ℕ) × (r < i) × Stands stages i u

-- the units of all stages

unit_of_stage : (stages : List Stage) (i u : ℕ) → Stands stages i u → among u (units_of stages) ≡ true
unit_of_stage [] i u h = cc
unit_of_stage (x ∷ rest) zero u h = among_append u x.units (units_of rest) ∙ or_left (among u x.units) (among u (units_of rest)) h
unit_of_stage (x ∷ rest) (suc i) u h =
    among_append u x.units (units_of rest) ∙ or_right (among u x.units) (among u (units_of rest)) (unit_of_stage rest i u h)

pub either_of : (b c : Bool) → (b || c) ≡ true → (b ≡ true) ⊎ (c ≡ true)
either_of true c h = inl refl
either_of false c h = inr h

stage_of_unit : (stages : List Stage) (u : ℕ) → among u (units_of stages) ≡ true → (i : ℕ) × Stands stages i u
stage_of_unit [] u h = cc
stage_of_unit (x ∷ rest) u h =
    ⊎_elim (λ (here : among u x.units ≡ true). (0, here)) (λ (later : among u (units_of rest) ≡ true). let at = stage_of_unit rest u later in (suc at.0, at.1))
    (either_of (among u x.units) (among u (units_of rest)) (sym (among_append u x.units (units_of rest)) ∙ h))

-- a local that is never assigned crosses where it is declared before and used behind

crosses : (l : Loop) (v : Local) (earlier later : List ℕ) (u : ℕ) → Contains (locals_of l) v → v.assigned ≡ false → among v.unit earlier ≡ true → among u later ≡ true → uses l v u ≡ true
    → Contains (crossing l earlier later) v.id
crosses l v earlier later u c plain declared inside used =
    let passes = λ (w : Local). not w.assigned && (among w.unit earlier && list_any (uses l w) later) in
    in_map (λ (w : Local). w.id) (filter passes (locals_of l)) v
    (in_filter passes (locals_of l) v c
    (and_both (not v.assigned) _ (ap not plain) (and_both (among v.unit earlier) (list_any (uses l v) later) declared (any_of (uses l v) later u (in_among u later inside) used))))

pub crosses_behind : (l : Loop) (v : Local) (u : ℕ) → Contains (locals_of l) v → v.assigned ≡ false → uses l v u ≡ true → (earlier : List ℕ) (stages : List Stage) (r : ℕ)
    → StandsTo earlier stages r v.unit → StandsBehind stages r u → Contains (get_or (links_from l earlier stages) r []) v.id
crosses_behind l v u c plain used earlier [] r declared (i, later, at) = cc
crosses_behind l v u c plain used earlier (x ∷ []) r declared (zero, later, at) = absurd (omega (arith, later))
crosses_behind l v u c plain used earlier (x ∷ []) r declared (suc i, later, at) = cc
crosses_behind l v u c plain used earlier (x ∷ (y ∷ rest)) r declared (zero, later, at) = absurd (omega (arith, later))
crosses_behind l v u c plain used earlier (x ∷ (y ∷ rest)) zero declared (suc i, later, at) =
    crosses l v (earlier ++ x.units) (y.units ++ units_of rest) u c plain (among_append v.unit earlier x.units ∙ before declared) (unit_of_stage (y ∷ rest) i u at) used
  where
    before : StandsTo earlier (x ∷ (y ∷ rest)) 0 v.unit → (among v.unit earlier || among v.unit x.units) ≡ true
    before (inl e) = or_left (among v.unit earlier) (among v.unit x.units) e
    before (inr (zero, within, here)) = or_right (among v.unit earlier) (among v.unit x.units) here
    before (inr (suc j, within, here)) = absurd (omega (arith, within))
crosses_behind l v u c plain used earlier (x ∷ (y ∷ rest)) (suc r) declared (suc i, later, at) =
    crosses_behind l v u c plain used (earlier ++ x.units) (y ∷ rest) r (before declared) (i, omega (arith, later), at)
  where
    before : StandsTo earlier (x ∷ (y ∷ rest)) (suc r) v.unit → StandsTo (earlier ++ x.units) (y ∷ rest) r v.unit
    before (inl e) = inl (among_append v.unit earlier x.units ∙ or_left (among v.unit earlier) (among v.unit x.units) e)
    before (inr (zero, within, here)) = inl (among_append v.unit earlier x.units ∙ or_right (among v.unit earlier) (among v.unit x.units) here)
    before (inr (suc j, within, here)) = inr (j, omega (arith, within), here)

-- and only such a local crosses

of_map : {A B : Type 0} (f : A → B) (xs : List A) (y : B) → Contains (map f xs) y → (x : A) × Contains xs x × (f x ≡ y)
of_map f [] y (k, within, is) = absurd (omega (arith, within))
of_map f (x ∷ xs) y (zero, within, is) = (x, first_in x xs, is)
of_map f (x ∷ xs) y (suc k, within, is) = let at = of_map f xs y (k, omega (arith, within), is) in (at.0, later_in at.0 x xs at.1, at.2)

some_of : {A : Type 0} (p : A → Bool) (xs : List A) → list_any p xs ≡ true → (x : A) × Contains xs x × (p x ≡ true)
some_of p [] e = cc
some_of p (x ∷ xs) e =
    ⊎_elim (λ (here : p x ≡ true). (x, first_in x xs, here)) (λ (later : list_any p xs ≡ true). let at = some_of p xs later in (at.0, later_in at.0 x xs at.1, at.2))
    (either_of (p x) (list_any p xs) e)

not_true : (b : Bool) → not b ≡ true → b ≡ false
not_true true e = cc
not_true false e = refl

pub record Crosser (l : Loop) (earlier : List ℕ) (stages : List Stage) (r id : ℕ) : Type 0 where
  pub local : Local
  pub is_id : local.id ≡ id
  pub listed : Contains (locals_of l) local
  pub plain : local.assigned ≡ false
  pub declared : StandsTo earlier stages r local.unit
  pub user : ℕ
  pub used : uses l local user ≡ true
  pub later : StandsBehind stages r user

pub crosser : (l : Loop) (earlier : List ℕ) (stages : List Stage) (r id : ℕ) → Contains (get_or (links_from l earlier stages) r []) id → Crosser l earlier stages r id
crosser l earlier [] r id (k, within, is) = absurd (omega (arith, within))
crosser l earlier (x ∷ []) r id (k, within, is) = absurd (omega (arith, within))
crosser l earlier (x ∷ (y ∷ rest)) zero id c =
    let passes = λ (w : Local). not w.assigned && (among w.unit (earlier ++ x.units) && list_any (uses l w) (y.units ++ units_of rest)) in
    let of_id = of_map (λ (w : Local). w.id) (filter passes (locals_of l)) id c in
    let v = of_id.0 in
    let of_list = of_filter passes (locals_of l) v of_id.1 in
    let parts = both (not v.assigned) _ of_list.1 in
    let more = both (among v.unit (earlier ++ x.units)) (list_any (uses l v) (y.units ++ units_of rest)) parts.1 in
    let user = some_of (uses l v) (y.units ++ units_of rest) more.1 in
    let at = stage_of_unit (y ∷ rest) user.0 (among_in user.0 (y.units ++ units_of rest) user.1) in
    record {
      local = v;
      is_id = of_id.2;
      listed = of_list.0;
      plain = not_true v.assigned parts.0;
      declared = ⊎_elim (λ (e : among v.unit earlier ≡ true). inl e) (λ (e : among v.unit x.units ≡ true). inr (0, omega arith, e)) (either_of (among v.unit earlier) (among v.unit x.units) (sym (among_append v.unit earlier x.units) ∙ more.0));
      user = user.0;
      used = user.2;
      later = (suc at.0, omega arith, at.1);
    }
crosser l earlier (x ∷ (y ∷ rest)) (suc r) id c =
    let at = crosser l (earlier ++ x.units) (y ∷ rest) r id c in
    record {
      local = at.local;
      is_id = at.is_id;
      listed = at.listed;
      plain = at.plain;
      declared = before at.local.unit at.declared;
      user = at.user;
      used = at.used;
      later = (let i = at.later in let below = i.1 in (suc i.0, omega (arith, below), i.2));
    }
  where
    before : (u : ℕ) → StandsTo (earlier ++ x.units) (y ∷ rest) r u → StandsTo earlier (x ∷ (y ∷ rest)) (suc r) u
    before u (inl e) =
        ⊎_elim (λ (one : among u earlier ≡ true). inl one) (λ (two : among u x.units ≡ true). inr (0, omega arith, two)) (either_of (among u earlier) (among u x.units) (sym (among_append u earlier x.units) ∙ e))
    before u (inr (j, within, here)) = inr (suc j, omega (arith, within), here)

-- the values of a packet

value_first : (x id : ℕ) (ids : List ℕ) (f : ℕ → ℤ) (b : Bool) → (x == id) ≡ b → Contains (x ∷ ids) id → (Contains ids id → value_for ids (map f ids) id ≡ f id) → (if b then f x else value_for ids (map f ids) id) ≡ f id
value_first x id ids f true e c later = ap f (same_units x id e)
value_first x id ids f false e (zero, within, is) later = let no : true ≡ false = sym (same_array x id is) ∙ e in cc
value_first x id ids f false e (suc k, within, is) later = later (k, omega (arith, within), is)

pub value_is : (ids : List ℕ) (f : ℕ → ℤ) (id : ℕ) → Contains ids id → value_for ids (map f ids) id ≡ f id
value_is [] f id (k, within, is) = absurd (omega (arith, within))
value_is (x ∷ ids) f id c = value_first x id ids f (x == id) refl c (value_is ids f id)

pub value_has : (P : ℤ → Type 0) → P (pos 0) → (ids : List ℕ) (f : ℕ → ℤ) → ((id : ℕ) → P (f id)) → (id : ℕ) → P (value_for ids (map f ids) id)
value_has P none [] f each id = none
value_has P none (x ∷ ids) f each id = by_test (x == id) (value_has P none ids f each id) where
  by_test : (b : Bool) → P (value_for ids (map f ids) id) → P (if b then f x else value_for ids (map f ids) id)
  by_test true later = each x
  by_test false later = later
