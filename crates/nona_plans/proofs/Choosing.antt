-- The stages that are chosen are lawful.
use Rattle.std.proofs.Common.{◌≡◌, ℕ, zero, suc, ◌+◌, ◌≤◌, ◌==◌, ◌&&◌, ◌||◌, not, Bool, true, false, List, [], ◌∷◌, ◌++◌, length, refl, sym, ap, ◌∙◌, subst, arith, if◌then◌else◌, Some, None}
use Rattle.std.specs.List.{AllByRecursion}
use Rattle.std.specs.declared.option.Option.{Option}
use Rattle.nona_tree.specs.declared.plans.Stage.{Stage}
use Rattle.nona_plans.specs.declared.graphs.Tie.{Tie}
use Rattle.nona_plans.specs.declared.graphs.Component.{Component}
use Rattle.nona_plans.specs.declared.graphs.Graph.{Graph}
use Rattle.nona_plans.specs.Walks.{has_edge, IsUnit}
use Rattle.nona_forms.specs.Affine.{among}
use Rattle.nona_plans.specs.Components.{has_carried}
use Rattle.nona_plans.specs.Stages.{are_fed, is_ready, same_kind, with_front, pick, on_picked, on_room, all_units, begun_by, joined_by, in_order, last_stage, stages_from}
use Rattle.nona_plans.specs.Lawful.{one_if, times_in, BreaksAfter, NoNeighbours, IsInOrder, IsUntied, IsGraph}
use Rattle.nona_plans.proofs.Leading.{same_units, or_left, or_right, both}
use Rattle.nona_plans.proofs.Lists.{among_append, sorted, among_sorted, sorted_among, sorted_rises, sorted_units}

abbrev or_else : {A : Type 0} → A → Option A → A
or_else d None = d
or_else d (Some x) = x

some_same : {A : Type 0} {x y : A} → Some x ≡ Some y → x ≡ y
some_same {A} {x} {y} e = ap (λ o. or_else x o) e

pub by_either : {C : Type 0} (b c : Bool) → (b || c) ≡ true → (b ≡ true → C) → (c ≡ true → C) → C
by_either true c e f g = f refl
by_either false c e f g = g e

-- in how many components a unit stands
abbrev pub holders : ℕ → List Component → ℕ
holders u [] = 0
holders u (c ∷ cs) = one_if (among u c.units) + holders u cs

-- whether the first end of a carried tie is among units
abbrev pub has_first : List Tie → List ℕ → Bool
has_first [] units = false
has_first (t ∷ ties) units = (t.carried && among t.first units) || has_first ties units

-- a parallel component has no end of a carried tie
abbrev pub IsFree : Graph → Component → Type 0
IsFree g c = c.sequential ≡ false → has_first g.ties c.units ≡ false

two_free : (t a b p q r : Bool) → ((t && a) || p) ≡ false → ((t && b) || q) ≡ false → (p ≡ false → q ≡ false → r ≡ false) → ((t && (a || b)) || r) ≡ false
two_free true true b p q r e f h = cc
two_free true false true p q r e f h = cc
two_free true false false p q r e f h = h e f
two_free false a b p q r e f h = h e f

free_append : (ties : List Tie) (xs ys : List ℕ) → has_first ties xs ≡ false → has_first ties ys ≡ false → has_first ties (xs ++ ys) ≡ false
free_append [] xs ys e f = refl
free_append (t ∷ ties) xs ys e f =
    ap (λ b. (t.carried && b) || has_first ties (xs ++ ys)) (among_append t.first xs ys)
    ∙ two_free t.carried (among t.first xs) (among t.first ys) (has_first ties xs) (has_first ties ys) (has_first ties (xs ++ ys)) e f (free_append ties xs ys)

none_carried : (t a b c p r : Bool) → ((t && a) || p) ≡ false → (b ≡ true → a ≡ true) → (p ≡ false → r ≡ false) → ((t && (b && c)) || r) ≡ false
none_carried true true b c p r e h k = cc
none_carried true false true c p r e h k = let no : false ≡ true = h refl in cc
none_carried true false false c p r e h k = k e
none_carried false a b c p r e h k = k e

free_untied : (ties : List Tie) (xs ys : List ℕ) → ((u : ℕ) → among u ys ≡ true → among u xs ≡ true) → has_first ties xs ≡ false → has_carried ties ys ≡ false
free_untied [] xs ys h e = refl
free_untied (t ∷ ties) xs ys h e =
    none_carried t.carried (among t.first xs) (among t.first ys) (among t.second ys) (has_first ties xs) (has_carried ties ys) e (h t.first) (free_untied ties xs ys h)

-- each edge into units that are fed comes from a source
fed_here : (i j : ℕ) (e : ℕ × ℕ) (sources units : List ℕ) → (e.0 == i) ≡ true → (e.1 == j) ≡ true → (not (among e.1 units) || among e.0 sources) ≡ true → among j units ≡ true → among i sources ≡ true
fed_here i j e sources units x y h k =
    let a : among e.1 units ≡ true = ap (λ z. among z units) (same_units e.1 j y) ∙ k in
    sym (ap (λ z. among z sources) (same_units e.0 i x)) ∙ sym (ap (λ b. not b || among e.0 sources) a) ∙ h

pub fed_edge : (edges : List (ℕ × ℕ)) (sources units : List ℕ) (i j : ℕ) → are_fed edges sources units ≡ true → has_edge edges i j ≡ true → among j units ≡ true → among i sources ≡ true
fed_edge [] sources units i j f e k = cc
fed_edge (d ∷ edges) sources units i j f e k =
    let two = both (not (among d.1 units) || among d.0 sources) (are_fed edges sources units) f in
    by_either ((d.0 == i) && (d.1 == j)) (has_edge edges i j) e
    (λ h. let is = both (d.0 == i) (d.1 == j) h in fed_here i j d sources units is.0 is.1 two.0 k)
    (λ h. fed_edge edges sources units i j two.1 h k)

-- what was picked
pub record IsPick (test : Component → Bool) (all : List Component) (c : Component) (rest : List Component) : Type 1 where
  pub passes : test c ≡ true
  pub size : length all ≡ suc (length rest)
  pub held : (u : ℕ) → holders u all ≡ one_if (among u c.units) + holders u rest
  pub each : (P : Component → Type 0) → AllByRecursion P all → P c × AllByRecursion P rest

pick_here : (test : Component → Bool) (c : Component) (cs : List Component) → test c ≡ true → IsPick test (c ∷ cs) c cs
pick_here test c cs e = record { passes = e; size = refl; held = λ u. refl; each = λ P h. h }

pick_later : (test : Component → Bool) (d c : Component) (cs rest : List Component) → IsPick test cs c rest → IsPick test (d ∷ cs) c (d ∷ rest)
pick_later test d c cs rest h =
    record { passes = h.passes; size = ap suc h.size; held = λ u. let here = h.held u in omega (arith, here); each = λ P k. let more = h.each P k.1 in (more.0, (k.0, more.1)) }

picked_front : (test : Component → Bool) (d : Component) (cs : List Component) (o : Option (Component × List Component)) (p : Component × List Component) → ((q : Component × List Component) → o ≡ Some q → IsPick test cs q.0 q.1)
    → with_front d o ≡ Some p → IsPick test (d ∷ cs) p.0 p.1
picked_front test d cs None p h e = cc
picked_front test d cs (Some q) p h e =
    let same : (q.0, d ∷ q.1) ≡ p = some_same e in
    subst (λ x. IsPick test (d ∷ cs) x.0 x.1) same (pick_later test d q.0 cs q.1 (h q refl))

picked_at : (test : Component → Bool) (d : Component) (cs : List Component) (b : Bool) (p : Component × List Component) → test d ≡ b → ((q : Component × List Component) → pick test cs ≡ Some q → IsPick test cs q.0 q.1)
    → (if b then Some (d, cs) else with_front d (pick test cs)) ≡ Some p → IsPick test (d ∷ cs) p.0 p.1
picked_at test d cs true p t h e = subst (λ x. IsPick test (d ∷ cs) x.0 x.1) (some_same e) (pick_here test d cs t)
picked_at test d cs false p t h e = picked_front test d cs (pick test cs) p h e

pub picked : (test : Component → Bool) (cs : List Component) (p : Component × List Component) → pick test cs ≡ Some p → IsPick test cs p.0 p.1
picked test [] p e = cc
picked test (d ∷ cs) p e = picked_at test d cs (test d) p refl (picked test cs) e

-- where none was picked, none passes
none_front : (d : Component) (o : Option (Component × List Component)) → with_front d o ≡ None → o ≡ None
none_front d None e = refl
none_front d (Some q) e = cc

unpicked_at : (test : Component → Bool) (d : Component) (cs : List Component) (b : Bool) → test d ≡ b → (pick test cs ≡ None → AllByRecursion (λ c. test c ≡ false) cs) → (if b then Some (d, cs) else with_front d (pick test cs)) ≡ None
    → AllByRecursion (λ c. test c ≡ false) (d ∷ cs)
unpicked_at test d cs true t h e = cc
unpicked_at test d cs false t h e = (t, h (none_front d (pick test cs) e))

pub unpicked : (test : Component → Bool) (cs : List Component) → pick test cs ≡ None → AllByRecursion (λ c. test c ≡ false) cs
unpicked test [] e = tt
unpicked test (d ∷ cs) e = unpicked_at test d cs (test d) refl (unpicked test cs) e

-- what is so of the current stage and of the components that are left, where the units of the stages before are placed
pub record Stands (g : Graph) (k : ℕ) (placed : List ℕ) (s : Stage) (left : List Component) : Type 0 where
  pub size : length left ≡ k
  pub once : (u : ℕ) → IsUnit g.units u → one_if (among u placed) + (one_if (among u s.units) + holders u left) ≡ 1
  pub fed : (i j : ℕ) → has_edge g.edges i j ≡ true → among j s.units ≡ true → among i (placed ++ s.units) ≡ true
  pub free : s.sequential ≡ false → has_first g.ties s.units ≡ false
  pub good : AllByRecursion (IsFree g) left

-- each edge into a stage comes from it or from one before
abbrev pub IsForward : Graph → List ℕ → List Stage → Type 0
IsForward g placed [] = Unit {0}
IsForward g placed (s ∷ stages) =
    ((i j : ℕ) → has_edge g.edges i j ≡ true → among j s.units ≡ true → among i (placed ++ s.units) ≡ true) × IsForward g (placed ++ s.units) stages

-- what is so of the stages that follow
pub record Follows (g : Graph) (most : ℕ) (placed : List ℕ) (stages : List Stage) : Type 0 where
  pub once : (u : ℕ) → IsUnit g.units u → one_if (among u placed) + times_in u stages ≡ 1
  pub forward : IsForward g placed stages
  pub ordered : AllByRecursion (IsInOrder g) stages
  pub untied : AllByRecursion (IsUntied g) stages
  pub alone : NoNeighbours stages
  pub few : length stages ≤ most

-- the first stage is of this kind
abbrev pub Begins : Bool → List Stage → Type 0
Begins kind [] = ⊥
Begins kind (s ∷ stages) = s.sequential ≡ kind

-- what counts is only which units are placed
forward_more : (g : Graph) → IsGraph g → (stages : List Stage) (ps qs : List ℕ) → ((u : ℕ) → IsUnit g.units u → among u ps ≡ true → among u qs ≡ true) → IsForward g ps stages → IsForward g qs stages
forward_more g h [] ps qs k f = tt
forward_more g h (s ∷ stages) ps qs k f =
    let more : (u : ℕ) → IsUnit g.units u → among u (ps ++ s.units) ≡ true → among u (qs ++ s.units) ≡ true =
    (λ u is e. among_append u qs s.units ∙ by_either (among u ps) (among u s.units) (sym (among_append u ps s.units) ∙ e) (λ x. or_left (among u qs) (among u s.units) (k u is x)) (λ x. or_right (among u qs) (among u s.units) x)) in
    ((λ i j e x. more i (h.edges i j e).0 (f.0 i j e x)), forward_more g h stages (ps ++ s.units) (qs ++ s.units) more f.1)

-- one stage more
apart : (a b c : Bool) (r h : ℕ) → one_if (a || b) + r ≡ 1 → one_if a + (one_if b + h) ≡ 1 → one_if c ≡ one_if b → one_if a + (one_if c + r) ≡ 1
apart true true c r h e f k = absurd (omega (arith, f))
apart true false c r h e f k = omega (arith, e, k)
apart false b c r h e f k = omega (arith, e, k)

closed : (g : Graph) → IsGraph g → (k most : ℕ) (placed : List ℕ) (s : Stage) (left : List Component) (stages : List Stage) → Stands g k placed s left → Follows g most (placed ++ s.units) stages → BreaksAfter s stages
    → Follows g (suc most) placed (in_order g s ∷ stages)
closed g is k most placed s left stages h f b =
    record {
      once = λ u unit. apart (among u placed) (among u s.units) (among u (sorted g.units s.units)) (times_in u stages) (holders u left)
          (ap (λ x. one_if x + times_in u stages) (sym (among_append u placed s.units)) ∙ f.once u unit) (h.once u unit) (ap one_if (among_sorted g.units u s.units unit));
      forward = (
        (λ i j e x. into i (is.edges i j e).0 (h.fed i j e (sorted_among g.units j s.units x))),
        forward_more g is stages (placed ++ s.units) (placed ++ sorted g.units s.units) into f.forward,
      );
      ordered = ((sorted_rises g.units s.units, sorted_units g.units s.units), f.ordered);
      untied = ((λ e. free_untied g.ties s.units (sorted g.units s.units) (λ u x. sorted_among g.units u s.units x) (h.free e)), f.untied);
      alone = (b, f.alone);
      few = (let few = f.few in omega (arith, few));
    }
  where
    into : (u : ℕ) → IsUnit g.units u → among u (placed ++ s.units) ≡ true → among u (placed ++ sorted g.units s.units) ≡ true
    into u unit e = among_append u placed (sorted g.units s.units) ∙ ap (λ x. among u placed || x) (among_sorted g.units u s.units unit) ∙ sym (among_append u placed s.units) ∙ e

-- nothing is left, so all is placed
none_left : (left : List Component) (u : ℕ) → length left ≡ 0 → holders u left ≡ 0
none_left [] u e = refl
none_left (c ∷ left) u e = absurd (omega (arith, e))

all_placed : (a b : Bool) (h : ℕ) → h ≡ 0 → one_if a + (one_if b + h) ≡ 1 → one_if (a || b) + 0 ≡ 1
all_placed true true h z e = absurd (omega (arith, e))
all_placed true false h z e = refl
all_placed false b h z e = omega (arith, z, e)

follows_none : (g : Graph) (placed : List ℕ) (s : Stage) (left : List Component) → Stands g 0 placed s left → Follows g 0 (placed ++ s.units) []
follows_none g placed s left h =
    record {
      once = λ u unit. ap (λ x. one_if x + 0) (among_append u placed s.units) ∙ all_placed (among u placed) (among u s.units) (holders u left) (none_left left u h.size) (h.once u unit);
      forward = tt;
      ordered = tt;
      untied = tt;
      alone = tt;
      few = omega arith;
    }

-- all that is left goes into the last stage
few_held : (a b : Bool) (r : ℕ) → one_if b ≡ r → one_if a + r ≤ 1 → one_if (a || b) ≡ one_if a + r
few_held true true r e h = absurd (omega (arith, e, h))
few_held true false r e h = omega (arith, e)
few_held false b r e h = omega (arith, e)

units_held : (left : List Component) (u : ℕ) → holders u left ≤ 1 → one_if (among u (all_units left)) ≡ holders u left
units_held [] u h = refl
units_held (c ∷ left) u h =
    ap one_if (among_append u c.units (all_units left)) ∙ few_held (among u c.units) (among u (all_units left)) (holders u left) (units_held left u (omega (arith, h))) h

-- what stands behind the current stage
past : (a b : Bool) (h : ℕ) → one_if a + (one_if b + h) ≡ 1 → one_if (a || b) + h ≡ 1
past true true h e = absurd (omega (arith, e))
past true false h e = omega (arith, e)
past false b h e = omega (arith, e)

placed_past : (g : Graph) (k : ℕ) (placed : List ℕ) (s : Stage) (left : List Component) (u : ℕ) → Stands g k placed s left → IsUnit g.units u → one_if (among u (placed ++ s.units)) + holders u left ≡ 1
placed_past g k placed s left u h unit =
    ap (λ x. one_if x + holders u left) (among_append u placed s.units) ∙ past (among u placed) (among u s.units) (holders u left) (h.once u unit)

one_of : (a b : Bool) → one_if a + one_if b ≡ 1 → (a || b) ≡ true
one_of true b e = refl
one_of false true e = refl
one_of false false e = absurd (omega (arith, e))

last_stands : (g : Graph) → IsGraph g → (left : List Component) (placed : List ℕ) → ((u : ℕ) → IsUnit g.units u → one_if (among u placed) + holders u left ≡ 1)
    → Stands g 0 placed (record { sequential = true; units = all_units left }) []
last_stands g is left placed h =
    record {
      size = refl;
      once = λ u unit. let e = h u unit in let one = units_held left u (omega (arith, e)) in omega (arith, e, one);
      fed = λ i j e x. let one = h i (is.edges i j e).0 in let other = units_held left i (omega (arith, one)) in
          among_append i placed (all_units left) ∙ one_of (among i placed) (among i (all_units left)) (omega (arith, one, other));
      free = λ e. cc;
      good = tt;
    }

follows_last : (g : Graph) → IsGraph g → (left : List Component) (placed : List ℕ) → ((u : ℕ) → IsUnit g.units u → one_if (among u placed) + holders u left ≡ 1) → Follows g 1 placed (last_stage g left)
follows_last g is left placed h =
    let s : Stage = record { sequential = true; units = all_units left } in
    let at = last_stands g is left placed h in
    closed g is 0 0 placed s [] [] at (follows_none g placed s [] at) tt

-- a component joins the current stage
same_free : (a b : Bool) → same_kind a b ≡ true → a ≡ false → b ≡ false
same_free true b e f = cc
same_free false true e f = cc
same_free false false e f = refl

joins : (a b c : Bool) (h : ℕ) → one_if a + (one_if b + (one_if c + h)) ≡ 1 → one_if a + (one_if (b || c) + h) ≡ 1
joins a true true h e = absurd (omega (arith, e))
joins a true false h e = omega (arith, e)
joins a false c h e = omega (arith, e)

among_three : (u : ℕ) (xs ys zs : List ℕ) → among u (xs ++ (ys ++ zs)) ≡ (among u xs || (among u ys || among u zs))
among_three u xs ys zs = among_append u xs (ys ++ zs) ∙ ap (λ b. among u xs || b) (among_append u ys zs)

turned_round : (p s c : Bool) → (c || (p || s)) ≡ true → (p || (s || c)) ≡ true
turned_round true s c e = refl
turned_round false true c e = refl
turned_round false false true e = refl
turned_round false false false e = cc

widened : (p s c : Bool) → (p || s) ≡ true → (p || (s || c)) ≡ true
widened true s c e = refl
widened false true c e = refl
widened false false c e = cc

joined_stands : (g : Graph) (k : ℕ) (placed : List ℕ) (s : Stage) (left rest : List Component) (c : Component) (test : Component → Bool) → Stands g (suc k) placed s left → IsPick test left c rest
    → same_kind s.sequential c.sequential ≡ true → is_ready g (placed ++ s.units) c ≡ true → Stands g k placed (joined_by s c) rest
joined_stands g k placed s left rest c test h p kind ready =
    record {
      size = (let a = h.size in let b = p.size in omega (arith, a, b));
      once = λ u unit. ap (λ x. one_if (among u placed) + (one_if x + holders u rest)) (among_append u s.units c.units)
          ∙ joins (among u placed) (among u s.units) (among u c.units) (holders u rest) (ap (λ x. one_if (among u placed) + (one_if (among u s.units) + x)) (sym (p.held u)) ∙ h.once u unit);
      fed = λ i j e x. among_three i placed s.units c.units
          ∙ by_either (among j s.units) (among j c.units) (sym (among_append j s.units c.units) ∙ x)
          (λ y. widened (among i placed) (among i s.units) (among i c.units) (sym (among_append i placed s.units) ∙ h.fed i j e y))
          (λ y. turned_round (among i placed) (among i s.units) (among i c.units) (sym (among_three i c.units placed s.units) ∙ fed_edge g.edges (c.units ++ (placed ++ s.units)) c.units i j ready e y));
      free = λ e. free_append g.ties s.units c.units (h.free e) ((p.each (IsFree g) h.good).0 (same_free s.sequential c.sequential kind e));
      good = (p.each (IsFree g) h.good).1;
    }

-- a component begins a stage
swapped : (p c : Bool) → (c || p) ≡ true → (p || c) ≡ true
swapped true c e = refl
swapped false true e = refl
swapped false false e = cc

begun_stands : (g : Graph) (k : ℕ) (placed : List ℕ) (s : Stage) (left rest : List Component) (c : Component) (test : Component → Bool) → Stands g (suc k) placed s left → IsPick test left c rest
    → is_ready g (placed ++ s.units) c ≡ true → Stands g k (placed ++ s.units) (begun_by c) rest
begun_stands g k placed s left rest c test h p ready =
    record {
      size = (let a = h.size in let b = p.size in omega (arith, a, b));
      once = λ u unit. ap (λ x. one_if (among u (placed ++ s.units)) + x) (sym (p.held u)) ∙ placed_past g (suc k) placed s left u h unit;
      fed = λ i j e x. among_append i (placed ++ s.units) c.units
          ∙ swapped (among i (placed ++ s.units)) (among i c.units) (sym (among_append i c.units (placed ++ s.units)) ∙ fed_edge g.edges (c.units ++ (placed ++ s.units)) c.units i j ready e x);
      free = (p.each (IsFree g) h.good).0;
      good = (p.each (IsFree g) h.good).1;
    }

-- the stages from the current one on
pub record Serves (g : Graph) (most : ℕ) (placed : List ℕ) (kind : Bool) (stages : List Stage) : Type 0 where
  pub begins : Begins kind stages
  pub follows : Follows g most placed stages

abbrev Chosen : Graph → ℕ → Type 0
Chosen g k = (room : ℕ) (placed : List ℕ) (s : Stage) (left : List Component) → Stands g k placed s left → Serves g (suc (suc room)) placed s.sequential (stages_from g k room placed s left)

breaks : (s : Stage) (kind : Bool) (stages : List Stage) → (s.sequential || kind) ≡ true → Begins kind stages → BreaksAfter s stages
breaks s kind [] e b = tt
breaks s kind (r ∷ stages) e b = ap (λ x. s.sequential || x) b ∙ e

other_kind : (a b r : Bool) → (same_kind a b && r) ≡ false → r ≡ true → (a || b) ≡ true
other_kind true b r e f = refl
other_kind false true r e f = refl
other_kind false false r e f = cc

-- the next stage, where none joins the current one
opened : (g : Graph) → IsGraph g → (k room : ℕ) (placed : List ℕ) (s : Stage) (left : List Component) → Chosen g k → Stands g (suc k) placed s left
    → AllByRecursion (λ c. (same_kind s.sequential c.sequential && is_ready g (placed ++ s.units) c) ≡ false) left
    → (o : Option (Component × List Component)) → pick (is_ready g (placed ++ s.units)) left ≡ o
    → Serves g (suc (suc (suc room))) placed s.sequential (in_order g s ∷ on_picked o (last_stage g left) (λ c rest. stages_from g k room (placed ++ s.units) (begun_by c) rest))
opened g is k room placed s left prior h none None e =
    record {
      begins = refl;
      follows = grown (closed g is (suc k) 1 placed s left (last_stage g left) h (follows_last g is left (placed ++ s.units) (λ u unit. placed_past g (suc k) placed s left u h unit)) (or_right s.sequential true refl));
    }
  where
    grown : Follows g 2 placed (in_order g s ∷ last_stage g left) → Follows g (suc (suc (suc room))) placed (in_order g s ∷ last_stage g left)
    grown f = record { once = f.once; forward = f.forward; ordered = f.ordered; untied = f.untied; alone = f.alone; few = omega arith }
opened g is k room placed s left prior h none (Some p) e =
    let found = picked (is_ready g (placed ++ s.units)) left p e in
    let later = prior room (placed ++ s.units) (begun_by p.0) p.1 (begun_stands g k placed s left p.1 p.0 (is_ready g (placed ++ s.units)) h found found.passes) in
    let other = other_kind s.sequential p.0.sequential (is_ready g (placed ++ s.units) p.0) (found.each (λ c. (same_kind s.sequential c.sequential && is_ready g (placed ++ s.units) c) ≡ false) none).0 found.passes in
    record {
      begins = refl;
      follows = closed g is (suc k) (suc (suc room)) placed s left (stages_from g k room (placed ++ s.units) (begun_by p.0) p.1) h later.follows
          (breaks s p.0.sequential (stages_from g k room (placed ++ s.units) (begun_by p.0) p.1) other later.begins);
    }

-- no more may be opened
with_room : (g : Graph) → IsGraph g → (k room : ℕ) (placed : List ℕ) (s : Stage) (left : List Component) → Chosen g k → Stands g (suc k) placed s left
    → AllByRecursion (λ c. (same_kind s.sequential c.sequential && is_ready g (placed ++ s.units) c) ≡ false) left
    → Serves g (suc (suc room)) placed s.sequential
    (in_order g s ∷ on_room room (last_stage g left) (λ fewer. on_picked (pick (is_ready g (placed ++ s.units)) left) (last_stage g left) (λ c rest. stages_from g k fewer (placed ++ s.units) (begun_by c) rest)))
with_room g is k zero placed s left prior h none =
    record {
      begins = refl;
      follows = closed g is (suc k) 1 placed s left (last_stage g left) h (follows_last g is left (placed ++ s.units) (λ u unit. placed_past g (suc k) placed s left u h unit)) (or_right s.sequential true refl);
    }
with_room g is k (suc room) placed s left prior h none = opened g is k room placed s left prior h none (pick (is_ready g (placed ++ s.units)) left) refl

-- one more component
next : (g : Graph) → IsGraph g → (k room : ℕ) (placed : List ℕ) (s : Stage) (left : List Component) → Chosen g k → Stands g (suc k) placed s left
    → (o : Option (Component × List Component)) → pick (λ c. same_kind s.sequential c.sequential && is_ready g (placed ++ s.units) c) left ≡ o
    → Serves g (suc (suc room)) placed s.sequential
    (on_picked o
    (in_order g s ∷ on_room room (last_stage g left) (λ fewer. on_picked (pick (is_ready g (placed ++ s.units)) left) (last_stage g left) (λ c rest. stages_from g k fewer (placed ++ s.units) (begun_by c) rest)))
    (λ c rest. stages_from g k room placed (joined_by s c) rest))
next g is k room placed s left prior h None e =
    with_room g is k room placed s left prior h (unpicked (λ c. same_kind s.sequential c.sequential && is_ready g (placed ++ s.units) c) left e)
next g is k room placed s left prior h (Some p) e =
    let test : Component → Bool = (λ c. same_kind s.sequential c.sequential && is_ready g (placed ++ s.units) c) in
    let found = picked test left p e in
    let passes = both (same_kind s.sequential p.0.sequential) (is_ready g (placed ++ s.units) p.0) found.passes in
    prior room placed (joined_by s p.0) p.1 (joined_stands g k placed s left p.1 p.0 test h found passes.0 passes.1)

pub chosen : (g : Graph) → IsGraph g → (k : ℕ) → Chosen g k
chosen g is zero room placed s left h =
    let f = closed g is 0 0 placed s left [] h (follows_none g placed s left h) tt in
    record {
      begins = refl;
      follows = record { once = f.once; forward = f.forward; ordered = f.ordered; untied = f.untied; alone = f.alone; few = omega arith };
    }
chosen g is (suc k) room placed s left h =
    next g is k room placed s left (chosen g is k) h (pick (λ c. same_kind s.sequential c.sequential && is_ready g (placed ++ s.units) c) left) refl
