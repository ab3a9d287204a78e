-- The regions that are seen are the loops from outside in that are parallel, each with its plan.
use Rattle.std.proofs.Common.{◌≡◌, ◌<◌, ◌⊎◌, inl, inr, ⊎_elim, ℕ, Bool, true, false, cond, ◌&&◌, ◌||◌, ◌==◌, List, [], ◌∷◌, ◌++◌, length, Some, refl, sym, ap, subst, ◌∙◌, arith, if◌then◌else◌}
use Rattle.std.specs.Prelude.{All, IsTrue, filter, ◌+◌}
use Rattle.std.specs.List.{AllByRecursion, list_any}
use Rattle.std.proofs.lemmas.Bool.{ne_eqb, eq-eqb}
use Rattle.std.proofs.lemmas.List.{map-append, length-map}
use Rattle.std.proofs.lemmas.List.Elements.{All-from_recursion, recursion_from_All, All-filter, filter-append, filter_passes}
use Rattle.nona_tree.specs.declared.plans.Plan.{Plan}
use Rattle.nona_tree.specs.declared.trees.Loop.{Loop}
use Rattle.nona_tree.specs.declared.trees.Program.{Program}
use Rattle.nona_tree.specs.declared.trees.Stmt.{Stmt, Let, Set, Fold, Put, FoldPut, If', While', For', Print, Row_of-Stmt, end_of-Stmt, more_of-Stmt, items-the_row-Stmt}
use Rattle.nona_tree.specs.Entries.{is_among, may_reshape, loop_with, places_of, regions_in, regions_row, regions_all}
use Rattle.nona_tree.specs.Places.{fors_in, fors_row, fors_all, AreRising, HasOwnPlaces}
use Rattle.nona_forms.specs.Calm.{is_calm}
use Rattle.nona_plans.specs.Plans.{bare, plan_of}
use Rattle.nona_stages.specs.declared.seen.Region.{Region}
use Rattle.nona_stages.specs.declared.seen.Seen.{Seen}
use Rattle.nona_stages.specs.declared.seen.Seen.TheVariants as seen
use Rattle.nona_stages.specs.Seen.{outer_in, outer_row, outer_all, has_version, is_parallel, plain_of, seen_from, seen_of, regions_of, seen_places, region_at, plan_or_bare, plan_at}
use Rattle.nona_stages.proofs.Gathered.{left_of, right_of}

chosen_parts : (chosen : Loop → Bool) (xs ys xs2 ys2 : List Loop) → xs2 ≡ filter chosen xs → ys2 ≡ filter chosen ys → xs2 ++ ys2 ≡ filter chosen (xs ++ ys)
chosen_parts chosen xs ys xs2 ys2 first second = (λ i. first i ++ second i) ∙ sym (filter-append chosen xs ys)

chosen_loop : (chosen : Loop → Bool) (b : Bool) (l : Loop) (outer inside : List Loop) → chosen l ≡ b → inside ≡ filter chosen outer
    → (if b then l ∷ [] else inside) ≡ filter chosen (l ∷ (if b then [] else outer))
chosen_loop chosen true l outer inside is h = ap (λ (b : Bool). cond b (l ∷ []) []) (sym is)
chosen_loop chosen false l outer inside is h = h ∙ ap (λ (b : Bool). cond b (l ∷ filter chosen outer) (filter chosen outer)) (sym is)

mutual
  chosen_in : (chosen : Loop → Bool) (s : Stmt) → regions_in chosen s ≡ filter chosen (outer_in chosen s)
  chosen_in chosen (Let x e) = refl
  chosen_in chosen (Set x e) = refl
  chosen_in chosen (Fold x f e) = refl
  chosen_in chosen (Put c e) = refl
  chosen_in chosen (FoldPut c f e) = refl
  chosen_in chosen (Print e at) = refl
  chosen_in chosen (If' test p then_part q else_part) =
      chosen_parts chosen (outer_row chosen then_part) (outer_row chosen else_part) _ _ (chosen_row chosen then_part) (chosen_row chosen else_part)
  chosen_in chosen (While' test p body at) = chosen_row chosen body
  chosen_in chosen (For' x low high p body seq at) =
      let l = loop_with x low high (items-the_row-Stmt _ body) seq at in
      chosen_loop chosen (chosen l) l (outer_row chosen body) (regions_row chosen body) refl (chosen_row chosen body)

  chosen_row : {k : _} (chosen : Loop → Bool) (row : Row_of-Stmt k) → regions_row chosen row ≡ filter chosen (outer_row chosen row)
  chosen_row chosen end_of-Stmt = refl
  chosen_row chosen (more_of-Stmt s rest) =
      chosen_parts chosen (outer_in chosen s) (outer_row chosen rest) _ _ (chosen_in chosen s) (chosen_row chosen rest)

-- the regions by a test are the loops outside regions for which it holds
chosen_all : (chosen : Loop → Bool) (ss : List Stmt) → regions_all chosen ss ≡ filter chosen (outer_all chosen ss)
chosen_all chosen [] = refl
chosen_all chosen (s ∷ rest) =
    chosen_parts chosen (outer_in chosen s) (outer_all chosen rest) _ _ (chosen_in chosen s) (chosen_all chosen rest)

-- a test gives what another one gives
abbrev Agree : (Loop → Bool) → (Loop → Bool) → Loop → Type 0
Agree one other l = one l ≡ other l

same_loop : (one other : Loop → Bool) (a b : Bool) (l : Loop) (xs ys outer : List Loop) → a ≡ b → (AllByRecursion (Agree one other) outer → xs ≡ ys)
    → AllByRecursion (Agree one other) (if b then [] else outer) → (if a then l ∷ [] else xs) ≡ (if b then l ∷ [] else ys)
same_loop one other a true l xs ys outer is more h = ap (λ (c : Bool). if c then l ∷ [] else xs) is
same_loop one other a false l xs ys outer is more h = ap (λ (c : Bool). if c then l ∷ [] else xs) is ∙ more h

mutual
  same_in : (one other : Loop → Bool) (s : Stmt) → AllByRecursion (Agree one other) (outer_in other s) → regions_in one s ≡ regions_in other s
  same_in one other (Let x e) h = refl
  same_in one other (Set x e) h = refl
  same_in one other (Fold x f e) h = refl
  same_in one other (Put c e) h = refl
  same_in one other (FoldPut c f e) h = refl
  same_in one other (Print e at) h = refl
  same_in one other (If' test p then_part q else_part) h =
      let first = same_row one other then_part (left_of (Agree one other) (outer_row other then_part) (outer_row other else_part) h) in
      let second = same_row one other else_part (right_of (Agree one other) (outer_row other then_part) (outer_row other else_part) h) in
      λ i. first i ++ second i
  same_in one other (While' test p body at) h = same_row one other body h
  same_in one other (For' x low high p body seq at) h =
      let l = loop_with x low high (items-the_row-Stmt _ body) seq at in
      same_loop one other (one l) (other l) l (regions_row one body) (regions_row other body) (outer_row other body) h.0 (same_row one other body) h.1

  same_row : {k : _} (one other : Loop → Bool) (row : Row_of-Stmt k) → AllByRecursion (Agree one other) (outer_row other row) → regions_row one row ≡ regions_row other row
  same_row one other end_of-Stmt h = refl
  same_row one other (more_of-Stmt s rest) h =
      let first = same_in one other s (left_of (Agree one other) (outer_in other s) (outer_row other rest) h) in
      let second = same_row one other rest (right_of (Agree one other) (outer_in other s) (outer_row other rest) h) in
      λ i. first i ++ second i

-- tests that agree at the loops outside regions choose the same regions
same_all : (one other : Loop → Bool) (ss : List Stmt) → AllByRecursion (Agree one other) (outer_all other ss) → regions_all one ss ≡ regions_all other ss
same_all one other [] h = refl
same_all one other (s ∷ rest) h =
    let first = same_in one other s (left_of (Agree one other) (outer_in other s) (outer_all other rest) h) in
    let second = same_all one other rest (right_of (Agree one other) (outer_in other s) (outer_all other rest) h) in
    λ i. first i ++ second i

-- numbers are some of others, in their order
abbrev IsWithin : List ℕ → List ℕ → Type 0
IsWithin xs [] = xs ≡ []
IsWithin xs (y ∷ ys) = IsWithin xs ys ⊎ ((zs : List ℕ) × (xs ≡ y ∷ zs) × IsWithin zs ys)

none_within : (ys : List ℕ) → IsWithin [] ys
none_within [] = refl
none_within (y ∷ ys) = inl (none_within ys)

more_within : (y : ℕ) (xs ys : List ℕ) → IsWithin xs ys → IsWithin (y ∷ xs) (y ∷ ys)
more_within y xs ys h = inr (xs, refl, h)

both_within : (xs us ys vs : List ℕ) → IsWithin xs ys → IsWithin us vs → IsWithin (xs ++ us) (ys ++ vs)
both_within xs us [] vs h g = subst (λ (zs : List ℕ). IsWithin (zs ++ us) vs) (sym h) g
both_within xs us (y ∷ ys) vs h g =
    ⊎_elim (λ skips. inl (both_within xs us ys vs skips g))
    (λ takes. inr (takes.0 ++ us, ap (λ (zs : List ℕ). zs ++ us) takes.1, both_within takes.0 us ys vs takes.2 g)) h

above_within : (n : ℕ) (xs ys : List ℕ) → IsWithin xs ys → AllByRecursion (λ y. n < y) ys → AllByRecursion (λ y. n < y) xs
above_within n xs [] h g = subst (AllByRecursion (λ y. n < y)) (sym h) tt
above_within n xs (y ∷ ys) h g =
    ⊎_elim (λ skips. above_within n xs ys skips g.1)
    (λ takes. subst (AllByRecursion (λ z. n < z)) (sym takes.1) (g.0, above_within n takes.0 ys takes.2 g.1)) h

rising_within : (xs ys : List ℕ) → IsWithin xs ys → AreRising ys → AreRising xs
rising_within xs [] h g = subst AreRising (sym h) tt
rising_within xs (y ∷ ys) h g =
    ⊎_elim (λ skips. rising_within xs ys skips g.1)
    (λ takes. subst AreRising (sym takes.1) (above_within y takes.0 ys takes.2 g.0, rising_within takes.0 ys takes.2 g.1)) h

within_parts : (xs us : List Loop) (ys vs : List ℕ) → IsWithin (places_of xs) ys → IsWithin (places_of us) vs → IsWithin (places_of (xs ++ us)) (ys ++ vs)
within_parts xs us ys vs h g =
    subst (λ (places : List ℕ). IsWithin places (ys ++ vs)) (sym (map-append (λ (l : Loop). l.at) xs us)) (both_within (places_of xs) (places_of us) ys vs h g)

within_loop : (b : Bool) (l : Loop) (outer : List Loop) (ys : List ℕ) → IsWithin (places_of outer) ys
    → IsWithin (places_of (l ∷ (if b then [] else outer))) (l.at ∷ ys)
within_loop true l outer ys h = more_within l.at [] ys (none_within ys)
within_loop false l outer ys h = more_within l.at (places_of outer) ys h

mutual
  within_in : (chosen : Loop → Bool) (s : Stmt) → IsWithin (places_of (outer_in chosen s)) (fors_in s)
  within_in chosen (Let x e) = refl
  within_in chosen (Set x e) = refl
  within_in chosen (Fold x f e) = refl
  within_in chosen (Put c e) = refl
  within_in chosen (FoldPut c f e) = refl
  within_in chosen (Print e at) = refl
  within_in chosen (If' test p then_part q else_part) =
      within_parts (outer_row chosen then_part) (outer_row chosen else_part) (fors_row then_part) (fors_row else_part) (within_row chosen then_part) (within_row chosen else_part)
  within_in chosen (While' test p body at) = within_row chosen body
  within_in chosen (For' x low high p body seq at) =
      let l = loop_with x low high (items-the_row-Stmt _ body) seq at in
      within_loop (chosen l) l (outer_row chosen body) (fors_row body) (within_row chosen body)

  within_row : {k : _} (chosen : Loop → Bool) (row : Row_of-Stmt k) → IsWithin (places_of (outer_row chosen row)) (fors_row row)
  within_row chosen end_of-Stmt = refl
  within_row chosen (more_of-Stmt s rest) =
      within_parts (outer_in chosen s) (outer_row chosen rest) (fors_in s) (fors_row rest) (within_in chosen s) (within_row chosen rest)

within_all : (chosen : Loop → Bool) (ss : List Stmt) → IsWithin (places_of (outer_all chosen ss)) (fors_all ss)
within_all chosen [] = refl
within_all chosen (s ∷ rest) =
    within_parts (outer_in chosen s) (outer_all chosen rest) (fors_in s) (fors_all rest) (within_in chosen s) (within_all chosen rest)

-- the loops outside regions stand one behind another, where all loops do
outer_rising : (chosen : Loop → Bool) (ss : List Stmt) → AreRising (fors_all ss) → AreRising (places_of (outer_all chosen ss))
outer_rising chosen ss h = rising_within (places_of (outer_all chosen ss)) (fors_all ss) (within_all chosen ss) h

-- a loop stands behind a place
abbrev IsBehind : ℕ → Loop → Type 0
IsBehind at l = at < l.at

behind_all : (at : ℕ) (ls : List Loop) → AllByRecursion (λ y. at < y) (places_of ls) → AllByRecursion (IsBehind at) ls
behind_all at [] h = tt
behind_all at (l ∷ ls) h = (h.0, behind_all at ls h.1)

kept : (P : Loop → Type 0) (chosen : Loop → Bool) (ls : List Loop) → AllByRecursion P ls → AllByRecursion P (filter chosen ls)
kept P chosen ls h = recursion_from_All P (filter chosen ls) (All-filter chosen P ls (All-from_recursion P ls h))

same_place : (at : ℕ) → (at == at) ≡ true
same_place at = eq-eqb at at refl

apart_before : (at place : ℕ) → at < place → (at == place) ≡ false
apart_before at place h = ne_eqb at place (λ e. absurd (omega (arith, h, e)))

apart_behind : (at place : ℕ) → at < place → (place == at) ≡ false
apart_behind at place h = ne_eqb place at (λ e. absurd (omega (arith, h, e)))

none_here : (at : ℕ) (ls : List Loop) → AllByRecursion (IsBehind at) ls → list_any (λ place. place == at) (places_of ls) ≡ false
none_here at [] h = refl
none_here at (l ∷ ls) h = (λ i. apart_behind at l.at h.0 i || none_here at ls h.1 i)

first_agrees : (chosen : Loop → Bool) (b : Bool) (l : Loop) (ls : List Loop) → chosen l ≡ b → AllByRecursion (IsBehind l.at) ls
    → is_among (places_of (cond b (l ∷ ls) ls)) l ≡ chosen l
first_agrees chosen true l ls is h = ap (λ (c : Bool). c || list_any (λ place. place == l.at) (places_of ls)) (same_place l.at) ∙ sym is
first_agrees chosen false l ls is h = none_here l.at ls h ∙ sym is

other_agrees : (b : Bool) (l m : Loop) (ls : List Loop) → IsBehind l.at m → is_among (places_of (cond b (l ∷ ls) ls)) m ≡ is_among (places_of ls) m
other_agrees true l m ls h = ap (λ (c : Bool). c || is_among (places_of ls) m) (apart_before l.at m.at h)
other_agrees false l m ls h = refl

others_agree : (chosen : Loop → Bool) (b : Bool) (l : Loop) (ls ms : List Loop) → AllByRecursion (IsBehind l.at) ms
    → AllByRecursion (Agree (is_among (places_of ls)) chosen) ms → AllByRecursion (Agree (is_among (places_of (cond b (l ∷ ls) ls))) chosen) ms
others_agree chosen b l ls [] h g = tt
others_agree chosen b l ls (m ∷ ms) h g = (other_agrees b l m ls h.0 ∙ g.0, others_agree chosen b l ls ms h.1 g.1)

-- of loops that stand one behind another, those at the places of the chosen ones are these
places_agree : (chosen : Loop → Bool) (ls : List Loop) → AreRising (places_of ls) → AllByRecursion (Agree (is_among (places_of (filter chosen ls))) chosen) ls
places_agree chosen [] h = tt
places_agree chosen (l ∷ ls) h =
    let behind = behind_all l.at ls h.0 in (
      first_agrees chosen (chosen l) l (filter chosen ls) refl (kept (IsBehind l.at) chosen ls behind),
      others_agree chosen (chosen l) l (filter chosen ls) ls behind (places_agree chosen ls h.1),
    )

seen_one : (b : Bool) (number : ℕ) (l : Loop) (rest : List Loop)
    → seen_places (seen_from (number + 1) rest) ≡ places_of (filter is_parallel rest) → seen_places (seen_from number rest) ≡ places_of (filter is_parallel rest)
    → seen_places (if b then seen.Region (record { number = number; at = l.at; plan = plan_of l }) ∷ seen_from (number + 1) rest else seen.Plain l.at (plain_of l) ∷ seen_from number rest)
    ≡ places_of (cond b (l ∷ filter is_parallel rest) (filter is_parallel rest))
seen_one true number l rest more same = ap (λ (places : List ℕ). l.at ∷ places) more
seen_one false number l rest more same = same

-- the regions that are seen of loops stand where the parallel ones stand
places_seen : (number : ℕ) (ls : List Loop) → seen_places (seen_from number ls) ≡ places_of (filter is_parallel ls)
places_seen number [] = refl
places_seen number (l ∷ rest) = seen_one (is_parallel l) number l rest (places_seen (number + 1) rest) (places_seen number rest)

-- there are as many
pub seen_count : (ss : List Stmt) → length (regions_of (seen_from 1 (outer_all is_parallel ss))) ≡ length (regions_all is_parallel ss)
seen_count ss =
    let outer = outer_all is_parallel ss in
    sym (length-map (regions_of (seen_from 1 outer)) (λ (r : Region). r.at)) ∙ ap length (places_seen 1 outer)
    ∙ length-map (filter is_parallel outer) (λ (l : Loop). l.at) ∙ ap length (sym (chosen_all is_parallel ss))

pub places_kept : (p : Program) → HasOwnPlaces p → regions_all (is_among (seen_places (seen_of p))) p.body ≡ regions_all is_parallel p.body
places_kept p own =
    let outer = outer_all is_parallel p.body in
    ap (λ (places : List ℕ). regions_all (is_among places) p.body) (places_seen 1 outer)
    ∙ same_all (is_among (places_of (filter is_parallel outer))) is_parallel p.body (places_agree is_parallel outer (outer_rising is_parallel p.body own))

-- the plan at the place of a loop is its own
abbrev IsPlanned : List Seen → Loop → Type 0
IsPlanned all l = plan_at (regions_of all) l.at ≡ plan_of l

further : (first : Region) (all : List Seen) (ms : List Loop) → AllByRecursion (IsBehind first.at) ms
    → AllByRecursion (IsPlanned all) ms → AllByRecursion (IsPlanned (seen.Region first ∷ all)) ms
further first all [] h g = tt
further first all (m ∷ ms) h g =
    (ap (λ (b : Bool). plan_or_bare (if b then Some first else region_at (regions_of all) m.at)) (apart_before first.at m.at h.0) ∙ g.0, further first all ms h.1 g.1)

planned_one : (b : Bool) (number : ℕ) (l : Loop) (rest : List Loop) → AllByRecursion (IsBehind l.at) (filter is_parallel rest)
    → AllByRecursion (IsPlanned (seen_from (number + 1) rest)) (filter is_parallel rest) → AllByRecursion (IsPlanned (seen_from number rest)) (filter is_parallel rest)
    → AllByRecursion (IsPlanned (if b then seen.Region (record { number = number; at = l.at; plan = plan_of l }) ∷ seen_from (number + 1) rest else seen.Plain l.at (plain_of l) ∷ seen_from number rest))
    (cond b (l ∷ filter is_parallel rest) (filter is_parallel rest))
planned_one true number l rest behind more same =
    let first : Region = record { number = number; at = l.at; plan = plan_of l } in (
      ap (λ (b : Bool). plan_or_bare (if b then Some first else region_at (regions_of (seen_from (number + 1) rest)) l.at)) (same_place l.at),
      further first (seen_from (number + 1) rest) (filter is_parallel rest) behind more,
    )
planned_one false number l rest behind more same = same

planned_all : (number : ℕ) (ls : List Loop) → AreRising (places_of ls) → AllByRecursion (IsPlanned (seen_from number ls)) (filter is_parallel ls)
planned_all number [] h = tt
planned_all number (l ∷ rest) h =
    planned_one (is_parallel l) number l rest (kept (IsBehind l.at) is_parallel rest (behind_all l.at rest h.0)) (planned_all (number + 1) rest h.1) (planned_all number rest h.1)

pub plans_kept : (p : Program) → HasOwnPlaces p → All (λ l. plan_at (regions_of (seen_of p)) l.at ≡ plan_of l) (regions_all is_parallel p.body)
plans_kept p own =
    let outer = outer_all is_parallel p.body in
    subst (All (IsPlanned (seen_of p))) (sym (chosen_all is_parallel p.body))
    (All-from_recursion (IsPlanned (seen_of p)) (filter is_parallel outer) (planned_all 1 outer (outer_rising is_parallel p.body own)))

pub all_parallel : (ss : List Stmt) → All (λ l. IsTrue (is_parallel l)) (regions_all is_parallel ss)
all_parallel ss = subst (All (λ l. IsTrue (is_parallel l))) (sym (chosen_all is_parallel ss)) (filter_passes is_parallel (outer_all is_parallel ss))

calm_where : (calm may : Bool) (plan : Plan) → (may && has_version (if calm then plan else bare)) ≡ true → calm ≡ true
calm_where true may plan h = refl
calm_where false true plan h = h
calm_where false false plan h = h

pub parallel_is_calm : (l : Loop) → IsTrue (is_parallel l) → IsTrue (is_calm l)
parallel_is_calm l h = calm_where (is_calm l) (may_reshape l) _ h
