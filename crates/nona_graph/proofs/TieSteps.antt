-- Units of a loop, and their ties one after another.
use Rattle.std.proofs.Common.{◌≡◌, ℕ, zero, suc, ◌+◌, ◌-◌, ◌≤◌, ◌<◌, ◌==◌, ◌&&◌, ◌||◌, Bool, true, false, List, [], ◌∷◌, ◌++◌, length, take, drop, map, filter, nat_le, refl, sym, ap, ◌∙◌, subst, if◌then◌else◌, slice_index_or, arith, append-nil, append_assoc}
use Rattle.std.specs.List.{list_any, flat_map}
use Rattle.std.proofs.lemmas.List.{get_or-map, get_or_default, length-map}
use Rattle.std.proofs.lemmas.List.Elements.{filter-append}
use Rattle.nona_tree.specs.declared.trees.Loop.{Loop}
use Rattle.nona_tree.specs.declared.trees.Stmt.{Stmt}
use Rattle.nona_forms.specs.Affine.{among}
use Rattle.nona_plans.specs.declared.graphs.Local.{Local}
use Rattle.nona_plans.specs.declared.graphs.Tie.{Tie}
use Rattle.nona_plans.specs.Walks.{IsUnit}
use Rattle.nona_plans.specs.Components.{up_to}
use Rattle.nona_plans.specs.Mentions.{prints}
use Rattle.nona_plans.specs.Units.{both_have, named_in, arrays_in, unit_has, unit_prints, uses, tie_of, local_of, locals_from, ties_of}
use Rattle.nona_graph.specs.declared.parts.UnitNames.{UnitNames}
use Rattle.nona_graph.specs.Facts.{facts_of, joins, names_at, ties_up_to, ties_from}
use Rattle.nona_graph.proofs.Tests.{found_more}
use Rattle.nona_graph.proofs.Appended.{next_of}

-- what a unit names, in the table of all units
unit_at : {A : Type 0} (f : UnitNames → A) (l : Loop) (units : List UnitNames) (u : ℕ) (d : UnitNames) (other : A) → units ≡ map facts_of l.body → IsUnit (length l.body) u
    → f (slice_index_or units (u - 1) d) ≡ slice_index_or (map (λ s. f (facts_of s)) l.body) (u - 1) other
unit_at f l units u d other is unit =
    let within : u - 1 < length l.body = omega (arith, unit) in
    ap (λ (us : List UnitNames). f (slice_index_or us (u - 1) d)) is
    ∙ ap f (get_or-map facts_of l.body (u - 1) (the_first l.body (u - 1) within) d within)
    ∙ sym (get_or-map (λ s. f (facts_of s)) l.body (u - 1) (the_first l.body (u - 1) within) other within)
  where
    the_first : (ss : List Stmt) (i : ℕ) → i < length ss → Stmt
    the_first [] i h = absurd (omega (arith, h))
    the_first (s ∷ ss) i h = s

pub scalars_at : (l : Loop) (units : List UnitNames) (u : ℕ) (d : UnitNames) → units ≡ map facts_of l.body → IsUnit (length l.body) u → (slice_index_or units (u - 1) d).scalars ≡ slice_index_or (map named_in l.body) (u - 1) []
scalars_at l units u d is unit = unit_at (λ n. n.scalars) l units u d [] is unit

pub arrays_at : (l : Loop) (units : List UnitNames) (u : ℕ) (d : UnitNames) → units ≡ map facts_of l.body → IsUnit (length l.body) u → (slice_index_or units (u - 1) d).arrays ≡ slice_index_or (map arrays_in l.body) (u - 1) []
arrays_at l units u d is unit = unit_at (λ n. n.arrays) l units u d [] is unit

pub prints_at : (l : Loop) (units : List UnitNames) (u : ℕ) (d : UnitNames) → units ≡ map facts_of l.body → IsUnit (length l.body) u → (slice_index_or units (u - 1) d).prints ≡ unit_prints l u
prints_at l units u d is unit = unit_at (λ n. n.prints) l units u d false is unit

pub both_at : (list : Stmt → List ℕ) (l : Loop) (u v : ℕ) (xs ys ids : List ℕ) → xs ≡ slice_index_or (map list l.body) (u - 1) [] → ys ≡ slice_index_or (map list l.body) (v - 1) []
    → list_any (λ id. among id xs && among id ys) ids ≡ both_have list l u v ids
both_at list l u v xs ys ids p q = λ i. list_any (λ id. among id (p i) && among id (q i)) ids

-- one more local
pub joins_next : (f : Bool) (l : Loop) (u v : ℕ) (xs : List Local) (i : ℕ) (d : Local) → i < length xs
    → (f || list_any (joins l u v) (drop i xs)) ≡ ((f || joins l u v (slice_index_or xs i d)) || list_any (joins l u v) (drop (i + 1) xs))
joins_next f l u v xs i d within =
    ap (λ (ys : List Local). f || list_any (joins l u v) ys) (next_of xs i d within) ∙ found_more f (joins l u v (slice_index_or xs i d)) (list_any (joins l u v) (drop (i + 1) xs))

pub locals_next : (ss : List Stmt) (i : ℕ) (d : Stmt) (found : List Local) → i < length ss
    → found ++ locals_from (suc i) (drop i ss) ≡ (found ++ local_of (i + 1) (slice_index_or ss i d) (drop (i + 1) ss)) ++ locals_from (suc (i + 1)) (drop (i + 1) ss)
locals_next ss i d found within =
    let next : i + 1 ≡ suc i = omega arith in
    ap (λ (xs : List Stmt). found ++ locals_from (suc i) xs) (next_of ss i d within)
    ∙ sym (append_assoc found (local_of (suc i) (slice_index_or ss i d) (drop (i + 1) ss)) (locals_from (suc (suc i)) (drop (i + 1) ss)))
    ∙ ap (λ n. (found ++ local_of n (slice_index_or ss i d) (drop (i + 1) ss)) ++ locals_from (suc n) (drop (i + 1) ss)) (sym next)

-- the numbers from 1 on, one by one
pub flat_both : {A B : Type 0} (f : A → List B) (xs ys : List A) → flat_map f (xs ++ ys) ≡ flat_map f xs ++ flat_map f ys
flat_both f [] ys = refl
flat_both f (x ∷ xs) ys = ap (λ zs. f x ++ zs) (flat_both f xs ys) ∙ sym (append_assoc (f x) (flat_map f xs) (flat_map f ys))

flat_if : {B : Type 0} (f : ℕ → List B) (n : ℕ) (b : Bool) → flat_map f (if b then n ∷ [] else []) ≡ (if b then f n else [])
flat_if f n true = append-nil (f n)
flat_if f n false = refl

pub kept_more : {B : Type 0} (f : ℕ → List B) (p : ℕ → Bool) (k : ℕ) → flat_map f (filter p (up_to (k + 1))) ≡ flat_map f (filter p (up_to k)) ++ (if p (k + 1) then f (k + 1) else [])
kept_more f p k =
    let next : k + 1 ≡ suc k = omega arith in
    ap (λ n. flat_map f (filter p (up_to n))) next
    ∙ ap (flat_map f) (filter-append p (up_to k) (suc k ∷ []))
    ∙ flat_both f (filter p (up_to k)) (if p (suc k) then suc k ∷ [] else [])
    ∙ ap (λ xs. flat_map f (filter p (up_to k)) ++ xs) (flat_if f (suc k) (p (suc k)))
    ∙ ap (λ n. flat_map f (filter p (up_to k)) ++ (if p n then f n else [])) (sym next)

pub all_more : {B : Type 0} (f : ℕ → List B) (k : ℕ) → flat_map f (up_to (k + 1)) ≡ flat_map f (up_to k) ++ f (k + 1)
all_more f k =
    let next : k + 1 ≡ suc k = omega arith in
    ap (λ n. flat_map f (up_to n)) next ∙ flat_both f (up_to k) (suc k ∷ [])
    ∙ ap (λ xs. flat_map f (up_to k) ++ xs) (append-nil (f (suc k)))
    ∙ ap (λ n. flat_map f (up_to k) ++ f n) (sym next)

-- one more tie of a unit
pub ties_next : (l : Loop) (u k : ℕ) (old now new : List Tie) → now ≡ old ++ ties_up_to l u k → new ≡ now ++ (if nat_le u (k + 1) then tie_of [] l u (k + 1) else []) → new ≡ old ++ ties_up_to l u (k + 1)
ties_next l u k old now new h g =
    let more = if nat_le u (k + 1) then tie_of [] l u (k + 1) else [] in
    g ∙ ap (λ xs. xs ++ more) h ∙ append_assoc old (ties_up_to l u k) more
    ∙ ap (λ xs. old ++ xs) (sym (kept_more (tie_of [] l u) (λ v. nat_le u v) k))

pub ties_done : (l : Loop) (u k : ℕ) (old now : List Tie) → now ≡ old ++ ties_up_to l u k → k ≡ length l.body → now ≡ old ++ ties_from l u
ties_done l u k old now h e = h ∙ ap (λ n. old ++ ties_up_to l u n) e

pub all_ties_next : (l : Loop) (k : ℕ) (now new : List Tie) → now ≡ flat_map (ties_from l) (up_to k) → new ≡ now ++ ties_from l (k + 1) → new ≡ flat_map (ties_from l) (up_to (k + 1))
all_ties_next l k now new h g = g ∙ ap (λ xs. xs ++ ties_from l (k + 1)) h ∙ sym (all_more (ties_from l) k)

-- a number that is no unit's names nothing
none_there : (list : Stmt → List ℕ) (ss : List Stmt) (i : ℕ) → length ss ≤ i → slice_index_or (map list ss) i [] ≡ []
none_there list [] i h = none_of i
  where
    none_of : (i : ℕ) → slice_index_or {A = List ℕ} [] i [] ≡ []
    none_of zero = refl
    none_of (suc i) = refl
none_there list (s ∷ ss) zero h = absurd (omega (arith, h))
none_there list (s ∷ ss) (suc i) h = none_there list ss i (omega (arith, h))

pub named_none : (l : Loop) (units : List UnitNames) (u id : ℕ) → units ≡ map facts_of l.body → length units ≤ u - 1 → false ≡ unit_has named_in l u id
named_none l units u id is h =
    let long : length units ≡ length l.body = ap length is ∙ length-map l.body facts_of in
    sym (ap (among id) (none_there named_in l.body (u - 1) (omega (arith, h, long))))

pub named_there : (l : Loop) (units : List UnitNames) (u id : ℕ) (d : UnitNames) (r : Bool) → units ≡ map facts_of l.body → 1 ≤ u → u - 1 < length units → r ≡ among id (slice_index_or units (u - 1) d).scalars → r ≡ unit_has named_in l u id
named_there l units u id d r is low h e =
    let long : length units ≡ length l.body = ap length is ∙ length-map l.body facts_of in
    let unit : IsUnit (length l.body) u = (low, omega (arith, h, long, low)) in
    e ∙ ap (among id) (scalars_at l units u d is unit)

-- a tie of units in text order
at_most : (a b : ℕ) → a ≤ b → nat_le a b ≡ true
at_most a b h = grind arith

above : (a b : ℕ) → b < a → nat_le a b ≡ false
above a b h = grind arith

pub tie_here : (u v : ℕ) (xs old new : List Tie) → u ≤ v → new ≡ old ++ xs → new ≡ old ++ (if nat_le u v then xs else [])
tie_here u v xs old new h e = e ∙ ap (λ b. old ++ (if b then xs else [])) (sym (at_most u v h))

pub tie_none : (u v : ℕ) (xs old : List Tie) → v < u → old ≡ old ++ (if nat_le u v then xs else [])
tie_none u v xs old h = sym (ap (λ b. old ++ (if b then xs else [])) (above u v h) ∙ append-nil old)

-- what is used of the table of all units
abbrev no_names : UnitNames
no_names = record { scalars = []; arrays = []; prints = false }

pub has_named : (l : Loop) (units given : List UnitNames) (u id : ℕ) (r : Bool) → given ≡ units → units ≡ map facts_of l.body → 1 ≤ u → u - 1 < length units → r ≡ among id (names_at given (u - 1)).scalars → r ≡ unit_has named_in l u id
has_named l units given u id r same is low h e =
    named_there l units u id no_names r is low h (e ∙ ap (λ (us : List UnitNames). among id (names_at us (u - 1)).scalars) same)

pub has_printed : (l : Loop) (units given : List UnitNames) (u : ℕ) (r : Bool) → given ≡ units → units ≡ map facts_of l.body → IsUnit (length l.body) u → r ≡ (names_at given (u - 1)).prints → r ≡ unit_prints l u
has_printed l units given u r same is unit e = e ∙ prints_at l given u no_names (same ∙ is) unit

pub both_scalars : (l : Loop) (units given : List UnitNames) (u v : ℕ) (ids : List ℕ) (r : Bool) → given ≡ units → units ≡ map facts_of l.body → IsUnit (length l.body) u → IsUnit (length l.body) v
    → r ≡ list_any (λ id. among id (names_at given (u - 1)).scalars && among id (names_at given (v - 1)).scalars) ids → r ≡ both_have named_in l u v ids
both_scalars l units given u v ids r same is a b e =
    e ∙ both_at named_in l u v (names_at given (u - 1)).scalars (names_at given (v - 1)).scalars ids (scalars_at l given u no_names (same ∙ is) a) (scalars_at l given v no_names (same ∙ is) b)

pub both_arrays : (l : Loop) (units given : List UnitNames) (u v : ℕ) (ids : List ℕ) (r : Bool) → given ≡ units → units ≡ map facts_of l.body → IsUnit (length l.body) u → IsUnit (length l.body) v
    → r ≡ list_any (λ id. among id (names_at given (u - 1)).arrays && among id (names_at given (v - 1)).arrays) ids → r ≡ both_have arrays_in l u v ids
both_arrays l units given u v ids r same is a b e =
    e ∙ both_at arrays_in l u v (names_at given (u - 1)).arrays (names_at given (v - 1)).arrays ids (arrays_at l given u no_names (same ∙ is) a) (arrays_at l given v no_names (same ∙ is) b)

-- what was read of the table is what stands there
pub read_at : (units : List UnitNames) (i : ℕ) (x : UnitNames) → i < length units → x ≡ slice_index_or units i x → x ≡ names_at units i
read_at units i x within is = is ∙ get_or_default units i x no_names within
