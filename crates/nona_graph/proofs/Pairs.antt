-- Pairs of accesses that may meet.
use Rattle.std.proofs.Common.{◌≡◌, ℕ, suc, ◌+◌, ◌-◌, ◌<◌, ◌==◌, ◌&&◌, ◌||◌, Bool, true, false, not, List, [], ◌∷◌, ◌++◌, length, take, drop, map, filter, refl, sym, ap, ◌∙◌, subst, if◌then◌else◌, slice_index_or, arith}
use Rattle.std.specs.List.{list_any}
use Rattle.std.proofs.lemmas.List.{get_or_default, length-drop, take_all}
use Rattle.nona_tree.specs.declared.trees.Loop.{Loop}
use Rattle.nona_forms.specs.declared.shapes.LoopShape.{LoopShape}
use Rattle.nona_forms.specs.declared.shapes.Spot.{Spot}
use Rattle.nona_forms.specs.Affine.{among}
use Rattle.nona_forms.specs.References.{Reference, references_all, names_of}
use Rattle.nona_forms.specs.Verdicts.{spot_of, shape_of, is_apart}
use Rattle.nona_plans.specs.Units.{has_pair, may_meet, written_arrays, carried_arrays}
use Rattle.nona_graph.specs.Meeting.{do_meet, meet_in}
use Rattle.nona_graph.specs.Facts.{HaveSame}
use Rattle.nona_graph.proofs.Tests.{same_units, either_is, or_true, or_false, found_more}
use Rattle.nona_graph.proofs.Appended.{next_of}
use Rattle.nona_graph.proofs.Sharing.{same_tests, among_kept}

turned : (a b : ℕ) → (a == b) ≡ (b == a)
turned a b = grind arith

-- an access in this array meets another one where that is in the same array
meets_at : (a : ℕ) (x y : ℕ) (c same : Bool) → (x == a) ≡ same → (same && ((y == a) && c)) ≡ (same && ((x == y) && c))
meets_at a x y c true e = ap (λ b. b && c) (ap (λ n. y == n) (sym (same_units x a e)) ∙ turned y x)
meets_at a x y c false e = refl

meets_any : (shape : LoopShape) (a : ℕ) (x : Spot) (same : Bool) → (x.array == a) ≡ same → (ys : List Spot)
    → list_any (λ y. same && ((y.array == a) && ((x.write || y.write) && not (is_apart shape x y)))) ys ≡ (same && list_any (do_meet shape x) ys)
meets_any shape a x true e [] = refl
meets_any shape a x false e [] = refl
meets_any shape a x true e (y ∷ ys) =
    λ i. meets_at a x.array y.array ((x.write || y.write) && not (is_apart shape x y)) true e i || meets_any shape a x true e ys i
meets_any shape a x false e (y ∷ ys) = meets_any shape a x false e ys

meets_all : (shape : LoopShape) (a : ℕ) (x : Spot) (ys : List Spot) → list_any (meet_in shape a x) ys ≡ ((x.array == a) && list_any (do_meet shape x) ys)
meets_all shape a x ys = meets_any shape a x (x.array == a) refl ys

-- an array more
and_is : (a b : Bool) → b ≡ true → (a && b) ≡ a
and_is true b h = h
and_is false b h = refl

and_not : (a b : Bool) → b ≡ false → (a && b) ≡ false
and_not true b h = h
and_not false b h = refl

among_push : (a x : ℕ) (xs : List ℕ) → among a (xs ++ x ∷ []) ≡ (among a xs || (x == a))
among_push a x [] = either_is (a == x) false ∙ or_false (a == x) ∙ turned a x
among_push a x (y ∷ xs) =
    either_is (a == y) (among a (xs ++ x ∷ [])) ∙ ap (λ b. (a == y) || b) (among_push a x xs)
    ∙ found_more (a == y) (among a xs) (x == a) ∙ ap (λ b. b || (x == a)) (sym (either_is (a == y) (among a xs)))

-- the pairs whose first access is the next one, and those behind it
pub pair_found : (shape : LoopShape) (a : ℕ) (arrays : List ℕ) (xs : List Spot) (i : ℕ) (d : Spot) → i < length xs → list_any (do_meet shape (slice_index_or xs i d)) (drop i xs) ≡ true
    → (among a arrays || has_pair (meet_in shape a) (drop i xs)) ≡ (among a (arrays ++ (slice_index_or xs i d).array ∷ []) || has_pair (meet_in shape a) (drop (i + 1) xs))
pair_found shape a arrays xs i d within h =
    let x = slice_index_or xs i d in
    let more = has_pair (meet_in shape a) (drop (i + 1) xs) in
    let next = next_of xs i d within in
    let here : list_any (meet_in shape a x) (x ∷ drop (i + 1) xs) ≡ (x.array == a) =
    meets_all shape a x (x ∷ drop (i + 1) xs) ∙ and_is (x.array == a) _ (ap (list_any (do_meet shape x)) (sym next) ∙ h) in
    ap (λ ys. among a arrays || has_pair (meet_in shape a) ys) next ∙ ap (λ b. among a arrays || (b || more)) here
    ∙ found_more (among a arrays) (x.array == a) more ∙ ap (λ b. b || more) (sym (among_push a x.array arrays))

pub pair_passed : (shape : LoopShape) (a : ℕ) (arrays : List ℕ) (xs : List Spot) (i : ℕ) (d : Spot) → i < length xs → list_any (do_meet shape (slice_index_or xs i d)) (drop i xs) ≡ false
    → (among a arrays || has_pair (meet_in shape a) (drop i xs)) ≡ (among a arrays || has_pair (meet_in shape a) (drop (i + 1) xs))
pair_passed shape a arrays xs i d within h =
    let x = slice_index_or xs i d in
    let more = has_pair (meet_in shape a) (drop (i + 1) xs) in
    let next = next_of xs i d within in
    let here : list_any (meet_in shape a x) (x ∷ drop (i + 1) xs) ≡ false =
    meets_all shape a x (x ∷ drop (i + 1) xs) ∙ and_not (x.array == a) _ (ap (list_any (do_meet shape x)) (sym next) ∙ h) in
    ap (λ ys. among a arrays || has_pair (meet_in shape a) ys) next ∙ ap (λ b. among a arrays || (b || more)) here

-- accesses as the dependence test sees them
any_seen : (l : Loop) (a : ℕ) (x : Reference) (ys : List Reference)
    → list_any (meet_in (shape_of l) a (spot_of (names_of l) x)) (map (spot_of (names_of l)) ys) ≡ list_any (may_meet l a x) ys
any_seen l a x [] = refl
any_seen l a x (y ∷ ys) = ap (λ b. may_meet l a x y || b) (any_seen l a x ys)

pub pairs_seen : (l : Loop) (a : ℕ) (xs : List Reference) → has_pair (meet_in (shape_of l) a) (map (spot_of (names_of l)) xs) ≡ has_pair (may_meet l a) xs
pairs_seen l a [] = refl
pairs_seen l a (x ∷ xs) = λ i. any_seen l a x (x ∷ xs) i || pairs_seen l a xs i

-- the arrays that are written
written_if : (names : List ℕ) (x : Reference) (b : Bool) (xs : List Reference) → map (λ s. s.array) (if b then spot_of names x ∷ filter (λ s. s.write) (map (spot_of names) xs) else filter (λ s. s.write) (map (spot_of names) xs))
    ≡ (if b then x.access.array.id ∷ map (λ s. s.array) (filter (λ s. s.write) (map (spot_of names) xs)) else map (λ s. s.array) (filter (λ s. s.write) (map (spot_of names) xs)))
written_if names x true xs = refl
written_if names x false xs = refl

arrays_if : (x : Reference) (b : Bool) (xs : List Reference) → (if b then x.access.array.id ∷ map (λ y. y.access.array.id) (filter (λ y. y.write) xs) else map (λ y. y.access.array.id) (filter (λ y. y.write) xs))
    ≡ map (λ y. y.access.array.id) (if b then x ∷ filter (λ y. y.write) xs else filter (λ y. y.write) xs)
arrays_if x true xs = refl
arrays_if x false xs = refl

written_all : (names : List ℕ) (xs : List Reference) → map (λ s. s.array) (filter (λ s. s.write) (map (spot_of names) xs)) ≡ map (λ x. x.access.array.id) (filter (λ x. x.write) xs)
written_all names [] = refl
written_all names (x ∷ xs) = written_if names x x.write xs ∙ ap (λ ys. if x.write then x.access.array.id ∷ ys else ys) (written_all names xs) ∙ arrays_if x x.write xs

all_kept : (xs : List ℕ) → xs ≡ filter (λ a. not (among a [])) xs
all_kept [] = refl
all_kept (x ∷ xs) = ap (λ ys. x ∷ ys) (all_kept xs)

pub written_seen : (l : Loop) → map (λ s. s.array) (filter (λ s. s.write) (map (spot_of (names_of l)) (references_all l.body))) ≡ written_arrays [] l
written_seen l = written_all (names_of l) (references_all l.body) ∙ all_kept (map (λ x. x.access.array.id) (filter (λ x. x.write) (references_all l.body)))

-- a pair of accesses that may meet has one that writes
abbrev writes_of : List Reference → List ℕ
writes_of xs = map (λ x. x.access.array.id) (filter (λ x. x.write) xs)

writes_if : (a : ℕ) (x : Reference) (b : Bool) (xs : List Reference)
    → among a (map (λ y. y.access.array.id) (if b then x ∷ filter (λ y. y.write) xs else filter (λ y. y.write) xs)) ≡ ((b && (x.access.array.id == a)) || among a (writes_of xs))
writes_if a x true xs = either_is (a == x.access.array.id) (among a (writes_of xs)) ∙ ap (λ b. b || among a (writes_of xs)) (turned a x.access.array.id)
writes_if a x false xs = refl

writes_more : (a : ℕ) (x : Reference) (xs : List Reference) → among a (writes_of (x ∷ xs)) ≡ ((x.write && (x.access.array.id == a)) || among a (writes_of xs))
writes_more a x xs = writes_if a x x.write xs

meet_step : (xw xa yw ya c m r : Bool) → ((xa && (ya && ((xw || yw) && c))) || m) ≡ true → (m ≡ true → ((xw && xa) || r) ≡ true) → ((xw && xa) || ((yw && ya) || r)) ≡ true
meet_step true true yw ya c m r h k = refl
meet_step true false yw ya c m r h k = or_true (yw && ya) r (k h)
meet_step false false yw ya c m r h k = or_true (yw && ya) r (k h)
meet_step false true true true c m r h k = refl
meet_step false true true false c m r h k = k h
meet_step false true false true c m r h k = k h
meet_step false true false false c m r h k = k h

meets_written : (l : Loop) (a : ℕ) (x : Reference) (ys : List Reference) → list_any (may_meet l a x) ys ≡ true → ((x.write && (x.access.array.id == a)) || among a (writes_of ys)) ≡ true
meets_written l a x [] h = cc
meets_written l a x (y ∷ ys) h =
    let apart = is_apart (shape_of l) (spot_of (names_of l) x) (spot_of (names_of l) y) in
    ap (λ b. (x.write && (x.access.array.id == a)) || b) (writes_more a y ys)
    ∙ meet_step x.write (x.access.array.id == a) y.write (y.access.array.id == a) (not apart) (list_any (may_meet l a x) ys) (among a (writes_of ys)) h (meets_written l a x ys)

absorbed : (b r : Bool) → (b || (b || r)) ≡ (b || r)
absorbed true r = refl
absorbed false r = refl

pair_step : (b r p any : Bool) → (any || p) ≡ true → (any ≡ true → (b || r) ≡ true) → (p ≡ true → r ≡ true) → (b || r) ≡ true
pair_step b r p true h k j = k refl
pair_step b r p false h k j = or_true b r (j h)

pair_written : (l : Loop) (a : ℕ) (xs : List Reference) → has_pair (may_meet l a) xs ≡ true → among a (writes_of xs) ≡ true
pair_written l a [] h = cc
pair_written l a (x ∷ xs) h =
    let here = x.write && (x.access.array.id == a) in
    writes_more a x xs
    ∙ pair_step here (among a (writes_of xs)) (has_pair (may_meet l a) xs) (list_any (may_meet l a x) (x ∷ xs)) h
    (λ some. sym (absorbed here (among a (writes_of xs))) ∙ ap (λ b. here || b) (sym (writes_more a x xs)) ∙ meets_written l a x (x ∷ xs) some) (pair_written l a xs)

and_follows : (a b : Bool) → (a ≡ true → b ≡ true) → (a && b) ≡ a
and_follows true b h = h refl
and_follows false b h = refl

pub carried_seen : (l : Loop) (a : ℕ) → has_pair (meet_in (shape_of l) a) (map (spot_of (names_of l)) (references_all l.body)) ≡ among a (carried_arrays [] l)
carried_seen l a =
    let refs = references_all l.body in
    pairs_seen l a refs
    ∙ sym (among_kept (λ b. has_pair (may_meet l b) refs) a (written_arrays [] l)
    ∙ and_follows (has_pair (may_meet l a) refs) (among a (written_arrays [] l)) (λ h. ap (among a) (sym (all_kept (writes_of refs))) ∙ pair_written l a refs h))

-- the same ids
pub written_same : (l : Loop) (spots : List Spot) (arrays ids : List ℕ) → spots ≡ map (spot_of (names_of l)) (references_all l.body) → arrays ≡ map (λ s. s.array) (filter (λ s. s.write) spots)
    → ((id : ℕ) → among id ids ≡ among id arrays) → HaveSame ids (written_arrays [] l)
written_same l spots arrays ids seen is same id =
    same id ∙ ap (among id) (is ∙ ap (λ (xs : List Spot). map (λ s. s.array) (filter (λ s. s.write) xs)) seen ∙ written_seen l)

pub carried_same : (l : Loop) (shape : LoopShape) (spots : List Spot) (arrays ids : List ℕ) → spots ≡ map (spot_of (names_of l)) (references_all l.body) → shape ≡ shape_of l
    → ((a : ℕ) → among a arrays ≡ has_pair (meet_in shape a) spots) → ((id : ℕ) → among id ids ≡ among id arrays) → HaveSame ids (carried_arrays [] l)
carried_same l shape spots arrays ids seen of is same id =
    same id ∙ is id ∙ (λ i. has_pair (meet_in (of i) id) (seen i)) ∙ carried_seen l id

-- all that is left of a list
the_rest : (xs : List Spot) (i : ℕ) → take (length xs - i) (drop i xs) ≡ drop i xs
the_rest xs i = let size = length-drop i xs in take_all (length xs - i) (drop i xs) (omega (arith, size))

-- the next access, which was read twice
same_read : (xs : List Spot) (i : ℕ) (x y : Spot) → i < length xs → x ≡ slice_index_or xs i x → y ≡ slice_index_or xs i y → y ≡ x
same_read xs i x y within p q = q ∙ get_or_default xs i y x within ∙ sym p

pub meeting_found : (shape : LoopShape) (arrays new : List ℕ) (xs : List Spot) (i : ℕ) (x y : Spot) (r : Bool) → i < length xs → x ≡ slice_index_or xs i x → y ≡ slice_index_or xs i y
    → r ≡ list_any (do_meet shape y) (take (length xs - i) (drop i xs)) → r ≡ true → new ≡ arrays ++ (slice_index_or xs i x).array ∷ []
    → (a : ℕ) → (among a arrays || has_pair (meet_in shape a) (drop i xs)) ≡ (among a new || has_pair (meet_in shape a) (drop (i + 1) xs))
meeting_found shape arrays new xs i x y r within p q e h g a =
    pair_found shape a arrays xs i x within (ap (λ z. list_any (do_meet shape z) (drop i xs)) (sym p ∙ sym (same_read xs i x y within p q)) ∙ ap (list_any (do_meet shape y)) (sym (the_rest xs i)) ∙ sym e ∙ h)
    ∙ ap (λ ns. among a ns || has_pair (meet_in shape a) (drop (i + 1) xs)) (sym g)

pub meeting_passed : (shape : LoopShape) (arrays : List ℕ) (xs : List Spot) (i : ℕ) (y : Spot) (r : Bool) → i < length xs → y ≡ slice_index_or xs i y
    → r ≡ list_any (do_meet shape y) (take (length xs - i) (drop i xs)) → r ≡ false
    → (a : ℕ) → (among a arrays || has_pair (meet_in shape a) (drop i xs)) ≡ (among a arrays || has_pair (meet_in shape a) (drop (i + 1) xs))
meeting_passed shape arrays xs i y r within q e h a =
    pair_passed shape a arrays xs i y within (ap (λ z. list_any (do_meet shape z) (drop i xs)) (sym q) ∙ ap (list_any (do_meet shape y)) (sym (the_rest xs i)) ∙ sym e ∙ h)
