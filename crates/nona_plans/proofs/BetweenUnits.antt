-- The graph of a loop is between its units.
use Rattle.std.proofs.Common.{◌≡◌, ◌⊎◌, inl, inr, ⊎_elim, ℕ, suc, ◌+◌, ◌≤◌, ◌==◌, ◌&&◌, ◌||◌, Bool, true, false, List, [], ◌∷◌, ◌++◌, length, map, filter, nat_le, refl, sym, ap, ◌∙◌, subst, arith, if◌then◌else◌}
use Rattle.std.specs.List.{AllByRecursion, flat_map}
use Rattle.nona_tree.specs.declared.trees.Loop.{Loop}
use Rattle.nona_tree.specs.declared.trees.Stmt.{Stmt, Let, Set, Fold, Put, FoldPut, If', While', For', Print}
use Rattle.nona_plans.specs.declared.graphs.Tie.{Tie}
use Rattle.nona_plans.specs.declared.graphs.Graph.{Graph}
use Rattle.nona_plans.specs.Walks.{has_edge, IsUnit}
use Rattle.nona_plans.specs.Components.{up_to}
use Rattle.nona_plans.specs.Lawful.{AreTied, IsGraph}
use Rattle.nona_plans.proofs.Leading.{same_units, or_left, or_right, both, and_both}
use Rattle.nona_plans.proofs.Lists.{or_assoc, units_to}
use Rattle.nona_plans.proofs.Choosing.{by_either}
use Rattle.nona_plans.specs.declared.graphs.Local.{Local}
use Rattle.nona_plans.specs.Units.{local_of, locals_from, locals_of, uses, is_tied, is_carried, tie_of, ties_of, tie_edges, local_edges, edges_of, graph_of}

-- what holds of each
each_append : {A : Type 0} (P : A → Type 0) (xs ys : List A) → AllByRecursion P xs → AllByRecursion P ys → AllByRecursion P (xs ++ ys)
each_append P [] ys h k = k
each_append P (x ∷ xs) ys h k = (h.0, each_append P xs ys h.1 k)

each_for : {A B : Type 0} (P : A → Type 0) (Q : B → Type 0) (f : A → List B) → ((x : A) → P x → AllByRecursion Q (f x)) → (xs : List A) → AllByRecursion P xs → AllByRecursion Q (flat_map f xs)
each_for P Q f h [] k = tt
each_for P Q f h (x ∷ xs) k = each_append Q (f x) (flat_map f xs) (h x k.0) (each_for P Q f h xs k.1)

each_if : {A : Type 0} (P : A → Type 0) (b : Bool) (xs ys : List A) → AllByRecursion P xs → AllByRecursion P ys → AllByRecursion P (if b then xs else ys)
each_if P true xs ys h k = h
each_if P false xs ys h k = k

each_filter : {A : Type 0} (P : A → Type 0) (p : A → Bool) (xs : List A) → AllByRecursion P xs → AllByRecursion P (filter p xs)
each_filter P p [] h = tt
each_filter P p (x ∷ xs) h = each_if P (p x) (x ∷ filter p xs) (filter p xs) (h.0, each_filter P p xs h.1) (each_filter P p xs h.1)

each_map : {A B : Type 0} (P : A → Type 0) (Q : B → Type 0) (f : A → B) → ((x : A) → P x → Q (f x)) → (xs : List A) → AllByRecursion P xs → AllByRecursion Q (map f xs)
each_map P Q f h [] k = tt
each_map P Q f h (x ∷ xs) k = (h x k.0, each_map P Q f h xs k.1)

-- an edge, a tie, a local between n units
abbrev IsEdge : ℕ → ℕ × ℕ → Type 0
IsEdge n e = IsUnit n e.0 × IsUnit n e.1

abbrev IsTie : ℕ → Tie → Type 0
IsTie n t = IsUnit n t.first × IsUnit n t.second

all_units_are : (n : ℕ) → AllByRecursion (IsUnit n) (up_to n)
all_units_are n = units_to n n (omega arith)

ties_between : (l : Loop) → AllByRecursion (IsTie (length l.body)) (ties_of l)
ties_between l =
    let n = length l.body in
    each_for (IsUnit n) (IsTie n) (λ u. flat_map (tie_of [] l u) (filter (λ v. nat_le u v) (up_to n)))
    (λ u a. each_for (IsUnit n) (IsTie n) (tie_of [] l u)
    (λ v b. each_if (IsTie n) (is_tied [] l u v) (record { first = u; second = v; carried = is_carried [] l u v } ∷ []) [] ((a, b), tt) tt)
    (filter (λ v. nat_le u v) (up_to n)) (each_filter (IsUnit n) (λ v. nat_le u v) (up_to n) (all_units_are n)))
    (up_to n) (all_units_are n)

tie_edges_between : (n : ℕ) (t : Tie) → IsTie n t → AllByRecursion (IsEdge n) (tie_edges t)
tie_edges_between n t h =
    each_if (IsEdge n) (t.first == t.second) [] ((t.first, t.second) ∷ (t.second, t.first) ∷ []) tt ((h.0, h.1), ((h.1, h.0), tt))

one_local : (n u : ℕ) (s : Stmt) (rest : List Stmt) → IsUnit n u → AllByRecursion (λ v. IsUnit n v.unit) (local_of u s rest)
one_local n u (Let x e) rest h = (h, tt)
one_local n u (Set x e) rest h = tt
one_local n u (Fold x f e) rest h = tt
one_local n u (Put c e) rest h = tt
one_local n u (FoldPut c f e) rest h = tt
one_local n u (If' test p then_part q else_part) rest h = tt
one_local n u (While' test p body at) rest h = tt
one_local n u (For' x low high p body seq at) rest h = tt
one_local n u (Print e at) rest h = tt

locals_between : (n u : ℕ) (ss : List Stmt) → 1 ≤ u → u + length ss ≤ suc n → AllByRecursion (λ v. IsUnit n v.unit) (locals_from u ss)
locals_between n u [] a b = tt
locals_between n u (s ∷ ss) a b =
    each_append (λ v. IsUnit n v.unit) (local_of u s ss) (locals_from (suc u) ss) (one_local n u s ss (a, (omega (arith, b)))) (locals_between n (suc u) ss (omega arith) (omega (arith, b)))

local_edges_between : (l : Loop) (v : Local) → IsUnit (length l.body) v.unit → AllByRecursion (IsEdge (length l.body)) (local_edges l v)
local_edges_between l v h =
    let n = length l.body in
    each_if (IsEdge n) v.assigned [] (map (λ u. (v.unit, u)) (filter (uses l v) (up_to n))) tt
    (each_map (IsUnit n) (IsEdge n) (λ u. (v.unit, u)) (λ u k. (h, k)) (filter (uses l v) (up_to n)) (each_filter (IsUnit n) (uses l v) (up_to n) (all_units_are n)))

edges_between : (l : Loop) → AllByRecursion (IsEdge (length l.body)) (edges_of l)
edges_between l =
    let n = length l.body in
    each_append (IsEdge n) (flat_map tie_edges (ties_of l)) (flat_map (local_edges l) (locals_of l))
    (each_for (IsTie n) (IsEdge n) tie_edges (tie_edges_between n) (ties_of l) (ties_between l))
    (each_for (λ v. IsUnit n v.unit) (IsEdge n) (local_edges l) (local_edges_between l) (locals_of l) (locals_between n 1 l.body (omega arith) (omega arith)))

found_between : (n i j : ℕ) (edges : List (ℕ × ℕ)) → AllByRecursion (IsEdge n) edges → has_edge edges i j ≡ true → IsUnit n i × IsUnit n j
found_between n i j [] h e = cc
found_between n i j (d ∷ edges) h e =
    by_either ((d.0 == i) && (d.1 == j)) (has_edge edges i j) e
    (λ k. let is = both (d.0 == i) (d.1 == j) k in (subst (IsUnit n) (same_units d.0 i is.0) h.0.0, subst (IsUnit n) (same_units d.1 j is.1) h.0.1))
    (λ k. found_between n i j edges h.1 k)

-- the edges of a tie
edge_append : (xs ys : List (ℕ × ℕ)) (i j : ℕ) → has_edge (xs ++ ys) i j ≡ (has_edge xs i j || has_edge ys i j)
edge_append [] ys i j = refl
edge_append (e ∷ xs) ys i j = ap (λ b. ((e.0 == i) && (e.1 == j)) || b) (edge_append xs ys i j) ∙ sym (or_assoc ((e.0 == i) && (e.1 == j)) (has_edge xs i j) (has_edge ys i j))

same_self : (i : ℕ) → (i == i) ≡ true
same_self i = grind arith

its_edges : (t : Tie) (same : Bool) → (t.first == t.second) ≡ same → (t.first ≡ t.second) ⊎ ((has_edge (if same then [] else (t.first, t.second) ∷ (t.second, t.first) ∷ []) t.first t.second ≡ true) × (has_edge (if same then [] else (t.first, t.second) ∷ (t.second, t.first) ∷ []) t.second t.first ≡ true))
its_edges t true e = inl (same_units t.first t.second e)
its_edges t false e =
    inr (
      or_left ((t.first == t.first) && (t.second == t.second)) _ (and_both (t.first == t.first) (t.second == t.second) (same_self t.first) (same_self t.second)),
      or_right ((t.first == t.second) && (t.second == t.first)) _ (or_left ((t.second == t.second) && (t.first == t.first)) _ (and_both (t.second == t.second) (t.first == t.first) (same_self t.second) (same_self t.first))),
    )

each_tied : (g : Graph) (ties : List Tie) → ((i j : ℕ) → has_edge (flat_map tie_edges ties) i j ≡ true → has_edge g.edges i j ≡ true) → AllByRecursion (IsTie g.units) ties → AreTied g ties
each_tied g [] h k = tt
each_tied g (t ∷ ties) h k =
    let all : (i j : ℕ) → has_edge (tie_edges t) i j ≡ true → has_edge g.edges i j ≡ true = (λ i j e. h i j (edge_append (tie_edges t) (flat_map tie_edges ties) i j ∙ or_left (has_edge (tie_edges t) i j) _ e)) in (
      (⊎_elim (λ same. inl same) (λ two. inr (all t.first t.second two.0, all t.second t.first two.1)) (its_edges t (t.first == t.second) refl), k.0.0, k.0.1),
      each_tied g ties (λ i j e. h i j (edge_append (tie_edges t) (flat_map tie_edges ties) i j ∙ or_right (has_edge (tie_edges t) i j) _ e)) k.1,
    )

pub is_graph : (l : Loop) → IsGraph (graph_of l)
is_graph l =
    record {
      edges = λ i j e. found_between (length l.body) i j (edges_of l) (edges_between l) e;
      ties = each_tied (graph_of l) (ties_of l) (λ i j e. edge_append (flat_map tie_edges (ties_of l)) (flat_map (local_edges l) (locals_of l)) i j ∙ or_left (has_edge (flat_map tie_edges (ties_of l)) i j) _ e) (ties_between l);
    }
