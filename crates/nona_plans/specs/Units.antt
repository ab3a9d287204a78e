-- The units of a loop, which are the statements at the top of its body, numbered from 1; their ties and edges, which are its
-- dependence graph.
use Rattle.std.specs.Prelude.{ℕ, zero, suc, ◌-◌, ◌==◌, Bool, false, not, ◌&&◌, ◌||◌, if◌then◌else◌, nat_lt, nat_le, List, [], ◌∷◌, ◌++◌, map, filter, length, slice_index_or, Some, None, is_some}
use Rattle.std.specs.List.{list_any, flat_map}
use Rattle.std.specs.declared.option.Option.{Option}
use Rattle.nona_num.specs.declared.folds.Fold.{Fold}
use Rattle.nona_tree.specs.declared.trees.Loop.{Loop}
use Rattle.nona_tree.specs.declared.trees.Stmt.{Stmt, Let}
use Rattle.nona_forms.specs.Affine.{among}
use Rattle.nona_forms.specs.References.{Reference, references, references_all, assigned_all, names_of}
use Rattle.nona_forms.specs.Verdicts.{spot_of, shape_of, is_apart}
use Rattle.nona_plans.specs.declared.graphs.Tie.{Tie}
use Rattle.nona_plans.specs.declared.graphs.Graph.{Graph}
use Rattle.nona_plans.specs.declared.graphs.Local.{Local}
use Rattle.nona_plans.specs.Components.{up_to}
use Rattle.nona_plans.specs.Mentions.{mentions, reduction_of, prints}

-- the scalars that a statement names
abbrev pub named_in : Stmt → List ℕ
named_in s = map (λ m. m.id) (mentions s)

-- the arrays of which a statement has a cell; to ask for the length is none
abbrev pub arrays_in : Stmt → List ℕ
arrays_in s = map (λ x. x.access.array.id) (references s)

-- what a unit has, by its number
abbrev pub unit_has : (Stmt → List ℕ) → Loop → ℕ → ℕ → Bool
unit_has list l u id = among id (slice_index_or (map list l.body) (u - 1) [])

-- whether two units have one of these
abbrev pub both_have : (Stmt → List ℕ) → Loop → ℕ → ℕ → List ℕ → Bool
both_have list l u v ids = list_any (λ id. unit_has list l u id && unit_has list l v id) ids

-- the scalars declared outside that the body assigns, without the reductions
abbrev pub carried_scalars : Loop → List ℕ
carried_scalars l = filter (λ id. nat_lt id l.index.id && not (is_some (reduction_of l id))) (assigned_all l.body)

-- the arrays of which the body writes a cell, but for some that are left out
abbrev pub written_arrays : List ℕ → Loop → List ℕ
written_arrays left_out l =
    filter (λ a. not (among a left_out)) (map (λ x. x.access.array.id) (filter (λ x. x.write) (references_all l.body)))

-- whether a list has a pair, an element with itself or with a later one, that passes a test
abbrev pub has_pair : {A : Type 0} → (A → A → Bool) → List A → Bool
has_pair test [] = false
has_pair test (x ∷ xs) = list_any (test x) (x ∷ xs) || has_pair test xs

-- whether the dependence test tells two accesses of a loop apart
abbrev pub are_told_apart : Loop → Reference → Reference → Bool
are_told_apart l x y = is_apart (shape_of l) (spot_of (names_of l) x) (spot_of (names_of l) y)

-- whether two accesses of an array, of which one writes, aren't told apart
abbrev pub may_meet : Loop → ℕ → Reference → Reference → Bool
may_meet l a x y =
    (x.access.array.id == a) && ((y.access.array.id == a) && ((x.write || y.write) && not (are_told_apart l x y)))

-- those of them of which two accesses, or one with itself, may meet in different iterations
abbrev pub carried_arrays : List ℕ → Loop → List ℕ
carried_arrays left_out l = filter (λ a. has_pair (may_meet l a) (references_all l.body)) (written_arrays left_out l)

-- the local of the body's top that a statement declares, if it does
abbrev pub local_of : ℕ → Stmt → List Stmt → List Local
local_of u (Let x e) rest = record { unit = u; id = x.id; assigned = among x.id (assigned_all rest) } ∷ []
local_of u _ rest = []

abbrev pub locals_from : ℕ → List Stmt → List Local
locals_from u [] = []
locals_from u (s ∷ rest) = local_of u s rest ++ locals_from (suc u) rest

-- the locals of a loop's top in text order
abbrev pub locals_of : Loop → List Local
locals_of l = locals_from 1 l.body

-- whether a unit behind its let names a local; before it an equal id is another scalar's
abbrev pub uses : Loop → Local → ℕ → Bool
uses l v u = nat_lt v.unit u && unit_has named_in l u v.id

-- whether two units share a local of the top that is assigned
abbrev pub share_local : Loop → ℕ → ℕ → Bool
share_local l u v =
    list_any (λ x. x.assigned && (((u == x.unit) || uses l x u) && ((v == x.unit) || uses l x v))) (locals_of l)

-- whether a unit prints
abbrev pub unit_prints : Loop → ℕ → Bool
unit_prints l u = slice_index_or (map prints l.body) (u - 1) false

-- whether a dependence between two units may be loop-carried: by a scalar, by an array that isn't left out, or by printing
abbrev pub is_carried : List ℕ → Loop → ℕ → ℕ → Bool
is_carried left_out l u v =
    both_have named_in l u v (carried_scalars l)
    || (both_have arrays_in l u v (carried_arrays left_out l) || (unit_prints l u && unit_prints l v))

-- whether two units are tied: by a dependence that may be loop-carried, by an array, or by a local that is assigned
abbrev pub is_tied : List ℕ → Loop → ℕ → ℕ → Bool
is_tied left_out l u v = is_carried left_out l u v || (both_have arrays_in l u v (written_arrays left_out l) || share_local l u v)

-- a tie of two units, if there is one
abbrev pub tie_of : List ℕ → Loop → ℕ → ℕ → List Tie
tie_of left_out l u v =
    if is_tied left_out l u v then record { first = u; second = v; carried = is_carried left_out l u v } ∷ [] else []

-- the ties of a loop but for those by some arrays, by the lesser unit and then by the greater
abbrev pub ties_without : List ℕ → Loop → List Tie
ties_without left_out l =
    flat_map (λ u. flat_map (tie_of left_out l u) (filter (λ v. nat_le u v) (up_to (length l.body)))) (up_to (length l.body))

-- the ties of a loop
abbrev pub ties_of : Loop → List Tie
ties_of l = ties_without [] l

-- both ways between two tied units
abbrev pub tie_edges : Tie → List (ℕ × ℕ)
tie_edges t = if t.first == t.second then [] else (t.first, t.second) ∷ (t.second, t.first) ∷ []

-- from the let of a local that is never assigned to each unit that uses it
abbrev pub local_edges : Loop → Local → List (ℕ × ℕ)
local_edges l v =
    if v.assigned then [] else map (λ u. (v.unit, u)) (filter (uses l v) (up_to (length l.body)))

abbrev pub edges_of : Loop → List (ℕ × ℕ)
edges_of l = flat_map tie_edges (ties_of l) ++ flat_map (local_edges l) (locals_of l)

-- the dependence graph of a loop
abbrev pub graph_of : Loop → Graph
graph_of l = record { units = length l.body; edges = edges_of l; ties = ties_of l }

-- the reductions of a loop with their folds, in order of id
abbrev pub with_fold : ℕ → Option Fold → List (ℕ × Fold)
with_fold id None = []
with_fold id (Some f) = (id, f) ∷ []

abbrev pub reductions_below : Loop → ℕ → List (ℕ × Fold)
reductions_below l zero = []
reductions_below l (suc n) = reductions_below l n ++ with_fold n (reduction_of l n)

abbrev pub reductions_of : Loop → List (ℕ × Fold)
reductions_of l = reductions_below l l.index.id
