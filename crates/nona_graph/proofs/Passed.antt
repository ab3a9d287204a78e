-- Loops over lists, by what is still to come.
use Rattle.std.proofs.Common.{◌≡◌, ℕ, zero, suc, ◌+◌, ◌<◌, ◌==◌, ◌&&◌, ◌||◌, Bool, true, false, List, [], ◌∷◌, length, drop, refl, sym, ap, ◌∙◌, slice_index_or, arith, filter, ◌++◌, if◌then◌else◌, All, get_or}
use Rattle.std.proofs.lemmas.List.{append-nil}
use Rattle.std.proofs.lemmas.List.Elements.{filter-append}
use Rattle.nona_forms.specs.Affine.{among}
use Rattle.nona_plans.specs.declared.graphs.Tie.{Tie}
use Rattle.nona_plans.specs.declared.graphs.Component.{Component}
use Rattle.nona_plans.specs.Walks.{AreBetween, has_edge}
use Rattle.nona_plans.specs.Components.{has_carried, is_held, up_to}
use Rattle.nona_graph.specs.Sets.{AreEnds}
use Rattle.nona_graph.proofs.Appended.{next_of}
use Rattle.nona_graph.proofs.Tests.{or_true, either_is, found_more}

pub among_next : (f : Bool) (u : ℕ) (xs : List ℕ) (i : ℕ) (d : ℕ) → i < length xs → (f || among u (drop i xs)) ≡ ((f || (u == slice_index_or xs i d)) || among u (drop (i + 1) xs))
among_next f u xs i d within =
    ap (λ ys. f || among u ys) (next_of xs i d within) ∙ ap (λ b. f || b) (either_is (u == slice_index_or xs i d) (among u (drop (i + 1) xs)))
    ∙ found_more f (u == slice_index_or xs i d) (among u (drop (i + 1) xs))

pub held_next : (f : Bool) (u : ℕ) (cs : List Component) (i : ℕ) (d : Component) → i < length cs → (f || is_held u (drop i cs)) ≡ ((f || among u (slice_index_or cs i d).units) || is_held u (drop (i + 1) cs))
held_next f u cs i d within = ap (λ ys. f || is_held u ys) (next_of cs i d within) ∙ found_more f (among u (slice_index_or cs i d).units) (is_held u (drop (i + 1) cs))

pub carried_next : (f : Bool) (units : List ℕ) (ts : List Tie) (i : ℕ) (d : Tie) → i < length ts
    → (f || has_carried (drop i ts) units) ≡ ((f || ((slice_index_or ts i d).carried && (among (slice_index_or ts i d).first units && among (slice_index_or ts i d).second units))) || has_carried (drop (i + 1) ts) units)
carried_next f units ts i d within =
    ap (λ ys. f || has_carried ys units) (next_of ts i d within)
    ∙ found_more f ((slice_index_or ts i d).carried && (among (slice_index_or ts i d).first units && among (slice_index_or ts i d).second units)) (has_carried (drop (i + 1) ts) units)

pub edge_next : (f : Bool) (es : List (ℕ × ℕ)) (i : ℕ) (d : ℕ × ℕ) (a b : ℕ) → i < length es
    → (f || has_edge (drop i es) a b) ≡ ((f || (((slice_index_or es i d).0 == a) && ((slice_index_or es i d).1 == b))) || has_edge (drop (i + 1) es) a b)
edge_next f es i d a b within =
    ap (λ ys. f || has_edge ys a b) (next_of es i d within) ∙ found_more f (((slice_index_or es i d).0 == a) && ((slice_index_or es i d).1 == b)) (has_edge (drop (i + 1) es) a b)

-- one more number that may be kept
pub kept_next : (p : ℕ → Bool) (k : ℕ) → filter p (up_to (k + 1)) ≡ filter p (up_to k) ++ (if p (k + 1) then (k + 1) ∷ [] else [])
kept_next p k = let next : k + 1 ≡ suc k = omega arith in
    ap (λ n. filter p (up_to n)) next ∙ filter-append p (up_to k) (suc k ∷ []) ∙ ap (λ n. filter p (up_to k) ++ (if p n then n ∷ [] else [])) (sym next)

-- each of the edges is between units
itself : (a b : ℕ) → ((a == a) && (b == b)) ≡ true
itself a b = grind arith

edge_there : (es : List (ℕ × ℕ)) (i : ℕ) (d : ℕ × ℕ) → i < length es → has_edge es (get_or es i d).0 (get_or es i d).1 ≡ true
edge_there [] i d h = absurd (omega (arith, h))
edge_there (e ∷ es) zero d h = ap (λ b. b || has_edge es e.0 e.1) (itself e.0 e.1)
edge_there (e ∷ es) (suc i) d h = or_true ((e.0 == (get_or es i d).0) && (e.1 == (get_or es i d).1)) _ (edge_there es i d (omega (arith, h)))

pub all_ends : (n : ℕ) (es : List (ℕ × ℕ)) → AreBetween n es → All (AreEnds n) es
all_ends n es h i d within = h (get_or es i d).0 (get_or es i d).1 (edge_there es i d within)
