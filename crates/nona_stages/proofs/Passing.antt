-- Loops over lists, by what is still to come.
use Rattle.std.proofs.Common.{◌≡◌, ℕ, suc, ◌+◌, ◌≤◌, ◌<◌, ◌==◌, ◌&&◌, ◌||◌, Bool, true, false, not, List, [], ◌∷◌, ◌++◌, length, take, drop, filter, refl, sym, ap, ◌∙◌, if◌then◌else◌, slice_index_or, arith, append-nil, append_assoc, Some, None}
use Rattle.std.proofs.Math.Seq.{drop-cons}
use Rattle.std.proofs.lemmas.List.{take_more, drop_all, get_or_default}
use Rattle.std.proofs.lemmas.List.Elements.{filter-append}
use Rattle.std.specs.declared.option.Option.{Option}
use Rattle.nona_forms.specs.Affine.{among}
use Rattle.nona_plans.specs.declared.graphs.Component.{Component}
use Rattle.nona_plans.specs.Components.{up_to}
use Rattle.nona_plans.specs.Stages.{are_fed, with_front, pick, all_units}
use Rattle.nona_stages.specs.Picking.{no_component, picked_at, with_fronts}

pub next_of : {A : Type 0} (xs : List A) (i : ℕ) (d : A) → i < length xs → drop i xs ≡ slice_index_or xs i d ∷ drop (i + 1) xs
next_of xs i d h = let next : suc i ≡ i + 1 = omega arith in drop-cons xs i d h ∙ ap (λ k. slice_index_or xs i d ∷ drop k xs) next

pub found_more : (f b r : Bool) → (f || (b || r)) ≡ ((f || b) || r)
found_more true b r = refl
found_more false b r = refl

either_is : (same b : Bool) → (if same then true else b) ≡ (same || b)
either_is true b = refl
either_is false b = refl

pub among_next : (f : Bool) (u : ℕ) (xs : List ℕ) (i : ℕ) (d : ℕ) → i < length xs → (f || among u (drop i xs)) ≡ ((f || (u == slice_index_or xs i d)) || among u (drop (i + 1) xs))
among_next f u xs i d within =
    ap (λ ys. f || among u ys) (next_of xs i d within) ∙ ap (λ b. f || b) (either_is (u == slice_index_or xs i d) (among u (drop (i + 1) xs)))
    ∙ found_more f (u == slice_index_or xs i d) (among u (drop (i + 1) xs))

append_by : (same b c d : Bool) → d ≡ (b || c) → (if same then true else d) ≡ ((if same then true else b) || c)
append_by true b c d e = refl
append_by false b c d e = e

among_append : (u : ℕ) (xs ys : List ℕ) → among u (xs ++ ys) ≡ (among u xs || among u ys)
among_append u [] ys = refl
among_append u (x ∷ xs) ys = append_by (u == x) (among u xs) (among u ys) (among u (xs ++ ys)) (among_append u xs ys)

-- one more number that may be kept
pub kept_next : (p : ℕ → Bool) (k : ℕ) → filter p (up_to (k + 1)) ≡ filter p (up_to k) ++ (if p (k + 1) then (k + 1) ∷ [] else [])
kept_next p k = let next : k + 1 ≡ suc k = omega arith in
    ap (λ n. filter p (up_to n)) next ∙ filter-append p (up_to k) (suc k ∷ []) ∙ ap (λ n. filter p (up_to k) ++ (if p n then n ∷ [] else [])) (sym next)

pub kept_true : (p : ℕ → Bool) (k : ℕ) → p (k + 1) ≡ true → filter p (up_to (k + 1)) ≡ filter p (up_to k) ++ (k + 1) ∷ []
kept_true p k e = kept_next p k ∙ ap (λ b. filter p (up_to k) ++ (if b then (k + 1) ∷ [] else [])) e

pub kept_false : (p : ℕ → Bool) (k : ℕ) → p (k + 1) ≡ false → filter p (up_to (k + 1)) ≡ filter p (up_to k)
kept_false p k e = kept_next p k ∙ ap (λ b. filter p (up_to k) ++ (if b then (k + 1) ∷ [] else [])) e ∙ append-nil (filter p (up_to k))

-- a list of edges that are all fed
fed_more : (f a r : Bool) → (f && (a && r)) ≡ ((f && a) && r)
fed_more true a r = refl
fed_more false a r = refl

pub fed_next : (f : Bool) (es : List (ℕ × ℕ)) (i : ℕ) (d : ℕ × ℕ) (units placed : List ℕ) → i < length es
    → (f && are_fed (drop i es) (units ++ placed) units) ≡ ((f && (not (among (slice_index_or es i d).1 units) || (among (slice_index_or es i d).0 units || among (slice_index_or es i d).0 placed))) && are_fed (drop (i + 1) es) (units ++ placed) units)
fed_next f es i d units placed within =
    ap (λ ys. f && are_fed ys (units ++ placed) units) (next_of es i d within)
    ∙ ap (λ b. f && ((not (among (slice_index_or es i d).1 units) || b) && are_fed (drop (i + 1) es) (units ++ placed) units)) (among_append (slice_index_or es i d).0 units placed)
    ∙ fed_more f (not (among (slice_index_or es i d).1 units) || (among (slice_index_or es i d).0 units || among (slice_index_or es i d).0 placed)) (are_fed (drop (i + 1) es) (units ++ placed) units)

-- the first that passes, by what was passed over
fronts_found : (cs rest : List Component) (c : Component) → with_fronts cs (Some (c, rest)) ≡ Some (c, cs ++ rest)
fronts_found [] rest c = refl
fronts_found (d ∷ cs) rest c = ap (with_front d) (fronts_found cs rest c)

fronts_none : (cs : List Component) → with_fronts cs None ≡ None
fronts_none [] = refl
fronts_none (d ∷ cs) = ap (with_front d) (fronts_none cs)

fronts_more : (cs : List Component) (d : Component) (o : Option (Component × List Component)) → with_fronts (cs ++ d ∷ []) o ≡ with_fronts cs (with_front d o)
fronts_more [] d o = refl
fronts_more (c ∷ cs) d o = ap (with_front c) (fronts_more cs d o)

pub pick_over : (test : Component → Bool) (cs : List Component) (i : ℕ) (d : Component) → i < length cs → test (slice_index_or cs i d) ≡ false
    → with_fronts (take i cs) (pick test (drop i cs)) ≡ with_fronts (take (i + 1) cs) (pick test (drop (i + 1) cs))
pick_over test cs i d within e =
    ap (λ ys. with_fronts (take i cs) (pick test ys)) (next_of cs i d within)
    ∙ ap (λ b. with_fronts (take i cs) (if b then Some (slice_index_or cs i d, drop (i + 1) cs) else with_front (slice_index_or cs i d) (pick test (drop (i + 1) cs)))) e
    ∙ sym (fronts_more (take i cs) (slice_index_or cs i d) (pick test (drop (i + 1) cs)))
    ∙ ap (λ ys. with_fronts ys (pick test (drop (i + 1) cs))) (sym (take_more cs i d within))

pub pick_found : (test : Component → Bool) (cs : List Component) (i : ℕ) (d : Component) → i < length cs → test (slice_index_or cs i d) ≡ true
    → with_fronts (take i cs) (pick test (drop i cs)) ≡ picked_at (Some i) cs
pick_found test cs i d within e =
    ap (λ ys. with_fronts (take i cs) (pick test ys)) (next_of cs i d within)
    ∙ ap (λ b. with_fronts (take i cs) (if b then Some (slice_index_or cs i d, drop (i + 1) cs) else with_front (slice_index_or cs i d) (pick test (drop (i + 1) cs)))) e
    ∙ fronts_found (take i cs) (drop (i + 1) cs) (slice_index_or cs i d)
    ∙ ap (λ c. Some (c, take i cs ++ drop (i + 1) cs)) (get_or_default cs i d no_component within)

pub pick_none : (test : Component → Bool) (cs : List Component) (i : ℕ) → length cs ≤ i → with_fronts (take i cs) (pick test (drop i cs)) ≡ picked_at None cs
pick_none test cs i h = ap (λ ys. with_fronts (take i cs) (pick test ys)) (drop_all i cs h) ∙ fronts_none (take i cs)

pub units_next : (us : List ℕ) (cs : List Component) (i : ℕ) (d : Component) → i < length cs → us ++ all_units (drop i cs) ≡ (us ++ (slice_index_or cs i d).units) ++ all_units (drop (i + 1) cs)
units_next us cs i d within = ap (λ ys. us ++ all_units ys) (next_of cs i d within) ∙ sym (append_assoc us (slice_index_or cs i d).units (all_units (drop (i + 1) cs)))
