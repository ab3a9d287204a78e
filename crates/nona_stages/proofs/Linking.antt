-- Links between stages, one after another.
use Rattle.std.proofs.Common.{◌≡◌, ℕ, ◌+◌, ◌-◌, ◌≤◌, ◌<◌, ◌||◌, Bool, List, [], ◌∷◌, ◌++◌, length, drop, refl, sym, ap, ◌∙◌, slice_index_or, arith, append_assoc, append-nil}
use Rattle.std.proofs.lemmas.List.{length-drop}
use Rattle.std.specs.List.{list_any}
use Rattle.nona_tree.specs.declared.trees.Loop.{Loop}
use Rattle.nona_tree.specs.declared.plans.Stage.{Stage}
use Rattle.nona_plans.specs.declared.graphs.Local.{Local}
use Rattle.nona_plans.specs.Plans.{crossing, links_from, units_of}
use Rattle.nona_plans.specs.Units.{uses}
use Rattle.nona_stages.proofs.Passing.{next_of, found_more}

pub uses_next : (f : Bool) (l : Loop) (v : Local) (us : List ℕ) (i : ℕ) (d : ℕ) → i < length us
    → (f || list_any (uses l v) (drop i us)) ≡ ((f || uses l v (slice_index_or us i d)) || list_any (uses l v) (drop (i + 1) us))
uses_next f l v us i d within =
    ap (λ xs. f || list_any (uses l v) xs) (next_of us i d within) ∙ found_more f (uses l v (slice_index_or us i d)) (list_any (uses l v) (drop (i + 1) us))

pub units_next : (us : List ℕ) (ss : List Stage) (i : ℕ) (d : Stage) → i < length ss → us ++ units_of (drop i ss) ≡ (us ++ (slice_index_or ss i d).units) ++ units_of (drop (i + 1) ss)
units_next us ss i d within = ap (λ ys. us ++ units_of ys) (next_of ss i d within) ∙ sym (append_assoc us (slice_index_or ss i d).units (units_of (drop (i + 1) ss)))

-- the link after a stage that isn't the last
link_first : (l : Loop) (earlier : List ℕ) (s : Stage) (ss : List Stage) → 1 ≤ length ss → links_from l earlier (s ∷ ss) ≡ crossing l (earlier ++ s.units) (units_of ss) ∷ links_from l (earlier ++ s.units) ss
link_first l earlier s [] h = absurd (omega (arith, h))
link_first l earlier s (r ∷ ss) h = refl

pub link_next : (l : Loop) (earlier : List ℕ) (links : List (List ℕ)) (ss : List Stage) (at : ℕ) (d : Stage) → 1 ≤ at → at < length ss
    → links ++ links_from l earlier (drop (at - 1) ss)
    ≡ (links ++ crossing l (earlier ++ (slice_index_or ss (at - 1) d).units) (units_of (drop at ss)) ∷ []) ++ links_from l (earlier ++ (slice_index_or ss (at - 1) d).units) (drop ((at + 1) - 1) ss)
link_next l earlier links ss at d low within =
    let s = slice_index_or ss (at - 1) d in
    let before : (at - 1) + 1 ≡ at = omega (arith, low) in
    let after : (at + 1) - 1 ≡ at = omega arith in
    let long : 1 ≤ length (drop at ss) = let size = length-drop at ss in omega (arith, size, within) in
    ap (λ (xs : List Stage). links ++ links_from l earlier xs) (next_of ss (at - 1) d (omega (arith, low, within)) ∙ ap (λ n. s ∷ drop n ss) before)
    ∙ ap (λ xs. links ++ xs) (link_first l earlier s (drop at ss) long)
    ∙ sym (append_assoc links (crossing l (earlier ++ s.units) (units_of (drop at ss)) ∷ []) (links_from l (earlier ++ s.units) (drop at ss)))
    ∙ ap (λ n. (links ++ crossing l (earlier ++ s.units) (units_of (drop at ss)) ∷ []) ++ links_from l (earlier ++ s.units) (drop n ss)) (sym after)

link_last : (l : Loop) (earlier : List ℕ) (ss : List Stage) → length ss ≤ 1 → links_from l earlier ss ≡ []
link_last l earlier [] h = refl
link_last l earlier (s ∷ []) h = refl
link_last l earlier (s ∷ (r ∷ ss)) h = absurd (omega (arith, h))

pub links_done : (l : Loop) (earlier : List ℕ) (links : List (List ℕ)) (ss : List Stage) (at : ℕ) → 1 ≤ at → length ss ≤ at → links ++ links_from l earlier (drop (at - 1) ss) ≡ links
links_done l earlier links ss at low h =
    let short : length (drop (at - 1) ss) ≤ 1 = let size = length-drop (at - 1) ss in omega (arith, size, h, low) in
    ap (λ xs. links ++ xs) (link_last l earlier (drop (at - 1) ss) short) ∙ append-nil links

-- one more link, and all of them
pub link_step : (l : Loop) (earlier grown : List ℕ) (links more all : List (List ℕ)) (ss : List Stage) (at : ℕ) (d : Stage) → 1 ≤ at → at < length ss → grown ≡ earlier ++ (slice_index_or ss (at - 1) d).units
    → more ≡ links ++ crossing l grown (units_of (drop at ss)) ∷ [] → links ++ links_from l earlier (drop (at - 1) ss) ≡ all → more ++ links_from l grown (drop ((at + 1) - 1) ss) ≡ all
link_step l earlier grown links more all ss at d low within g h e =
    ap (λ xs. xs ++ links_from l grown (drop ((at + 1) - 1) ss)) h
    ∙ ap (λ us. (links ++ crossing l us (units_of (drop at ss)) ∷ []) ++ links_from l us (drop ((at + 1) - 1) ss)) g
    ∙ sym (link_next l earlier links ss at d low within) ∙ e

pub links_whole : (l : Loop) (earlier : List ℕ) (links all : List (List ℕ)) (ss : List Stage) (at : ℕ) → 1 ≤ at → length ss ≤ at → links ++ links_from l earlier (drop (at - 1) ss) ≡ all → links ≡ all
links_whole l earlier links all ss at low h e = sym (links_done l earlier links ss at low h) ∙ e
