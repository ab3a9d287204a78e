-- All stages of a graph are lawful.
use Rattle.std.proofs.Common.{◌≡◌, ℕ, suc, ◌+◌, ◌-◌, ◌≤◌, ◌||◌, not, Bool, true, false, List, [], ◌∷◌, ◌++◌, length, refl, sym, ◌∙◌, arith, if◌then◌else◌}
use Rattle.nona_tree.specs.declared.plans.Stage.{Stage}
use Rattle.nona_plans.specs.declared.graphs.Graph.{Graph}
use Rattle.nona_plans.specs.Walks.{has_edge}
use Rattle.nona_forms.specs.Affine.{among}
use Rattle.nona_plans.specs.Components.{components_of}
use Rattle.nona_plans.specs.declared.limits.TheConstants.{STAGES}
use Rattle.nona_plans.specs.Stages.{stages_of}
use Rattle.nona_plans.specs.Lawful.{one_if, stage_of, count_parallel, BeginsSequential, BreaksAfter, NoNeighbours, IsGraph, AreLawful}
use Rattle.nona_plans.proofs.Lists.{among_append}
use Rattle.nona_plans.proofs.Choosing.{IsForward, Begins, Stands, chosen}
use Rattle.nona_plans.proofs.Held.{held_once, all_free}

-- an edge leads to the same or a later stage
forward_at : (i j : ℕ) (s : Stage) (stages : List Stage) (in_i in_j : Bool) → among i s.units ≡ in_i → among j s.units ≡ in_j → (in_j ≡ true → in_i ≡ true) → (in_i ≡ false → stage_of i stages ≤ stage_of j stages)
    → (if in_i then 0 else suc (stage_of i stages)) ≤ (if in_j then 0 else suc (stage_of j stages))
forward_at i j s stages true in_j a b h k = omega arith
forward_at i j s stages false true a b h k = let no : false ≡ true = h refl in cc
forward_at i j s stages false false a b h k = let l = k refl in omega (arith, l)

or_second : (a b : Bool) → a ≡ false → (a || b) ≡ true → b ≡ true
or_second true b e h = cc
or_second false b e h = h

neither : (a b : Bool) → a ≡ false → b ≡ false → (a || b) ≡ false
neither true b e h = cc
neither false b e h = h

forward_stages : (g : Graph) (i j : ℕ) → has_edge g.edges i j ≡ true → (stages : List Stage) (placed : List ℕ) → among i placed ≡ false → IsForward g placed stages → stage_of i stages ≤ stage_of j stages
forward_stages g i j e [] placed new f = omega arith
forward_stages g i j e (s ∷ stages) placed new f =
    forward_at i j s stages (among i s.units) (among j s.units) refl refl
    (λ x. or_second (among i placed) (among i s.units) new (sym (among_append i placed s.units) ∙ f.0 i j e x))
    (λ x. forward_stages g i j e stages (placed ++ s.units) (among_append i placed s.units ∙ neither (among i placed) (among i s.units) new x) f.1)

-- where no two neighbours are parallel, at most about half are
abbrev Half : List Stage → Type 0
Half stages = (count_parallel stages + count_parallel stages ≤ suc (length stages)) × (BeginsSequential stages → count_parallel stages + count_parallel stages ≤ length stages)

half_first : (kind : Bool) (p l : ℕ) → p + p ≤ suc l → (kind ≡ false → p + p ≤ l) → ((one_if (not kind) + p) + (one_if (not kind) + p) ≤ suc (suc l)) × (kind ≡ true → (one_if (not kind) + p) + (one_if (not kind) + p) ≤ suc l)
half_first true p l a b = (omega (arith, a), λ e. omega (arith, a))
half_first false p l a b = let l = b refl in (omega (arith, l), λ e. cc)

behind : (s : Stage) (stages : List Stage) → BreaksAfter s stages → (BeginsSequential stages → count_parallel stages + count_parallel stages ≤ length stages) → s.sequential ≡ false → count_parallel stages + count_parallel stages ≤ length stages
behind s [] b h e = omega arith
behind s (r ∷ stages) b h e = h (or_second s.sequential r.sequential e b)

half : (stages : List Stage) → NoNeighbours stages → Half stages
half [] n = (omega arith, λ e. absurd e)
half (s ∷ stages) n =
    let rest = half stages n.1 in half_first s.sequential (count_parallel stages) (length stages) rest.0 (behind s stages n.0 rest.1)

begins_sequential : (stages : List Stage) → Begins true stages → BeginsSequential stages
begins_sequential [] b = b
begins_sequential (s ∷ stages) b = b

pub all_lawful : (g : Graph) → IsGraph g → AreLawful g (stages_of g)
all_lawful g is =
    let cs = components_of g in
    let start : Stands g (length cs) [] (record { sequential = true; units = [] }) cs =
    record { size = refl; once = (λ u unit. let one = held_once g u unit in omega (arith, one)); fed = (λ i j e x. cc); free = (λ e. cc); good = all_free g is } in
    let all = chosen g is (length cs) (STAGES - 2) [] (record { sequential = true; units = [] }) cs start in
    let few = half (stages_of g) all.follows.alone in
    let first = begins_sequential (stages_of g) all.begins in
    record {
      once = λ u unit. let one = all.follows.once u unit in omega (arith, one);
      ordered = all.follows.ordered;
      first = first;
      forward = λ i j e. forward_stages g i j e (stages_of g) [] refl all.follows.forward;
      untied = all.follows.untied;
      alone = all.follows.alone;
      few = all.follows.few;
      few_parallel = (let most = all.follows.few in let double = few.1 first in omega (arith, most, double));
    }
