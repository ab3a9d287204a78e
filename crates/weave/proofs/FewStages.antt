-- The stages of a lawful plan are few, and so are their units.
use Rattle.std.proofs.Common.{◌≡◌, ◌<◌, ◌≤◌, ◌+◌, ◌-◌, ◌*◌, ◌^◌, ⊎_elim, ℕ, zero, suc, List, [], ◌∷◌, length, get_or, arith}
use Rattle.std.specs.Prelude.{All}
use Rattle.std.specs.List.Sorted.{IsStrictlyIncreasing}
use Rattle.std.proofs.lemmas.Bool.{cases_lt}
use Rattle.std.proofs.Math.ListN.{get_or-eq_default}
use Rattle.std.proofs.lemmas.List.Elements.{All-get_or}
use Rattle.std.proofs.lemmas.List.Kept.{AllPairs-from_increasing}
use Rattle.std.proofs.lemmas.Nat.{mul-le}
use Rattle.nona_tree.specs.declared.plans.Plan.{Plan}
use Rattle.nona_tree.specs.Entries.{Entry}
use Rattle.nona_tree.specs.Smallness.{IsSmallLoop}
use Rattle.nona_plans.specs.declared.limits.TheConstants.{CROSSING}
use Rattle.nona_plans.specs.Plans.{IsNarrow}
use Rattle.nona_plans.specs.Walks.{IsUnit}
use Rattle.net_flow.specs.Shapes.{sum_to}
use Rattle.net_pipe.specs.Staged.{IsStaged}
use Rattle.net_pipe.specs.Entries.{MayPipe, staging_in}
use Rattle.net_pipe.specs.Steps.{AreFew}
use Rattle.net_pipe.specs.Works.{Staging, shape_of, stage_at, unit_number}
use Rattle.net_pipe.proofs.PartsApart.{in_order, lawful_stages}
use Rattle.weave.proofs.Few.{few_units}

-- a unit of a stage comes no earlier than its place in it
at_least : (n : ℕ) (units : List ℕ) → IsStrictlyIncreasing units → All (IsUnit n) units → (u : ℕ) → u < length units → u + 1 ≤ get_or units u (n + 1)
at_least n units up each zero inside = let some = (All-get_or (IsUnit n) units 0 (n + 1) inside each).0 in omega (arith, some)
at_least n units up each (suc u) inside =
    let before = at_least n units up each u (omega (arith, inside)) in
    let rise = AllPairs-from_increasing units up u (suc u) (n + 1) (omega arith) inside in omega (arith, before, rise)

-- so there are no more of them than units of the body
few_in_order : (n : ℕ) (units : List ℕ) → IsStrictlyIncreasing units → All (IsUnit n) units → length units ≤ n
few_in_order n units up each =
    ⊎_elim
    (λ (some : 0 < length units).
    (let inside : length units - 1 < length units = omega (arith, some) in
    let most = (All-get_or (IsUnit n) units (length units - 1) (n + 1) inside each).1 in
    let least = at_least n units up each (length units - 1) inside in omega (arith, some, most, least)))
    (λ (none : length units ≤ 0). omega (arith, none))
    (cases_lt 0 (length units))

-- few locals cross each link
narrow_at : (links : List (List ℕ)) (s : ℕ) → IsNarrow links → length (get_or links s []) ≤ CROSSING
narrow_at [] s all = omega arith
narrow_at (ids ∷ rest) zero all = all.0
narrow_at (ids ∷ rest) (suc s) all = narrow_at rest s all.1

-- so many values, each no more than this
sum_few : (n most : ℕ) (f : ℕ → ℕ) → ((i : ℕ) → f i ≤ most) → sum_to n f ≤ n * most
sum_few zero most f each = omega arith
sum_few (suc n) most f each =
    let before = sum_few n most f each in
    let last = each n in
    let whole : suc n * most ≡ n * most + most = omega arith in omega (arith, before, last, whole)

module _ (e : Entry) (p : Plan) (W c first limit : ℕ) (h : MayPipe e p W c first limit) (small : IsSmallLoop e.looped) (workers : W ≤ 16) where
  abbrev g : Staging
  g = staging_in e p W c first

  abbrev count : ℕ
  count = length e.looped.body

  few_stages : length p.pipe ≤ 7
  few_stages = (lawful_stages e p W c first limit h).few

  few_own : (s : ℕ) → length (stage_at g s).units ≤ count
  few_own s = let order = in_order e p W c first limit h s in few_in_order count (stage_at g s).units order.0 order.1

  number : (s u : ℕ) → IsUnit (count + 1) (unit_number g s u)
  number s u =
      ⊎_elim
      (λ (inside : u < length (stage_at g s).units).
      (let is = All-get_or (IsUnit count) (stage_at g s).units u (count + 1) inside (in_order e p W c first limit h s).1 in
      let low = is.0 in
      let high = is.1 in (low, (let z : unit_number g s u ≤ count + 1 = omega (arith, high) in z))))
      (λ (past : length (stage_at g s).units ≤ u).
      (let all : unit_number g s u ≡ count + 1 = get_or-eq_default (stage_at g s).units (count + 1) past in
      ((let z : 1 ≤ unit_number g s u = omega (arith, all) in z), (let z : unit_number g s u ≤ count + 1 = omega (arith, all) in z))))
      (cases_lt u (length (stage_at g s).units))

  -- the machine may have them
  pub is_staged : IsStaged (staging_in e p W c first)
  is_staged =
      let few = few_units e.looped small in
      let links : (length p.pipe - 1) * W ≤ 6 * 16 = mul-le (length p.pipe - 1) W 6 16 (let s = few_stages in omega (arith, s)) workers in
      record {
        some_worker = h.some_worker;
        workers = omega (arith, workers);
        stages = let s = few_stages in omega (arith, s);
        units = omega (arith, few);
        links = omega (arith, links);
        first = λ s u. (number s u).0;
        last = λ s u. (number s u).1;
        counts = λ s. (let own = few_own s in omega (arith, own, few));
        inner = λ s u inside. (All-get_or (IsUnit count) (stage_at g s).units u (count + 1) inside (in_order e p W c first limit h s).1).1;
        narrow = λ s. narrow_at p.crossing s h.lawful.narrow;
      }

  -- and its moves can be counted
  pub are_few : limit ≤ 10 ^ 12 → AreFew (staging_in e p W c first) limit
  are_few turns =
      let few = few_units e.looped small in
      record {
        each = λ s within.
            (let own = few_own s in
            let units = length (stage_at g s).units in
            let product : (limit + 1) * (units + 2 * W + 4) ≤ (10 ^ 12 + 1) * (2 ^ 20 + 36) =
            mul-le (limit + 1) (units + 2 * W + 4) (10 ^ 12 + 1) (2 ^ 20 + 36) (omega (arith, turns)) (omega (arith, own, few, workers)) in
            omega (arith, product));
        all =
            let stages = few_stages in
            let sum = sum_to (length p.pipe) (shape_of g).units in
            let own : sum ≤ length p.pipe * count = sum_few (length p.pipe) count (shape_of g).units few_own in
            let body : length p.pipe * count ≤ 7 * 2 ^ 20 = mul-le (length p.pipe) count 7 (2 ^ 20) stages (omega (arith, few)) in
            let inner : sum + 1 + 2 * (length p.pipe - 1) ≤ 7 * 2 ^ 20 + 13 = omega (arith, own, body, stages) in
            let product : limit * (sum + 1 + 2 * (length p.pipe - 1)) ≤ 10 ^ 12 * (7 * 2 ^ 20 + 13) =
            mul-le limit (sum + 1 + 2 * (length p.pipe - 1)) (10 ^ 12) (7 * 2 ^ 20 + 13) turns inner in
            let ends : 2 * W * (length p.pipe - 1) ≤ 32 * 6 = mul-le (2 * W) (length p.pipe - 1) 32 6 (omega (arith, workers)) (omega (arith, stages)) in
            omega (arith, product, ends);
      }
