-- A reduction as it is settled from what the tasks of stages saw: what all stages made of it adds up to what one thread makes of it.
use Rattle.std.proofs.Common.{◌≡◌, ◌≢◌, ℕ, zero, suc, ◌+◌, ◌<◌, ◌≤◌, Bool, true, false, ℤ, pos, List, [], length, map, get_or, refl, sym, ap, ◌∙◌, subst, arith, ⊎_elim}
use Rattle.std.specs.Prelude.{Some}
use Rattle.std.proofs.Math.ListN.{get_or-eq_default}
use Rattle.std.proofs.lemmas.Bool.{cases_eq, cases_lt}
use Rattle.std.proofs.lemmas.List.{length-map}
use Rattle.nona_num.specs.declared.folds.Fold.{Fold}
use Rattle.nona_num.specs.Folds.{unit_of, join_of}
use Rattle.nona_num.proofs.FoldLaws.{join_assoc}
use Rattle.nona_tree.specs.declared.plans.Plan.{Plan}
use Rattle.nona_tree.specs.Entries.{Entry, after}
use Rattle.nona_tree.specs.Memory.{Memory, scalar_at}
use Rattle.nona_tree.specs.Numbers.{IsI64}
use Rattle.nona_plans.specs.Mentions.{reduction_of}
use Rattle.nona_forms.specs.Affine.{among}
use Rattle.nona_fission.specs.Sharing.{Sharing, joined_with}
use Rattle.nona_fission.proofs.Begun.{unit_fits, joined_fits, joined_same}
use Rattle.nona_fission.proofs.Tasks.{zero_number, scalar_number, unit_join}
use Rattle.nona_plans.proofs.Leading.{or_left, or_right}
use Rattle.nona_fission.specs.Fission.{Fission, MayBeApart, own_run, own_partial, by_one, part_of, of_either}
use Rattle.nona_fission.proofs.Added.{both_may, parts_add}
use Rattle.nona_fission.proofs.Partials.{one_may, partials_join, whole_joins}
use Rattle.nona_fission.proofs.Same.{given_may, partial_same}
use Rattle.nona_fission.proofs.Thread.{before_begins}
use Rattle.nona_fission.proofs.Together.{numbers_keep}
use Rattle.net_flow.specs.Machines.{is_over}
use Rattle.net_flow.specs.Net.{Net, net_machine}
use Rattle.net_flow.specs.Shapes.{tasks_in, first_task}
use Rattle.net_flow.proofs.MovesMade.{below_worker}
use Rattle.net_share.specs.Settled.{joined_all}
use Rattle.net_share.proofs.SettledViews.{joined_list}
use Rattle.net_pipe.specs.Entries.{MayPipe, IsPipeNet, pipe_work, staging_in, tasks_of}
use Rattle.net_pipe.specs.Works.{Staging, Values, shape_of}
use Rattle.net_pipe.proofs.Behind.{parallel_at}
use Rattle.net_pipe.proofs.Crossing.{either_of}
use Rattle.net_pipe.proofs.InStages.{stage_in}
use Rattle.net_pipe.proofs.PartsApart.{stands_unit}
use Rattle.net_pipe.proofs.Seen.{granted_part, granted_may, seen_stores, count_seen, seen, each_seen}
use Rattle.net_pipe.proofs.StageNets.{is_pipeline}
use Rattle.net_pipe.proofs.StageUnits.{unit_stage, one_stage}

-- numbers that are joined in order

joined_parts : (f : Fold) (now : ℤ) (part : ℕ → ℤ) (a b : ℕ) → joined_with f now part (a + b) ≡ joined_with f (joined_with f now part a) (λ t. part (a + t)) b
joined_parts f now part a zero = ap (joined_with f now part) (let none : a + 0 ≡ a = omega arith in none)
joined_parts f now part a (suc b) =
    ap (joined_with f now part) (let one : a + suc b ≡ suc (a + b) = omega arith in one) ∙ ap (λ (v : ℤ). join_of f v (part (a + b))) (joined_parts f now part a b)

joined_from : (f : Fold) (now : ℤ) (part : ℕ → ℤ) (n : ℕ) → IsI64 now → ((t : ℕ) → IsI64 (part t)) → joined_with f now part n ≡ join_of f now (joined_with f (unit_of f) part n)
joined_from f now part zero fits each = unit_join f now fits
joined_from f now part (suc n) fits each =
    ap (λ (v : ℤ). join_of f v (part n)) (joined_from f now part n fits each)
    ∙ join_assoc f now (joined_with f (unit_of f) part n) (part n) fits (joined_fits f (unit_of f) part n (unit_fits f) each) (each n)

module _ (e : Entry) (p : Plan) (W c first limit : ℕ) (h : MayPipe e p W c first limit) (net : Net Values (List ℤ)) (here : IsPipeNet e p W c first limit net)
    (over : is_over (net_machine (pipe_work e p W c first)) net ≡ true) (x : ℕ) (f : Fold) (reduced : reduction_of e.looped x ≡ Some f) where
  abbrev g : Staging
  g = staging_in e p W c first

  abbrev part : ℕ → Fission
  part s = granted_part e p W c first limit h net here over s

  may : (s : ℕ) → MayBeApart (granted_part e p W c first limit h net here over s)
  may s = granted_may e p W c first limit h net here over s

  abbrev seen_values : List ℤ
  seen_values = map (λ (m : Memory). scalar_at m x) (seen_stores e p W c first limit h net here over)

  abbrev value : ℕ → ℤ
  value t = get_or seen_values t (pos 0)

  value_number : (t : ℕ) → IsI64 (value t)
  value_number t =
      ⊎_elim
      (λ (below : t < length seen_values). each_seen e p W c first limit h net here over (λ (m : Memory). scalar_at m x) IsI64 (λ s w task. scalar_number (own_run (part s) w).store x (numbers_keep (part s) (may s) w)) t below)
      (λ (past : length seen_values ≤ t). subst IsI64 (sym (get_or-eq_default seen_values (pos 0) past)) zero_number) (cases_lt t (length seen_values))

  -- all these iterations, as one task has them
  abbrev alone : Sharing
  alone = record { entry = e; first = first; count = net.granted; tasks = 1; owner = λ k. 0 }

  -- what one task makes of the reduction that runs these units
  abbrev made_by : (ℕ → Bool) → ℤ
  made_by own = own_partial (part_of alone own) x 0

  abbrev own_of : ℕ → ℕ → Bool
  own_of s unit = among unit (stage_in p.pipe s).units

  stage_may : (s : ℕ) → MayBeApart (part_of alone (own_of s))
  stage_may s = given_may (by_one (part s)) (one_may (part s) (may s))

  abbrev count_in : ℕ → ℕ
  count_in s = tasks_in (parallel_at g s) W

  same_tasks : (s : ℕ) → (part s).sharing.tasks ≡ count_in s
  same_tasks s = by_kind (parallel_at g s) where
    by_kind : (b : Bool) → tasks_of b W ≡ tasks_in b W
    by_kind true = refl
    by_kind false = refl

  -- what the tasks of a stage make of it together
  stage_makes : (s : ℕ) → s < length p.pipe → joined_with f (unit_of f) (λ w. value (first_task (shape_of g) s + w)) (count_in s) ≡ made_by (own_of s)
  stage_makes s below =
      joined_same f (unit_of f) (own_partial (part s) x) (λ w. value (first_task (shape_of g) s + w)) (count_in s)
      (λ w inside. seen e p W c first limit h net here over (λ (m : Memory). scalar_at m x) s w (below, below_worker (parallel_at g s) W w inside))
      ∙ ap (joined_with f (unit_of f) (own_partial (part s) x)) (sym (same_tasks s))
      ∙ partials_join (part s) (may s) x f reduced
      ∙ partial_same (by_one (part s)) (one_may (part s) (may s)) 0 x f reduced

  -- the units of the stages up to one
  abbrev gathered : ℕ → ℕ → Bool
  gathered zero = own_of 0
  gathered (suc s) = of_either (gathered s) (own_of (suc s))

  gathered_may : (s : ℕ) → MayBeApart (part_of alone (gathered s))
  gathered_may zero = stage_may 0
  gathered_may (suc s) = both_may alone [] (gathered s) (own_of (suc s)) (gathered_may s) (stage_may (suc s))

  gathered_has : (s j unit : ℕ) → j ≤ s → own_of j unit ≡ true → gathered s unit ≡ true
  gathered_has zero j unit within own = subst (λ (i : ℕ). own_of i unit ≡ true) (let none : j ≡ 0 = omega (arith, within) in none) own
  gathered_has (suc s) j unit within own =
      ⊎_elim (λ (last : j ≡ suc s). or_right (gathered s unit) (own_of (suc s) unit) (subst (λ (i : ℕ). own_of i unit ≡ true) last own))
      (λ (before : j ≢ suc s). or_left (gathered s unit) (own_of (suc s) unit) (gathered_has s j unit (omega (arith, within, before)) own)) (cases_eq j (suc s))

  gathered_from : (s unit : ℕ) → gathered s unit ≡ true → (j : ℕ) × (j ≤ s) × (own_of j unit ≡ true)
  gathered_from zero unit has = (0, omega arith, has)
  gathered_from (suc s) unit has =
      ⊎_elim (λ (before : gathered s unit ≡ true). let at = gathered_from s unit before in let within = at.1 in (at.0, omega (arith, within), at.2))
      (λ (last : own_of (suc s) unit ≡ true). (suc s, omega arith, last)) (either_of (gathered s unit) (own_of (suc s) unit) has)

  apart : (s unit : ℕ) → gathered s unit ≡ true → own_of (suc s) unit ≡ true → ⊥
  apart s unit has own =
      let at = gathered_from s unit has in
      let same = one_stage e p W c first limit h at.0 (suc s) unit (stands_unit e p W c first limit h (suc s) unit own) at.2 own in
      let within = at.1 in omega (arith, same, within)

  -- what the tasks of the first stages make of it together
  stages_make : (s : ℕ) → s < length p.pipe → (now : ℤ) → IsI64 now → joined_with f now value (first_task (shape_of g) (suc s)) ≡ join_of f now (made_by (gathered s))
  stages_make zero below now fits =
      joined_parts f now value 0 (count_in 0)
      ∙ joined_from f now (λ w. value (0 + w)) (count_in 0) fits (λ t. value_number (0 + t))
      ∙ ap (join_of f now) (stage_makes 0 below)
  stages_make (suc s) below now fits =
      let before = first_task (shape_of g) (suc s) in
      let made = scalar_number (own_run (part_of alone (gathered s)) 0).store x (numbers_keep (part_of alone (gathered s)) (gathered_may s) 0) in
      let more = scalar_number (own_run (part_of alone (own_of (suc s))) 0).store x (numbers_keep (part_of alone (own_of (suc s))) (stage_may (suc s)) 0) in
      joined_parts f now value before (count_in (suc s))
      ∙ joined_from f (joined_with f now value before) (λ w. value (before + w)) (count_in (suc s)) (joined_fits f now value before fits value_number) (λ t. value_number (before + t))
      ∙ ap (λ (v : ℤ). join_of f v (joined_with f (unit_of f) (λ w. value (before + w)) (count_in (suc s)))) (stages_make s (omega (arith, below)) now fits)
      ∙ ap (join_of f (join_of f now (made_by (gathered s)))) (stage_makes (suc s) below)
      ∙ join_assoc f now (made_by (gathered s)) (made_by (own_of (suc s))) fits made more
      ∙ ap (join_of f now) (sym (parts_add alone [] (gathered s) (own_of (suc s)) (gathered_may s) (stage_may (suc s)) (apart s) x f reduced))

  -- all stages have every unit
  reduction_from : (n : ℕ) → length p.pipe ≡ suc n
      → joined_all f (scalar_at (after e first).store x) seen_values ≡ scalar_at (after e (first + net.granted)).store x
  reduction_from n is =
      let was = scalar_at (after e first).store x in
      let fits = scalar_number (after e first).store x (before_begins (part 0) (may 0)).kept.numbers in
      let all = length-map (seen_stores e p W c first limit h net here over) (λ (m : Memory). scalar_at m x) ∙ count_seen e p W c first limit h net here over ∙ ap (first_task (shape_of g)) is in
      joined_list f was seen_values value (λ t below. refl)
      ∙ ap (joined_with f was value) all
      ∙ stages_make n (omega (arith, is)) was fits
      ∙ sym (whole_joins (part_of alone (gathered n)) (gathered_may n) x f reduced
      (λ unit is_unit named. let at = unit_stage e p W c first limit h unit is_unit in let below = at.1 in gathered_has n at.0 unit (omega (arith, below, is)) at.2))

  pub reduction_settles : joined_all f (scalar_at (after e first).store x) (map (λ (m : Memory). scalar_at m x) (seen_stores e p W c first limit h net here over))
      ≡ scalar_at (after e (first + net.granted)).store x
  reduction_settles = by_count (length p.pipe) refl where
    by_count : (n : ℕ) → length p.pipe ≡ n → joined_all f (scalar_at (after e first).store x) seen_values ≡ scalar_at (after e (first + net.granted)).store x
    by_count zero is = let some = (is_pipeline e p W c first limit h).some_stage in absurd (omega (arith, some, is))
    by_count (suc n) is = reduction_from n is
