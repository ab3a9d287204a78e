-- Machines whose steps can't go on for ever.
use Rattle.std.proofs.Common.{◌≡◌, ◌≢◌, ◌⊎◌, ◌<◌, ◌≤◌, ◌+◌, ℕ, zero, suc, Bool, true, false, ◌&&◌, refl, sym, subst, ◌∙◌, arith, inl, inr, if◌then◌else◌}
use Rattle.std.proofs.lemmas.Bool.{cases_eq}
use Rattle.net_flow.specs.Machines.{Machine, over_from, is_over, step_once, round_from, round, RunsOut, at_end, one_round}

module _ (N : Type 0) (machine : Machine N) where
  -- one that has not finished, where not all have
  unfinished_from : (left task : ℕ) (net : N) → over_from machine left task net ≡ false → (t : ℕ) × (t < task + left) × (machine.finished net t ≡ false)
  unfinished_from zero task net no' = cc
  unfinished_from (suc left) task net no' = by_test (machine.finished net task) refl no' (λ later. unfinished_from left (task + 1) net later) where
    by_test : (b : Bool) → machine.finished net task ≡ b → (b && over_from machine left (task + 1) net) ≡ false
        → (over_from machine left (task + 1) net ≡ false → (t : ℕ) × (t < task + 1 + left) × (machine.finished net t ≡ false))
        → (t : ℕ) × (t < task + suc left) × (machine.finished net t ≡ false)
    by_test true at later up = let h = up later in (h.0, (let k = h.1 in omega (arith, k)), h.2)
    by_test false at later up = (task, omega arith, at)

  pub unfinished_is : (net : N) → is_over machine net ≡ false → (t : ℕ) × (t < machine.tasks net) × (machine.finished net t ≡ false)
  unfinished_is net no' = let h = unfinished_from (machine.tasks net) 0 net no' in (h.0, (let k = h.1 in omega (arith, k)), h.2)

  -- all have finished
  finished_from : (left task t : ℕ) (net : N) → over_from machine left task net ≡ true → task ≤ t → t < task + left → machine.finished net t ≡ true
  finished_from zero task t net over low high = absurd (omega (arith, low, high))
  finished_from (suc left) task t net over low high = by_test (machine.finished net task) refl over (λ later low'. finished_from left (task + 1) t net later low' (omega (arith, high))) where
    by_test : (b : Bool) → machine.finished net task ≡ b → (b && over_from machine left (task + 1) net) ≡ true
        → (over_from machine left (task + 1) net ≡ true → task + 1 ≤ t → machine.finished net t ≡ true) → machine.finished net t ≡ true
    by_test false at later up = cc
    by_test true at later up = by_position (cases_eq task t) where
      by_position : (task ≡ t) ⊎ (task ≢ t) → machine.finished net t ≡ true
      by_position (inl here) = subst (λ (i : ℕ). machine.finished net i ≡ true) here at
      by_position (inr off) = up later (omega (arith, low, off))

  pub finished_is : (net : N) → is_over machine net ≡ true → (t : ℕ) → t < machine.tasks net → machine.finished net t ≡ true
  finished_is net over t below = finished_from (machine.tasks net) 0 t net over (omega arith) (omega (arith, below))

  -- two nets that no test tells apart
  pub record Alike (size : N → ℕ) (net next : N) : Type 0 where
    pub tasks : machine.tasks next ≡ machine.tasks net
    pub moved : size next ≡ size net
    pub finished : (t : ℕ) → machine.finished next t ≡ machine.finished net t
    pub waits : (t : ℕ) → machine.waits next t ≡ machine.waits net t

  module _ (Inv : N → Type 0) (size : N → ℕ) (most : ℕ)
      (bounded : (net : N) → Inv net → size net ≤ most)
      (same_tasks : (net : N) (t : ℕ) → Inv net → t < machine.tasks net → machine.finished net t ≡ false → machine.tasks (machine.step net t) ≡ machine.tasks net)
      (keeps : (net : N) (t : ℕ) → Inv net → t < machine.tasks net → machine.finished net t ≡ false → Inv (machine.step net t))
      (rises : (net : N) (t : ℕ) → Inv net → t < machine.tasks net → machine.finished net t ≡ false → machine.waits net t ≡ false → size (machine.step net t) ≡ size net + 1)
      (rests : (net : N) (t : ℕ) → machine.waits net t ≡ true → Alike size net (machine.step net t))
      (never_stuck : (net : N) → Inv net → is_over machine net ≡ false → (t : ℕ) × (t < machine.tasks net) × (machine.finished net t ≡ false) × (machine.waits net t ≡ false)) where
    -- What one task's step did, or that of some: the invariant stands; and more was moved, or each of them can't move.
    pub record Went (net : N) (task left : ℕ) (next : N) : Type 0 where
      pub kept : Inv next
      pub tasks : machine.tasks next ≡ machine.tasks net
      pub on : (size net < size next) ⊎ Alike size net next × ((t : ℕ) → task ≤ t → t < task + left → machine.finished net t ≡ false → machine.waits net t ≡ true)

    once : (net : N) (task : ℕ) → Inv net → task < machine.tasks net → Went net task 1 (step_once machine task net)
    once net task here below = by_finished (machine.finished net task) refl where
      alone : (t : ℕ) → task ≤ t → t < task + 1 → task ≡ t
      alone t low high = omega (arith, low, high)

      by_waits : (b : Bool) → machine.waits net task ≡ b → machine.finished net task ≡ false → Went net task 1 (machine.step net task)
      by_waits true at goes = record {
        kept = keeps net task here below goes;
        tasks = same_tasks net task here below goes;
        on = inr (rests net task at, λ t low high f. subst (λ (i : ℕ). machine.waits net i ≡ true) (alone t low high) at);
      }
      by_waits false at goes = record {
        kept = keeps net task here below goes;
        tasks = same_tasks net task here below goes;
        on = inl (let h = rises net task here below goes at in omega (arith, h));
      }

      by_finished : (b : Bool) → machine.finished net task ≡ b → Went net task 1 (if b then net else machine.step net task)
      by_finished true at = record {
        kept = here;
        tasks = refl;
        on = inr (record { tasks = refl; moved = refl; finished = λ t. refl; waits = λ t. refl }, λ t low high f. (let e : machine.finished net t ≡ true = subst (λ (i : ℕ). machine.finished net i ≡ true) (alone t low high) at in cc));
      }
      by_finished false at = by_waits (machine.waits net task) refl at

    some : (left task : ℕ) (net : N) → Inv net → task + left ≤ machine.tasks net → Went net task left (round_from machine left task net)
    some zero task net here within = record {
      kept = here;
      tasks = refl;
      on = inr (record { tasks = refl; moved = refl; finished = λ t. refl; waits = λ t. refl }, λ t low high f. absurd (omega (arith, low, high)));
    }
    some (suc left) task net here within =
        let first = once net task here (omega (arith, within)) in
        let same = first.tasks in
        join first (some left (task + 1) (step_once machine task net) first.kept (omega (arith, within, same)))
      where
        join : Went net task 1 (step_once machine task net) → Went (step_once machine task net) (task + 1) left (round_from machine left (task + 1) (step_once machine task net))
            → Went net task (suc left) (round_from machine left (task + 1) (step_once machine task net))
        join a b = record { kept = b.kept; tasks = b.tasks ∙ a.tasks; on = both a.on b.on } where
          mid : N
          mid = step_once machine task net

          end : N
          end = round_from machine left (task + 1) (step_once machine task net)

          both : (size net < size (step_once machine task net)) ⊎ Alike size net (step_once machine task net) × ((t : ℕ) → task ≤ t → t < task + 1 → machine.finished net t ≡ false → machine.waits net t ≡ true)
              → (size (step_once machine task net) < size (round_from machine left (task + 1) (step_once machine task net)))
              ⊎ Alike size (step_once machine task net) (round_from machine left (task + 1) (step_once machine task net))
              × ((t : ℕ) → task + 1 ≤ t → t < task + 1 + left → machine.finished (step_once machine task net) t ≡ false → machine.waits (step_once machine task net) t ≡ true)
              → (size net < size (round_from machine left (task + 1) (step_once machine task net)))
              ⊎ Alike size net (round_from machine left (task + 1) (step_once machine task net))
              × ((t : ℕ) → task ≤ t → t < task + suc left → machine.finished net t ≡ false → machine.waits net t ≡ true)
          both (inl x) (inl y) = inl (omega (arith, x, y))
          both (inl x) (inr y) = inl (let e = y.0.moved in omega (arith, x, e))
          both (inr x) (inl y) = inl (let e = x.0.moved in omega (arith, y, e))
          both (inr x) (inr y) = inr (
            record { tasks = y.0.tasks ∙ x.0.tasks; moved = y.0.moved ∙ x.0.moved; finished = λ t. y.0.finished t ∙ x.0.finished t; waits = λ t. y.0.waits t ∙ x.0.waits t },
            λ t low high f. by_position t low high f (cases_eq task t),
          ) where
            by_position : (t : ℕ) → task ≤ t → t < task + suc left → machine.finished net t ≡ false → (task ≡ t) ⊎ (task ≢ t) → machine.waits net t ≡ true
            by_position t low high f (inl here') = x.1 t low (omega (arith, here')) f
            by_position t low high f (inr off) = sym (x.0.waits t) ∙ y.1 t (omega (arith, low, off)) (omega (arith, high)) (x.0.finished t ∙ f)

    -- a round moves something, where not all have finished
    pub round_rises : (net : N) → Inv net → is_over machine net ≡ false → Inv (round machine net) × (size net < size (round machine net))
    round_rises net here goes = (r.kept, by_on r.on) where
      r : Went net 0 (machine.tasks net) (round_from machine (machine.tasks net) 0 net)
      r = some (machine.tasks net) 0 net here (omega arith)

      by_on : (size net < size (round machine net)) ⊎ Alike size net (round machine net) × ((t : ℕ) → 0 ≤ t → t < 0 + machine.tasks net → machine.finished net t ≡ false → machine.waits net t ≡ true)
          → size net < size (round machine net)
      by_on (inl h) = h
      by_on (inr h) =
          let k = never_stuck net here goes in
          let no' = h.1 k.0 (omega arith) (let z = k.1 in omega (arith, z)) k.2 in
          let free = k.3 in absurd (let z : true ≡ false = sym no' ∙ free in cc)

    run_out : (n : ℕ) (net : N) → Inv net → most ≤ size net + n → (end : N) × RunsOut machine net end × Inv end
    run_out zero net here room = by_over (is_over machine net) refl where
      by_over : (b : Bool) → is_over machine net ≡ b → (end : N) × RunsOut machine net end × Inv end
      by_over true over = (net, at_end net over, here)
      by_over false goes =
          let h = round_rises net here goes in
          let k = bounded (round machine net) h.0 in
          let z = h.1 in absurd (omega (arith, room, k, z))
    run_out (suc n) net here room = by_over (is_over machine net) refl (λ next inv more. run_out n next inv more) where
      by_over : (b : Bool) → is_over machine net ≡ b → ((next : N) → Inv next → most ≤ size next + n → (end : N) × RunsOut machine next end × Inv end)
          → (end : N) × RunsOut machine net end × Inv end
      by_over true over on = (net, at_end net over, here)
      by_over false goes on =
          let h = round_rises net here goes in
          let z = h.1 in
          let r = on (round machine net) h.0 (omega (arith, room, z)) in
          (r.0, one_round net r.0 goes r.1, r.2)

    -- so it runs out
    pub runs_out : (net : N) → Inv net → (end : N) × RunsOut machine net end × Inv end
    runs_out net here = run_out most net here (omega arith)

    -- and what stands at its end
    pub kept_out : (net end : N) → RunsOut machine net end → Inv net → Inv end × (is_over machine end ≡ true)
    kept_out _ _ (at_end net over) here = (here, over)
    kept_out _ _ (one_round net end goes later) here = kept_out (round machine net) end later (some (machine.tasks net) 0 net here (omega arith)).kept
