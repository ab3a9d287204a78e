-- A scalar that is no reduction, a cell, and what is printed, as they are settled from what the tasks of stages saw: as one thread
-- leaves them.
use Rattle.std.proofs.Common.{◌≡◌, ◌≢◌, ◌⊎◌, inl, inr, ⊎_elim, ℕ, zero, suc, ◌+◌, ◌<◌, Bool, true, false, ℤ, pos, ◌+ℤ◌, List, [], ◌++◌, length, map, drop, get_or, refl, sym, ap, ◌∙◌, subst, arith, append-nil}
use Rattle.std.specs.Prelude.{None}
use Rattle.std.specs.List.{flat_map}
use Rattle.std.proofs.Math.Seq.{drop-length, drop-append_seam}
use Rattle.std.proofs.lemmas.Bool.{cases_eq}
use Rattle.nona_tree.specs.declared.plans.Plan.{Plan}
use Rattle.nona_tree.specs.Entries.{Entry, after}
use Rattle.nona_tree.specs.Memory.{Memory, Extends, scalar_at, cell_at, declare}
use Rattle.nona_tree.specs.Run.{run_all, turn}
use Rattle.nona_tree.proofs.Keeps.{MorePrinted, printed_kept, kept_then, all_kept}
use Rattle.nona_forms.specs.Affine.{among}
use Rattle.nona_forms.specs.References.{assigned}
use Rattle.nona_plans.specs.Mentions.{reduction_of}
use Rattle.nona_plans.specs.Units.{arrays_in, unit_has, unit_prints}
use Rattle.nona_plans.specs.Walks.{IsUnit}
use Rattle.nona_fission.specs.Sharing.{Sharing, store_before, store_behind}
use Rattle.nona_fission.proofs.Untied.{no_and_yes}
use Rattle.nona_fission.specs.Fission.{Fission, MayBeApart, own_run, own_writes}
use Rattle.nona_fission.proofs.Left.{cells_left, scalars_left, printed_left}
use Rattle.nona_fission.proofs.Thread.{before_begins}
use Rattle.nona_fission.proofs.Ties.{scalar_apart}
use Rattle.nona_fission.proofs.Together.{written, left, scalars_agree, cells_keep, scalars_keep, silent, printed_keep, printed_agrees}
use Rattle.net_flow.specs.Machines.{is_over}
use Rattle.net_flow.specs.Net.{Net, net_machine}
use Rattle.net_flow.specs.Shapes.{IsWorker, IsTask, task_of}
use Rattle.net_flow.proofs.Numbering.{task_below}
use Rattle.net_share.specs.Settled.{settled_cell}
use Rattle.net_pipe.specs.Entries.{MayPipe, IsPipeNet, pipe_work, sharing_at, staging_in, tasks_of}
use Rattle.net_pipe.specs.Settled.{printed_behind}
use Rattle.net_pipe.specs.Works.{Staging, Values, shape_of}
use Rattle.net_pipe.proofs.Behind.{parallel_at}
use Rattle.net_pipe.proofs.InStages.{stage_in, Stands}
use Rattle.net_pipe.proofs.Seen.{worker_is_task, task_is_worker, first_is_worker, granted_part, granted_may, seen_stores, count_seen, seen_store, seen_by, each_seen, some_seen}
use Rattle.net_pipe.proofs.Settles.{some_below, some_unit, settles, none_of, one_of}
use Rattle.net_pipe.proofs.StageUnits.{assigns, print_together, unit_stage, not_there}
use Rattle.net_pipe.proofs.UnitsSkipped.{never_true}

-- one thread only prints more

more_turns : (e : Entry) (first k : ℕ) → Extends (after e first).store.printed (after e (first + k)).store.printed
more_turns e first zero = ([], ap (λ (n : ℕ). (after e n).store.printed) (let none : first + 0 ≡ first = omega arith in none) ∙ sym (append-nil (after e first).store.printed))
more_turns e first (suc k) =
    let one : suc (first + k) ≡ first + suc k = omega arith in
    let body = run_all e.looped.body e.turns in
    subst (λ (n : ℕ). Extends (after e first).store.printed (after e n).store.printed) one
    (kept_then MorePrinted printed_kept.order (after e first).store (after e (first + k)) (turn body (e.low +ℤ pos (first + k))) (more_turns e first k)
    (λ m. printed_kept.left m (body (declare (e.low +ℤ pos (first + k)) m)).store
    (printed_kept.order.chain m (declare (e.low +ℤ pos (first + k)) m) (body (declare (e.low +ℤ pos (first + k)) m)).store
    (printed_kept.declared (e.low +ℤ pos (first + k)) m) (all_kept MorePrinted printed_kept e.looped.body e.turns (declare (e.low +ℤ pos (first + k)) m)))))

module _ (e : Entry) (p : Plan) (W c first limit : ℕ) (h : MayPipe e p W c first limit) (net : Net Values (List ℤ)) (here : IsPipeNet e p W c first limit net)
    (over : is_over (net_machine (pipe_work e p W c first)) net ≡ true) where
  abbrev g : Staging
  g = staging_in e p W c first

  abbrev whole : Sharing
  whole = sharing_at e g first net.granted 0

  abbrev was : Memory
  was = store_before whole

  abbrev behind : Memory
  behind = store_behind whole

  abbrev part : ℕ → Fission
  part s = granted_part e p W c first limit h net here over s

  may : (s : ℕ) → MayBeApart (granted_part e p W c first limit h net here over s)
  may s = granted_may e p W c first limit h net here over s

  abbrev stores : List Memory
  stores = seen_stores e p W c first limit h net here over

  first_task_is : (s : ℕ) → s < length p.pipe → IsTask (shape_of g) s 0
  first_task_is s below = (below, first_is_worker (parallel_at g s) W h.some_worker)

  -- a scalar

  module _ (x : ℕ) (within : x < length (after e first).store.scalars) (none : reduction_of e.looped x ≡ None) where
    abbrev Known : ℤ → Type 0
    Known v = (v ≡ scalar_at was x) ⊎ (v ≡ scalar_at behind x)

    outside : x < e.looped.index.id
    outside = let depth = (before_begins (part 0) (may 0)).depth in let index = h.entered.scoped.0 in omega (arith, within, depth, index)

    scalar_unassigned : ((u : ℕ) → IsUnit (length e.looped.body) u → unit_has assigned e.looped u x ≡ false)
        → settled_cell (scalar_at was x) (scalar_at was x) (map (λ (m : Memory). scalar_at m x) stores) ≡ scalar_at behind x
    scalar_unassigned free =
        settles (scalar_at was x) (scalar_at behind x) (scalar_at was x) (map (λ (m : Memory). scalar_at m x) stores) (inl refl)
        (each_seen e p W c first limit h net here over (λ (m : Memory). scalar_at m x) Known (λ s w task. inl (scalars_keep (part s) (may s) w x within none (λ u is own. free u is))))
        (inl (sym (scalars_left (part 0) (may 0) x within free)))

    scalar_assigned : (u : ℕ) → IsUnit (length e.looped.body) u → unit_has assigned e.looped u x ≡ true
        → settled_cell (scalar_at was x) (scalar_at was x) (map (λ (m : Memory). scalar_at m x) stores) ≡ scalar_at behind x
    scalar_assigned u is has =
        settles (scalar_at was x) (scalar_at behind x) (scalar_at was x) (map (λ (m : Memory). scalar_at m x) stores) (inl refl)
        (each_seen e p W c first limit h net here over (λ (m : Memory). scalar_at m x) Known
        (λ s w task. ⊎_elim (λ (same : at.0 ≡ s). inr (of_stage s w task.1 (subst (λ (i : ℕ). Stands p.pipe i u) same at.2))) (λ (apart : at.0 ≢ s). inl (of_other s w apart)) (cases_eq at.0 s)))
        (inr (some_seen e p W c first limit h net here over (λ (m : Memory). scalar_at m x) at.0 0 (scalar_at behind x) (first_task_is at.0 at.1)
        (of_stage at.0 0 (first_is_worker (parallel_at g at.0) W h.some_worker) at.2)))
      where
        at : (s : ℕ) × (s < length p.pipe) × Stands p.pipe s u
        at = unit_stage e p W c first limit h u is

        of_stage : (s w : ℕ) → IsWorker (parallel_at g s) W w → Stands p.pipe s u → scalar_at (own_run (part s) w).store x ≡ scalar_at behind x
        of_stage s w worker own = scalars_agree (part s) (may s) w u x (worker_is_task (parallel_at g s) W w worker) within is own (assigns e.looped u x is has).0 none

        of_other : (s w : ℕ) → at.0 ≢ s → scalar_at (own_run (part s) w).store x ≡ scalar_at was x
        of_other s w apart =
            scalars_keep (part s) (may s) w x within none
            (λ v is_v own. never_true (unit_has assigned e.looped v x)
            (λ too. scalar_apart (part s) (may s) v u x is_v is own (not_there e p W c first limit h at.0 s u is at.2 apart)
            (assigns e.looped v x is_v too).0 (assigns e.looped u x is has).0 (assigns e.looped u x is has).1 outside none))

    pub scalar_settles : settled_cell (scalar_at (after e first).store x) (scalar_at (after e first).store x) (map (λ (m : Memory). scalar_at m x) (seen_stores e p W c first limit h net here over))
        ≡ scalar_at (after e (first + net.granted)).store x
    scalar_settles =
        ⊎_elim (λ (found : (u : ℕ) × IsUnit (length e.looped.body) u × (unit_has assigned e.looped u x ≡ true)). scalar_assigned found.0 found.1 found.2)
        (λ (free : (u : ℕ) → IsUnit (length e.looped.body) u → unit_has assigned e.looped u x ≡ false). scalar_unassigned free)
        (some_unit (λ u. unit_has assigned e.looped u x) (length e.looped.body))

  -- a cell

  module _ (a q : ℕ) where
    abbrev Held : ℤ → Type 0
    Held v = (v ≡ cell_at was a q) ⊎ (v ≡ cell_at behind a q)

    abbrev Writer : ℕ → Type 0
    Writer n = (s : ℕ) × (w : ℕ) × (s < n) × (w < tasks_of (parallel_at g s) W) × (own_writes (part s) w a q ≡ true)

    abbrev NoWriter : ℕ → Type 0
    NoWriter n = (s w : ℕ) → s < n → w < tasks_of (parallel_at g s) W → own_writes (part s) w a q ≡ false

    some_writer : (n : ℕ) → Writer n ⊎ NoWriter n
    some_writer zero = inr (λ s w below inside. absurd (omega (arith, below)))
    some_writer (suc n) = by_last (some_below (λ w. own_writes (part n) w a q) (tasks_of (parallel_at g n) W)) (some_writer n) where
      by_last : ((w : ℕ) × (w < tasks_of (parallel_at g n) W) × (own_writes (part n) w a q ≡ true)) ⊎ ((w : ℕ) → w < tasks_of (parallel_at g n) W → own_writes (part n) w a q ≡ false)
          → Writer n ⊎ NoWriter n → Writer (suc n) ⊎ NoWriter (suc n)
      by_last (inl found) before = inl (n, found.0, omega arith, found.1, found.2)
      by_last (inr none) (inl found) = inl (let below = found.2 in (found.0, found.1, omega (arith, below), found.3, found.4))
      by_last (inr none) (inr free) =
          inr (λ s w below inside. ⊎_elim (λ (last : s ≡ n). subst (λ (i : ℕ). w < tasks_of (parallel_at g i) W → own_writes (part i) w a q ≡ false) (sym last) (none w) inside)
          (λ (apart : s ≡ n → ⊥). free s w (omega (arith, below, apart)) inside) (cases_eq s n))

    cell_seen : (s w : ℕ) (b : Bool) → own_writes (part s) w a q ≡ b → Held (cell_at (own_run (part s) w).store a q)
    cell_seen s w true writes = inr (written (part s) (may s) w a q refl writes)
    cell_seen s w false none = inl (cells_keep (part s) (may s) w a q refl none)

    cell_of_stage : (s u : ℕ) → s < length p.pipe → IsUnit (length e.looped.body) u → Stands p.pipe s u → unit_has arrays_in e.looped u a ≡ true → NoWriter (length p.pipe) → cell_at was a q ≡ cell_at behind a q
    cell_of_stage s u below is own has free = sym (left (part s) (may s) u a q is own has refl (λ w inside. free s w below inside))

    cell_unwritten : NoWriter (length p.pipe) → ((u : ℕ) × IsUnit (length e.looped.body) u × (unit_has arrays_in e.looped u a ≡ true)) ⊎ ((u : ℕ) → IsUnit (length e.looped.body) u → unit_has arrays_in e.looped u a ≡ false)
        → cell_at was a q ≡ cell_at behind a q
    cell_unwritten free (inl (u, is, has)) = let at = unit_stage e p W c first limit h u is in cell_of_stage at.0 u at.1 is at.2 has free
    cell_unwritten free (inr none) = sym (cells_left (part 0) (may 0) a q none)

    pub cell_settles : settled_cell (cell_at (after e first).store a q) (cell_at (after e first).store a q) (map (λ (m : Memory). cell_at m a q) (seen_stores e p W c first limit h net here over))
        ≡ cell_at (after e (first + net.granted)).store a q
    cell_settles =
        settles (cell_at was a q) (cell_at behind a q) (cell_at was a q) (map (λ (m : Memory). cell_at m a q) stores) (inl refl)
        (each_seen e p W c first limit h net here over (λ (m : Memory). cell_at m a q) Held (λ s w task. cell_seen s w (own_writes (part s) w a q) refl))
        (⊎_elim
        (λ (found : Writer (length p.pipe)).
        inr (some_seen e p W c first limit h net here over (λ (m : Memory). cell_at m a q) found.0 found.1 (cell_at behind a q) (found.2, task_is_worker (parallel_at g found.0) W found.1 found.3)
        (written (part found.0) (may found.0) found.1 a q refl found.4)))
        (λ (free : NoWriter (length p.pipe)). inl (cell_unwritten free (some_unit (λ u. unit_has arrays_in e.looped u a) (length e.looped.body)))) (some_writer (length p.pipe)))

  -- what is printed

  abbrev more : List ℤ
  more = (more_turns e first net.granted).0

  printed_so : behind.printed ≡ was.printed ++ more
  printed_so = (more_turns e first net.granted).1

  nothing_printed : (m : Memory) → m.printed ≡ was.printed → printed_behind was m ≡ []
  nothing_printed m same = ap (drop (length was.printed)) same ∙ drop-length was.printed

  all_printed : (m : Memory) → m.printed ≡ behind.printed → printed_behind was m ≡ more
  all_printed m same = ap (drop (length was.printed)) (same ∙ printed_so) ∙ drop-append_seam was.printed more

  silent_stores : ((u : ℕ) → IsUnit (length e.looped.body) u → unit_prints e.looped u ≡ false) → was.printed ++ flat_map (printed_behind was) stores ≡ behind.printed
  silent_stores free =
      ap (λ (xs : List ℤ). was.printed ++ xs)
      (none_of (printed_behind was) stores was
      (λ t below.
      (let at = seen_by e p W c first limit h net here over t below in
      nothing_printed (get_or stores t was)
      (subst (λ (i : ℕ). (get_or stores i was).printed ≡ was.printed) at.3
      (ap (λ (m : Memory). m.printed) (seen_store e p W c first limit h net here over at.0 at.1 at.2 was) ∙ printed_keep (part at.0) (may at.0) at.1 (λ u is own. free u is))))))
      ∙ append-nil was.printed ∙ sym (printed_left (part 0) (may 0) free)

  module _ (u : ℕ) (is : IsUnit (length e.looped.body) u) (prints : unit_prints e.looped u ≡ true) where
    at_stage : (s : ℕ) × (s < length p.pipe) × Stands p.pipe s u
    at_stage = unit_stage e p W c first limit h u is

    abbrev its : ℕ
    its = at_stage.0

    -- its stage has one task
    alone : tasks_of (parallel_at g its) W ≡ 1
    alone =
        ⊎_elim (λ (one : tasks_of (parallel_at g its) W ≡ 1). one)
        (λ (several : tasks_of (parallel_at g its) W ≢ 1). absurd (no_and_yes (unit_prints e.looped u) prints (silent (part its) (may its) u several is at_stage.2))) (cases_eq (tasks_of (parallel_at g its) W) 1)

    -- and no other stage prints
    other_silent : (s w : ℕ) → its ≢ s → (own_run (part s) w).store.printed ≡ was.printed
    other_silent s w apart =
        printed_keep (part s) (may s) w
        (λ v is_v own. never_true (unit_prints e.looped v)
        (λ too. no_and_yes (among u (stage_in p.pipe s).units) (sym (print_together (part s) (may s) v u is_v is too prints) ∙ own) (not_there e p W c first limit h its s u is at_stage.2 apart)))

    one_prints : was.printed ++ flat_map (printed_behind was) stores ≡ behind.printed
    one_prints =
        let count = count_seen e p W c first limit h net here over in
        let task = first_task_is its at_stage.1 in
        let below = task_below (shape_of g) its 0 task in
        ap (λ (xs : List ℤ). was.printed ++ xs)
        (one_of (printed_behind was) stores was (task_of (shape_of g) its 0) (omega (arith, count, below)) others
        ∙ all_printed (get_or stores (task_of (shape_of g) its 0) was)
        (ap (λ (m : Memory). m.printed) (seen_store e p W c first limit h net here over its 0 task was)
        ∙ printed_agrees (part its) (may its) alone (λ v is_v too. print_together (part its) (may its) v u is_v is too prints ∙ at_stage.2)))
        ∙ sym printed_so
      where
        by_stage : (t s w : ℕ) → IsTask (shape_of g) s w → task_of (shape_of g) s w ≡ t → (t ≡ task_of (shape_of g) its 0 → ⊥) → (its ≡ s) ⊎ (its ≢ s) → (own_run (part s) w).store.printed ≡ was.printed
        by_stage t s w task numbered apart (inl same) =
            let below = worker_is_task (parallel_at g s) W w task.1 in
            let one : tasks_of (parallel_at g s) W ≡ 1 = subst (λ (i : ℕ). tasks_of (parallel_at g i) W ≡ 1) same alone in
            let first_one : w ≡ 0 = omega (arith, below, one) in
            absurd (apart (sym numbered ∙ ap (task_of (shape_of g) s) first_one ∙ ap (λ (i : ℕ). task_of (shape_of g) i 0) (sym same)))
        by_stage t s w task numbered apart (inr other) = other_silent s w other

        others : (t : ℕ) → t < length stores → (t ≡ task_of (shape_of g) its 0 → ⊥) → printed_behind was (get_or stores t was) ≡ []
        others t below apart =
            let at = seen_by e p W c first limit h net here over t below in
            nothing_printed (get_or stores t was)
            (subst (λ (i : ℕ). (get_or stores i was).printed ≡ was.printed) at.3
            (ap (λ (m : Memory). m.printed) (seen_store e p W c first limit h net here over at.0 at.1 at.2 was) ∙ by_stage t at.0 at.1 at.2 at.3 apart (cases_eq its at.0)))

  pub printed_settles : (after e first).store.printed ++ flat_map (printed_behind (after e first).store) (seen_stores e p W c first limit h net here over) ≡ (after e (first + net.granted)).store.printed
  printed_settles =
      ⊎_elim (λ (found : (u : ℕ) × IsUnit (length e.looped.body) u × (unit_prints e.looped u ≡ true)). one_prints found.0 found.1 found.2)
      (λ (free : (u : ℕ) → IsUnit (length e.looped.body) u → unit_prints e.looped u ≡ false). silent_stores free)
      (some_unit (unit_prints e.looped) (length e.looped.body))
