-- A task's store behind the iterations that it has done, before a further one.
use Rattle.std.proofs.Common.{◌≡◌, ℕ, suc, ◌<◌, Bool, true, false, not, ℤ, List, [], ◌∷◌, length, length-append, map, refl, sym, ap, ◌∙◌, subst, arith, if◌then◌else◌}
use Rattle.nona_tree.specs.declared.outcomes.Outcome.TheVariants as outcome
use Rattle.nona_tree.specs.declared.plans.Plan.{Plan}
use Rattle.nona_tree.specs.declared.trees.Stmt.{Stmt}
use Rattle.nona_tree.specs.Entries.{Entry, after}
use Rattle.nona_tree.specs.Memory.{Memory, declare}
use Rattle.nona_tree.specs.Numbers.{IsI64, AreI64}
use Rattle.nona_tree.specs.Run.{Ran, done, then_do, run}
use Rattle.nona_tree.proofs.Depth.{SameDepth}
use Rattle.nona_tree.proofs.Keeps.{cut_length, SameArrays, arrays_kept, kept_then, run_kept, turns_kept}
use Rattle.nona_plans.specs.Units.{reductions_of}
use Rattle.nona_fission.specs.Sharing.{index_of, owned_below}
use Rattle.nona_fission.proofs.Begun.{units_arrays}
use Rattle.nona_fission.specs.Fission.{Fission, MayBeApart, skipped, portion, own_iteration, own_over, own_run}
use Rattle.net_flow.specs.Dealing.{number}
use Rattle.net_flow.specs.Shapes.{IsWorker}
use Rattle.net_flow.specs.Tracing.{numbers}
use Rattle.net_share.specs.Entries.{begun_in}
use Rattle.nona_fission.proofs.Spared.{portion_grows}
use Rattle.nona_fission.proofs.Thread.{before_begins, index_number}
use Rattle.nona_fission.proofs.Together.{task_done, numbers_keep, depth_keep}
use Rattle.nona_fission.proofs.Turns.{goes_on}
use Rattle.nona_fission.proofs.Units.{skipped_arrays}
use Rattle.net_share.proofs.SharedOut.{begun_depth, depths, same_count}
use Rattle.net_pipe.specs.Entries.{MayPipe, staging_in, owner_of, part_at}
use Rattle.net_pipe.specs.Works.{Staging, stage_at}
use Rattle.net_pipe.proofs.Owned.{own_number, owned_before, owned_with}
use Rattle.net_pipe.proofs.PartsApart.{may_be_apart}

-- iterations one after another are the same of however many

pub same_over : (e : Entry) (g : Staging) (first count s : ℕ) (ks : List ℕ) (m : Memory) → own_over (part_at e g first 0 s) ks m ≡ own_over (part_at e g first count s) ks m
same_over e g first count s [] m = refl
same_over e g first count s (k ∷ ks) m = λ i. then_do (own_iteration (part_at e g first count s) k m) (λ r. same_over e g first count s ks r i)

-- as many arrays stand

portion_arrays : (own : ℕ → Bool) (locals : ℕ → ℤ) (unit : ℕ) (ss : List Stmt) (n : ℕ) (m : Memory) → SameArrays m (portion own locals unit ss n m).store
portion_arrays own locals unit [] n m = refl
portion_arrays own locals unit (s ∷ rest) n m = by_test (own unit) (λ x. portion_arrays own locals (suc unit) rest n x) where
  by_test : (b : Bool) → ((x : Memory) → SameArrays x (portion own locals (suc unit) rest n x).store)
      → SameArrays m (if b then then_do (run s n m) (portion own locals (suc unit) rest n) else portion own locals (suc unit) rest n (skipped locals s m)).store
  by_test true later = kept_then SameArrays arrays_kept.order m (run s n m) (portion own locals (suc unit) rest n) (run_kept SameArrays arrays_kept s n m) later
  by_test false later = later (skipped locals s m) ∙ ap (λ (xs : List (List ℤ)). map length xs) (skipped_arrays locals s m)

over_arrays : (x : Fission) (ks : List ℕ) (m : Memory) → SameArrays m (own_over x ks m).store
over_arrays x [] m = refl
over_arrays x (k ∷ ks) m =
    kept_then SameArrays arrays_kept.order m (own_iteration x k m) (own_over x ks)
    (portion_arrays x.own (x.locals k) 1 x.sharing.entry.looped.body x.sharing.entry.turns (declare (index_of x.sharing.entry x.sharing.first k) m)) (λ r. over_arrays x ks r)

-- as many scalars stand

iteration_depth : (x : Fission) (k : ℕ) (m : Memory) → SameDepth m (own_iteration x k m).store
iteration_depth x k m =
    let index = index_of x.sharing.entry x.sharing.first k in
    let body = portion x.own (x.locals k) 1 x.sharing.entry.looped.body x.sharing.entry.turns in
    cut_length m (body (declare index m)).store
    (let grows = portion_grows x.own (x.locals k) 1 x.sharing.entry.looped.body x.sharing.entry.turns (declare index m) in
    let longer = length-append m.scalars (index ∷ []) in omega (arith, grows, longer))

over_depth : (x : Fission) (ks : List ℕ) (m : Memory) → SameDepth m (own_over x ks m).store
over_depth x [] m = refl
over_depth x (k ∷ ks) m = kept_then SameDepth depths m (own_iteration x k m) (own_over x ks) (iteration_depth x k m) (λ r. over_depth x ks r)

pub depth_between : (e : Entry) (g : Staging) (first s : ℕ) (ks : List ℕ) (m : Memory) → own_over (part_at e g first 0 s) ks (begun_in e first) ≡ done m
    → length m.scalars ≡ length e.store.scalars
depth_between e g first s ks m ready =
    sym (ap (λ (r : Ran). length r.store.scalars) ready) ∙ over_depth (part_at e g first 0 s) ks (begun_in e first) ∙ begun_depth e first

-- whether a stage is parallel
abbrev pub parallel_at : Staging → ℕ → Bool
parallel_at g s = not (stage_at g s).sequential

module _ (e : Entry) (p : Plan) (W c first limit : ℕ) (h : MayPipe e p W c first limit) (s w d : ℕ) (task : IsWorker (parallel_at (staging_in e p W c first) s) W w)
    (below : number (parallel_at (staging_in e p W c first) s) W w d < limit) (begun : Memory)
    (ready : own_over (part_at e (staging_in e p W c first) first 0 s) (numbers (parallel_at (staging_in e p W c first) s) W w d) (begun_in e first) ≡ done begun) where
  abbrev g : Staging
  g = staging_in e p W c first

  -- the number of the further iteration
  abbrev k : ℕ
  k = number (parallel_at g s) W w d

  abbrev so_far : Fission
  so_far = part_at e g first k s

  abbrev further : Fission
  further = part_at e g first (suc k) s

  may_so_far : MayBeApart so_far
  may_so_far = may_be_apart e p W c first limit h k s (omega (arith, below))

  pub may_further : MayBeApart further
  may_further = may_be_apart e p W c first limit h (suc k) s (omega (arith, below))

  pub over_to : (count : ℕ) → own_over (part_at e g first count s) (owned_below (owner_of (parallel_at g s) W) w k) (begun_in e first) ≡ done begun
  over_to count =
      ap (λ (ks : List ℕ). own_over (part_at e g first count s) ks (begun_in e first)) (owned_before (parallel_at g s) W w d h.some_worker task)
      ∙ sym (same_over e g first count s (numbers (parallel_at g s) W w d) (begun_in e first)) ∙ ready

  -- the same, by the owner of the further iteration
  pub over_owned : own_over further (owned_below (owner_of (parallel_at g s) W) (owner_of (parallel_at g s) W k) k) (begun_in e first) ≡ done begun
  over_owned =
      ap (λ (t : ℕ). own_over further (owned_below (owner_of (parallel_at g s) W) t k) (begun_in e first)) (own_number (parallel_at g s) W w d task) ∙ over_to (suc k)

  pub numbers_behind : AreI64 begun
  numbers_behind = subst (λ (r : Ran). AreI64 r.store) (over_to k) (numbers_keep so_far may_so_far w)

  pub depth_behind : length begun.scalars ≡ length e.store.scalars
  depth_behind = sym (ap (λ (r : Ran). length r.store.scalars) (over_to k)) ∙ depth_keep so_far may_so_far w ∙ (before_begins so_far may_so_far).depth

  pub arrays_behind : length begun.arrays ≡ length e.store.arrays
  arrays_behind =
      sym (ap (λ (r : Ran). length r.store.arrays) ready)
      ∙ same_count (begun_in e first) (own_over (part_at e g first 0 s) (numbers (parallel_at g s) W w d) (begun_in e first)).store (over_arrays (part_at e g first 0 s) (numbers (parallel_at g s) W w d) (begun_in e first))
      ∙ ap length (units_arrays (reductions_of e.looped) (after e first).store)
      ∙ same_count e.store (after e first).store (turns_kept SameArrays arrays_kept e.looped.body e.turns e.low first e.store)

  pub index_behind : IsI64 (index_of e first k)
  index_behind = index_number further may_further k (omega arith)

  -- the further iteration

  pub iteration_follows : own_over (part_at e g first 0 s) (numbers (parallel_at g s) W w (suc d)) (begun_in e first) ≡ own_iteration (part_at e g first 0 s) k begun
  iteration_follows =
      goes_on (part_at e g first 0 s) (numbers (parallel_at g s) W w d) k (begun_in e first)
      ∙ ap (λ (r : Ran). then_do r (own_iteration (part_at e g first 0 s) k)) ready

  further_is : own_run further w ≡ own_iteration (part_at e g first 0 s) k begun
  further_is =
      ap (λ (ks : List ℕ). own_over further ks (begun_in e first)) (owned_with (parallel_at g s) W w d h.some_worker task)
      ∙ sym (same_over e g first (suc k) s (numbers (parallel_at g s) W w (suc d)) (begun_in e first)) ∙ iteration_follows

  -- it is done
  pub done_behind : (own_iteration (part_at e g first 0 s) k begun).end ≡ outcome.Done
  done_behind = sym (ap (λ (r : Ran). r.end) further_is) ∙ task_done further may_further w
