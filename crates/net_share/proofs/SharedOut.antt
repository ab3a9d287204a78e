-- A task's store behind the iterations that it has claimed, where these are shared out by the claims.
use Rattle.std.proofs.Common.{◌≡◌, ℕ, suc, ◌<◌, ◌≤◌, List, [], ◌∷◌, length, refl, sym, ap, ◌∙◌, subst, arith}
use Rattle.std.proofs.lemmas.Int.{ints}
use Rattle.std.proofs.lemmas.List.{length-map}
use Rattle.nona_tree.specs.declared.outcomes.Outcome.TheVariants as outcome
use Rattle.nona_tree.specs.Entries.{Entry, after}
use Rattle.nona_tree.specs.Memory.{Memory, declare}
use Rattle.nona_tree.specs.Numbers.{IsI64, AreI64, AreI64Stmts}
use Rattle.nona_tree.specs.Run.{Ran, done, then_do}
use Rattle.nona_tree.proofs.Depth.{SameDepth, all_turn_depth, turns_depth}
use Rattle.nona_tree.proofs.I64.{statements_numbers}
use Rattle.nona_tree.proofs.Keeps.{IsPreorder, SameArrays, arrays_kept, kept_then, all_kept, turns_kept}
use Rattle.nona_plans.specs.Units.{reductions_of}
use Rattle.nona_fission.specs.Sharing.{Sharing, MayBeShared, index_of, iteration, turns_over, task_run}
use Rattle.nona_fission.proofs.Begun.{units_arrays, units_depth}
use Rattle.nona_fission.specs.Fission.{whole_of}
use Rattle.nona_fission.proofs.Thread.{before_begins, index_number}
use Rattle.nona_fission.proofs.Whole.{whole_may, goes_on, task_done, numbers_keep, depth_keep}
use Rattle.net_flow.specs.Sharing.{claimed_by}
use Rattle.net_share.specs.Entries.{MayShare, begun_in}
use Rattle.net_share.proofs.Claimed.{owner_or, above, owner_above, claimed_is, claims_next}

-- so many iterations that are shared out among so many tasks by these claims, and by this task beyond them
abbrev pub shared_out : Entry → ℕ → ℕ → List ℕ → ℕ → ℕ → Sharing
shared_out e first other cs count tasks = record { entry = e; first = first; count = count; tasks = tasks; owner = owner_or other cs }

pub may_be_shared : (e : Entry) (first limit other : ℕ) (cs : List ℕ) (count tasks : ℕ) → MayShare e first limit → count ≤ limit
    → ((k : ℕ) → k < count → owner_or other cs k < tasks) → MayBeShared (shared_out e first other cs count tasks)
may_be_shared e first limit other cs count tasks h few owned = record {
  entered = h.entered;
  steady = h.steady;
  calm = h.calm;
  guarded = h.guarded;
  untied = h.untied;
  silent = h.silent;
  within = let within = h.within in omega (arith, ints, within, few);
  owned = owned;
}

-- as many arrays stand

pub same_count : (m r : Memory) → SameArrays m r → length r.arrays ≡ length m.arrays
same_count m r h = sym (length-map r.arrays length) ∙ ap length h ∙ length-map m.arrays length

turns_keep : (e : Entry) (first : ℕ) (ks : List ℕ) (m : Memory) → SameArrays m (turns_over e first ks m).store
turns_keep e first [] m = refl
turns_keep e first (k ∷ ks) m =
    kept_then SameArrays arrays_kept.order m (iteration e first k m) (turns_over e first ks)
    (all_kept SameArrays arrays_kept e.looped.body e.turns (declare (index_of e first k) m)) (λ r. turns_keep e first ks r)

-- as many scalars stand

pub depths : IsPreorder SameDepth
depths = record { same = λ m. refl; chain = λ a b c h g. g ∙ h }

turns_depths : (e : Entry) (first : ℕ) (ks : List ℕ) (m : Memory) → SameDepth m (turns_over e first ks m).store
turns_depths e first [] m = refl
turns_depths e first (k ∷ ks) m =
    kept_then SameDepth depths m (iteration e first k m) (turns_over e first ks)
    (all_turn_depth e.looped.body e.turns (index_of e first k) m) (λ r. turns_depths e first ks r)

pub begun_depth : (e : Entry) (first : ℕ) → length (begun_in e first).scalars ≡ length e.store.scalars
begun_depth e first = units_depth (reductions_of e.looped) (after e first).store ∙ turns_depth e.looped.body e.turns e.low first e.store

pub depth_between : (e : Entry) (first : ℕ) (ks : List ℕ) (m : Memory) → turns_over e first ks (begun_in e first) ≡ done m → length m.scalars ≡ length e.store.scalars
depth_between e first ks m ready =
    sym (ap (λ (r : Ran). length r.store.scalars) ready) ∙ turns_depths e first ks (begun_in e first) ∙ begun_depth e first

-- the numbers that are written in the body
pub body_written : (e : Entry) (first limit : ℕ) → MayShare e first limit → AreI64Stmts e.looped.body
body_written e first limit h = statements_numbers e.looped.body h.entered.written.2

-- a task's store behind the iterations that it has claimed, before a further one
module _ (e : Entry) (first limit t : ℕ) (cs : List ℕ) (h : MayShare e first limit) (below : length cs < limit) (m : Memory) (ready : turns_over e first (claimed_by cs t) (begun_in e first) ≡ done m) where
  abbrev now : Sharing
  now = shared_out e first t cs (length cs) (above t cs)

  abbrev further : Sharing
  further = shared_out e first t cs (suc (length cs)) (above t cs)

  may_now : MayBeShared now
  may_now = may_be_shared e first limit t cs (length cs) (above t cs) h (omega (arith, below)) (λ k within. owner_above t cs k)

  may_further : MayBeShared further
  may_further = may_be_shared e first limit t cs (suc (length cs)) (above t cs) h (omega (arith, below)) (λ k within. owner_above t cs k)

  run_is : task_run now t ≡ done m
  run_is = ap (λ (ks : List ℕ). turns_over e first ks (begun_in e first)) (claimed_is t cs t) ∙ ready

  pub numbers_behind : AreI64 m
  numbers_behind = subst (λ (r : Ran). AreI64 r.store) run_is (numbers_keep now may_now t)

  pub depth_behind : length m.scalars ≡ length e.store.scalars
  depth_behind =
      sym (ap (λ (r : Ran). length r.store.scalars) run_is) ∙ depth_keep now may_now t ∙ (before_begins (whole_of now) (whole_may now may_now)).depth

  pub arrays_behind : length m.arrays ≡ length e.store.arrays
  arrays_behind =
      sym (ap (λ (r : Ran). length r.store.arrays) ready)
      ∙ same_count (begun_in e first) (turns_over e first (claimed_by cs t) (begun_in e first)).store (turns_keep e first (claimed_by cs t) (begun_in e first))
      ∙ ap length (units_arrays (reductions_of e.looped) (after e first).store)
      ∙ same_count e.store (after e first).store (turns_kept SameArrays arrays_kept e.looped.body e.turns e.low first e.store)

  pub index_behind : IsI64 (index_of e first (length cs))
  index_behind = index_number (whole_of further) (whole_may further may_further) (length cs) (omega arith)

  further_is : task_run further t ≡ iteration e first (length cs) m
  further_is =
      ap (λ (ks : List ℕ). turns_over e first ks (begun_in e first)) (claims_next t cs)
      ∙ goes_on e first (claimed_by cs t) (length cs) (begun_in e first)
      ∙ ap (λ (r : Ran). then_do r (iteration e first (length cs))) ready

  -- the further iteration is done
  pub done_behind : (iteration e first (length cs) m).end ≡ outcome.Done
  done_behind = sym (ap (λ (r : Ran). r.end) further_is) ∙ task_done further may_further t
