-- Tasks that share iterations, before their first step.
use Rattle.std.proofs.Common.{◌≡◌, ◌<◌, ◌≤◌, ◌+◌, ◌*◌, ◌^◌, ℕ, ℤ, pos, ◌+ℤ◌, List, length, sym, ap, subst, ◌∙◌, arith, FitsSigned}
use Rattle.std.specs.Int.{w64}
use Rattle.std.proofs.lemmas.List.{length-map}
use Rattle.std.proofs.lemmas.Nat.{mul-le}
use Rattle.nona_num.specs.declared.folds.Fold.{Fold}
use Rattle.nona_tree.specs.Memory.{Memory}
use Rattle.nona_tree.specs.Run.{done}
use Rattle.nona_tree.specs.Smallness.{IsSmallLoop}
use Rattle.nona_tree.specs.declared.trees.Loop.{Loop}
use Rattle.nona_plans.specs.Units.{reductions_of}
use Rattle.nona_fission.specs.Sharing.{with_units}
use Rattle.morta_task.specs.Entries.{EntryView, IsEntered, before, loop_of, state_after}
use Rattle.net_flow.specs.Begun.{begun_net}
use Rattle.net_flow.specs.Net.{Net}
use Rattle.net_share.specs.declared.sharing.Sharing.{Sharing}
use Rattle.net_share.specs.Entries.{IsEntryNet, MayShare, doing_in, entry_net}
use Rattle.net_share.specs.Kept.{IsSharing, doing_of, net_of, store_of}
use Rattle.net_share.specs.Tasks.{task_over}
use Rattle.net_share.specs.Works.{Doing, sharing_work}
use Rattle.weave.specs.declared.shared_tasks.SharedTasks.{SharedTasks}
use Rattle.weave.specs.NetView.{Shared}
use Rattle.weave.specs.Shared.{begun_shared}
use Rattle.weave.specs.SharedTasks.{IsSharedTasks, done_before, workers_of, shared_view}
use Rattle.weave.proofs.Few.{few_units}

-- the moves of an interval are few enough to be counted
pub few_shared : (l : Loop) (limit workers : ℕ) → IsSmallLoop l → limit ≤ 10 ^ 12 → workers ≤ 16 → limit * (1 + length l.body) + (1 + workers) < 2 ^ 64
few_shared l limit workers small few at_most =
    let units = length l.body in
    let product : limit * (1 + units) ≤ 10 ^ 12 * 2 ^ 20 = mul-le limit (1 + units) (10 ^ 12) (2 ^ 20) few (omega (arith, few_units l small)) in
    omega (arith, product, at_most)

-- the machine began so over this store
pub record HasBegun (e : EntryView) (from : ℤ) (limit W : ℕ) (m : Memory) (n : Sharing) : Type 0 where
  pub does : doing_of n ≡ doing_in (loop_of e) (before e from)
  pub net : net_of n ≡ begun_shared e (before e from) limit W
  pub store : store_of n ≡ m
  pub sound : IsSharing n

-- the net that tasks begin is the one that the definitions begin
pub begun_is : (e : EntryView) (b limit W : ℕ) (d : Doing) (rs : List (ℕ × Fold)) (m : Memory) → d ≡ doing_in (loop_of e) b → rs ≡ reductions_of e.looped
    → state_after e b ≡ done m → begun_net (sharing_work d W) limit (λ s w. with_units rs m) ≡ begun_shared e b limit W
begun_is e b limit W d rs m does same state =
    λ i. begun_net (sharing_work (does i) W) limit (λ s w. with_units (same i) (sym state i).store)

module _ (t : SharedTasks) (limit W : ℕ) (m : Memory) (law : IsEntryNet (loop_of t.entry.now) (done_before t) limit W (entry_net (loop_of t.entry.now) (done_before t) limit W))
    (h : HasBegun t.entry.now t.from limit W m t.sharing) where
  -- there are as many tasks as workers
  pub count_begun : workers_of t ≡ W
  count_begun =
      sym (length-map t.sharing.tasks.items (task_over t.sharing.store))
      ∙ ap (λ (net : Net Memory (Unit {0})). length net.tasks) h.net ∙ law.tasks

  pub view_begun : shared_view t ≡ Shared t.entry.now (done_before t) W (begun_shared t.entry.now (done_before t) limit W)
  view_begun = λ i. Shared t.entry.now (done_before t) (count_begun i) (h.net i)

  limit_begun : (net_of t.sharing).limit ≡ limit
  limit_begun = ap (λ (net : Net Memory (Unit {0})). net.limit) h.net

  pub stands_begun : IsEntered t.entry.now → MayShare (loop_of t.entry.now) (done_before t) limit → t.from ≡ t.entry.now.low +ℤ pos (done_before t)
      → ((k : ℕ) → k ≤ limit → FitsSigned w64 (t.from +ℤ pos k)) → 1 ≤ W → state_after t.entry.now (done_before t) ≡ done m
      → t.reductions.now ≡ reductions_of t.entry.now.looped → IsSharedTasks t
  stands_begun entered may from fits some state reductions =
      let e = loop_of t.entry.now in
      let b = done_before t in
      record {
        entered = entered;
        may = subst (λ (l : ℕ). MayShare e b l) (sym limit_begun) may;
        from = from;
        fits = λ k few. fits k (subst (λ (l : ℕ). k ≤ l) limit_begun few);
        some = subst (λ (w : ℕ). 1 ≤ w) (sym count_begun) some;
        does = h.does;
        net = subst (λ (l : ℕ). IsEntryNet e b l (workers_of t) (net_of t.sharing)) (sym limit_begun)
            (subst (λ (w : ℕ). IsEntryNet e b limit w (net_of t.sharing)) (sym count_begun)
            (subst (λ (net : Net Memory (Unit {0})). IsEntryNet e b limit W net) (sym h.net) law));
        sharing = h.sound;
        store = state ∙ ap done (sym h.store);
        reductions = reductions;
      }
