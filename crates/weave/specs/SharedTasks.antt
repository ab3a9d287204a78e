-- The machine of an interval under `any`, as it is kept.
use Rattle.std.specs.Prelude.{◌≡◌, ℕ, ◌≤◌, IsTrue, pos, ◌+ℤ◌, FitsSigned, length}
use Rattle.std.specs.Int.{w64}
use Rattle.nona_tree.specs.Run.{done}
use Rattle.nona_plans.specs.Plans.{IsLawfulPlan}
use Rattle.nona_plans.specs.Units.{reductions_of}
use Rattle.morta_task.specs.Entries.{EntryView, IsEntered, before, loop_of, state_after}
use Rattle.net_share.specs.Entries.{IsEntryNet, MayShare, doing_in}
use Rattle.net_share.specs.Kept.{IsSharing, doing_of, net_of, store_of}
use Rattle.weave.specs.declared.shared_tasks.SharedTasks.{SharedTasks}
use Rattle.weave.specs.NetView.{NetView, Shared}

-- an entry whose plan is lawful offers `any`
pub record OffersSharing (e : EntryView) : Type 0 where
  pub lawful : IsLawfulPlan e.looped e.plan
  pub offered : IsTrue e.any

-- how many iterations of the entry are done before the interval
abbrev pub done_before : SharedTasks → ℕ
done_before t = before t.entry.now t.from

-- how many tasks there are
abbrev pub workers_of : SharedTasks → ℕ
workers_of t = length t.sharing.tasks.items

-- the machine, as the definitions see it
abbrev pub shared_view : SharedTasks → NetView
shared_view t = Shared t.entry.now (done_before t) (workers_of t) (net_of t.sharing)

-- What stands of it at each step: its iterations may be shared out, from an index of the entry on, before which the store at the
-- interval's start is that of one thread, and each index up to its limit is a number of 64 bits; its tasks do what they have to, of
-- which there is one at least; and their net stands.
pub record IsSharedTasks (t : SharedTasks) : Type 0 where
  pub entered : IsEntered t.entry.now
  pub may : MayShare (loop_of t.entry.now) (done_before t) (net_of t.sharing).limit
  pub from : t.from ≡ t.entry.now.low +ℤ pos (done_before t)
  pub fits : (k : ℕ) → k ≤ (net_of t.sharing).limit → FitsSigned w64 (t.from +ℤ pos k)
  pub some : 1 ≤ workers_of t
  pub does : doing_of t.sharing ≡ doing_in (loop_of t.entry.now) (done_before t)
  pub net : IsEntryNet (loop_of t.entry.now) (done_before t) (net_of t.sharing).limit (workers_of t) (net_of t.sharing)
  pub sharing : IsSharing t.sharing
  pub store : state_after t.entry.now (done_before t) ≡ done (store_of t.sharing)
  pub reductions : t.reductions.now ≡ reductions_of t.entry.now.looped
