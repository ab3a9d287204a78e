-- The machine of an interval under `pipe`, as it is kept.
use Rattle.std.specs.Prelude.{◌≡◌, ℕ, ◌≤◌, IsTrue, pos, ◌+ℤ◌, FitsSigned}
use Rattle.std.specs.Int.{w64}
use Rattle.nona_tree.specs.Run.{done}
use Rattle.nona_plans.specs.Plans.{IsLawfulPlan}
use Rattle.nona_plans.specs.Units.{reductions_of}
use Rattle.morta_task.specs.Entries.{EntryView, IsEntered, before, loop_of, state_after}
use Rattle.net_pipe.specs.Kept.{IsKept, doing_of, net_of, store_of}
use Rattle.net_pipe.specs.Entries.{IsPipeNet, MayPipe, staging_in}
use Rattle.net_pipe.specs.Steps.{AreFew}
use Rattle.weave.specs.declared.staged_tasks.StagedTasks.{StagedTasks}
use Rattle.weave.specs.NetView.{NetView, Staged}

-- an entry whose plan is lawful offers `pipe`
pub record OffersStages (e : EntryView) : Type 0 where
  pub lawful : IsLawfulPlan e.looped e.plan
  pub offered : IsTrue e.pipe

-- how many iterations of the entry are done before the interval
abbrev pub done_before : StagedTasks → ℕ
done_before t = before t.entry.now t.from

-- how many workers a parallel stage has
abbrev pub workers_of : StagedTasks → ℕ
workers_of t = (doing_of t.pipeline).workers

-- how many messages a link holds
abbrev pub capacity_of : StagedTasks → ℕ
capacity_of t = (doing_of t.pipeline).capacity

-- the machine, as the definitions see it
abbrev pub staged_view : StagedTasks → NetView
staged_view t = Staged t.entry.now (done_before t) (workers_of t) (capacity_of t) (net_of t.pipeline)

-- What stands of the tasks of this entry's stages, behind so many of its iterations, with so many workers, so many messages in a link,
-- and so many iterations at most: the iterations may go through the stages; the counts of moves have 64 bits; the stages do what they
-- have to; and the net stands.
pub record IsStagedFor (e : EntryView) (first workers capacity limit : ℕ) (t : StagedTasks) : Type 0 where
  pub may : MayPipe (loop_of e) e.plan workers capacity first limit
  pub few : AreFew (staging_in (loop_of e) e.plan workers capacity first) limit
  pub does : doing_of t.pipeline ≡ staging_in (loop_of e) e.plan workers capacity first
  pub net : IsPipeNet (loop_of e) e.plan workers capacity first limit (net_of t.pipeline)

-- What stands of it at each step: its iterations go through the stages from an index of the entry on, before which the store at the
-- interval's start is that of one thread, and each index up to its limit is a number of 64 bits; and its tasks and their net stand.
pub record IsStagedTasks (t : StagedTasks) : Type 0 where
  pub entered : IsEntered t.entry.now
  pub from : t.from ≡ t.entry.now.low +ℤ pos (done_before t)
  pub fits : (k : ℕ) → k ≤ (net_of t.pipeline).limit → FitsSigned w64 (t.from +ℤ pos k)
  pub staged : IsStagedFor t.entry.now (done_before t) (workers_of t) (capacity_of t) (net_of t.pipeline).limit t
  pub kept : IsKept t.pipeline
  pub store : state_after t.entry.now (done_before t) ≡ done (store_of t.pipeline)
  pub reductions : t.reductions.now ≡ reductions_of t.entry.now.looped
