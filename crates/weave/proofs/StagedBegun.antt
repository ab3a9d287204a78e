-- Tasks of stages, before their first step.
use Rattle.std.proofs.Common.{◌≡◌, ◌≤◌, ℕ, ℤ, pos, ◌+ℤ◌, List, [], length, sym, ap, subst, ◌∙◌, FitsSigned}
use Rattle.std.specs.Int.{w64}
use Rattle.nona_num.specs.declared.folds.Fold.{Fold}
use Rattle.nona_tree.specs.declared.plans.Plan.{Plan}
use Rattle.nona_tree.specs.declared.trees.Loop.{Loop}
use Rattle.nona_tree.specs.declared.trees.Stmt.{Stmt}
use Rattle.nona_tree.specs.Memory.{Memory}
use Rattle.nona_tree.specs.Run.{done}
use Rattle.nona_plans.specs.Units.{reductions_of}
use Rattle.nona_fission.specs.Sharing.{with_units}
use Rattle.morta_task.specs.declared.intervals.Handoff.{Handoff}
use Rattle.morta_task.specs.Running.{IsHandoff}
use Rattle.morta_task.specs.Entries.{EntryView, IsEntered, before, loop_of, state_after}
use Rattle.net_flow.specs.Begun.{begun_net}
use Rattle.net_flow.specs.Net.{Net}
use Rattle.net_pipe.specs.declared.pipeline.Pipeline.{Pipeline}
use Rattle.net_pipe.specs.Begun.{first_values}
use Rattle.net_pipe.specs.Kept.{IsKept, doing_of, net_of, store_of}
use Rattle.net_pipe.specs.Entries.{IsPipeNet, MayPipe, staging_in}
use Rattle.net_pipe.specs.Steps.{AreFew}
use Rattle.net_pipe.specs.Works.{Staging, Values, stages_work}
use Rattle.weave.specs.declared.staged_tasks.StagedTasks.{StagedTasks}
use Rattle.weave.specs.NetView.{Staged}
use Rattle.weave.specs.Staged.{begun_staged}
use Rattle.weave.specs.StagedTasks.{IsStagedFor, IsStagedTasks, done_before, staged_view}
use Rattle.weave.proofs.SeqLaws.{depth_after_some}

-- the machine began so over this store
pub record HasBegun (e : EntryView) (from : ℤ) (limit W c : ℕ) (m : Memory) (n : Pipeline) : Type 0 where
  pub does : doing_of n ≡ staging_in (loop_of e) e.plan W c (before e from)
  pub net : net_of n ≡ begun_staged e (before e from) limit W c
  pub store : store_of n ≡ m
  pub kept : IsKept n

-- what stages do that are made so
abbrev pub staged_so : List Stmt → ℤ → ℕ → ℕ → ℕ → ℕ → Plan → Staging
staged_so body from turns depth W c plan =
    record { body = body; from = from; turns = turns; depth = depth; workers = W; capacity = c; pipe = plan.pipe; crossing = plan.crossing }

-- what is asked of them, for an entry from where this handoff stands, by a region with this loop and this plan
pub staging_is : (e : EntryView) (h : Handoff) (W c : ℕ) (l : Loop) (p plan : Plan) (body : List Stmt) (from : ℤ) (turns depth : ℕ) → IsHandoff e h
    → l ≡ e.looped → p ≡ e.plan → plan ≡ p → body ≡ l.body → from ≡ h.next → turns ≡ e.turns → depth ≡ length h.store.scalars
    → staged_so body from turns depth W c plan ≡ staging_in (loop_of e) e.plan W c (before e h.next)
staging_is e h W c l p plan body from turns depth state looped its_plan plan_is body_is from_is turns_is depth_is =
    let body' : body ≡ e.looped.body = body_is ∙ ap (λ (x : Loop). x.body) looped in
    let from' = from_is ∙ state.within.0 in
    let depth' = depth_is ∙ depth_after_some e (before e h.next) h.store state.state in
    let plan' = plan_is ∙ its_plan in
    λ i. staged_so (body' i) (from' i) (turns_is i) (depth' i) W c (plan' i)

-- the net that tasks begin is the one that the definitions begin
pub begun_is : (e : EntryView) (b limit W c : ℕ) (g : Staging) (rs : List (ℕ × Fold)) (m : Memory) → g ≡ staging_in (loop_of e) e.plan W c b → rs ≡ reductions_of e.looped
    → state_after e b ≡ done m → begun_net (stages_work g) limit (λ s w. first_values m rs) ≡ begun_staged e b limit W c
begun_is e b limit W c g rs m does same state =
    λ i. begun_net (stages_work (does i)) limit (λ s w. let v : Values = record { store = with_units (same i) (sym state i).store; held = [] } in v)

module _ (t : StagedTasks) (limit W c : ℕ) (m : Memory) (h : HasBegun t.entry.now t.from limit W c m t.pipeline) where
  pub view_begun : staged_view t ≡ Staged t.entry.now (done_before t) W c (begun_staged t.entry.now (done_before t) limit W c)
  view_begun = λ i. Staged t.entry.now (done_before t) (h.does i).workers (h.does i).capacity (h.net i)

  limit_begun : (net_of t.pipeline).limit ≡ limit
  limit_begun = ap (λ (net : Net Values (List ℤ)). net.limit) h.net

  pub stands_begun : IsEntered t.entry.now → t.from ≡ t.entry.now.low +ℤ pos (done_before t) → ((k : ℕ) → k ≤ limit → FitsSigned w64 (t.from +ℤ pos k))
      → MayPipe (loop_of t.entry.now) t.entry.now.plan W c (done_before t) limit
      → AreFew (staging_in (loop_of t.entry.now) t.entry.now.plan W c (done_before t)) limit
      → IsPipeNet (loop_of t.entry.now) t.entry.now.plan W c (done_before t) limit (begun_staged t.entry.now (done_before t) limit W c)
      → state_after t.entry.now (done_before t) ≡ done m → t.reductions.now ≡ reductions_of t.entry.now.looped → IsStagedTasks t
  stands_begun entered from fits may few law state reductions =
      let e = t.entry.now in
      let b = done_before t in
      let held : IsStagedFor e b W c limit t = record {
        may = may;
        few = few;
        does = h.does;
        net = subst (λ (net : Net Values (List ℤ)). IsPipeNet (loop_of e) e.plan W c b limit net) (sym h.net) law;
      } in
      record {
        entered = entered;
        from = from;
        fits = λ k few. fits k (subst (λ (l : ℕ). k ≤ l) limit_begun few);
        staged = subst (λ (g : Staging). IsStagedFor e b g.workers g.capacity (net_of t.pipeline).limit t) (sym h.does)
            (subst (λ (l : ℕ). IsStagedFor e b W c l t) (sym limit_begun) held);
        kept = h.kept;
        store = state ∙ ap done (sym h.store);
        reductions = reductions;
      }
