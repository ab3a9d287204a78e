-- What stands of the tasks of stages wherever commands fall, and how often they have moved.
use Rattle.std.proofs.Common.{◌≡◌, ◌<◌, ◌≤◌, ◌+◌, ◌-◌, ◌*◌, ℕ, zero, suc, false, ℤ, List, [], ◌∷◌, refl, sym, ◌∙◌, arith}
use Rattle.std.specs.Prelude.{sum_by}
use Rattle.std.proofs.lemmas.List.Sums.{sum_by-cons}
use Rattle.std.proofs.Math.Nat.{mul-le-mul_right}
use Rattle.morta_task.specs.Entries.{EntryView, loop_of}
use Rattle.morta_script.specs.declared.script.Command.{Command}
use Rattle.net_flow.specs.Machines.{is_over, round, RunsOut, at_end, one_round}
use Rattle.net_flow.specs.MoveCounts.{pipeline_moves}
use Rattle.net_flow.specs.Net.{Net, Task, moves_of}
use Rattle.net_flow.specs.Shapes.{Shape, sum_to}
use Rattle.net_flow.proofs.Pipelines.{net_round_rises}
use Rattle.net_pipe.specs.Kept.{most_moves}
use Rattle.net_pipe.specs.Entries.{IsPipeNet, MayPipe, staging_in, stages_meaning}
use Rattle.net_pipe.specs.Works.{Values, shape_of, stages_work}
use Rattle.net_pipe.proofs.StageNets.{granted_within, is_pipeline, lawful_work, stages_begin, stages_end, stages_moved, stages_pause, stages_step}
use Rattle.weave.specs.Following.{follow}
use Rattle.weave.specs.Staged.{begun_staged, staged_machine}
use Rattle.weave.proofs.Keeping.{Kept, kept_follow, kept_out, out_is_over}

-- no task moved more often than all together
pub most_of : (tasks : List (Task Values)) → most_moves tasks ≤ sum_by (λ (x : Task Values). x.moves) tasks
most_of [] = omega arith
most_of (x ∷ rest) = omega (arith, most_of rest, sum_by-cons (λ (y : Task Values). y.moves) x rest)

-- where none moved, they didn't move together
none_moved : (tasks : List (Task Values)) → most_moves tasks ≡ 0 → sum_by (λ (x : Task Values). x.moves) tasks ≡ 0
none_moved [] none = refl
none_moved (x ∷ rest) none = omega (arith, none, none_moved rest (omega (arith, none)), sum_by-cons (λ (y : Task Values). y.moves) x rest)

-- where they moved together, one of them did
some_moved : (tasks : List (Task Values)) → 1 ≤ sum_by (λ (x : Task Values). x.moves) tasks → 1 ≤ most_moves tasks
some_moved tasks some = by_most (most_moves tasks) refl where
  by_most : (n : ℕ) → most_moves tasks ≡ n → 1 ≤ n
  by_most zero is = absurd (omega (arith, some, none_moved tasks is))
  by_most (suc n) is = omega arith

-- more iterations take more moves
more_moves : (shape : Shape) (few many : ℕ) → few ≤ many → pipeline_moves shape few ≤ pipeline_moves shape many
more_moves shape few many below =
    let product = mul-le-mul_right (sum_to shape.stages shape.units + 1 + 2 * (shape.stages - 1)) below in omega (arith, product)

module _ (e : EntryView) (before limit workers capacity : ℕ) (may : MayPipe (loop_of e) e.plan workers capacity before limit) where
  -- each step and each pause keep what stands of the net
  pub staged_kept : Kept (staged_machine e before workers capacity) (IsPipeNet (loop_of e) e.plan workers capacity before limit)
  staged_kept = record {
    step = λ net t there going here.
        let on = stages_step (loop_of e) e.plan workers capacity before limit may net here t there going in
        let was = here.sound.tasks in
        let is = on.sound.tasks in
        (on, is ∙ sym was);
    pause = λ net here. stages_pause (loop_of e) e.plan workers capacity before limit net here;
  }

  -- it stands before the first step
  pub staged_begun : IsPipeNet (loop_of e) e.plan workers capacity before limit (begun_staged e before limit workers capacity)
  staged_begun = stages_begin (loop_of e) e.plan workers capacity before limit may

  -- a round moves some task, where not all have finished
  pub round_more : (net : Net Values (List ℤ)) → IsPipeNet (loop_of e) e.plan workers capacity before limit net → is_over (staged_machine e before workers capacity) net ≡ false
      → IsPipeNet (loop_of e) e.plan workers capacity before limit (round (staged_machine e before workers capacity) net)
      × (moves_of net < moves_of (round (staged_machine e before workers capacity) net))
  round_more net here going =
      let g = staging_in (loop_of e) e.plan workers capacity before in
      net_round_rises Values (List ℤ) (stages_work g) (stages_meaning (loop_of e) g before) (is_pipeline (loop_of e) e.plan workers capacity before limit may) limit
      (lawful_work (loop_of e) e.plan workers capacity before limit may) net here going

  rise_on : (net end : Net Values (List ℤ)) → RunsOut (staged_machine e before workers capacity) net end → IsPipeNet (loop_of e) e.plan workers capacity before limit net
      → moves_of net ≤ moves_of end
  rise_on _ _ (at_end net ended) here = omega arith
  rise_on _ _ (one_round net end going later) here =
      let more = round_more net here going in
      let on = rise_on (round (staged_machine e before workers capacity) net) end later more.0 in
      let rose = more.1 in omega (arith, rose, on)

  -- never more moves than those of all iterations
  pub moves_few : (net : Net Values (List ℤ)) → IsPipeNet (loop_of e) e.plan workers capacity before limit net
      → moves_of net ≤ pipeline_moves (shape_of (staging_in (loop_of e) e.plan workers capacity before)) limit
  moves_few net here =
      let shape = shape_of (staging_in (loop_of e) e.plan workers capacity before) in
      let out = stages_end (loop_of e) e.plan workers capacity before limit may net here in
      let end = out.0 in
      let on = rise_on net end out.1 here in
      let all = stages_moved (loop_of e) e.plan workers capacity before limit may end out.2 out.3 in
      let few = more_moves shape end.granted limit (granted_within (loop_of e) e.plan workers capacity before limit end out.2) in
      omega (arith, on, all, few)

  module _ (commands : List Command) (end : Net Values (List ℤ))
      (out : RunsOut (staged_machine e before workers capacity) (follow (staged_machine e before workers capacity) commands (begun_staged e before limit workers capacity)).net end) where
    -- what stands of the net at its end
    pub staged_at_end : IsPipeNet (loop_of e) e.plan workers capacity before limit end
    staged_at_end =
        let machine = staged_machine e before workers capacity in
        let P = IsPipeNet (loop_of e) e.plan workers capacity before limit in
        kept_out machine P staged_kept.step _ end out
        (kept_follow machine P staged_kept commands (begun_staged e before limit workers capacity) staged_begun)

    -- how often they moved in all
    pub moves_in_all : moves_of end ≡ pipeline_moves (shape_of (staging_in (loop_of e) e.plan workers capacity before)) end.granted
    moves_in_all =
        stages_moved (loop_of e) e.plan workers capacity before limit may end staged_at_end (out_is_over (staged_machine e before workers capacity) _ end out)

    -- no more was granted than the limit
    pub granted_few : end.granted ≤ limit
    granted_few = granted_within (loop_of e) e.plan workers capacity before limit end staged_at_end

    -- a task moved
    pub most_some : 1 ≤ most_moves end.tasks
    most_some = some_moved end.tasks (let all = moves_in_all in omega (arith, all))
