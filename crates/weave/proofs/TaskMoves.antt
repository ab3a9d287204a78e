-- How often tasks that share iterations have moved at the end, wherever commands fell.
use Rattle.std.proofs.Common.{◌≡◌, ◌≤◌, ℕ, zero, suc, List, [], ◌∷◌, length, refl, arith}
use Rattle.std.specs.Prelude.{sum_by}
use Rattle.std.proofs.lemmas.List.Sums.{sum_by-cons}
use Rattle.nona_tree.specs.Memory.{Memory}
use Rattle.morta_task.specs.Entries.{EntryView, loop_of}
use Rattle.morta_script.specs.declared.script.Command.{Command}
use Rattle.net_flow.specs.Machines.{RunsOut}
use Rattle.net_flow.specs.MoveCounts.{sharing_moves}
use Rattle.net_flow.specs.Net.{Net, Task, moves_of}
use Rattle.net_flow.proofs.SharingMachine.{sharing_moved}
use Rattle.net_share.specs.Entries.{work_in}
use Rattle.net_share.specs.Kept.{no_meaning, most_moves}
use Rattle.weave.specs.Following.{follow}
use Rattle.weave.specs.Shared.{begun_shared, shared_machine}
use Rattle.weave.proofs.Keeping.{kept_follow, kept_out, out_is_over}
use Rattle.net_share.proofs.Keeping.{any_work}
use Rattle.weave.proofs.NoMeaning.{IsAnyNet, any_kept, any_begun}

-- no task moved more often than all together
pub most_of : (tasks : List (Task Memory)) → most_moves tasks ≤ sum_by (λ (x : Task Memory). x.moves) tasks
most_of [] = omega arith
most_of (x ∷ rest) = omega (arith, most_of rest, sum_by-cons (λ (y : Task Memory). y.moves) x rest)

-- where none moved, they didn't move together
none_moved : (tasks : List (Task Memory)) → most_moves tasks ≡ 0 → sum_by (λ (x : Task Memory). x.moves) tasks ≡ 0
none_moved [] none = refl
none_moved (x ∷ rest) none = omega (arith, none, none_moved rest (omega (arith, none)), sum_by-cons (λ (y : Task Memory). y.moves) x rest)

-- where they moved together, one of them did
some_moved : (tasks : List (Task Memory)) → 1 ≤ sum_by (λ (x : Task Memory). x.moves) tasks → 1 ≤ most_moves tasks
some_moved tasks some = by_most (most_moves tasks) refl where
  by_most : (n : ℕ) → most_moves tasks ≡ n → 1 ≤ n
  by_most zero is = absurd (omega (arith, some, none_moved tasks is))
  by_most (suc n) is = omega arith

module _ (e : EntryView) (before limit workers : ℕ) (commands : List Command) (end : Net Memory (Unit {0}))
    (out : RunsOut (shared_machine e before workers) (follow (shared_machine e before workers) commands (begun_shared e before limit workers)).net end) where
  -- what stands of the net at its end
  pub any_at_end : IsAnyNet e before limit workers end
  any_at_end =
      let machine = shared_machine e before workers in
      let k = any_kept e before limit workers in
      let first = begun_shared e before limit workers in
      kept_out machine (IsAnyNet e before limit workers) k.step _ end out
      (kept_follow machine (IsAnyNet e before limit workers) k commands first (any_begun e before limit workers))

  -- how often they moved in all
  pub moves_in_all : moves_of end ≡ sharing_moves workers (length e.looped.body) end.granted
  moves_in_all =
      let work = work_in (loop_of e) before workers in
      sharing_moved Memory (Unit {0}) work no_meaning refl limit workers (any_work work limit) end any_at_end
      (out_is_over (shared_machine e before workers) _ end out)

  -- no more was granted than the limit
  pub granted_within : end.granted ≤ limit
  granted_within =
      let here = any_at_end in
      let few = here.sound.few in
      let same = here.limit_is in
      omega (arith, few, same)

  -- a task moved, where there is one
  pub most_some : 1 ≤ workers → 1 ≤ most_moves end.tasks
  most_some some = some_moved end.tasks (let all = moves_in_all in omega (arith, some, all))
