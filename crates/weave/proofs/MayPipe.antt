-- The iterations of an entry that offers `pipe` may go through its stages.
use Rattle.std.proofs.Common.{◌≡◌, ◌≢◌, ◌≤◌, ◌+◌, ℕ, ℤ, true, nat_lt, List, [], ◌∷◌, length, sym, ◌∙◌}
use Rattle.std.specs.Int.{int_gap}
use Rattle.nona_tree.specs.declared.plans.Stage.{Stage}
use Rattle.morta_task.specs.Entries.{EntryView, IsEntered, IsWithin, before, last, loop_of, is_guarded, has_stages}
use Rattle.net_pipe.specs.Entries.{MayPipe}
use Rattle.weave.specs.StagedTasks.{OffersStages}
use Rattle.weave.proofs.Ends.{last_is, room_within}
use Rattle.weave.proofs.MayShare.{both, is_loop_entry, within_last}

some_stages : (stages : List Stage) → nat_lt 0 (length stages) ≡ true → stages ≢ []
some_stages [] has none = cc
some_stages (s ∷ rest) has none = cc

pub may_pipe : (e : EntryView) (from : ℤ) (limit workers capacity : ℕ) → IsEntered e → OffersStages e → IsWithin e from → limit ≤ int_gap from (last e)
    → 1 ≤ workers → 1 ≤ capacity → MayPipe (loop_of e) e.plan workers capacity (before e from) limit
may_pipe e from limit workers capacity entered offers within room some_worker some_room =
    let two = both (has_stages e.plan) (is_guarded e) (sym entered.pipe ∙ offers.offered) in
    let staged = some_stages e.plan.pipe two.0 in
    record {
      entered = is_loop_entry e entered;
      steady = entered.steady;
      calm = offers.lawful.pipe_calm staged;
      guarded = two.1;
      lawful = offers.lawful;
      staged = staged;
      some_worker = some_worker;
      some_room = some_room;
      within = within_last e.low (last e) (before e from + limit) (before e (last e)) (last_is e) (room_within e from limit within room);
    }
