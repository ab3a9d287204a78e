-- What an interval under `any` did whose machine has run out.
use Rattle.std.proofs.Common.{◌≡◌, ◌≤◌, ◌+◌, ℕ, ℤ, pos, ◌+ℤ◌, nat_lt, List, refl, sym, ap, subst₂, ◌∙◌, arith}
use Rattle.std.specs.Int.{int_gap}
use Rattle.nona_tree.specs.declared.outcomes.Outcome.TheVariants as outcome
use Rattle.nona_tree.specs.Memory.{Memory}
use Rattle.nona_tree.specs.Run.{Ran as Run, done}
use Rattle.morta_task.specs.declared.schemes.Config.{Config}
use Rattle.morta_task.specs.Entries.{EntryView, IsWithin, before, last, state_after}
use Rattle.morta_task.specs.Running.{CutSays, IsDone, cut_of}
use Rattle.morta_script.specs.declared.script.Command.{Command}
use Rattle.net_flow.specs.Machines.{RunsOut}
use Rattle.net_flow.specs.Net.{Net}
use Rattle.weave.specs.Following.{follow}
use Rattle.weave.specs.Shared.{shared_machine, begun_shared, shared_ran}
use Rattle.weave.proofs.Ends.{above, room_within, cut_by}
use Rattle.weave.proofs.SeqLaws.{done_before}
use Rattle.weave.proofs.TaskMoves.{any_at_end, granted_within, most_some}

module _ (e : EntryView) (from : ℤ) (limit workers : ℕ) (commands : List Command) (end : Net Memory (Unit {0}))
    (out : RunsOut (shared_machine e (before e from) workers) (follow (shared_machine e (before e from) workers) commands (begun_shared e (before e from) limit workers)).net end)
    (m : Memory) (ready : state_after e (before e from + end.granted) ≡ done m) where
  -- how many iterations of the entry are done then
  behind : before e (shared_ran e (before e from) end).to ≡ before e from + end.granted
  behind = above e.low (shared_ran e (before e from) end).to (before e from + end.granted) refl

  -- what the interval did
  pub shared_done : (c : Config) → IsWithin e from → limit ≤ int_gap from (last e) → 1 ≤ workers → IsDone e c from limit (shared_ran e (before e from) end)
  shared_done c within room some =
      let a = before e from in
      let to = (shared_ran e a end).to in
      let here : before e to ≡ a + end.granted = behind in
      let below : end.granted ≤ limit = granted_within e a limit workers commands end out in
      let all : before e to ≤ before e (last e) = omega (arith, here, below, room_within e from limit within room) in
      let ended : (state_after e (a + end.granted)).end ≡ outcome.Done = ap (λ (r : Run). r.end) ready in
      let same : end.limit ≡ limit = (any_at_end e a limit workers commands end out).limit_is in
      let cut : CutSays e c a limit (a + end.granted) (cut_of outcome.Done end.granted limit) = cut_by (nat_lt end.granted limit) e c a limit end.granted refl below ended in
      record {
        within = (ap (λ (k : ℕ). e.low +ℤ pos k) (sym here), all);
        begins = omega (arith, here);
        ends = omega (arith, here, below);
        quiet = λ k h. done_before e (k + 1) (a + end.granted) (omega (arith, h, here)) ended;
        cut = subst₂ (λ (b l : ℕ). CutSays e c a limit b (cut_of outcome.Done end.granted l)) (sym here) (sym same) cut;
        ticks = most_some e a limit workers commands end out some;
      }

  -- and the store that it hands on
  pub shared_hands_on : m ≡ (state_after e (before e (shared_ran e (before e from) end).to)).store
  shared_hands_on = sym (ap (λ (k : ℕ). (state_after e k).store) behind ∙ ap (λ (r : Run). r.store) ready)
