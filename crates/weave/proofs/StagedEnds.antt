-- What an interval under `pipe` did whose machine has run out.
use Rattle.std.proofs.Common.{◌≡◌, ◌≤◌, ◌+◌, ℕ, ℤ, pos, ◌+ℤ◌, nat_lt, List, refl, sym, ap, subst₂, ◌∙◌, arith}
use Rattle.std.specs.Int.{int_gap}
use Rattle.nona_tree.specs.declared.outcomes.Outcome.TheVariants as outcome
use Rattle.nona_tree.specs.Memory.{Memory}
use Rattle.nona_tree.specs.Run.{Ran as Run, done}
use Rattle.morta_task.specs.declared.schemes.Config.{Config}
use Rattle.morta_task.specs.Entries.{EntryView, IsWithin, before, last, loop_of, state_after}
use Rattle.morta_task.specs.Running.{CutSays, IsDone, cut_of}
use Rattle.morta_script.specs.declared.script.Command.{Command}
use Rattle.net_flow.specs.Machines.{RunsOut}
use Rattle.net_flow.specs.Net.{Net}
use Rattle.net_pipe.specs.Entries.{MayPipe}
use Rattle.net_pipe.specs.Works.{Values}
use Rattle.weave.specs.Following.{follow}
use Rattle.weave.specs.Staged.{staged_machine, begun_staged, staged_ran}
use Rattle.weave.proofs.Ends.{above, room_within, cut_by}
use Rattle.weave.proofs.SeqLaws.{done_before}
use Rattle.weave.proofs.StagedMoves.{staged_at_end, granted_few, most_some}

module _ (e : EntryView) (from : ℤ) (limit workers capacity : ℕ) (may : MayPipe (loop_of e) e.plan workers capacity (before e from) limit)
    (commands : List Command) (end : Net Values (List ℤ))
    (out : RunsOut (staged_machine e (before e from) workers capacity) (follow (staged_machine e (before e from) workers capacity) commands (begun_staged e (before e from) limit workers capacity)).net end)
    (m : Memory) (ready : state_after e (before e from + end.granted) ≡ done m) where
  -- how many iterations of the entry are done then
  behind : before e (staged_ran e (before e from) end).to ≡ before e from + end.granted
  behind = above e.low (staged_ran e (before e from) end).to (before e from + end.granted) refl

  -- what the interval did
  pub staged_done : (c : Config) → IsWithin e from → limit ≤ int_gap from (last e) → IsDone e c from limit (staged_ran e (before e from) end)
  staged_done c within room =
      let a = before e from in
      let to = (staged_ran e a end).to in
      let here : before e to ≡ a + end.granted = behind in
      let below : end.granted ≤ limit = granted_few e a limit workers capacity may commands end out in
      let all : before e to ≤ before e (last e) = omega (arith, here, below, room_within e from limit within room) in
      let ended : (state_after e (a + end.granted)).end ≡ outcome.Done = ap (λ (r : Run). r.end) ready in
      let same : end.limit ≡ limit = (staged_at_end e a limit workers capacity may commands end out).limit_is in
      let cut : CutSays e c a limit (a + end.granted) (cut_of outcome.Done end.granted limit) = cut_by (nat_lt end.granted limit) e c a limit end.granted refl below ended in
      record {
        within = (ap (λ (k : ℕ). e.low +ℤ pos k) (sym here), all);
        begins = omega (arith, here);
        ends = omega (arith, here, below);
        quiet = λ k h. done_before e (k + 1) (a + end.granted) (omega (arith, h, here)) ended;
        cut = subst₂ (λ (b l : ℕ). CutSays e c a limit b (cut_of outcome.Done end.granted l)) (sym here) (sym same) cut;
        ticks = most_some e a limit workers capacity may commands end out;
      }

  -- and the store that it hands on
  pub staged_hands_on : m ≡ (state_after e (before e (staged_ran e (before e from) end).to)).store
  staged_hands_on = sym (ap (λ (k : ℕ). (state_after e k).store) behind ∙ ap (λ (r : Run). r.store) ready)
