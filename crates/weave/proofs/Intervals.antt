-- An interval, from its first command to its end.
use Rattle.std.proofs.Common.{◌≡◌, ◌≤◌, ℕ, List, IsTrue, refl, sym, ap, subst, ◌∙◌}
use Rattle.std.specs.Int.{int_gap}
use Rattle.nona_tree.specs.Run.{Ran as Run}
use Rattle.morta_task.specs.declared.schemes.Scheme.{Scheme}
use Rattle.morta_task.specs.declared.schemes.Scheme.TheVariants.{Seq, Any, Pipe}
use Rattle.morta_task.specs.declared.schemes.Config.{Config}
use Rattle.morta_task.specs.declared.intervals.Handoff.{Handoff}
use Rattle.morta_task.specs.declared.intervals.Ran.{Ran}
use Rattle.morta_task.specs.Entries.{EntryView, IsEntered, before, last, loop_of, offers, state_after}
use Rattle.morta_task.specs.Running.{HasWorkers, IsHandoff, IsDone, HandsOn}
use Rattle.morta_script.specs.declared.script.Command.{Command}
use Rattle.net_pipe.specs.Entries.{MayPipe}
use Rattle.net_flow.specs.Machines.{Machine, RunsOut}
use Rattle.weave.specs.Following.{Followed, follow}
use Rattle.weave.specs.NetView.{NetView, One, Shared, Staged, machine, BeginsIn, EndsWith}
use Rattle.weave.specs.SeqNet.{SeqNet, seq_machine, begun_net}
use Rattle.weave.specs.Serving.{RunsIn}
use Rattle.weave.specs.Shared.{shared_machine, begun_shared}
use Rattle.weave.specs.Staged.{staged_machine, begun_staged}
use Rattle.weave.specs.StagedTasks.{OffersStages}
use Rattle.weave.specs.Replay.{followed_in_sequence, commands_left_in, IsReplayedIn}
use Rattle.weave.proofs.Ends.{sound_end, is_done, handed_on}
use Rattle.weave.proofs.Injected.{IsPart, follow_part, runs_out_part}
use Rattle.weave.proofs.MayPipe.{may_pipe}
use Rattle.weave.proofs.RunsOut.{out_is_finished}
use Rattle.weave.proofs.SharedEnds.{shared_done, shared_hands_on}
use Rattle.weave.proofs.StagedEnds.{staged_done, staged_hands_on}
use Rattle.weave.proofs.Versions.{one_is_part, shared_is_part, staged_is_part}

-- the machine began so, followed these commands, and has run out; and the interval did this and hands this on
pub record HasRunOut (s : Scheme) (workers capacity : ℕ) (e : EntryView) (handoff : Handoff) (limit : ℕ) (commands left : List Command) (ran : Ran) (next : Handoff) : Type 0 where
  pub first : NetView
  pub begun : BeginsIn s workers capacity e handoff.next limit handoff.store first
  pub net : NetView
  pub follows : follow machine commands first ≡ record { net = net; left = left }
  pub end : NetView
  pub out : RunsOut machine net end
  pub ends : EndsWith end ran next

-- what stands of an interval that has run out
pub record IsInterval (s : Scheme) (workers capacity : ℕ) (c : Config) (e : EntryView) (handoff : Handoff) (limit : ℕ) (commands left : List Command) (ran : Ran) (next : Handoff) : Type 0 where
  pub did : IsDone e c handoff.next limit ran
  pub hands_on : HandsOn e ran next
  pub replayed : IsReplayedIn s workers capacity e handoff.next limit commands ran
  pub leaves : commands_left_in s workers capacity e handoff.next limit commands ≡ left

-- the machine of a version, which began so, followed these commands, and has run out
record PartRunOut {N : Type 0} (part : Machine N) (seen : N → NetView) (begun : N) (commands left : List Command) (end : NetView) : Type 0 where
  last : N
  is : end ≡ seen last
  out : RunsOut part (follow part commands begun).net last
  leaves : (follow part commands begun).left ≡ left

-- what the machine of an interval did is what that of its version did
part_run_out : {N : Type 0} (part : Machine N) (seen : N → NetView) → IsPart part machine seen → (begun : N) (first net end : NetView) (commands left : List Command)
    → first ≡ seen begun → follow machine commands first ≡ record { net = net; left = left } → RunsOut machine net end → PartRunOut part seen begun commands left end
part_run_out part seen p begun first net end commands left is follows out =
    let f = follow part commands begun in
    let same = sym (ap (follow machine commands) is ∙ follow_part part machine seen p commands begun) ∙ follows in
    let there : net ≡ seen f.net = sym (ap (λ (g : Followed NetView). g.net) same) in
    let r = runs_out_part part machine seen p f.net end (subst (λ (n : NetView). RunsOut machine n end) there out) in
    record { last = r.0; is = r.1; out = r.2; leaves = ap (λ (g : Followed NetView). g.left) same }

-- the store that a handoff has is the one of one thread
same_follow : (e : EntryView) (handoff : Handoff) (limit : ℕ) (commands : List Command) → IsHandoff e handoff
    → followed_in_sequence e handoff.next limit commands ≡ follow seq_machine commands (begun_net e (before e handoff.next) limit handoff.store)
same_follow e handoff limit commands h =
    ap (λ (r : Run). follow seq_machine commands (begun_net e (before e handoff.next) limit r.store)) h.state

in_sequence : (workers capacity : ℕ) (c : Config) (e : EntryView) (handoff : Handoff) (limit : ℕ) (commands left : List Command) (ran : Ran) (next : Handoff)
    → c.scheme ≡ Seq → IsEntered e → IsHandoff e handoff → limit ≤ int_gap handoff.next (last e)
    → HasRunOut Seq workers capacity e handoff limit commands left ran next → IsInterval Seq workers capacity c e handoff limit commands left ran next
in_sequence workers capacity c e handoff limit commands left ran next seq entered state room h =
    let begun = begun_net e (before e handoff.next) limit handoff.store in
    let p = part_run_out seq_machine One one_is_part begun h.first h.net h.end commands left h.begun h.follows h.out in
    let ends : EndsWith (One p.last) ran next = subst (λ (n : NetView). EndsWith n ran next) p.is h.ends in
    let over = out_is_finished _ p.last p.out in
    let sound = sound_end e handoff.next limit handoff.store commands p.last entered state.state p.out in
    let same = same_follow e handoff limit commands state in
    record {
      did = subst (IsDone e c handoff.next limit) (sym ends.0) (is_done e c handoff.next limit handoff.store p.last seq state.within room over sound);
      hands_on = record {
        next = ends.1;
        store = ends.2 ∙ handed_on e handoff.next limit handoff.store p.last over sound ∙ ap (λ (r : Ran). (state_after e (before e r.to)).store) (sym ends.0);
      };
      replayed = (p.last, subst (λ (f : Followed SeqNet). RunsOut seq_machine f.net p.last) (sym same) p.out, ends.0);
      leaves = ap (λ (f : Followed SeqNet). f.left) same ∙ p.leaves;
    }

by_tasks : (workers capacity : ℕ) (c : Config) (e : EntryView) (handoff : Handoff) (limit : ℕ) (commands left : List Command) (ran : Ran) (next : Handoff)
    → 1 ≤ workers → IsHandoff e handoff → limit ≤ int_gap handoff.next (last e)
    → HasRunOut Any workers capacity e handoff limit commands left ran next → IsInterval Any workers capacity c e handoff limit commands left ran next
by_tasks workers capacity c e handoff limit commands left ran next some state room h =
    let a = before e handoff.next in
    let p = part_run_out (shared_machine e a workers) (Shared e a workers) (shared_is_part e a workers) (begun_shared e a limit workers) h.first h.net h.end commands left h.begun h.follows h.out in
    let ends : EndsWith (Shared e a workers p.last) ran next = subst (λ (n : NetView). EndsWith n ran next) p.is h.ends in
    record {
      did = subst (IsDone e c handoff.next limit) (sym ends.0)
          (shared_done e handoff.next limit workers commands p.last p.out next.store ends.2 c state.within room some);
      hands_on = record {
        next = ends.1;
        store = shared_hands_on e handoff.next limit workers commands p.last p.out next.store ends.2
            ∙ ap (λ (r : Ran). (state_after e (before e r.to)).store) (sym ends.0);
      };
      replayed = (p.last, p.out, ends.0);
      leaves = p.leaves;
    }

by_stages : (workers capacity : ℕ) (c : Config) (e : EntryView) (handoff : Handoff) (limit : ℕ) (commands left : List Command) (ran : Ran) (next : Handoff)
    → MayPipe (loop_of e) e.plan workers capacity (before e handoff.next) limit → IsHandoff e handoff → limit ≤ int_gap handoff.next (last e)
    → HasRunOut Pipe workers capacity e handoff limit commands left ran next → IsInterval Pipe workers capacity c e handoff limit commands left ran next
by_stages workers capacity c e handoff limit commands left ran next may state room h =
    let a = before e handoff.next in
    let seen = Staged e a workers capacity in
    let p = part_run_out (staged_machine e a workers capacity) seen (staged_is_part e a workers capacity) (begun_staged e a limit workers capacity) h.first h.net h.end commands left h.begun h.follows h.out in
    let ends : EndsWith (seen p.last) ran next = subst (λ (n : NetView). EndsWith n ran next) p.is h.ends in
    record {
      did = subst (IsDone e c handoff.next limit) (sym ends.0)
          (staged_done e handoff.next limit workers capacity may commands p.last p.out next.store ends.2 c state.within room);
      hands_on = record {
        next = ends.1;
        store = staged_hands_on e handoff.next limit workers capacity may commands p.last p.out next.store ends.2
            ∙ ap (λ (r : Ran). (state_after e (before e r.to)).store) (sym ends.0);
      };
      replayed = (p.last, p.out, ends.0);
      leaves = p.leaves;
    }

-- what the interval of a configuration needs, to run in this version
pub record IsOffered (s : Scheme) (workers capacity : ℕ) (e : EntryView) : Type 0 where
  pub served : RunsIn e.looped e.plan s
  pub offered : IsTrue (offers e s)
  pub crew : HasWorkers s workers
  pub room : 1 ≤ capacity

in_version : (s : Scheme) (workers capacity : ℕ) (c : Config) (e : EntryView) (handoff : Handoff) (limit : ℕ) (commands left : List Command) (ran : Ran) (next : Handoff)
    → c.scheme ≡ s → IsOffered s workers capacity e → IsEntered e → IsHandoff e handoff → limit ≤ int_gap handoff.next (last e)
    → HasRunOut s workers capacity e handoff limit commands left ran next → IsInterval s workers capacity c e handoff limit commands left ran next
in_version Seq workers capacity c e handoff limit commands left ran next is by entered state room h =
    in_sequence workers capacity c e handoff limit commands left ran next is entered state room h
in_version Any workers capacity c e handoff limit commands left ran next is by entered state room h =
    by_tasks workers capacity c e handoff limit commands left ran next by.crew.0 state room h
in_version Pipe workers capacity c e handoff limit commands left ran next is by entered state room h =
    let offers : OffersStages e = record { lawful = by.served; offered = by.offered } in
    by_stages workers capacity c e handoff limit commands left ran next
    (may_pipe e handoff.next limit workers capacity entered offers state.within room by.crew.0 by.room) state room h

-- an interval that has run out, in any configuration
pub is_interval : (capacity : ℕ) (c : Config) (e : EntryView) (handoff : Handoff) (limit : ℕ) (commands left : List Command) (ran : Ran) (next : Handoff)
    → IsOffered c.scheme c.workers capacity e → IsEntered e → IsHandoff e handoff → limit ≤ int_gap handoff.next (last e)
    → HasRunOut c.scheme c.workers capacity e handoff limit commands left ran next
    → IsInterval c.scheme c.workers capacity c e handoff limit commands left ran next
is_interval capacity c e handoff limit commands left ran next by entered state room h =
    in_version c.scheme c.workers capacity c e handoff limit commands left ran next refl by entered state room h
