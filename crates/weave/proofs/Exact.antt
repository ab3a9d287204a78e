-- How often the task of an interval under `seq` has moved, whatever it was asked to do.
use Rattle.std.proofs.Common.{◌≡◌, ◌≤◌, ◌+◌, ℕ, pos, ◌+ℤ◌, Bool, true, false, List, [], ◌∷◌, length, refl, subst, ◌∙◌, arith, if◌then◌else◌}
use Rattle.nona_tree.specs.declared.outcomes.Outcome.{Outcome}
use Rattle.nona_tree.specs.declared.outcomes.Outcome.TheVariants as outcome
use Rattle.nona_tree.specs.declared.trees.Stmt.{Stmt}
use Rattle.nona_tree.specs.Memory.{Memory, declare}
use Rattle.nona_tree.specs.Run.{run}
use Rattle.morta_task.specs.Entries.{EntryView}
use Rattle.morta_script.specs.declared.script.Command.{Command}
use Rattle.net_flow.specs.Machines.{RunsOut}
use Rattle.weave.specs.Following.{follow}
use Rattle.weave.specs.SeqNet.{SeqNet, Stand, Claims, Unit_of, Finished, at_units, is_granted, behind_unit, step_at, is_finished, seq_machine, begun_net}
use Rattle.weave.specs.SeqState.{HasEndedAfter, HasMoved}
use Rattle.weave.proofs.Counts.{counted_moved, counted_begun, finished_moves}
use Rattle.weave.proofs.Keeping.{Kept, KeptOnStep, kept_follow, kept_out}
use Rattle.weave.proofs.RunsOut.{out_is_finished}

-- what a step that changes no claim keeps of a net of this interval
record Going (e : EntryView) (limit : ℕ) (paused : Bool) (net : SeqNet) : Type 0 where
  entry : net.entry ≡ e
  limit_is : net.limit ≡ limit
  paused_is : net.paused ≡ paused
  within : net.granted ≤ net.limit
  finished : net.end ≡ outcome.Done

-- The same net, whose end is done while it goes on; and where it isn't paused and its iterations are done, all were granted once
-- it has finished.
record Kind (e : EntryView) (limit : ℕ) (paused : Bool) (net : SeqNet) : Type 0 where
  entry : net.entry ≡ e
  limit_is : net.limit ≡ limit
  paused_is : net.paused ≡ paused
  within : net.granted ≤ net.limit
  going : is_finished net.place ≡ false → net.end ≡ outcome.Done
  all : paused ≡ false → net.end ≡ outcome.Done → is_finished net.place ≡ true → net.granted ≡ net.limit

kind_before : (e : EntryView) (limit : ℕ) (paused : Bool) (units : List Stmt) (net : SeqNet) → Going e limit paused net → Kind e limit paused (at_units units net)
kind_before e limit paused [] net o = record {
  entry = o.entry;
  limit_is = o.limit_is;
  paused_is = o.paused_is;
  within = o.within;
  going = λ _. o.finished;
  all = λ _ _ f. cc;
}
kind_before e limit paused (s ∷ rest) net o = record {
  entry = o.entry;
  limit_is = o.limit_is;
  paused_is = o.paused_is;
  within = o.within;
  going = λ _. o.finished;
  all = λ _ _ f. cc;
}

all_granted : (net : SeqNet) → is_granted net ≡ false → net.paused ≡ false → net.granted ≤ net.limit → net.granted ≡ net.limit
all_granted net refused unpaused within = grind arith

below_granted : (net : SeqNet) → is_granted net ≡ true → net.granted + 1 ≤ net.limit
below_granted net is = grind arith

kind_claim : (b : Bool) (e : EntryView) (limit : ℕ) (paused : Bool) (net : SeqNet) → is_granted net ≡ b → Going e limit paused net
    → Kind e limit paused (if b then at_units net.entry.looped.body (record net { granted = net.granted + 1; store = declare (net.entry.low +ℤ pos (net.before + net.granted)) net.store }) else record net { place = Finished })
kind_claim true e limit paused net is o =
    let next : SeqNet = record net { granted = net.granted + 1; store = declare (net.entry.low +ℤ pos (net.before + net.granted)) net.store } in
    kind_before e limit paused net.entry.looped.body next
    (record { entry = o.entry; limit_is = o.limit_is; paused_is = o.paused_is; within = below_granted net is; finished = o.finished })
kind_claim false e limit paused net is o = record {
  entry = o.entry;
  limit_is = o.limit_is;
  paused_is = o.paused_is;
  within = o.within;
  going = λ f. cc;
  all = λ unpaused _ _. all_granted net is (o.paused_is ∙ unpaused) o.within;
}

kind_unit : (end : Outcome) (e : EntryView) (limit : ℕ) (paused : Bool) (rest : List Stmt) (m : Memory) (net : SeqNet) → Going e limit paused net
    → Kind e limit paused (behind_unit rest end m net)
kind_unit outcome.Done e limit paused rest m net o =
    kind_before e limit paused rest (record net { store = m })
    (record { entry = o.entry; limit_is = o.limit_is; paused_is = o.paused_is; within = o.within; finished = o.finished })
kind_unit (outcome.Trap t) e limit paused rest m net o = record {
  entry = o.entry;
  limit_is = o.limit_is;
  paused_is = o.paused_is;
  within = o.within;
  going = λ f. cc;
  all = λ _ f _. cc;
}
kind_unit (outcome.OutOfTurns at) e limit paused rest m net o = record {
  entry = o.entry;
  limit_is = o.limit_is;
  paused_is = o.paused_is;
  within = o.within;
  going = λ f. cc;
  all = λ _ f _. cc;
}

kind_at : (p : Stand) (e : EntryView) (limit : ℕ) (paused : Bool) (net : SeqNet) → is_finished p ≡ false → Going e limit paused net
    → Kind e limit paused (step_at p net)
kind_at Claims e limit paused net going o = kind_claim (is_granted net) e limit paused net refl o
kind_at (Unit_of s rest) e limit paused net going o =
    let r = run s net.entry.turns net.store in kind_unit r.end e limit paused rest r.store net o
kind_at Finished e limit paused net going o = cc

kind_step : (e : EntryView) (limit : ℕ) (paused : Bool) → KeptOnStep seq_machine (Kind e limit paused)
kind_step e limit paused net task there going x =
    let o : Going e limit paused net = record { entry = x.entry; limit_is = x.limit_is; paused_is = x.paused_is; within = x.within; finished = x.going going } in
    let y = kind_at net.place e limit paused net going o in
    (record { entry = y.entry; limit_is = y.limit_is; paused_is = y.paused_is; within = y.within; going = y.going; all = y.all }, refl)

kind_begun : (e : EntryView) (before limit : ℕ) (m : Memory) → Kind e limit false (begun_net e before limit m)
kind_begun e before limit m = record {
  entry = refl;
  limit_is = refl;
  paused_is = refl;
  within = omega arith;
  going = λ _. refl;
  all = λ _ _ f. cc;
}

-- an interval without commands whose iterations are done has granted all
pub grants_all : (e : EntryView) (before limit : ℕ) (m : Memory) (end : SeqNet) → RunsOut seq_machine (begun_net e before limit m) end → end.end ≡ outcome.Done
    → end.granted ≡ limit
grants_all e before limit m end out ended =
    let first = begun_net e before limit m in
    let x = kept_out seq_machine (Kind e limit false) (kind_step e limit false) first end out (kind_begun e before limit m) in
    x.all refl ended (out_is_finished first end out) ∙ x.limit_is

-- a net of this entry that has moved as often as its iterations ask, and whose iterations are done while it goes on
record Counted (e : EntryView) (net : SeqNet) : Type 0 where
  paused : Bool
  limit : ℕ
  kind : Kind e limit paused net
  moves : HasMoved net

counted_kept : (e : EntryView) → Kept seq_machine (Counted e)
counted_kept e = record {
  step = λ net task there going x. (
    record {
      paused = x.paused;
      limit = x.limit;
      kind = (kind_step e x.limit x.paused net task there going x.kind).0;
      moves = counted_moved net going (x.kind.going going) x.moves;
    },
    refl,
  );
  pause = λ net x. record {
    paused = true;
    limit = x.limit;
    kind = record {
      entry = x.kind.entry;
      limit_is = x.kind.limit_is;
      paused_is = refl;
      within = x.kind.within;
      going = x.kind.going;
      all = λ f _ _. cc;
    };
    moves = x.moves;
  };
}

counted_after : (e : EntryView) (before limit : ℕ) (m : Memory) (commands : List Command) → Counted e (follow seq_machine commands (begun_net e before limit m)).net
counted_after e before limit m commands =
    kept_follow seq_machine (Counted e) (counted_kept e) commands (begun_net e before limit m)
    (record { paused = false; limit = limit; kind = kind_begun e before limit m; moves = counted_begun e before limit m })

-- at each moment the moves are those that the iterations ask
pub moves_at_each : (e : EntryView) (before limit : ℕ) (m : Memory) (commands : List Command) → HasMoved (follow seq_machine commands (begun_net e before limit m)).net
moves_at_each e before limit m commands = (counted_after e before limit m commands).moves

-- and once it has run out
pub moves_at_end : (e : EntryView) (before limit : ℕ) (m : Memory) (commands : List Command) (end : SeqNet)
    → RunsOut seq_machine (follow seq_machine commands (begun_net e before limit m)).net end
    → HasEndedAfter end.end end.moves end.granted (length e.looped.body)
moves_at_end e before limit m commands end out =
    let net = (follow seq_machine commands (begun_net e before limit m)).net in
    let x = kept_out seq_machine (Counted e) (counted_kept e).step net end out (counted_after e before limit m commands) in
    subst (λ (y : EntryView). HasEndedAfter end.end end.moves end.granted (length y.looped.body)) x.kind.entry
    (finished_moves end.place end.end end.moves end.granted (length end.entry.looped.body) (out_is_finished net end out) x.moves)
