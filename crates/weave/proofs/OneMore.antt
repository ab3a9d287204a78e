-- One more interval of a replay.
use Rattle.std.proofs.Common.{◌≡◌, ◌-◌, ◌==◌, ℕ, ℤ, zero, suc, Bool, true, false, List, [], ◌∷◌, ◌++◌, length, refl, sym, ap, subst, ◌∙◌, arith, Option, None, Some, slice_get, if◌then◌else◌, eq-eqb, length-append}
use Rattle.morta_task.specs.declared.schemes.Scheme.{Scheme}
use Rattle.morta_task.specs.declared.schemes.Scheme.TheVariants.{Seq, Any, Pipe}
use Rattle.morta_task.specs.declared.schemes.Config.{Config}
use Rattle.morta_task.specs.declared.intervals.Interval.{Interval}
use Rattle.morta_task.specs.Entries.{EntryView}
use Rattle.morta_task.specs.LogView.{LogView, with_interval, IsAtHand, last_one, next_one}
use Rattle.morta_task.specs.Running.{limit_of, seq_one}
use Rattle.morta_script.specs.declared.script.Command.{Command}
use Rattle.weave.specs.Replay.{behind_use, commands_left_in, left_behind, left_after, left_at, next_request, current_after, current_at, script_asks, IsReplayed, IsReplayOf, IsDriven, AreDriven}
use Rattle.weave.specs.WeaveView.{WeaveView}
use Rattle.weave.specs.WeavePromise.{StandsFor, HasTaken, HasAsked, by_itself, by_anyone}

-- what is left behind one more interval
left_snoc : (capacity : ℕ) (es : List EntryView) (is : List Interval) (i : Interval) (commands : List Command)
    → left_after capacity es (is ++ i ∷ []) commands ≡ left_behind capacity (slice_get es (i.entry - 1)) i (left_after capacity es is commands)
left_snoc capacity es [] i commands = refl
left_snoc capacity es (j ∷ is) i commands = left_snoc capacity es is i (left_behind capacity (slice_get es (j.entry - 1)) j commands)

-- and the configuration there
current_snoc : (capacity : ℕ) (es : List EntryView) (is : List Interval) (i : Interval) (commands : List Command) (current : Config)
    → current_after capacity es (is ++ i ∷ []) commands current
    ≡ (next_request (left_after capacity es is commands) (current_after capacity es is commands current)).config
current_snoc capacity es [] i commands current = refl
current_snoc capacity es (j ∷ is) i commands current =
    current_snoc capacity es is i (left_behind capacity (slice_get es (j.entry - 1)) j commands) (next_request commands current).config

-- one more interval that was driven
driven_snoc : (capacity : ℕ) (es : List EntryView) (is : List Interval) (i : Interval) (commands : List Command) → AreDriven capacity es commands is
    → IsDriven capacity es (left_after capacity es is commands) i → AreDriven capacity es commands (is ++ i ∷ [])
driven_snoc capacity es [] i commands before last = (last, tt)
driven_snoc capacity es (j ∷ is) i commands before last =
    (before.0, driven_snoc capacity es is i (left_behind capacity (slice_get es (j.entry - 1)) j commands) before.1 last)

-- an entry that is found is found with more behind it
pub found_before : (es more : List EntryView) (k : ℕ) (e : EntryView) → slice_get es k ≡ Some e → slice_get (es ++ more) k ≡ Some e
found_before [] more k e found = cc
found_before (x ∷ es) more zero e found = found
found_before (x ∷ es) more (suc k) e found = found_before es more k e found

-- what was driven is driven with more entries, and leaves the same
pub record Grown (capacity : ℕ) (es new : List EntryView) (is : List Interval) (commands : List Command) : Type 0 where
  pub driven : AreDriven capacity new commands is
  pub left : left_after capacity new is commands ≡ left_after capacity es is commands
  pub current : (config : Config) → current_after capacity new is commands config ≡ current_after capacity es is commands config

pub grown : (capacity : ℕ) (es more : List EntryView) (is : List Interval) (commands : List Command) → AreDriven capacity es commands is
    → Grown capacity es (es ++ more) is commands
grown capacity es more [] commands driven = record { driven = tt; left = refl; current = λ config. refl }
grown capacity es more (i ∷ is) commands ((e, found, replayed), later) =
    let there = found_before es more (i.entry - 1) e found in
    let same : left_behind capacity (slice_get (es ++ more) (i.entry - 1)) i commands ≡ left_behind capacity (slice_get es (i.entry - 1)) i commands =
    ap (λ (o : Option EntryView). left_behind capacity o i commands) (there ∙ sym found) in
    let rest = grown capacity es more is (left_behind capacity (slice_get es (i.entry - 1)) i commands) later in
    record {
      driven = ((e, there, replayed), subst (λ (cs : List Command). AreDriven capacity (es ++ more) cs is) (sym same) rest.driven);
      left = ap (left_after capacity (es ++ more) is) same ∙ rest.left;
      current = λ config. ap (λ (cs : List Command). current_after capacity (es ++ more) is cs (next_request commands config).config) same
          ∙ rest.current (next_request commands config).config;
    }

-- the last of some entries is found by their count before it
at_end : (front : List EntryView) (e : EntryView) → slice_get (front ++ e ∷ []) (length front) ≡ Some e
at_end [] e = refl
at_end (x ∷ front) e = at_end front e

-- the entries of a log with one more interval: the same with more, and the entry at hand is found by its number
record Found (es new : List EntryView) (e : EntryView) : Type 0 where
  more : List EntryView
  entries : new ≡ es ++ more
  found : slice_get new (e.number - 1) ≡ Some e

-- nothing more leaves the same
append_none : (es : List EntryView) → es ≡ es ++ []
append_none [] = refl
append_none (x ∷ es) = ap (λ (rest : List EntryView). x ∷ rest) (append_none es)

-- so it is at each of the two places of the entry at hand
found_in : (log : LogView) (e : EntryView) (i : Interval) → IsAtHand log e → Found log.entries (with_interval log e i).entries e
found_in log e i (last_one front is number) =
    let there : (length log.entries == e.number) ≡ true =
    eq-eqb (length log.entries) e.number (ap length is ∙ omega (arith, length-append front (e ∷ []), number)) in
    let same : (with_interval log e i).entries ≡ log.entries = ap (λ (b : Bool). if b then log.entries else log.entries ++ e ∷ []) there in
    let back : e.number - 1 ≡ length front = omega (arith, number) in
    record {
      more = [];
      entries = same ∙ append_none log.entries;
      found = ap (λ (es : List EntryView). slice_get es (e.number - 1)) (same ∙ is) ∙ ap (slice_get (front ++ e ∷ [])) back ∙ at_end front e;
    }
found_in log e i (next_one number) =
    let other : (length log.entries == e.number) ≡ false = grind arith in
    let same : (with_interval log e i).entries ≡ log.entries ++ e ∷ [] = ap (λ (b : Bool). if b then log.entries else log.entries ++ e ∷ []) other in
    let back : e.number - 1 ≡ length log.entries = omega (arith, number) in
    record {
      more = e ∷ [];
      entries = same;
      found = ap (λ (es : List EntryView). slice_get es (e.number - 1)) same ∙ ap (slice_get (log.entries ++ e ∷ [])) back ∙ at_end log.entries e;
    }

-- it stood for the log of this entry, has asked, and has run this interval as the replay does
pub record HasRun (w : WeaveView) (log : LogView) (e : EntryView) (i : Interval) : Type 0 where
  pub hand : IsAtHand log e
  pub number : i.entry ≡ e.number
  pub replayed : IsReplayed w.capacity i.ran e i.from (limit_of e i.from i.asked.until) (behind_use (left_at w.capacity w.script log)) i.done
  pub left : w.left ≡ left_behind w.capacity (Some e) i (left_at w.capacity w.script log)
  pub current : w.current ≡ (script_asks w.capacity w.script log).config
  pub replay : IsReplayOf w.capacity w.script log

-- what has run stands for the log with it
pub runs_on : (w : WeaveView) (log : LogView) (e : EntryView) (i : Interval) → HasRun w log e i → StandsFor w (with_interval log e i)
runs_on w log e i h =
    let f = found_in log e i h.hand in
    let new = (with_interval log e i).entries in
    let capacity = w.capacity in
    let g : Grown capacity log.entries new log.intervals w.script =
    subst (λ (es : List EntryView). Grown capacity log.entries es log.intervals w.script) (sym f.entries)
    (grown capacity log.entries f.more log.intervals w.script h.replay) in
    let found : slice_get new (i.entry - 1) ≡ Some e = ap (λ (k : ℕ). slice_get new (k - 1)) h.number ∙ f.found in
    let before = left_after capacity new log.intervals w.script in
    let last : IsDriven capacity new before i = (
      e,
      found,
      subst (λ (cs : List Command). IsReplayed capacity i.ran e i.from (limit_of e i.from i.asked.until) (behind_use cs) i.done) (sym g.left) h.replayed,
    ) in
    let left : left_at capacity w.script (with_interval log e i) ≡ left_behind capacity (Some e) i (left_at capacity w.script log) =
    left_snoc capacity new log.intervals i w.script
    ∙ ap (λ (o : Option EntryView). left_behind capacity o i before) found
    ∙ ap (left_behind capacity (Some e) i) g.left in
    let current : current_at capacity w.script (with_interval log e i)
    ≡ (next_request (left_at capacity w.script log) (current_at capacity w.script log)).config =
    current_snoc capacity new log.intervals i w.script seq_one
    ∙ (λ k. (next_request (g.left k) (g.current seq_one k)).config) in
    record {
      left = h.left ∙ sym left;
      current = h.current ∙ sym current;
      replay = driven_snoc capacity new log.intervals i w.script g.driven last;
    }

-- nothing is left of no commands
none_left : (s : Scheme) (workers capacity : ℕ) (e : EntryView) (from : ℤ) (limit : ℕ) → commands_left_in s workers capacity e from limit [] ≡ []
none_left Seq workers capacity e from limit = refl
none_left Any workers capacity e from limit = refl
none_left Pipe workers capacity e from limit = refl

-- nor behind an interval
none_behind : (capacity : ℕ) (o : Option EntryView) (i : Interval) → left_behind capacity o i [] ≡ []
none_behind capacity None i = refl
none_behind capacity (Some e) i = none_left i.ran.scheme i.ran.workers capacity e i.from (limit_of e i.from i.asked.until)

-- nor behind many
none_after : (capacity : ℕ) (es : List EntryView) (is : List Interval) → left_after capacity es is [] ≡ []
none_after capacity es [] = refl
none_after capacity es (i ∷ is) = ap (left_after capacity es is) (none_behind capacity (slice_get es (i.entry - 1)) i) ∙ none_after capacity es is

-- where a script is empty, nothing is taken of it
none_taken_of : (w : WeaveView) (log : LogView) → w.script ≡ [] → StandsFor w log → HasTaken w log
none_taken_of w log empty s =
    let none : left_at w.capacity w.script log ≡ [] =
    ap (left_after w.capacity log.entries log.intervals) empty ∙ none_after w.capacity log.entries log.intervals in
    record {
      left = s.left ∙ none ∙ ap behind_use (sym none);
      current = s.current ∙ ap (λ (cs : List Command). (next_request cs (current_at w.capacity w.script log)).config) (sym none);
      replay = s.replay;
    }

-- whoever asked, it stood for the log of the entry at hand
pub asked_at : (w : WeaveView) (log : LogView) (e : EntryView) → HasAsked w log e → IsAtHand log e
asked_at w log e (by_itself hand taken) = hand
asked_at w log e (by_anyone hand empty stands) = hand

-- and what the next request takes was taken
pub has_taken : (w : WeaveView) (log : LogView) (e : EntryView) → HasAsked w log e → HasTaken w log
has_taken w log e (by_itself hand taken) = taken
has_taken w log e (by_anyone hand empty stands) = none_taken_of w log empty stands
