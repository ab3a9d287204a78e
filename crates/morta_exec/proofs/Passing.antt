-- What an interval of an entry hands on.
use Rattle.std.proofs.Common.{◌≡◌, ◌+◌, ◌-◌, ◌<◌, ◌≤◌, ℤ, List, [], ◌∷◌, length, take, refl, sym, ◌∙◌, ap, subst, arith, inl, length-append, None, Some, slice_get}
use Rattle.std.specs.declared.option.Option.{Option}
use Rattle.std.proofs.lemmas.List.{take_at}
use Rattle.fate_io.specs.Sending.{Sent, BreaksOff}
use Rattle.fate_io.specs.declared.sending.SendFault.{SendFault}
use Rattle.nona_tree.specs.declared.outcomes.Outcome.{Outcome}
use Rattle.nona_tree.specs.Memory.{Memory, Extends}
use Rattle.nona_tree.specs.Run.{Ran, done}
use Rattle.morta_task.specs.declared.intervals.Interval.{Interval}
use Rattle.morta_task.specs.declared.intervals.Handoff.{Handoff}
use Rattle.morta_task.specs.Entries.{EntryView, IsWithin, before, state_after}
use Rattle.morta_task.specs.LogView.{LogView}
use Rattle.morta_task.specs.Promise.{Promise}
use Rattle.morta_task.specs.Running.{IsHandoff, limit_of}
use Rattle.morta_task.specs.Legal.{ComesNext, last_in}
use Rattle.morta_text.specs.Texts.{number_lines}
use Rattle.morta_exec.specs.Began.{Began, all_entries, whole_run}
use Rattle.morta_exec.specs.Places.{most, ComesBehind, after_interval}
use Rattle.morta_exec.specs.Faults.{drive_fault}
use Rattle.morta_exec.specs.Puts.{HasPut}
use Rattle.morta_exec.specs.Standing.{StandsBetween, HasRunInterval}
use Rattle.morta_exec.specs.EntryRun.{whole_loop, LoopsOfEntries, EndsWith, GoesOnAt, HasStopped, IsOn}
use Rattle.morta_exec.proofs.Growing.{last_more, extends_chain}
use Rattle.morta_exec.proofs.Ending.{cut_done}
use Rattle.morta_exec.proofs.Stopping.{stops_sending}

-- a front of the numbers
front_of : (xs ys : List ℤ) → Extends xs ys → take (length xs) ys ≡ xs
front_of xs ys h = ap (take (length xs)) h.1 ∙ take_at xs h.0 (length xs) refl

length_of : (xs ys : List ℤ) → Extends xs ys → length xs ≤ length ys
length_of xs ys h = omega (arith, ap length h.1, length-append xs h.0)

pub last_run : (e : EntryView) (from : ℤ) (old new : LogView) (k : Handoff) (i : Interval) → HasRunInterval e from old new k i → last_in new.intervals ≡ Some i
last_run e from old new k i t = ap last_in t.added ∙ last_more old.intervals i

-- an interval only adds to what is printed
pub interval_prints : LoopsOfEntries → (e : EntryView) (h k : Handoff) (old new : LogView) (i : Interval) → IsHandoff e h → HasRunInterval e h.next old new k i → Extends h.store.printed k.store.printed
interval_prints loops e h k old new i state t =
    let on : before e h.next ≤ before e i.done.to = subst (λ z. before e z ≤ before e i.done.to) t.begins t.done.begins in
    subst (λ (r : Ran). Extends r.store.printed k.store.printed) state.state
    (subst (λ (m : Memory). Extends (state_after e (before e h.next)).store.printed m.printed) (sym t.hands_on.store)
    (loops.grows e (before e h.next) (before e i.done.to) on))

-- the numbers up to a store were put: so they are the front of those that were printed since
pub shown_front : (xs ys : List ℤ) (sent : Sent) (shown : List ℤ) → shown ≡ xs → Extends xs ys → HasPut sent xs
    → (length shown ≤ length ys) × HasPut sent (take (length shown) ys)
shown_front xs ys sent shown same on put = (
  subst (λ zs. length zs ≤ length ys) (sym same) (length_of xs ys on),
  subst (HasPut sent) (sym (ap (λ zs. take (length zs) ys) same ∙ front_of xs ys on)) put,
)

-- what is printed behind an interval is printed in the end
leads_on : {M : Type 0} (loops : LoopsOfEntries) (b : Began M) (e : EntryView) (from : ℤ) (old new : LogView) (k : Handoff) (i : Interval)
    → IsOn b e → HasRunInterval e from old new k i → Extends k.store.printed (whole_run b).store.printed
leads_on loops b e from old new k i on t =
    extends_chain k.store.printed (whole_loop e).store.printed (whole_run b).store.printed
    (subst (λ (r : Memory). Extends r.printed (whole_loop e).store.printed) (sym t.hands_on.store) (loops.leads e (before e i.done.to) on.of_run.entered t.done.within.1))
    on.leads

-- the place behind an interval
pub behind_interval : (es : List EntryView) (end : Memory) (e : EntryView) (from : ℤ) (old new : LogView) (k : Handoff) (i : Interval)
    → slice_get es (e.number - 1) ≡ Some e → HasRunInterval e from old new k i → ComesBehind es end new.intervals k.store
behind_interval es end e from old new k i named t =
    subst (λ (m : Memory). ComesBehind es end new.intervals m) (sym t.hands_on.store)
    (after_interval i e (last_run e from old new k i t) (ap (λ n. slice_get es (n - 1)) t.number ∙ named))

pub added_one : (e : EntryView) (from : ℤ) (old new : LogView) (k : Handoff) (i : Interval) → HasRunInterval e from old new k i → length new.intervals ≡ length old.intervals + 1
added_one e from old new k i t = ap length t.added ∙ length-append old.intervals (i ∷ [])

-- the sink broke off at the lines of an interval
pub stopped_interval : {M : Type 0} (loops : LoopsOfEntries) (promise : Promise M) (b : Began M) (now : M) (e : EntryView) (from : ℤ) (old new : LogView) (k : Handoff) (i : Interval) (sent : Sent) (fault : SendFault)
    → IsOn b e → StandsBetween promise b now new → HasRunInterval e from old new k i → length old.intervals < most
    → BreaksOff sent (number_lines k.store.printed) fault → sent.faults_before ≤ sent.faults
    → HasStopped promise b new sent (drive_fault fault)
stopped_interval loops promise b now e from old new k i sent fault on stands t room broken later = record {
  log_stands = stands.so_far;
  later = later;
  stops = stops_sending (all_entries b) (whole_run b).store k.store new.intervals sent fault
      (record {
        few = omega (arith, room, added_one e from old new k i t);
        comes = behind_interval (all_entries b) (whole_run b).store e from old new k i on.of_run.named t;
      })
      broken (leads_on loops b e from old new k i on t);
}

-- behind an interval the entry goes on, or its loop has ended
pub goes_on_at : {M : Type 0} (promise : Promise M) (b : Began M) (now : M) (e : EntryView) (from : ℤ) (old new : LogView) (k : Handoff) (i : Interval) (end : Option Outcome)
    → slice_get (all_entries b) (e.number - 1) ≡ Some e → StandsBetween promise b now new → HasRunInterval e from old new k i → EndsWith e i end → GoesOnAt promise b now e new k end
goes_on_at promise b now e from old new k i None named stands t (short, on) = record {
  stands = stands;
  state = record {
    within = subst (IsWithin e) (sym t.hands_on.next) t.done.within;
    state = ap (λ z. state_after e (before e z)) t.hands_on.next ∙ here ∙ ap (λ (m : Memory). done m) (sym t.hands_on.store);
  };
  next = subst (λ last. ComesNext (all_entries b) last e k.next) (sym (last_run e from old new k i t)) (inl (record {
    same = t.number;
    joins = t.hands_on.next;
    short = short;
    goes_on = on;
  }));
  listed = t.counted;
} where
  here : state_after e (before e i.done.to) ≡ done (state_after e (before e i.done.to)).store
  here = ap (λ (o : Outcome). let r : Ran = record { store = (state_after e (before e i.done.to)).store; end = o } in r)
      (cut_done e i.ran (before e i.from) (limit_of e i.from i.asked.until) (before e i.done.to) i.done.cut on t.done.cut)
goes_on_at promise b now e from old new k i (Some end) named stands t (reaches, all, on) = record {
  stands = stands;
  reaches = subst (λ (m : Memory). whole_loop e ≡ record { store = m; end = end }) (sym t.hands_on.store) reaches;
  counted = t.counted;
  interval = i;
  is_last = last_run e from old new k i t;
  number = t.number;
  state = t.hands_on.store;
  closed = λ h. record {
    entry = e;
    named = ap (λ n. slice_get (all_entries b) (n - 1)) t.number ∙ named;
    whole = all h;
    goes_on = h;
  };
  goes_on = on;
}
