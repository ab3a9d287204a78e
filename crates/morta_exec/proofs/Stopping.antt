-- Where a run stops short.
use Rattle.std.proofs.Common.{◌≡◌, ℕ, ◌-◌, ◌<◌, ◌≤◌, ℤ, List, [], length, refl, sym, ◌∙◌, ap, subst, arith, inl, inr, None, Some, Ok, Err, slice_get}
use Rattle.std.specs.Prelude.{IfErr, IsErrAnd}
use Rattle.std.specs.declared.option.Option.{Option}
use Rattle.std.specs.declared.result.Result.{Result}
use Rattle.std.specs.Io.KnownBytes.{Appends}
use Rattle.std.proofs.lemmas.List.{append-nil}
use Rattle.fate_io.specs.Putting.{AppendsFront}
use Rattle.fate_io.specs.Sending.{Sent, BreaksOff}
use Rattle.fate_io.specs.declared.sending.SendFault.{SendFault}
use Rattle.fate_io.specs.declared.sending.SendFault.TheVariants as sending
use Rattle.nona_tree.specs.Memory.{Memory, Extends}
use Rattle.nona_tree.specs.Run.{Ran}
use Rattle.morta_task.specs.declared.intervals.Interval.{Interval}
use Rattle.morta_task.specs.declared.intervals.Handoff.{Handoff}
use Rattle.morta_task.specs.Entries.{EntryView, before, state_after}
use Rattle.morta_task.specs.LogView.{LogView}
use Rattle.morta_task.specs.Promise.{Promise}
use Rattle.morta_task.specs.Legal.{begun, entry_number, last_in, ComesNext}
use Rattle.morta_task.specs.Running.{IsHandoff}
use Rattle.morta_exec.specs.declared.fault.DriveFault.{DriveFault}
use Rattle.morta_exec.specs.declared.fault.DriveFault.TheVariants.{LogFull, NoMemory}
use Rattle.morta_text.specs.Texts.{number_lines}
use Rattle.morta_exec.specs.Began.{Began, all_entries, whole_run}
use Rattle.morta_exec.specs.Places.{most, ClosedBy, ComesBehind, IsBehind, StartsNext, after_interval, before_entry}
use Rattle.morta_exec.specs.Drive.{StopsShort, HasCauseOf}
use Rattle.morta_exec.specs.Faults.{drive_fault}
use Rattle.morta_exec.specs.Puts.{HasPut}
use Rattle.morta_exec.specs.declared.start.Pending.{Pending}
use Rattle.morta_exec.specs.Standing.{StandsBefore}
use Rattle.morta_exec.specs.EntryRun.{whole_loop, LoopsOfEntries, HasStopped, IsOn}
use Rattle.morta_exec.proofs.Growing.{extends_chain}
use Rattle.morta_exec.proofs.Loops.{before_low}

-- what a fault that is handed on has
pub handed_on : {T E : Type 0} (P : E → Type 0) (r : Result T E) (fault : E) → IsErrAnd r (λ e. e ≡ fault) → P fault → IfErr r P
handed_on P (Ok x) fault told h = tt
handed_on P (Err e) fault told h = subst P (sym told) h

-- a whole text is a front of itself
pub whole_front : (a b : Option (List ℕ)) (text : List ℕ) → Appends a b text → AppendsFront a b text
whole_front a b text h = (text, [], sym (append-nil text), h)

-- The place where an interval comes next lies behind those before it.
behind_by : (es : List EntryView) (end : Memory) (is : List Interval) (last : Option Interval) (e : EntryView) (from : ℤ)
    → last_in is ≡ last → ComesNext es last e from → slice_get es (e.number - 1) ≡ Some e → ComesBehind es end is (state_after e (before e from)).store
behind_by es end is None e from is_last next named =
    let first : e.number - 1 ≡ begun is = omega (arith, next.0, ap entry_number is_last) in
    let low : before e from ≡ 0 = ap (before e) next.1 ∙ before_low e in
    subst (λ (m : Memory). ComesBehind es end is m) (ap (λ k. (state_after e k).store) (sym low))
    (before_entry e (subst (ClosedBy es) (sym is_last) tt) (ap (slice_get es) (sym first) ∙ named))
behind_by es end is (Some i) e from is_last (inl next) named =
    subst (λ (m : Memory). ComesBehind es end is m) (ap (λ z. (state_after e (before e z)).store) (sym next.joins))
    (after_interval i e is_last (ap (λ n. slice_get es (n - 1)) next.same ∙ named))
behind_by es end is (Some i) e from is_last (inr next) named =
    let later : e.number - 1 ≡ begun is = omega (arith, next.next, ap entry_number is_last) in
    let low : before e from ≡ 0 = ap (before e) next.low ∙ before_low e in
    subst (λ (m : Memory). ComesBehind es end is m) (ap (λ k. (state_after e k).store) (sym low))
    (before_entry e (subst (ClosedBy es) (sym is_last) next.closed) (ap (slice_get es) (sym later) ∙ named))

-- what is printed at the place of a handoff is printed in the end
handoff_prints : {M : Type 0} (loops : LoopsOfEntries) (b : Began M) (e : EntryView) (h : Handoff) → IsOn b e → IsHandoff e h → Extends h.store.printed (whole_run b).store.printed
handoff_prints loops b e h on state =
    extends_chain h.store.printed (whole_loop e).store.printed (whole_run b).store.printed
    (subst (λ (r : Ran). Extends r.store.printed (whole_loop e).store.printed) state.state (loops.leads e (before e h.next) on.of_run.entered state.within.1))
    on.leads

-- a run stops where an interval would come next, of which all before was put
stops_at : {M : Type 0} (loops : LoopsOfEntries) (promise : Promise M) (b : Began M) (now : M) (e : EntryView) (log : LogView) (p : Pending) (sent : Sent) (fault : DriveFault)
    → IsOn b e → StandsBefore promise b now e log p → HasPut sent p.handoff.store.printed → length log.intervals ≤ most
    → HasCauseOf fault (all_entries b) log.intervals p.handoff.store sent
    → StopsShort (all_entries b) (whole_run b).store log.intervals sent fault
stops_at loops promise b now e log p sent fault on s put few cause =
    let es = all_entries b in
    let end = (whole_run b).store in
    record {
      place = p.handoff.store;
      behind = record {
        few = few;
        comes = subst (λ (r : Ran). ComesBehind es end log.intervals r.store) s.state.state
            (behind_by es end log.intervals (last_in log.intervals) e p.handoff.next refl s.next on.of_run.named);
      };
      put = whole_front sent.before sent.after (number_lines p.handoff.store.printed) put.put;
      printed = handoff_prints loops b e p.handoff on s.state;
      cause = cause;
    }

-- for want of memory
pub stopped_memory : {M : Type 0} (loops : LoopsOfEntries) (promise : Promise M) (b : Began M) (now : M) (e : EntryView) (log : LogView) (p : Pending) (sent : Sent)
    → IsOn b e → StandsBefore promise b now e log p → HasPut sent p.handoff.store.printed → length log.intervals < most
    → HasStopped promise b log sent NoMemory
stopped_memory loops promise b now e log p sent on s put room = record {
  log_stands = s.stands.so_far;
  later = omega (arith, put.kept);
  stops = stops_at loops promise b now e log p sent NoMemory on s put (omega (arith, room)) tt;
}

-- as the log is full
pub stopped_full : {M : Type 0} (loops : LoopsOfEntries) (promise : Promise M) (b : Began M) (now : M) (e : EntryView) (log : LogView) (p : Pending) (sent : Sent)
    → IsOn b e → StandsBefore promise b now e log p → HasPut sent p.handoff.store.printed → length log.intervals ≡ most
    → HasStopped promise b log sent LogFull
stopped_full loops promise b now e log p sent on s put full =
    let next : StartsNext (all_entries b) log.intervals p.handoff.store = record {
      entry = e;
      named = on.of_run.named;
      from = p.handoff.next;
      next = s.next;
      store = sym (ap (λ (r : Ran). r.store) s.state.state);
    } in
    record {
      log_stands = s.stands.so_far;
      later = omega (arith, put.kept);
      stops = stops_at loops promise b now e log p sent LogFull on s put (subst (λ k. k ≤ most) (sym full) (omega arith)) (full, next, put.put);
    }

-- a place behind the log's intervals whose numbers were broken off by a fault of the sink
pub stops_sending : (es : List EntryView) (end place : Memory) (is : List Interval) (sent : Sent) (fault : SendFault)
    → IsBehind es end is place → BreaksOff sent (number_lines place.printed) fault → Extends place.printed end.printed → StopsShort es end is sent (drive_fault fault)
stops_sending es end place is sent sending.WriteFailed behind broken printed =
    record { place = place; behind = behind; put = broken.0; printed = printed; cause = broken.1 }
stops_sending es end place is sent sending.NoMemory behind broken printed =
    record { place = place; behind = behind; put = broken; printed = printed; cause = tt }
