-- The next entry of a run.
use Rattle.std.proofs.Common.{◌≡◌, ℕ, ◌+◌, ◌-◌, ◌≤◌, ℤ, List, [], ◌∷◌, ◌++◌, length, refl, sym, ◌∙◌, ap, subst, arith, None, Some, slice_get}
use Rattle.std.specs.declared.option.Option.{Option}
use Rattle.std.proofs.lemmas.List.{append-nil}
use Rattle.std.proofs.lemmas.List.Concat.{flat_map-append}
use Rattle.fate_io.specs.Putting.{AppendsFront}
use Rattle.fate_io.specs.Sending.{Sent, BreaksOff}
use Rattle.fate_io.specs.declared.sending.SendFault.{SendFault}
use Rattle.nona_tree.specs.declared.outcomes.Outcome.{Outcome}
use Rattle.nona_tree.specs.declared.trees.Loop.{Loop}
use Rattle.nona_tree.specs.declared.trees.Stmt.{Stmt, For}
use Rattle.nona_tree.specs.Memory.{Memory, Extends}
use Rattle.nona_tree.specs.Run.{Ran, run}
use Rattle.nona_code.specs.declared.main_statements.Stop.{Stop}
use Rattle.nona_code.specs.declared.main_statements.Stop.TheVariants as stop
use Rattle.nona_code.specs.Course.{Course}
use Rattle.nona_code.specs.MainStops.{Stops, opened}
use Rattle.morta_task.specs.declared.opening.Opening.{Opening}
use Rattle.morta_task.specs.RegionView.{RegionView}
use Rattle.morta_task.specs.declared.intervals.Interval.{Interval}
use Rattle.morta_task.specs.Entries.{EntryView, entered, plan_there, numbered}
use Rattle.morta_task.specs.LogView.{LogView}
use Rattle.morta_task.specs.Promise.{Promise}
use Rattle.morta_task.specs.Legal.{entry_number, begun, last_in, EndsAll}
use Rattle.morta_exec.specs.declared.fault.DriveFault.TheVariants.{NoMemory}
use Rattle.morta_text.specs.Texts.{number_line, number_lines}
use Rattle.morta_exec.specs.Began.{Began, all_entries, whole_run}
use Rattle.morta_exec.specs.Places.{ClosedBy, ComesBehind, before_entry, at_end}
use Rattle.morta_exec.specs.Faults.{drive_fault}
use Rattle.morta_exec.specs.Puts.{HasPut}
use Rattle.morta_exec.specs.EntryRun.{HasStopped}
use Rattle.morta_exec.specs.MainRun.{Between, IsOver, to_come}
use Rattle.morta_exec.proofs.Growing.{extends_same, extends_chain}
use Rattle.morta_exec.proofs.Stopping.{stops_sending}

-- what is left of a run where a frame stands prints what was printed
abbrev pub Prints : (Ran → Course → Type 0) → Type 0
Prints left = (r : Ran) (course : Course) → left r course → Extends r.store.printed course.ran.store.printed

-- how an entry opens
abbrev pub opening : ℕ → ℕ → ℤ → ℤ → Opening
opening number region low high = record { number = number; region = region; low = low; high = high }

-- the entry to a region with this code
pub numbered_is : (regions : List RegionView) (n k number : ℕ) (looped : Loop) (low high : ℤ) (m : Memory) (code : RegionView)
    → slice_get regions (number - 1) ≡ Some code → looped ≡ code.looped
    → numbered regions n k (opened number looped low high m) ≡ entered (opening k number low high) code.looped code.plan n m
numbered_is regions n k number looped low high m code found same =
    λ i. entered (opening k number low high) (same i) (plan_there (found i)) n m

pub next_at : {A : Type 0} (xs : List A) (x : A) (ys : List A) → slice_get (xs ++ (x ∷ ys)) (length xs) ≡ Some x
next_at [] x ys = refl
next_at (z ∷ zs) x ys = next_at zs x ys

-- the entries of a run are in the log, and then no more come
ends_by : (es listed : List EntryView) (last : Option Interval) → es ≡ listed ++ [] → entry_number last ≡ length listed
    → ClosedBy es last → EndsAll es last
ends_by es listed None all count closed = all ∙ append-nil listed ∙ none listed (sym count) where
  none : {A : Type 0} (xs : List A) → length xs ≡ 0 → xs ≡ []
  none [] h = refl
  none (x ∷ xs) h = absurd (omega (arith, h))
ends_by es listed (Some i) all count closed = (count ∙ sym (ap length (all ∙ append-nil listed)), λ h. closed)

-- a statement's run only adds to what is printed
abbrev pub Grows : Type 0
Grows = (s : Stmt) (n : ℕ) (m : Memory) → Extends m.printed (run s n m).store.printed

-- a run that came to this stop is behind the intervals of its log, and what is printed there is printed in the end
pub at_stop : {M : Type 0} (promise : Promise M) (left later : Ran → Course → Type 0) (b : Began M) (now : M) (m r : Memory) (log : LogView) (stop : Stop)
    → Grows → Prints later → (w : Between promise left b now m log) → Stops later w.rest b.from.turns stop r
    → ComesBehind (all_entries b) (whole_run b).store log.intervals r × Extends r.printed (whole_run b).store.printed
at_stop promise left later b now m r log (stop.Region number low high) grows prints w at =
    let n = b.from.turns in
    let e = numbered b.image.regions n (length log.entries + 1) (opened number at.looped low high r) in
    let comes : all_entries b ≡ log.entries ++ (e ∷ to_come b (length log.entries + 1 + 1) at.rest) =
    w.comes ∙ ap (λ (c : Course). log.entries ++ to_come b (length log.entries + 1) c) at.whole in
    let named : slice_get (all_entries b) (begun log.intervals) ≡ Some e =
    (λ i. slice_get (comes i) (w.stands.begun i)) ∙ next_at log.entries e _ in
    let whole : at.rest.ran ≡ whole_run b = sym (ap (λ (c : Course). c.ran) at.whole) ∙ w.ran in (
      before_entry e w.closed named,
      extends_chain r.printed (run (For at.looped) n r).store.printed (whole_run b).store.printed
          (grows (For at.looped) n r)
          (subst (λ (x : Ran). Extends (run (For at.looped) n r).store.printed x.store.printed) whole (prints (run (For at.looped) n r) at.rest at.goes_on)),
    )
at_stop promise left later b now m r log (stop.Ended end) grows prints w at =
    let es = all_entries b in
    let none : es ≡ log.entries ++ [] = w.comes ∙ ap (λ (c : Course). log.entries ++ to_come b (length log.entries + 1) c) at in
    let here : (whole_run b).store ≡ r = ap (λ (x : Ran). x.store) (sym w.ran ∙ ap (λ (c : Course). c.ran) at) in
    let all = ends_by es log.entries (last_in log.intervals) none w.stands.begun w.closed in (
      subst (λ (x : Memory). ComesBehind es (whole_run b).store log.intervals x) here (at_end all),
      subst (λ (x : Memory). Extends x.printed (whole_run b).store.printed) here (extends_same (whole_run b).store.printed),
    )

-- the sink broke off at the numbers of the main statements
pub stopped_main : {M : Type 0} (promise : Promise M) (left later : Ran → Course → Type 0) (b : Began M) (now : M) (m r : Memory) (log : LogView) (new : Sent) (stop : Stop) (fault : SendFault)
    → Grows → Prints later → (w : Between promise left b now m log) → Stops later w.rest b.from.turns stop r
    → BreaksOff new (number_lines r.printed) fault → new.faults_before ≤ new.faults
    → HasStopped promise b log new (drive_fault fault)
stopped_main promise left later b now m r log new stop fault grows prints w at broken later_faults =
    let here = at_stop promise left later b now m r log stop grows prints w at in
    record {
      log_stands = w.stands.so_far;
      later = later_faults;
      stops = stops_sending (all_entries b) (whole_run b).store r log.intervals new fault (record { few = w.behind.few; comes = here.0 }) broken here.1;
    }

-- the lines of the first numbers are a front of all lines
pub front_put : (sent : Sent) (xs ys : List ℤ) → Extends xs ys → HasPut sent xs → AppendsFront sent.before sent.after (number_lines ys)
front_put sent xs ys h put = (number_lines xs, number_lines h.0, ap number_lines h.1 ∙ flat_map-append number_line xs h.0, put.put)

-- memory ran out in the main statements
pub stopped_memory_main : {M : Type 0} (promise : Promise M) (left : Ran → Course → Type 0) (b : Began M) (now : M) (m : Memory) (log : LogView) (sent : Sent)
    → Between promise left b now m log → HasPut sent m.printed → HasStopped promise b log sent NoMemory
stopped_memory_main promise left b now m log sent w put = record {
  log_stands = w.stands.so_far;
  later = omega (arith, put.kept);
  stops = record {
    place = w.place;
    behind = w.behind;
    put = front_put sent m.printed w.place.printed w.from_here put;
    printed = w.printed;
    cause = tt;
  };
}

-- the run is at its end with the main statements
pub run_ended : {M : Type 0} (promise : Promise M) (left later : Ran → Course → Type 0) (b : Began M) (now : M) (m r : Memory) (log : LogView) (end : Outcome)
    → (w : Between promise left b now m log) → Stops later w.rest b.from.turns (stop.Ended end) r → IsOver promise b log r end
run_ended promise left later b now m r log end w at = record {
  reaches = sym w.ran ∙ ap (λ (c : Course). c.ran) at;
  log_stands = w.stands.so_far;
  whole = ends_by (all_entries b) log.entries (last_in log.intervals)
      (w.comes ∙ ap (λ (c : Course). log.entries ++ to_come b (length log.entries + 1) c) at) w.stands.begun w.closed;
  few = w.behind.few;
}
