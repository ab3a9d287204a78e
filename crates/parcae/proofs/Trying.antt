-- How a trial ends follows from how its replay did.
use Rattle.std.proofs.Common.{◌≡◌, ◌∙◌, ℕ, ◌≤◌, List, [], length, ap, sym, refl, subst, Ok, Err, arith}
use Rattle.std.proofs.KnownBytes.{Appends-nil}
use Rattle.std.specs.Prelude.{IfOk, OnOk}
use Rattle.std.specs.declared.option.Option.{Option}
use Rattle.std.specs.declared.result.Result.{Result}
use Rattle.fate_io.specs.Sending.{Sends}
use Rattle.fate_io.specs.declared.sending.SendFault.{SendFault}
use Rattle.nona_tree.specs.Run.{Ran}
use Rattle.morta_task.specs.declared.schemes.Ask.{Ask}
use Rattle.morta_task.specs.Entries.{EntryView}
use Rattle.morta_task.specs.Legal.{EndsAll, IsWholeLog, last_in}
use Rattle.morta_task.specs.LogView.{LogView}
use Rattle.morta_exec.specs.declared.fault.DriveFault.{DriveFault}
use Rattle.morta_exec.specs.declared.fault.DriveFault.TheVariants.{WriteFailed, LogFull, NoMemory}
use Rattle.morta_exec.specs.Places.{most}
use Rattle.parcae.specs.declared.replays.Driven.{Driven}
use Rattle.parcae.specs.declared.status.Status.TheVariants as status
use Rattle.parcae.specs.declared.summary.Summary.{Summary}
use Rattle.parcae.specs.Ends.{Ends, unbegun, EndsShort}
use Rattle.parcae.specs.Summary.{summary_of, summary_lines, text_of_lines, summary_text}
use Rattle.parcae.specs.Texts.{full_line}
use Rattle.parcae.specs.Told.{Told, logged, finished, once_sent}
use Rattle.parcae.specs.Trials.{trial_run, trial_entries, IsTrialLog, StopsTrial, DueOfTrial, trial_ran, trial_full, trial_short}
use Rattle.parcae.proofs.Ending.{ends_behind}
use Rattle.parcae.proofs.Replaying.{ends_still}

-- the last interval of a whole log ends all
ends_in : {T E : Type 0} (run : Result T E) (may : EntryView → LogView → Ask → Type 0) (es : List EntryView) (log : LogView)
    → OnOk run (IsWholeLog may es log) → OnOk run (EndsAll es (last_in log.intervals))
ends_in (Ok x) may es log h = h.ended
ends_in (Err f) may es log h = tt

-- so it is in what was driven
pub whole_ends : {E : Type 0} (result : Result Driven E) (may : EntryView → LogView → Ask → Type 0) (es : List EntryView)
    → IfOk result (λ d. OnOk d.run (IsWholeLog may es d.log)) → IfOk result (λ d. OnOk d.run (EndsAll es (last_in d.log.intervals)))
whole_ends (Ok d) may es h = ends_in d.run may es d.log h
whole_ends (Err f) may es h = tt

-- the replay ran to its end, and the summary was sent with some result
pub ends_tried : (n : ℕ) (log : LogView) (ran : Ran) (summary : Summary) (a b : Option (List ℕ)) (f g : ℕ) (told : Told) (result : Result (Unit {0}) SendFault)
    → IsTrialLog n log → EndsAll (trial_entries n) (last_in log.intervals) → length log.intervals ≤ most
    → trial_run n ≡ ran → summary ≡ summary_of n ran.store log
    → Sends (record { before = a; after = b; faults_before = f; faults = g }) (text_of_lines (summary_lines summary)) result
    → told ≡ once_sent result (finished ran log)
    → Ends (DueOfTrial n) (record { before = a; after = b; faults_before = f; faults = g }) told
ends_tried n log ran summary a b f g told result stands ends few is said sends report =
    let same : summary ≡ summary_of n (trial_run n).store log = said ∙ ap (λ (r : Ran). summary_of n r.store log) (sym is) in
    ends_behind (DueOfTrial n) a a b f f g (finished (trial_run n) log) told [] (summary_text n (trial_run n).store log)
    (trial_ran log stands ends few) (Appends-nil a) (omega arith) (
      result,
      subst (λ (s : Summary). Sends (record { before = a; after = b; faults_before = f; faults = g }) (text_of_lines (summary_lines s)) result) same sends,
      report ∙ ap (λ (r : Ran). once_sent result (finished r log)) (sym is),
    )

-- the replay stopped short, and the call reported why: a sink that keeps nothing doesn't fail
pub ends_tried_short : (n : ℕ) (log : LogView) (a b : Option (List ℕ)) (f g : ℕ) (fault : DriveFault) (told : Told)
    → IsTrialLog n log → length log.intervals ≤ most → StopsTrial n log fault
    → EndsShort fault log (record { before = a; after = b; faults_before = f; faults = g }) told
    → Ends (DueOfTrial n) (record { before = a; after = b; faults_before = f; faults = g }) told
ends_tried_short n log a b f g WriteFailed told stands few stops ends = absurd stops
ends_tried_short n log a b f g NoMemory told stands few stops ends =
    ends_still (DueOfTrial n) a a b f f g (logged status.NoMemory log) told ends.0 ends.1
    (unbegun refl (trial_short log stands few) (Appends-nil a) (record { outcome = refl; store = refl }))
ends_tried_short n log a b f g LogFull told stands few stops ends =
    ends_behind (DueOfTrial n) a a b f f g (logged status.LogFull log) told [] full_line (trial_full log stands stops) (Appends-nil a) (omega arith) ends
