-- How the answer of a command follows from what its files give.
use Rattle.std.proofs.Common.{◌≡◌, ℕ, List, [], ◌++◌, append-nil, ap, sym, refl, ◌∙◌, None, Some, Err}
use Rattle.std.specs.declared.option.Option.{Option}
use Rattle.fate_io.specs.declared.sending.SendFault.TheVariants as fault
use Rattle.fate_io.specs.Sending.{Sent}
use Rattle.morta_task.specs.LogView.{empty_log}
use Rattle.parcae.specs.declared.refusal.Refusal.{Refusal}
use Rattle.parcae.specs.declared.refusal.Stop.{Stop}
use Rattle.parcae.specs.declared.refusal.Stop.TheVariants as stop
use Rattle.parcae.specs.declared.refusal.Refusal.TheVariants.{Usage}
use Rattle.parcae.specs.Words.{Command, seq, check, replay, trial}
use Rattle.parcae.specs.Texts.{refusal_line}
use Rattle.parcae.specs.Answers.{EndsIn}
use Rattle.parcae.specs.Due.{DueOfCommand}
use Rattle.parcae.specs.Trials.{trial_unbegun}
use Rattle.fate_io.specs.Reading.{Looked}
use Rattle.fate_io.specs.Outside.{Outside}
use Rattle.parcae.specs.Told.{Told}
use Rattle.parcae.specs.Ends.{Way, Unbegun, Ends, GivesUp}
use Rattle.parcae.specs.Files.{Stopped, starves, refusing}
use Rattle.parcae.proofs.Ending.{ends_refused, ends_starved, ends_as}

-- a file gave nothing, where no read had failed before, and the call gave up
pub stopped_answer : (due : List (List ℕ) → Way → Type 0) (bad : List (List ℕ) → Refusal → Type 0) (before : List (List ℕ)) (looked : Looked) (s : Stop) (sent : Sent) (told : Told)
    → looked.failed_before ≡ before → ((added : List (List ℕ)) (x : Refusal) → bad added x → due added (refusing x)) → due [] (Unbegun empty_log)
    → Stopped bad looked s → GivesUp s sent told
    → (added : List (List ℕ)) × (looked.failed ≡ before ++ added) × Ends (due added) sent told
stopped_answer due bad before looked (stop.Refused r) sent told e f d (added, grown, why) h =
    (added, grown ∙ ap (λ (l : List (List ℕ)). l ++ added) e, ends_refused (due added) r sent told (f added r why) h)
stopped_answer due bad before looked stop.NoMemory sent told e f d same h =
    ([], same ∙ e ∙ sym (append-nil before), rw h.0 (ends_starved (due []) sent d h.1))

-- all files were read, and what follows ends so
pub whole_answer : (due : List (List ℕ) → Way → Type 0) (inner : Way → Type 0) (before after : List (List ℕ)) (sent : Sent) (told : Told)
    → after ≡ before → ((way : Way) → inner way → due [] way) → Ends inner sent told
    → (added : List (List ℕ)) × (after ≡ before ++ added) × Ends (due added) sent told
whole_answer due inner before after sent told e f h = ([], e ∙ sym (append-nil before), ends_as inner (due []) f sent told h)

-- what follows ends as is due of it, and so does all, where no read had failed before
pub further_answer : (due inner : List (List ℕ) → Way → Type 0) (before : List (List ℕ)) (looked : Looked) (sent : Sent) (told : Told)
    → looked.failed_before ≡ before → ((added : List (List ℕ)) (way : Way) → inner added way → due added way) → EndsIn inner looked sent told
    → (added : List (List ℕ)) × (looked.failed ≡ before ++ added) × Ends (due added) sent told
further_answer due inner before looked sent told e f (added, grown, h) =
    (added, grown ∙ ap (λ (l : List (List ℕ)). l ++ added) e, ends_as (inner added) (due added) (f added) sent told h)

-- memory ran out before a command was known, and the call gave up
pub starved_answer : (command : Option Command) (outside : Outside) (sent : Sent) (told : Told) → GivesUp stop.NoMemory sent told
    → Ends (DueOfCommand outside command []) sent told
starved_answer None outside sent told h =
    ends_refused (DueOfCommand outside None []) Usage sent told (refl, refl) (Err fault.NoMemory, ([], refusal_line Usage, refl, h.1), h.0)
starved_answer (Some (seq task)) outside sent told h =
    rw h.0 (ends_starved (DueOfCommand outside (Some (seq task)) []) sent (starves refl refl) h.1)
starved_answer (Some (check file)) outside sent told h =
    rw h.0 (ends_starved (DueOfCommand outside (Some (check file)) []) sent (starves refl refl) h.1)
starved_answer (Some (replay task)) outside sent told h =
    rw h.0 (ends_starved (DueOfCommand outside (Some (replay task)) []) sent (starves refl refl) h.1)
starved_answer (Some (trial number)) outside sent told h =
    rw h.0 (ends_starved (DueOfCommand outside (Some (trial number)) []) sent (refl, trial_unbegun) h.1)
