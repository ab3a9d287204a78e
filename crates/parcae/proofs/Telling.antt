-- What a status tells follows from how a call ends.
use Rattle.std.proofs.Common.{◌≡◌, ◌≢◌, ◌⊎◌, ℕ, ◌≤◌, Bool, ℤ, List, [], ◌++◌, length, ap, sym, refl, subst, None, Some, inl, inr, arith}
use Rattle.std.specs.Prelude.{IsSome}
use Rattle.std.specs.declared.option.Option.{Option}
use Rattle.std.specs.Io.KnownBytes.{Appends}
use Rattle.fate_io.specs.Sending.{Sent}
use Rattle.nona_tree.specs.declared.outcomes.Outcome.{Outcome}
use Rattle.nona_tree.specs.declared.outcomes.Outcome.TheVariants as outcome
use Rattle.nona_tree.specs.declared.trees.Program.{Program}
use Rattle.nona_tree.specs.Memory.{Memory}
use Rattle.nona_tree.specs.Run.{Ran, meaning_of}
use Rattle.morta_task.specs.Entries.{EntryView}
use Rattle.morta_task.specs.LogView.{LogView, empty_log}
use Rattle.morta_task.specs.Legal.{EndsAll, last_in}
use Rattle.nona_stages.specs.Seen.{seen_of}
use Rattle.nona_report.specs.Report.{report_text}
use Rattle.morta_text.specs.Texts.{number_lines, log_text}
use Rattle.morta_exec.specs.Places.{most}
use Rattle.parcae.specs.declared.refusal.Refusal.{Refusal}
use Rattle.parcae.specs.declared.refusal.Refusal.TheVariants as refusal
use Rattle.parcae.specs.declared.refusal.Source.{Source}
use Rattle.parcae.specs.declared.refusal.Source.TheVariants as source
use Rattle.parcae.specs.declared.status.Status.TheVariants as status
use Rattle.parcae.specs.Words.{Leader, by_script, by_control, Command, seq, check, replay, trial}
use Rattle.parcae.specs.Leads.{Lead}
use Rattle.parcae.specs.Trials.{trial_run, trial_entries, IsTrialLog, DueOfTrial, trial_ran, trial_full, trial_short, trial_unbegun}
use Rattle.parcae.specs.Summary.{summary_text}
use Rattle.fate_io.specs.Reading.{Held, Looked}
use Rattle.fate_io.specs.Outside.{Outside, outside_of}
use Rattle.parcae.specs.Codes.{code_of}
use Rattle.parcae.specs.Texts.{refusal_line, refusal_status, full_line}
use Rattle.parcae.specs.Told.{Told, bare, logged, finished, status_of}
use Rattle.parcae.specs.Ends.{Way, Whole, Unbegun, Ends, whole, write_failed, no_memory, unbegun}
use Rattle.parcae.specs.Files.{IsContent, IsBad, failed, long, text, Refuses, program_text, input_token, input_count, script_line, GivesProgram, GivesInput, NoInput, GivesLead, NoLead, stops, starves, follows}
use Rattle.parcae.specs.Due.{where_asked, behind_numbers, DueOfTask, DueOfSeq, seq_ran, seq_broken, seq_unbegun, DueOfCheck, check_ran, check_unbegun, DueOfDrive, drive_ran, drive_full, drive_broken, drive_unbegun, DueOfCommand}
use Rattle.parcae.specs.Answers.{Answers, EndsWhole}
use Rattle.parcae.specs.Statuses.{script_named, named, Says}

-- what is due of a run in one thread is whole only as its meaning
pub seq_whole : (tree : Program) (ran : Ran) (memory : Bool) (way : Way) (report : Told) (printed later : List ℕ)
    → DueOfSeq tree ran memory way → way ≡ Whole report printed later
    → (report ≡ finished ran empty_log) × (printed ≡ number_lines ran.store.printed) × (later ≡ behind_numbers tree ran memory [])
seq_whole tree ran memory way report printed later seq_ran e = (cc, cc, cc)
seq_whole tree ran memory way report printed later seq_broken e = cc
seq_whole tree ran memory way report printed later seq_unbegun e = cc

-- what is due of the report on the loops of a program is whole only as that report
pub check_whole : (tree : Program) (way : Way) (report : Told) (printed later : List ℕ) → DueOfCheck tree way → way ≡ Whole report printed later
    → (report ≡ bare status.Done) × (printed ≡ []) × (later ≡ report_text (seen_of tree))
check_whole tree way report printed later check_ran e = (cc, cc, cc)
check_whole tree way report printed later check_unbegun e = cc

-- what is due of a run in intervals is whole as its meaning, with its whole log, or as the line of a full log
pub data DriveWhole (tree : Program) (es : List EntryView) (ran : Ran) (stands : LogView → Type 0) (memory log : Bool) (report : Told) (printed later : List ℕ) : Type 0 where
  is_ran : (l : LogView) → stands l → EndsAll es (last_in l.intervals) → report ≡ finished ran l → printed ≡ number_lines ran.store.printed
      → later ≡ behind_numbers tree ran memory (where_asked log (log_text l)) → DriveWhole tree es ran stands memory log report printed later
  is_full : (l : LogView) (m : Memory) → length l.intervals ≡ most → report ≡ logged status.LogFull l → printed ≡ number_lines m.printed
      → later ≡ full_line → DriveWhole tree es ran stands memory log report printed later

pub drive_whole : (tree : Program) (es : List EntryView) (ran : Ran) (stands : LogView → Type 0) (memory log : Bool) (way : Way) (report : Told) (printed later : List ℕ)
    → DueOfDrive tree es ran stands memory log way → way ≡ Whole report printed later → DriveWhole tree es ran stands memory log report printed later
drive_whole tree es ran stands memory log way report printed later (drive_ran l s ends few) e = is_ran l s ends (cc) (cc) (cc)
drive_whole tree es ran stands memory log way report printed later (drive_full l m s few next more) e = is_full l m few (cc) (cc) (cc)
drive_whole tree es ran stands memory log way report printed later (drive_broken l m s few place more) e = cc
drive_whole tree es ran stands memory log way report printed later drive_unbegun e = cc

-- what is due of a trial is whole as its summary, with its whole log, or as the line of a full log
pub data TrialWhole (n : ℕ) (report : Told) (printed later : List ℕ) : Type 0 where
  is_tried : (l : LogView) → IsTrialLog n l → EndsAll (trial_entries n) (last_in l.intervals) → report ≡ finished (trial_run n) l → printed ≡ []
      → later ≡ summary_text n (trial_run n).store l → TrialWhole n report printed later
  is_full_trial : (l : LogView) → length l.intervals ≡ most → report ≡ logged status.LogFull l → printed ≡ [] → later ≡ full_line
      → TrialWhole n report printed later

pub trial_whole : (n : ℕ) (way : Way) (report : Told) (printed later : List ℕ)
    → DueOfTrial n way → way ≡ Whole report printed later → TrialWhole n report printed later
trial_whole n way report printed later (trial_ran l s ends few) e = is_tried l s ends (cc) (cc) (cc)
trial_whole n way report printed later (trial_full l s why) e = is_full_trial l why.0 (cc) (cc) (cc)
trial_whole n way report printed later (trial_short l s few) e = cc
trial_whole n way report printed later trial_unbegun e = cc

-- a command's files were read, and its run gives this whole text
abbrev pub Runs : Looked → Told → List ℕ → List ℕ → Option Command → Type 0
Runs looked report printed later None = ⊥
Runs looked report printed later (Some (seq task)) =
    (tree : Program) × (numbers : List ℤ) × GivesProgram (outside_of looked) task.file tree × GivesInput (outside_of looked) task.input numbers
    × DueOfSeq tree (meaning_of tree numbers task.turns) task.memory (Whole report printed later)
Runs looked report printed later (Some (check file)) =
    (tree : Program) × GivesProgram (outside_of looked) file tree × DueOfCheck tree (Whole report printed later)
Runs looked report printed later (Some (replay task)) =
    (tree : Program) × (numbers : List ℤ) × (lead : Lead) × GivesProgram (outside_of looked) task.run.file tree
    × GivesInput (outside_of looked) task.run.input numbers × GivesLead (outside_of looked) task.links task.leader lead
    × DueOfTask tree numbers lead task (Whole report printed later)
Runs looked report printed later (Some (trial number)) = DueOfTrial number (Whole report printed later)

-- why a whole text is due of a command: the words are none; one of its files is bad; or it runs
pub data WholeBy (command : Option Command) (looked : Looked) (added : List (List ℕ)) (report : Told) (printed later : List ℕ) : Type 0 where
  by_words : command ≡ None → Whole report printed later ≡ Whole (bare status.Usage) [] (refusal_line refusal.Usage) → WholeBy command looked added report printed later
  by_file : (src : Source) (file : List ℕ) (r : Refusal) → named command src ≡ Some file → IsBad src (outside_of looked) file added r
      → Whole report printed later ≡ Whole (bare (refusal_status r)) [] (refusal_line r) → WholeBy command looked added report printed later
  by_run : Runs looked report printed later command → WholeBy command looked added report printed later

whole_apart : (told : Told) (printed later : List ℕ) → Whole told printed later ≢ Unbegun empty_log
whole_apart told printed later e = cc

-- an input that gives nothing has a file
pub bad_input : (input : Option (List ℕ)) (outside : Outside) (added : List (List ℕ)) (r : Refusal) → NoInput outside input added r
    → (file : List ℕ) × (input ≡ Some file) × IsBad source.Input outside file added r
bad_input None outside added r bad = absurd bad
bad_input (Some file) outside added r bad = (file, refl, bad)

-- a script that gives nothing has a file
pub bad_lead : (leader : Leader) (outside : Outside) (added : List (List ℕ)) (r : Refusal) → NoLead outside leader added r
    → (file : List ℕ) × (script_named leader ≡ Some file) × IsBad source.Script outside file added r
bad_lead (by_script file) outside added r bad = (file, refl, bad)
bad_lead (by_control workers) outside added r bad = absurd bad

pub whole_by : (command : Option Command) (looked : Looked) (added : List (List ℕ)) (report : Told) (printed later : List ℕ)
    → DueOfCommand (outside_of looked) command added (Whole report printed later) → WholeBy command looked added report printed later
whole_by None looked added report printed later (e, w) = by_words refl w
whole_by (Some (seq task)) looked added report printed later (stops r bad w) = by_file source.Program task.file r refl bad w
whole_by (Some (seq task)) looked added report printed later (starves e w) = absurd (whole_apart report printed later w)
whole_by (Some (seq task)) looked added report printed later (follows tree g (stops r bad w)) =
    let b = bad_input task.input (outside_of looked) added r bad in by_file source.Input b.0 r b.1 b.2 w
whole_by (Some (seq task)) looked added report printed later (follows tree g (starves e w)) = absurd (whole_apart report printed later w)
whole_by (Some (seq task)) looked added report printed later (follows tree g (follows numbers h (e, d))) = by_run (tree, numbers, g, h, d)
whole_by (Some (check file)) looked added report printed later (stops r bad w) = by_file source.Program file r refl bad w
whole_by (Some (check file)) looked added report printed later (starves e w) = absurd (whole_apart report printed later w)
whole_by (Some (check file)) looked added report printed later (follows tree g (e, d)) = by_run (tree, g, d)
whole_by (Some (replay task)) looked added report printed later (stops r bad w) = by_file source.Program task.run.file r refl bad w
whole_by (Some (replay task)) looked added report printed later (starves e w) = absurd (whole_apart report printed later w)
whole_by (Some (replay task)) looked added report printed later (follows tree g (stops r bad w)) =
    let b = bad_input task.run.input (outside_of looked) added r bad in by_file source.Input b.0 r b.1 b.2 w
whole_by (Some (replay task)) looked added report printed later (follows tree g (starves e w)) = absurd (whole_apart report printed later w)
whole_by (Some (replay task)) looked added report printed later (follows tree g (follows numbers h (stops r bad w))) =
    let b = bad_lead task.leader (outside_of looked) added r bad in by_file source.Script b.0 r b.1 b.2 w
whole_by (Some (replay task)) looked added report printed later (follows tree g (follows numbers h (starves e w))) = absurd (whole_apart report printed later w)
whole_by (Some (replay task)) looked added report printed later (follows tree g (follows numbers h (follows lead k (e, d)))) =
    by_run (tree, numbers, lead, g, h, k, d)
whole_by (Some (trial number)) looked added report printed later (e, d) = by_run d

-- a run that ended has a status up to 2
pub ended_code : (o : Outcome) → code_of (status_of o) ≤ 2
ended_code outcome.Done = omega arith
ended_code (outcome.Trap t) = omega arith
ended_code (outcome.OutOfTurns at) = omega arith

-- so does one in intervals, or its log is full
drive_code : (tree : Program) (es : List EntryView) (ran : Ran) (stands : LogView → Type 0) (memory log : Bool) (report : Told) (printed later : List ℕ)
    → DriveWhole tree es ran stands memory log report printed later → (code_of report.status ≤ 2) ⊎ (code_of report.status ≡ 18)
drive_code tree es ran stands memory log report printed later (is_ran l s ends er ep el) =
    inl (subst (λ (t : Told). code_of t.status ≤ 2) (sym er) (ended_code ran.end))
drive_code tree es ran stands memory log report printed later (is_full l m few er ep el) = inr (ap (λ (t : Told). code_of t.status) er)

-- so does a trial
trial_code : (n : ℕ) (report : Told) (printed later : List ℕ) → TrialWhole n report printed later
    → (code_of report.status ≤ 2) ⊎ (code_of report.status ≡ 18)
trial_code n report printed later (is_tried l s ends er ep el) =
    inl (subst (λ (t : Told). code_of t.status ≤ 2) (sym er) (ended_code (trial_run n).end))
trial_code n report printed later (is_full_trial l few er ep el) = inr (ap (λ (t : Told). code_of t.status) er)

-- a command that runs ends with a status up to 2, or with a full log
pub runs_code : (command : Option Command) (looked : Looked) (report : Told) (printed later : List ℕ) → Runs looked report printed later command
    → (code_of report.status ≤ 2) ⊎ (code_of report.status ≡ 18)
runs_code None looked report printed later runs = absurd runs
runs_code (Some (seq task)) looked report printed later (tree, numbers, g, h, d) =
    let w = seq_whole tree (meaning_of tree numbers task.turns) task.memory _ report printed later d refl in
    inl (subst (λ (t : Told). code_of t.status ≤ 2) (sym w.0) (ended_code (meaning_of tree numbers task.turns).end))
runs_code (Some (check file)) looked report printed later (tree, g, d) =
    let w = check_whole tree _ report printed later d refl in
    let is : code_of report.status ≡ 0 = ap (λ (t : Told). code_of t.status) w.0 in
    inl (omega (arith, is))
runs_code (Some (replay task)) looked report printed later (tree, numbers, lead, g, h, k, d) =
    drive_code _ _ _ _ _ _ report printed later (drive_whole _ _ _ _ _ _ _ report printed later d refl)
runs_code (Some (trial number)) looked report printed later d =
    trial_code number report printed later (trial_whole number _ report printed later d refl)

-- a call that was not broken off ends whole
pub ends_apart : (due : Way → Type 0) (sent : Sent) (told : Told) → code_of told.status ≢ 15 → code_of told.status ≢ 16
    → Ends due sent told → EndsWhole due sent told
ends_apart due sent told a b (whole p l d h) = (p, l, d, h)
ends_apart due sent told a b (write_failed e h rose) = absurd (a (ap code_of e))
ends_apart due sent told a b (no_memory e h) = absurd (b (ap code_of e))
ends_apart due sent told a b (unbegun e d h bare) = absurd (b (ap code_of e))

-- how a call that answers and was not broken off ends whole
pub record Answered (command : Option Command) (looked : Looked) (sent : Sent) (told : Told) : Type 0 where
  pub added : List (List ℕ)
  pub grown : looked.failed ≡ looked.failed_before ++ added
  pub printed : List ℕ
  pub later : List ℕ
  pub by : WholeBy command looked added told printed later
  pub sends : Appends sent.before sent.after (printed ++ later)

pub answered : (command : Option Command) (looked : Looked) (sent : Sent) (told : Told) → code_of told.status ≢ 15 → code_of told.status ≢ 16
    → Answers command looked sent told → Answered command looked sent told
answered command looked sent told a b (added, grown, e) =
    let w = ends_apart (DueOfCommand (outside_of looked) command added) sent told a b e in
    record { added = added; grown = grown; printed = w.0; later = w.1; by = whole_by command looked added told w.0 w.1 w.2; sends = w.3 }

-- the text of a refusal was written
pub says_of : (r : Refusal) (sent : Sent) (told : Told) (printed later : List ℕ) → Whole told printed later ≡ Whole (bare (refusal_status r)) [] (refusal_line r)
    → Appends sent.before sent.after (printed ++ later) → Says r sent told
says_of r sent told printed later w sends =
    let ep : printed ≡ [] = cc in
    let el : later ≡ refusal_line r = cc in
    (cc, subst (λ (l : List ℕ). Appends sent.before sent.after l) (rw (ep, el) refl) sends)

-- the status of what is refused
pub refused_code : (r : Refusal) (told : Told) (printed later : List ℕ) → Whole told printed later ≡ Whole (bare (refusal_status r)) [] (refusal_line r)
    → code_of told.status ≡ code_of (refusal_status r)
refused_code r told printed later w =
    let e : told ≡ bare (refusal_status r) = cc in
    ap (λ (t : Told). code_of t.status) e

-- the status with which the text of a file is refused
abbrev pub fault_code : Source → ℕ
fault_code source.Program = 11
fault_code source.Input = 12
fault_code source.Script = 13

pub text_code : (src : Source) (bytes : List ℕ) (r : Refusal) → Refuses src bytes r → code_of (refusal_status r) ≡ fault_code src
text_code source.Program bytes r (program_text kind at h) = refl
text_code source.Input bytes r (input_token at h) = refl
text_code source.Input bytes r (input_count h) = refl
text_code source.Script bytes r (script_line n h) = refl

-- a bad file's status is none of a run
pub bad_code : (src : Source) (outside : Outside) (file : List ℕ) (added : List (List ℕ)) (r : Refusal) → IsBad src outside file added r
    → (11 ≤ code_of (refusal_status r)) × (code_of (refusal_status r) ≤ 17) × (code_of (refusal_status r) ≢ 15) × (code_of (refusal_status r) ≢ 16)
bad_code src outside file added r (failed e) = (omega arith, omega arith, λ (e : 14 ≡ 15). omega (arith, e), λ (e : 14 ≡ 16). omega (arith, e))
bad_code src outside file added r (long e l) = (omega arith, omega arith, λ (e : 17 ≡ 15). omega (arith, e), λ (e : 17 ≡ 16). omega (arith, e))
bad_code source.Program outside file added r (text bytes x e content (program_text kind at h)) = (omega arith, omega arith, λ (e : 11 ≡ 15). omega (arith, e), λ (e : 11 ≡ 16). omega (arith, e))
bad_code source.Input outside file added r (text bytes x e content (input_token at h)) = (omega arith, omega arith, λ (e : 12 ≡ 15). omega (arith, e), λ (e : 12 ≡ 16). omega (arith, e))
bad_code source.Input outside file added r (text bytes x e content (input_count h)) = (omega arith, omega arith, λ (e : 12 ≡ 15). omega (arith, e), λ (e : 12 ≡ 16). omega (arith, e))
bad_code source.Script outside file added r (text bytes x e content (script_line n h)) = (omega arith, omega arith, λ (e : 13 ≡ 15). omega (arith, e), λ (e : 13 ≡ 16). omega (arith, e))

-- two files' texts are refused with two statuses
pub one_source : (a b : Source) → fault_code a ≡ fault_code b → a ≡ b
one_source source.Program source.Program e = refl
one_source source.Program source.Input e = absurd (omega (arith, e))
one_source source.Program source.Script e = absurd (omega (arith, e))
one_source source.Input source.Program e = absurd (omega (arith, e))
one_source source.Input source.Input e = refl
one_source source.Input source.Script e = absurd (omega (arith, e))
one_source source.Script source.Program e = absurd (omega (arith, e))
one_source source.Script source.Input e = absurd (omega (arith, e))
one_source source.Script source.Script e = refl

-- what a shelf that tells its files says of a content
pub held_content : (src : Source) (held : Held) (bytes : List ℕ) → IsSome held → IsContent src held bytes → held ≡ Some (Some bytes)
held_content src None bytes is content = cc
held_content src (Some c) bytes is content = ap Some content.1
