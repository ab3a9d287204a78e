-- What each exit status tells, from how a call that answers ends.
use Rattle.std.proofs.Common.{◌≡◌, ◌≢◌, ◌⊎◌, ℕ, ◌<◌, ◌≤◌, Bool, ℤ, List, [], ◌++◌, length, ap, sym, refl, ◌∙◌, subst, None, Some, inl, inr, arith}
use Rattle.std.specs.Prelude.{IsSome}
use Rattle.std.specs.declared.option.Option.{Option}
use Rattle.std.specs.Io.KnownBytes.{Appends}
use Rattle.fate_io.specs.Sending.{Sent}
use Rattle.nona_tree.specs.declared.trees.Program.{Program}
use Rattle.nona_tree.specs.Run.{Ran, meaning_of}
use Rattle.nona_gen.specs.OfSeen.{planned_image}
use Rattle.morta_task.specs.Entries.{EntryView}
use Rattle.morta_task.specs.LogView.{LogView}
use Rattle.nona_tree.specs.declared.outcomes.Outcome.TheVariants.{Done}
use Rattle.morta_script.specs.declared.script.Command.{Command as Order}
use Rattle.morta_text.specs.Texts.{log_text}
use Rattle.parcae.specs.declared.refusal.Refusal.TheVariants as refusal
use Rattle.parcae.specs.declared.refusal.Source.{Source}
use Rattle.parcae.specs.declared.refusal.Source.TheVariants as source
use Rattle.parcae.specs.declared.status.Status.TheVariants as status
use Rattle.parcae.specs.Words.{Task, Leader, by_script, by_control, ReplayTask, Command, seq, check, replay, trial}
use Rattle.parcae.specs.Leads.{Lead, IsLedReplay}
use Rattle.parcae.specs.Trials.{trial_run, trial_entries, IsTrialLog}
use Rattle.parcae.specs.Summary.{summary_text}
use Rattle.morta_task.specs.Legal.{EndsAll, last_in}
use Rattle.parcae.specs.Entered.{entries_in}
use Rattle.fate_io.specs.Reading.{Held, Looked}
use Rattle.fate_io.specs.Outside.{outside_of}
use Rattle.parcae.specs.Codes.{code_of}
use Rattle.parcae.specs.Texts.{refusal_line}
use Rattle.parcae.specs.Told.{Told, bare, logged, finished, status_of, IsBare}
use Rattle.parcae.specs.Ends.{Whole, whole, write_failed, no_memory, unbegun}
use Rattle.parcae.specs.Files.{limit_of, IsLong, failed, long, text, GivesProgram, GivesInput, GivesScript, GivesLead}
use Rattle.parcae.specs.Due.{where_asked}
use Rattle.parcae.specs.Answers.{Answers, HoldsProgram, HoldsInput, HoldsScript, HoldsLead}
use Rattle.parcae.specs.Statuses.{OfEachCall, TellsFiles, IsBrokenOff, TellsUsage, HasFault, TellsFault, HasFailedRead, TellsFailedRead, TellsFailedWrite, HasLongFile, TellsLongFile, HasFullLog, TellsFullLog, IsWholeReplay, run_text, HasRunInSequence, HasReplayed, HasReported, HasTried, TellsMeaning}
use Rattle.parcae.proofs.Telling.{seq_whole, check_whole, DriveWhole, is_ran, is_full, drive_whole, TrialWhole, is_tried, is_full_trial, trial_whole, ended_code, WholeBy, by_words, by_file, by_run, whole_by, runs_code, answered, says_of, refused_code, fault_code, text_code, bad_code, one_source, held_content}

-- a run has none of the statuses between
run_apart : (code n : ℕ) → (code ≤ 2) ⊎ (code ≡ 18) → 2 < n → n < 18 → code ≢ n
run_apart code n (inl le) a b = λ e. omega (arith, le, a, e)
run_apart code n (inr f) a b = λ e. omega (arith, f, b, e)

-- the words' status
words_code : (told : Told) (printed later : List ℕ) → Whole told printed later ≡ Whole (bare status.Usage) [] (refusal_line refusal.Usage) → code_of told.status ≡ 10
words_code told printed later w = refused_code refusal.Usage told printed later w

-- 10
usage_by : (command : Option Command) (looked : Looked) (added : List (List ℕ)) (told : Told) (printed later : List ℕ)
    → WholeBy command looked added told printed later → code_of told.status ≡ 10 → command ≡ None
usage_by command looked added told printed later (by_words none w) e = none
usage_by command looked added told printed later (by_file src file r names bad w) e =
    absurd (omega (arith, e, refused_code r told printed later w, (bad_code src (outside_of looked) file added r bad).0))
usage_by command looked added told printed later (by_run runs) e =
    absurd (run_apart _ 10 (runs_code command looked told printed later runs) (omega arith) (omega arith) e)

usage_always : (looked : Looked) (sent : Sent) (told : Told) → Answers None looked sent told → (code_of told.status ≡ 10) ⊎ IsBrokenOff told
usage_always looked sent told (added, grown, whole p l d h) = inl (words_code told p l d.1)
usage_always looked sent told (added, grown, write_failed e b rose) = inr (inl (ap code_of e))
usage_always looked sent told (added, grown, no_memory e b) = inr (inr (ap code_of e))
usage_always looked sent told (added, grown, unbegun e d h b) = inr (inr (ap code_of e))

pub tells_usage : OfEachCall TellsUsage
tells_usage command looked sent told answers = record {
  only = λ e. (
      let a = answered command looked sent told (λ f. omega (arith, e, f)) (λ f. omega (arith, e, f)) answers in
      usage_by command looked a.added told a.printed a.later a.by e
      );
  always = λ e. usage_always looked sent told (subst (λ (c : Option Command). Answers c looked sent told) e answers);
}

-- 11, 12 and 13
fault_by : (src : Source) (command : Option Command) (looked : Looked) (sent : Sent) (told : Told) (added : List (List ℕ)) (printed later : List ℕ)
    → TellsFiles looked → code_of told.status ≡ fault_code src → 2 < fault_code src → fault_code src < 14 → fault_code src ≢ 10
    → Appends sent.before sent.after (printed ++ later) → WholeBy command looked added told printed later → HasFault src command looked sent told
fault_by src command looked sent told added printed later tells e low high apart sends (by_words none w) =
    absurd (apart (sym e ∙ words_code told printed later w))
fault_by src command looked sent told added printed later tells e low high apart sends (by_file s file r names (failed f) w) =
    let is : code_of told.status ≡ 14 = refused_code r told printed later w in
    absurd (omega (arith, is, e, high))
fault_by src command looked sent told added printed later tells e low high apart sends (by_file s file r names (long f l) w) =
    let is : code_of told.status ≡ 17 = refused_code r told printed later w in
    absurd (omega (arith, is, e, high))
fault_by src command looked sent told added printed later tells e low high apart sends (by_file s file r names (text bytes x f content h) w) =
    let is : code_of told.status ≡ fault_code s = refused_code x told printed later w ∙ text_code s bytes x h in
    let same : s ≡ src = one_source s src (sym is ∙ e) in
    let here : HasFault s command looked sent told = record {
      file = file;
      bytes = bytes;
      refusal = x;
      names = names;
      holds = (held_content s (looked.held file) bytes (tells file) content, content.0);
      refuses = h;
      says = says_of x sent told printed later w sends;
    } in
    subst (λ (q : Source). HasFault q command looked sent told) same here
fault_by src command looked sent told added printed later tells e low high apart sends (by_run runs) =
    absurd (run_apart _ (fault_code src) (runs_code command looked told printed later runs) low (omega (arith, high)) e)

tells_fault : (src : Source) → 2 < fault_code src → fault_code src < 14 → fault_code src ≢ 10 → OfEachCall (TellsFault (fault_code src) src)
tells_fault src low high apart command looked sent told answers = λ tells e.
    let a = answered command looked sent told (λ f. omega (arith, e, f, high)) (λ f. omega (arith, e, f, high)) answers in
    fault_by src command looked sent told a.added a.printed a.later tells e low high apart a.sends a.by

pub tells_refused : OfEachCall (TellsFault 11 source.Program)
tells_refused = tells_fault source.Program (omega arith) (omega arith) (λ (e : 11 ≡ 10). omega (arith, e))

pub tells_input : OfEachCall (TellsFault 12 source.Input)
tells_input = tells_fault source.Input (omega arith) (omega arith) (λ (e : 12 ≡ 10). omega (arith, e))

pub tells_script : OfEachCall (TellsFault 13 source.Script)
tells_script = tells_fault source.Script (omega arith) (omega arith) (λ (e : 13 ≡ 10). omega (arith, e))

-- the status of a text that is refused is none of a file that isn't read
text_low : (src : Source) → fault_code src < 14
text_low source.Program = omega arith
text_low source.Input = omega arith
text_low source.Script = omega arith

-- 14
failed_by : (command : Option Command) (looked : Looked) (sent : Sent) (told : Told) (added : List (List ℕ)) (printed later : List ℕ)
    → code_of told.status ≡ 14 → looked.failed ≡ looked.failed_before ++ added
    → Appends sent.before sent.after (printed ++ later) → WholeBy command looked added told printed later → HasFailedRead command looked sent told
failed_by command looked sent told added printed later e grown sends (by_words none w) =
    absurd (omega (arith, e, words_code told printed later w))
failed_by command looked sent told added printed later e grown sends (by_file s file r names (failed f) w) = record {
  source = s;
  file = file;
  names = names;
  added = grown ∙ ap (λ (l : List (List ℕ)). looked.failed_before ++ l) f;
  says = says_of (refusal.Failed s) sent told printed later w sends;
}
failed_by command looked sent told added printed later e grown sends (by_file s file r names (long f l) w) =
    let is : code_of told.status ≡ 17 = refused_code r told printed later w in
    absurd (omega (arith, is, e))
failed_by command looked sent told added printed later e grown sends (by_file s file r names (text bytes x f content h) w) =
    let is : code_of told.status ≡ fault_code s = refused_code x told printed later w ∙ text_code s bytes x h in
    absurd (omega (arith, is, e, text_low s))
failed_by command looked sent told added printed later e grown sends (by_run runs) =
    absurd (run_apart _ 14 (runs_code command looked told printed later runs) (omega arith) (omega arith) e)

pub tells_failed : OfEachCall TellsFailedRead
tells_failed command looked sent told answers = λ e.
    let a = answered command looked sent told (λ f. omega (arith, e, f)) (λ f. omega (arith, e, f)) answers in
    failed_by command looked sent told a.added a.printed a.later e a.grown a.sends a.by

-- what is longer than its limit is held
long_content : (src : Source) (held : Held) → IsSome held → IsLong src held → (bytes : List ℕ) × (held ≡ Some (Some bytes)) × (limit_of src < length bytes)
long_content src None is l = cc
long_content src (Some None) is l = absurd l
long_content src (Some (Some b)) is l = (b, refl, l)

-- 17
long_by : (command : Option Command) (looked : Looked) (sent : Sent) (told : Told) (added : List (List ℕ)) (printed later : List ℕ)
    → TellsFiles looked → code_of told.status ≡ 17
    → Appends sent.before sent.after (printed ++ later) → WholeBy command looked added told printed later → HasLongFile command looked sent told
long_by command looked sent told added printed later tells e sends (by_words none w) =
    absurd (omega (arith, e, words_code told printed later w))
long_by command looked sent told added printed later tells e sends (by_file s file r names (failed f) w) =
    let is : code_of told.status ≡ 14 = refused_code r told printed later w in
    absurd (omega (arith, is, e))
long_by command looked sent told added printed later tells e sends (by_file s file r names (long f l) w) =
    let c = long_content s (looked.held file) (tells file) l in record {
      source = s;
      file = file;
      bytes = c.0;
      names = names;
      holds = c.1;
      exceeds = c.2;
      says = says_of (refusal.Long s) sent told printed later w sends;
    }
long_by command looked sent told added printed later tells e sends (by_file s file r names (text bytes x f content h) w) =
    let is : code_of told.status ≡ fault_code s = refused_code x told printed later w ∙ text_code s bytes x h in
    absurd (omega (arith, is, e, text_low s))
long_by command looked sent told added printed later tells e sends (by_run runs) =
    absurd (run_apart _ 17 (runs_code command looked told printed later runs) (omega arith) (omega arith) e)

pub tells_long : OfEachCall TellsLongFile
tells_long command looked sent told answers = λ tells e.
    let a = answered command looked sent told (λ f. omega (arith, e, f)) (λ f. omega (arith, e, f)) answers in
    long_by command looked sent told a.added a.printed a.later tells e a.sends a.by

-- a whole text has no status of a call that was broken off
pub whole_code : (command : Option Command) (looked : Looked) (added : List (List ℕ)) (told : Told) (printed later : List ℕ)
    → WholeBy command looked added told printed later → ¬ (IsBrokenOff told)
whole_code command looked added told printed later (by_words none w) (inl e) = omega (arith, e, words_code told printed later w)
whole_code command looked added told printed later (by_words none w) (inr e) = omega (arith, e, words_code told printed later w)
whole_code command looked added told printed later (by_file s file r names bad w) (inl e) =
    (bad_code s (outside_of looked) file added r bad).2 (sym (refused_code r told printed later w) ∙ e)
whole_code command looked added told printed later (by_file s file r names bad w) (inr e) =
    (bad_code s (outside_of looked) file added r bad).3 (sym (refused_code r told printed later w) ∙ e)
whole_code command looked added told printed later (by_run runs) (inl e) =
    run_apart _ 15 (runs_code command looked told printed later runs) (omega arith) (omega arith) e
whole_code command looked added told printed later (by_run runs) (inr e) =
    run_apart _ 16 (runs_code command looked told printed later runs) (omega arith) (omega arith) e

-- 15
pub tells_unwritten : OfEachCall TellsFailedWrite
tells_unwritten command looked sent told (added, grown, whole p l d h) =
    λ e. absurd (whole_code command looked added told p l (whole_by command looked added told p l d) (inl e))
tells_unwritten command looked sent told (added, grown, write_failed f b rose) = λ e. rose
tells_unwritten command looked sent told (added, grown, no_memory f b) =
    λ e. let is : code_of told.status ≡ 16 = ap code_of f in absurd (omega (arith, e, is))
tells_unwritten command looked sent told (added, grown, unbegun f d h b) =
    λ e. let is : code_of told.status ≡ 16 = ap code_of f in absurd (omega (arith, e, is))

-- a report of a status and a log has neither outcome nor store
pub logged_bare : (told : Told) (log : LogView) → told ≡ logged told.status log → IsBare told
logged_bare told log e = record { outcome = ap (λ (t : Told). t.outcome) e; store = ap (λ (t : Told). t.store) e }

-- 18
full_drive : (tree : Program) (es : List EntryView) (ran : Ran) (stands : LogView → Type 0) (memory log : Bool) (sent : Sent) (told : Told) (printed later : List ℕ)
    → code_of told.status ≡ 18 → Appends sent.before sent.after (printed ++ later) → DriveWhole tree es ran stands memory log told printed later → HasFullLog sent told
full_drive tree es ran stands memory log sent told printed later e sends (is_ran l s ends er ep el) =
    let low : code_of told.status ≤ 2 = subst (λ (t : Told). code_of t.status ≤ 2) (sym er) (ended_code ran.end) in
    absurd (omega (arith, e, low))
full_drive tree es ran stands memory log sent told printed later e sends (is_full l m few er ep el) = record {
  full = ap (λ (t : Told). length t.log.intervals) er ∙ few;
  bare = record { outcome = ap (λ (t : Told). t.outcome) er; store = ap (λ (t : Told). t.store) er };
  printed = m.printed;
  text = subst (λ (t : List ℕ). Appends sent.before sent.after t) (rw (ep, el) refl) sends;
}

full_trial : (n : ℕ) (sent : Sent) (told : Told) (printed later : List ℕ)
    → code_of told.status ≡ 18 → Appends sent.before sent.after (printed ++ later) → TrialWhole n told printed later → HasFullLog sent told
full_trial n sent told printed later e sends (is_tried l s ends er ep el) =
    let low : code_of told.status ≤ 2 = subst (λ (t : Told). code_of t.status ≤ 2) (sym er) (ended_code (trial_run n).end) in
    absurd (omega (arith, e, low))
full_trial n sent told printed later e sends (is_full_trial l few er ep el) = record {
  full = ap (λ (t : Told). length t.log.intervals) er ∙ few;
  bare = record { outcome = ap (λ (t : Told). t.outcome) er; store = ap (λ (t : Told). t.store) er };
  printed = [];
  text = subst (λ (t : List ℕ). Appends sent.before sent.after t) (rw (ep, el) refl) sends;
}

full_by : (command : Option Command) (looked : Looked) (sent : Sent) (told : Told) (added : List (List ℕ)) (printed later : List ℕ)
    → code_of told.status ≡ 18 → Appends sent.before sent.after (printed ++ later) → WholeBy command looked added told printed later → HasFullLog sent told
full_by command looked sent told added printed later e sends (by_words none w) = absurd (omega (arith, e, words_code told printed later w))
full_by command looked sent told added printed later e sends (by_file s file r names bad w) =
    absurd (omega (arith, e, refused_code r told printed later w, (bad_code s (outside_of looked) file added r bad).1))
full_by None looked sent told added printed later e sends (by_run runs) = absurd runs
full_by (Some (seq task)) looked sent told added printed later e sends (by_run (tree, numbers, g, h, d)) =
    let w = seq_whole tree (meaning_of tree numbers task.turns) task.memory _ told printed later d refl in
    let low : code_of told.status ≤ 2 = subst (λ (t : Told). code_of t.status ≤ 2) (sym w.0) (ended_code (meaning_of tree numbers task.turns).end) in
    absurd (omega (arith, e, low))
full_by (Some (check file)) looked sent told added printed later e sends (by_run (tree, g, d)) =
    let w = check_whole tree _ told printed later d refl in
    let is : code_of told.status ≡ 0 = ap (λ (t : Told). code_of t.status) w.0 in
    absurd (omega (arith, e, is))
full_by (Some (replay task)) looked sent told added printed later e sends (by_run (tree, numbers, lead, g, h, k, d)) =
    full_drive _ _ _ _ _ _ sent told printed later e sends (drive_whole _ _ _ _ _ _ _ told printed later d refl)
full_by (Some (trial number)) looked sent told added printed later e sends (by_run d) =
    full_trial number sent told printed later e sends (trial_whole number _ told printed later d refl)

pub tells_full : OfEachCall TellsFullLog
tells_full command looked sent told answers = λ e.
    let a = answered command looked sent told (λ f. omega (arith, e, f)) (λ f. omega (arith, e, f)) answers in
    full_by command looked sent told a.added a.printed a.later e a.sends a.by

-- what a shelf that tells its files holds
holds_program : (looked : Looked) (file : List ℕ) (tree : Program) → TellsFiles looked → GivesProgram (outside_of looked) file tree → HoldsProgram looked file tree
holds_program looked file tree tells g = (g.0, (held_content source.Program (looked.held file) g.0 (tells file) g.1, g.1.0), g.2)

holds_input : (looked : Looked) (file : Option (List ℕ)) (numbers : List ℤ) → TellsFiles looked → GivesInput (outside_of looked) file numbers → HoldsInput looked file numbers
holds_input looked None numbers tells g = g
holds_input looked (Some file) numbers tells g = (g.0, (held_content source.Input (looked.held file) g.0 (tells file) g.1, g.1.0), g.2)

holds_script : (looked : Looked) (file : List ℕ) (commands : List Order) → TellsFiles looked → GivesScript (outside_of looked) file commands → HoldsScript looked file commands
holds_script looked file commands tells g = (g.0, (held_content source.Script (looked.held file) g.0 (tells file) g.1, g.1.0), g.2)

holds_lead : (looked : Looked) (links : ℕ) (leader : Leader) (lead : Lead) → TellsFiles looked → GivesLead (outside_of looked) links leader lead
    → HoldsLead looked links leader lead
holds_lead looked links (by_script file) lead tells g = (g.0, holds_script looked file g.0 tells g.1, g.2)
holds_lead looked links (by_control workers) lead tells g = g

-- 0, 1 and 2 of a run in one thread
seq_by : (task : Task) (looked : Looked) (sent : Sent) (told : Told) (added : List (List ℕ)) (printed later : List ℕ)
    → TellsFiles looked → code_of told.status ≤ 2 → Appends sent.before sent.after (printed ++ later)
    → WholeBy (Some (seq task)) looked added told printed later → HasRunInSequence task looked sent told
seq_by task looked sent told added printed later tells le sends (by_words none w) = absurd (omega (arith, le, words_code told printed later w))
seq_by task looked sent told added printed later tells le sends (by_file s file r names bad w) =
    absurd (omega (arith, le, refused_code r told printed later w, (bad_code s (outside_of looked) file added r bad).0))
seq_by task looked sent told added printed later tells le sends (by_run (tree, numbers, g, h, d)) =
    let w = seq_whole tree (meaning_of tree numbers task.turns) task.memory _ told printed later d refl in record {
      tree = tree;
      numbers = numbers;
      program = holds_program looked task.file tree tells g;
      input = holds_input looked task.input numbers tells h;
      report = w.0;
      text = subst (λ (t : List ℕ). Appends sent.before sent.after t) (rw (w.1, w.2) refl) sends;
    }

-- 0 of the report on loops
check_by : (file : List ℕ) (looked : Looked) (sent : Sent) (told : Told) (added : List (List ℕ)) (printed later : List ℕ)
    → TellsFiles looked → code_of told.status ≤ 2 → Appends sent.before sent.after (printed ++ later)
    → WholeBy (Some (check file)) looked added told printed later → HasReported file looked sent told
check_by file looked sent told added printed later tells le sends (by_words none w) = absurd (omega (arith, le, words_code told printed later w))
check_by file looked sent told added printed later tells le sends (by_file s f r names bad w) =
    absurd (omega (arith, le, refused_code r told printed later w, (bad_code s (outside_of looked) f added r bad).0))
check_by file looked sent told added printed later tells le sends (by_run (tree, g, d)) =
    let w = check_whole tree _ told printed later d refl in record {
      tree = tree;
      program = holds_program looked file tree tells g;
      report = w.0;
      text = subst (λ (t : List ℕ). Appends sent.before sent.after t) (rw (w.1, w.2) refl) sends;
    }

-- the same of a run in intervals
drive_by : (task : ReplayTask) (looked : Looked) (sent : Sent) (told : Told) (printed later : List ℕ) (tree : Program) (numbers : List ℤ) (lead : Lead)
    → code_of told.status ≤ 2 → Appends sent.before sent.after (printed ++ later)
    → HoldsProgram looked task.run.file tree → HoldsInput looked task.run.input numbers → HoldsLead looked task.links task.leader lead
    → DriveWhole tree (entries_in (planned_image tree) tree numbers task.run.turns) (meaning_of tree numbers task.run.turns)
    (IsLedReplay lead task.links (entries_in (planned_image tree) tree numbers task.run.turns)) task.run.memory task.log told printed later
    → HasReplayed task looked sent told
drive_by task looked sent told printed later tree numbers lead le sends program input led (is_ran l s ends er ep el) =
    let ran = meaning_of tree numbers task.run.turns in
    let el2 : l ≡ told.log = ap (λ (t : Told). t.log) (sym er) in record {
      tree = tree;
      numbers = numbers;
      lead = lead;
      program = program;
      input = input;
      led = led;
      replay = subst (λ (x : LogView). IsWholeReplay task.links lead (entries_in (planned_image tree) tree numbers task.run.turns) x) el2
          (record { whole = record { legal = s.legal; ended = ends }; replayed = s.replayed });
      report = er ∙ ap (finished ran) el2;
      text = subst (λ (x : LogView). Appends sent.before sent.after (run_text tree ran task.run.memory (where_asked task.log (log_text x)))) el2
          (subst (λ (t : List ℕ). Appends sent.before sent.after t) (rw (ep, el) refl) sends);
    }
drive_by task looked sent told printed later tree numbers lead le sends program input led (is_full l m few er ep el) =
    let is : code_of told.status ≡ 18 = ap (λ (t : Told). code_of t.status) er in
    absurd (omega (arith, is, le))

replay_by : (task : ReplayTask) (looked : Looked) (sent : Sent) (told : Told) (added : List (List ℕ)) (printed later : List ℕ)
    → TellsFiles looked → code_of told.status ≤ 2 → Appends sent.before sent.after (printed ++ later)
    → WholeBy (Some (replay task)) looked added told printed later → HasReplayed task looked sent told
replay_by task looked sent told added printed later tells le sends (by_words none w) = absurd (omega (arith, le, words_code told printed later w))
replay_by task looked sent told added printed later tells le sends (by_file s file r names bad w) =
    absurd (omega (arith, le, refused_code r told printed later w, (bad_code s (outside_of looked) file added r bad).0))
replay_by task looked sent told added printed later tells le sends (by_run (tree, numbers, lead, g, h, k, d)) =
    drive_by task looked sent told printed later tree numbers lead le sends
    (holds_program looked task.run.file tree tells g) (holds_input looked task.run.input numbers tells h) (holds_lead looked task.links task.leader lead tells k)
    (drive_whole _ _ _ _ _ _ _ told printed later d refl)

-- a trial's run ends without a trap, and no loop is out of turns
abbrev pub TrialsEnd : Type 0
TrialsEnd = (n : ℕ) → (trial_run n).end ≡ Done

-- 0 of a trial
tried_by : TrialsEnd → (n : ℕ) (sent : Sent) (told : Told) (printed later : List ℕ) → code_of told.status ≤ 2
    → Appends sent.before sent.after (printed ++ later) → TrialWhole n told printed later → HasTried n sent told
tried_by all_end n sent told printed later le sends (is_tried l s ends er ep el) =
    let is : l ≡ told.log = ap (λ (t : Told). t.log) (sym er) in
    let written = subst (λ (t : List ℕ). Appends sent.before sent.after t) (rw (ep, el) refl) sends in record {
      done = ap (λ (t : Told). t.status) er ∙ ap status_of (all_end n);
      report = er ∙ ap (finished (trial_run n)) is;
      replay = subst (IsTrialLog n) is s;
      ended = subst (λ (x : LogView). EndsAll (trial_entries n) (last_in x.intervals)) is ends;
      text = subst (λ (x : LogView). Appends sent.before sent.after (summary_text n (trial_run n).store x)) is written;
    }
tried_by all_end n sent told printed later le sends (is_full_trial l few er ep el) =
    let full : code_of told.status ≡ 18 = ap (λ (t : Told). code_of t.status) er in
    absurd (omega (arith, full, le))

trial_by : TrialsEnd → (n : ℕ) (looked : Looked) (sent : Sent) (told : Told) (added : List (List ℕ)) (printed later : List ℕ)
    → code_of told.status ≤ 2 → Appends sent.before sent.after (printed ++ later)
    → WholeBy (Some (trial n)) looked added told printed later → HasTried n sent told
trial_by all_end n looked sent told added printed later le sends (by_words none w) = absurd (omega (arith, le, words_code told printed later w))
trial_by all_end n looked sent told added printed later le sends (by_file s f r names bad w) =
    absurd (omega (arith, le, refused_code r told printed later w, (bad_code s (outside_of looked) f added r bad).0))
trial_by all_end n looked sent told added printed later le sends (by_run d) =
    tried_by all_end n sent told printed later le sends (trial_whole n _ told printed later d refl)

-- words that are no command have no status of a run
no_meaning : (looked : Looked) (sent : Sent) (told : Told) → (code_of told.status ≡ 10) ⊎ IsBrokenOff told → 2 < code_of told.status
no_meaning looked sent told (inl e) = omega (arith, e)
no_meaning looked sent told (inr (inl e)) = omega (arith, e)
no_meaning looked sent told (inr (inr e)) = omega (arith, e)

pub tells_meaning : TrialsEnd → OfEachCall TellsMeaning
tells_meaning all_end None looked sent told answers = no_meaning looked sent told (usage_always looked sent told answers)
tells_meaning all_end (Some (seq task)) looked sent told answers = λ tells le.
    let a = answered (Some (seq task)) looked sent told (λ f. omega (arith, le, f)) (λ f. omega (arith, le, f)) answers in
    seq_by task looked sent told a.added a.printed a.later tells le a.sends a.by
tells_meaning all_end (Some (check file)) looked sent told answers = λ tells le.
    let a = answered (Some (check file)) looked sent told (λ f. omega (arith, le, f)) (λ f. omega (arith, le, f)) answers in
    check_by file looked sent told a.added a.printed a.later tells le a.sends a.by
tells_meaning all_end (Some (replay task)) looked sent told answers = λ tells le.
    let a = answered (Some (replay task)) looked sent told (λ f. omega (arith, le, f)) (λ f. omega (arith, le, f)) answers in
    replay_by task looked sent told a.added a.printed a.later tells le a.sends a.by
tells_meaning all_end (Some (trial number)) looked sent told answers = λ le.
    let a = answered (Some (trial number)) looked sent told (λ f. omega (arith, le, f)) (λ f. omega (arith, le, f)) answers in
    trial_by all_end number looked sent told a.added a.printed a.later le a.sends a.by
