-- What each exit status tells of a call.
use Rattle.std.specs.Prelude.{◌≡◌, ◌⊎◌, ℕ, ◌<◌, ◌≤◌, Bool, ℤ, List, [], ◌∷◌, ◌++◌, length, None, Some, IsSome}
use Rattle.std.specs.declared.option.Option.{Option}
use Rattle.std.specs.Io.KnownBytes.{Appends}
use Rattle.fate_io.specs.Causes.{Rose}
use Rattle.fate_io.specs.Sending.{Sent}
use Rattle.nona_tree.specs.declared.trees.Program.{Program}
use Rattle.nona_tree.specs.Run.{Ran, meaning_of}
use Rattle.nona_gen.specs.OfSeen.{planned_image}
use Rattle.morta_task.specs.LogView.{LogView, empty_log}
use Rattle.morta_task.specs.Entries.{EntryView}
use Rattle.morta_task.specs.Legal.{IsWholeLog, EndsAll, last_in}
use Rattle.weave.specs.Replay.{IsReplayOf}
use Rattle.nona_stages.specs.Seen.{seen_of}
use Rattle.nona_report.specs.Report.{report_text}
use Rattle.morta_text.specs.Texts.{number_lines, log_text}
use Rattle.morta_exec.specs.Places.{most}
use Rattle.parcae.specs.declared.refusal.Source.{Source}
use Rattle.parcae.specs.declared.refusal.Source.TheVariants as source
use Rattle.parcae.specs.declared.refusal.Refusal.{Refusal}
use Rattle.parcae.specs.declared.refusal.Refusal.TheVariants as refusal
use Rattle.parcae.specs.declared.status.Status.TheVariants as status
use Rattle.parcae.specs.Words.{Task, Leader, by_script, by_control, ReplayTask, Command, seq, check, replay, trial}
use Rattle.parcae.specs.Codes.{code_of}
use Rattle.fate_io.specs.Reading.{Looked}
use Rattle.parcae.specs.Texts.{refusal_line, refusal_status, full_line}
use Rattle.parcae.specs.Told.{Told, bare, finished, IsBare}
use Rattle.parcae.specs.Files.{limit_of, Refuses}
use Rattle.parcae.specs.Due.{where_asked, behind_numbers}
use Rattle.parcae.specs.Entered.{entries_in}
use Rattle.parcae.specs.Leads.{Lead}
use Rattle.parcae.specs.Trials.{trial_run, IsTrialLog, trial_entries}
use Rattle.parcae.specs.Summary.{summary_text}
use Rattle.parcae.specs.Answers.{Answers, Holds, HoldsProgram, HoldsInput, HoldsLead}

-- a statement is true of each call that answers
abbrev pub OfEachCall : (Option Command → Looked → Sent → Told → Type 0) → Type 0
OfEachCall P = (command : Option Command) (looked : Looked) (sent : Sent) (told : Told) → Answers command looked sent told → P command looked sent told

-- a shelf tells of each name what it holds
abbrev pub TellsFiles : Looked → Type 0
TellsFiles looked = (name : List ℕ) → IsSome (looked.held name)

-- the file of a script that is to lead
abbrev pub script_named : Leader → Option (List ℕ)
script_named (by_script file) = Some file
script_named (by_control workers) = None

-- the file that a command names as its program, its input or its script
abbrev pub named : Option Command → Source → Option (List ℕ)
named None source = None
named (Some (seq task)) source.Program = Some task.file
named (Some (seq task)) source.Input = task.input
named (Some (seq task)) source.Script = None
named (Some (check file)) source.Program = Some file
named (Some (check file)) source.Input = None
named (Some (check file)) source.Script = None
named (Some (replay task)) source.Program = Some task.run.file
named (Some (replay task)) source.Input = task.run.input
named (Some (replay task)) source.Script = script_named task.leader
named (Some (trial number)) source = None

-- exactly the line of a refusal was written, and its status is all that is told
abbrev pub Says : Refusal → Sent → Told → Type 0
Says r sent told = (told ≡ bare (refusal_status r)) × Appends sent.before sent.after (refusal_line r)

-- the sink or memory broke a call off
abbrev pub IsBrokenOff : Told → Type 0
IsBrokenOff told = (code_of told.status ≡ 15) ⊎ (code_of told.status ≡ 16)

-- 10 comes exactly where the words are no command, unless that line was broken off
pub record TellsUsage (command : Option Command) (looked : Looked) (sent : Sent) (told : Told) : Type 0 where
  pub only : code_of told.status ≡ 10 → command ≡ None
  pub always : command ≡ None → (code_of told.status ≡ 10) ⊎ IsBrokenOff told

-- a file of a command is held within its limit, its text is refused by its first fault, and that was said
pub record HasFault (source : Source) (command : Option Command) (looked : Looked) (sent : Sent) (told : Told) : Type 0 where
  pub file : List ℕ
  pub bytes : List ℕ
  pub refusal : Refusal
  pub names : named command source ≡ Some file
  pub holds : Holds looked source file bytes
  pub refuses : Refuses source bytes refusal
  pub says : Says refusal sent told

-- a code comes with the first fault of the text of this file
abbrev pub TellsFault : ℕ → Source → Option Command → Looked → Sent → Told → Type 0
TellsFault code source command looked sent told =
    TellsFiles looked → code_of told.status ≡ code → HasFault source command looked sent told

-- a file of a command couldn't be read: its name alone was added to those of failed reads, and that was said
pub record HasFailedRead (command : Option Command) (looked : Looked) (sent : Sent) (told : Told) : Type 0 where
  pub source : Source
  pub file : List ℕ
  pub names : named command source ≡ Some file
  pub added : looked.failed ≡ looked.failed_before ++ file ∷ []
  pub says : Says (refusal.Failed source) sent told

-- 14 names the file that couldn't be read
abbrev pub TellsFailedRead : Option Command → Looked → Sent → Told → Type 0
TellsFailedRead command looked sent told = code_of told.status ≡ 14 → HasFailedRead command looked sent told

-- 15 comes only where the sink's count of faults rose
abbrev pub TellsFailedWrite : Option Command → Looked → Sent → Told → Type 0
TellsFailedWrite command looked sent told = code_of told.status ≡ 15 → Rose sent.faults_before sent.faults

-- a file of a command is held that is longer than its limit, and that was said
pub record HasLongFile (command : Option Command) (looked : Looked) (sent : Sent) (told : Told) : Type 0 where
  pub source : Source
  pub file : List ℕ
  pub bytes : List ℕ
  pub names : named command source ≡ Some file
  pub holds : looked.held file ≡ Some (Some bytes)
  pub exceeds : limit_of source < length bytes
  pub says : Says (refusal.Long source) sent told

-- 17 comes only where a file is held that is too long
abbrev pub TellsLongFile : Option Command → Looked → Sent → Told → Type 0
TellsLongFile command looked sent told =
    TellsFiles looked → code_of told.status ≡ 17 → HasLongFile command looked sent told

-- the log is full, and exactly that was written, behind the lines of printed numbers
pub record HasFullLog (sent : Sent) (told : Told) : Type 0 where
  pub full : length told.log.intervals ≡ most
  pub bare : IsBare told
  pub printed : List ℤ
  pub text : Appends sent.before sent.after (number_lines printed ++ full_line)

-- 18 comes only with a full log
abbrev pub TellsFullLog : Option Command → Looked → Sent → Told → Type 0
TellsFullLog command looked sent told = code_of told.status ≡ 18 → HasFullLog sent told

-- what a run writes: its printed numbers, its outcome, its memory where that is asked for, and the text of its log
abbrev pub run_text : Program → Ran → Bool → List ℕ → List ℕ
run_text tree ran memory log = number_lines ran.store.printed ++ behind_numbers tree ran memory log

-- the log of a whole run with these entries is the replay that is led so, with links that hold so many messages: it is
-- legal, each request is the lead's, and each interval did what the lead's commands say
pub record IsWholeReplay (links : ℕ) (lead : Lead) (es : List EntryView) (log : LogView) : Type 0 where
  pub whole : IsWholeLog (λ e so_far ask. ask ≡ lead.asks e so_far) es log
  pub replayed : IsReplayOf links lead.commands log

-- A run in one thread ended: its program and its input are held, the report is that of its sequential meaning, and exactly
-- its text was written.
pub record HasRunInSequence (task : Task) (looked : Looked) (sent : Sent) (told : Told) : Type 0 where
  pub tree : Program
  pub numbers : List ℤ
  pub program : HoldsProgram looked task.file tree
  pub input : HoldsInput looked task.input numbers
  pub report : told ≡ finished (meaning_of tree numbers task.turns) empty_log
  pub text : Appends sent.before sent.after (run_text tree (meaning_of tree numbers task.turns) task.memory [])

-- The same of a replay, whose script is held, where it has one, and whose log is told.
pub record HasReplayed (task : ReplayTask) (looked : Looked) (sent : Sent) (told : Told) : Type 0 where
  pub tree : Program
  pub numbers : List ℤ
  pub lead : Lead
  pub program : HoldsProgram looked task.run.file tree
  pub input : HoldsInput looked task.run.input numbers
  pub led : HoldsLead looked task.links task.leader lead
  pub replay : IsWholeReplay task.links lead (entries_in (planned_image tree) tree numbers task.run.turns) told.log
  pub report : told ≡ finished (meaning_of tree numbers task.run.turns) told.log
  pub text : Appends sent.before sent.after
      (run_text tree (meaning_of tree numbers task.run.turns) task.run.memory (where_asked task.log (log_text told.log)))

-- The loops of a program were reported on: it is held, nothing but the status 0 is told, and exactly the report was written.
pub record HasReported (file : List ℕ) (looked : Looked) (sent : Sent) (told : Told) : Type 0 where
  pub tree : Program
  pub program : HoldsProgram looked file tree
  pub report : told ≡ bare status.Done
  pub text : Appends sent.before sent.after (report_text (seen_of tree))

-- The trial of a number was replayed: what its program comes to is told, with the status 0, the log is that of the whole
-- replay, and exactly the summary was written.
pub record HasTried (number : ℕ) (sent : Sent) (told : Told) : Type 0 where
  pub done : told.status ≡ status.Done
  pub report : told ≡ finished (trial_run number) told.log
  pub replay : IsTrialLog number told.log
  pub ended : EndsAll (trial_entries number) (last_in told.log.intervals)
  pub text : Appends sent.before sent.after (summary_text number (trial_run number).store told.log)

-- 0, 1 and 2 come with the sequential meaning of the program, or 0 with the report on its loops or the summary of a trial,
-- and only of a command
abbrev pub TellsMeaning : Option Command → Looked → Sent → Told → Type 0
TellsMeaning None looked sent told = 2 < code_of told.status
TellsMeaning (Some (seq task)) looked sent told = TellsFiles looked → code_of told.status ≤ 2 → HasRunInSequence task looked sent told
TellsMeaning (Some (check file)) looked sent told = TellsFiles looked → code_of told.status ≤ 2 → HasReported file looked sent told
TellsMeaning (Some (replay task)) looked sent told = TellsFiles looked → code_of told.status ≤ 2 → HasReplayed task looked sent told
TellsMeaning (Some (trial number)) looked sent told = code_of told.status ≤ 2 → HasTried number sent told

-- while what was written ends before the end of the printed numbers' lines, neither outcome nor store are told; behind it both
pub record IsCutBy (ran : Ran) (written : List ℕ) (told : Told) : Type 0 where
  pub before : length written < length (number_lines ran.store.printed) → IsBare told
  pub behind : length (number_lines ran.store.printed) < length written → (told.outcome ≡ Some ran.end) × (told.store ≡ Some ran.store)

-- no read failed, the call was broken off, and the sink tells that these bytes were written
pub record IsCut (looked : Looked) (sent : Sent) (told : Told) (written : List ℕ) : Type 0 where
  pub reads : looked.failed ≡ looked.failed_before
  pub broken : IsBrokenOff told
  pub front : List ℕ
  pub before : sent.before ≡ Some front
  pub after : sent.after ≡ Some (front ++ written)

-- bytes are a front of a text
abbrev pub IsFront : List ℕ → List ℕ → Type 0
IsFront written text = (rest : List ℕ) × (text ≡ written ++ rest)

-- A trial was broken off: for want of memory in its run, or before it, where nothing was written and neither outcome nor store
-- are told; behind its run, where both are, and a front of the summary was written; or where the log is full, and neither is told.
pub data IsCutTrial (number : ℕ) (written : List ℕ) (told : Told) : Type 0 where
  before_summary : told.status ≡ status.NoMemory → IsBare told → written ≡ [] → IsCutTrial number written told
  in_summary : told.outcome ≡ Some (trial_run number).end → told.store ≡ Some (trial_run number).store
      → IsFront written (summary_text number (trial_run number).store told.log) → IsCutTrial number written told
  in_full_log : IsBare told → length told.log.intervals ≡ most → IsCutTrial number written told

-- After 15 and 16 outcome and store are both told or neither, by what was written; where the log is full, neither. Of the report on
-- loops neither is ever told, and what was written is a front of it.
abbrev pub TellsFront : Option Command → Looked → Sent → Told → Type 0
TellsFront None looked sent told = IsBare told
TellsFront (Some (seq task)) looked sent told =
    (tree : Program) (numbers : List ℤ) (written : List ℕ) → HoldsProgram looked task.file tree → HoldsInput looked task.input numbers
    → IsCut looked sent told written → IsCutBy (meaning_of tree numbers task.turns) written told
TellsFront (Some (check file)) looked sent told =
    IsBare told × ((tree : Program) (written : List ℕ) → HoldsProgram looked file tree → IsCut looked sent told written
    → IsFront written (report_text (seen_of tree)))
TellsFront (Some (replay task)) looked sent told =
    (tree : Program) (numbers : List ℤ) (lead : Lead) (written : List ℕ) → HoldsProgram looked task.run.file tree
    → HoldsInput looked task.run.input numbers → HoldsLead looked task.links task.leader lead → IsCut looked sent told written
    → (IsBare told × (length told.log.intervals ≡ most)) ⊎ IsCutBy (meaning_of tree numbers task.run.turns) written told
TellsFront (Some (trial number)) looked sent told = (written : List ℕ) → IsCut looked sent told written → IsCutTrial number written told
