-- What a whole call does.
use Rattle.std.specs.Prelude.{◌≡◌, ◌≢◌, ℕ, ◌≤◌, ℤ, List, [], ◌++◌, length, None, Some, Ok}
use Rattle.std.specs.declared.option.Option.{Option}
use Rattle.std.specs.Io.KnownBytes.{Appends}
use Rattle.fate_io.specs.Causes.{Rose}
use Rattle.fate_io.specs.Sending.{Sent}
use Rattle.nona_tree.specs.declared.trees.Program.{Program}
use Rattle.nona_tree.specs.Run.{meaning_of}
use Rattle.nona_store.specs.Input.{numbers_of}
use Rattle.morta_script.specs.declared.script.Command.{Command as Order}
use Rattle.morta_script.specs.Lines.{commands_of}
use Rattle.parcae.specs.declared.refusal.Source.{Source}
use Rattle.parcae.specs.declared.refusal.Source.TheVariants as source
use Rattle.parcae.specs.declared.status.Status.TheVariants.{NoMemory}
use Rattle.parcae.specs.Words.{Leader, by_script, by_control, Command, seq, check, replay, trial}
use Rattle.parcae.specs.Leads.{Lead, script_leads, control_leads}
use Rattle.parcae.specs.Trials.{DueOfTrial}
use Rattle.parcae.specs.Told.{Told}
use Rattle.parcae.specs.Accepted.{IsAccepted}
use Rattle.parcae.specs.Ends.{Way, Whole, Ends}
use Rattle.fate_io.specs.Reading.{Looked}
use Rattle.fate_io.specs.Outside.{outside_of}
use Rattle.parcae.specs.Files.{limit_of}
use Rattle.parcae.specs.Due.{DueOfCommand, DueOfSeq, DueOfCheck, DueOfTask}

-- a call ends as is due, with the names that it adds to those of failed reads
abbrev pub EndsIn : (List (List ℕ) → Way → Type 0) → Looked → Sent → Told → Type 0
EndsIn due looked sent told =
    (added : List (List ℕ)) × (looked.failed ≡ looked.failed_before ++ added) × Ends (due added) sent told

-- a command's call ends as is due of it
abbrev pub Answers : Option Command → Looked → Sent → Told → Type 0
Answers command looked = EndsIn (DueOfCommand (outside_of looked) command) looked

-- a file is held within its limit, with this content
abbrev pub Holds : Looked → Source → List ℕ → List ℕ → Type 0
Holds looked source file bytes = (looked.held file ≡ Some (Some bytes)) × (length bytes ≤ limit_of source)

-- a file is held that is this program
abbrev pub HoldsProgram : Looked → List ℕ → Program → Type 0
HoldsProgram looked file tree = (bytes : List ℕ) × Holds looked source.Program file bytes × IsAccepted bytes tree

-- a file is held that has these numbers; without a file there are none
abbrev pub HoldsInput : Looked → Option (List ℕ) → List ℤ → Type 0
HoldsInput looked None numbers = numbers ≡ []
HoldsInput looked (Some file) numbers = (bytes : List ℕ) × Holds looked source.Input file bytes × (numbers_of bytes ≡ Ok numbers)

-- a file is held that has these commands
abbrev pub HoldsScript : Looked → List ℕ → List Order → Type 0
HoldsScript looked file commands = (bytes : List ℕ) × Holds looked source.Script file bytes × (commands_of bytes ≡ Ok commands)

-- what leads a replay, with links that hold so many messages: the script that its file has; or a controller
abbrev pub HoldsLead : Looked → ℕ → Leader → Lead → Type 0
HoldsLead looked links (by_script file) lead = (commands : List Order) × HoldsScript looked file commands × (lead ≡ script_leads links commands)
HoldsLead looked links (by_control workers) lead = lead ≡ control_leads workers

-- nothing outside failed: no read, the sink at nothing, and memory was found
pub record IsCalm (looked : Looked) (sent : Sent) (told : Told) : Type 0 where
  pub reads : looked.failed ≡ looked.failed_before
  pub puts : ¬ (Rose sent.faults_before sent.faults)
  pub memory : told.status ≢ NoMemory

-- the call ends with a report and a whole text that are due
abbrev pub EndsWhole : (Way → Type 0) → Sent → Told → Type 0
EndsWhole due sent told =
    (printed later : List ℕ) × due (Whole told printed later) × Appends sent.before sent.after (printed ++ later)

-- A command whose files are held within their limits, with an accepted program, an input and a script, where it names one,
-- ends with what is due of its run, or of the report on its loops, whole, where nothing outside failed; so does a trial.
abbrev pub IsComplete : Option Command → Looked → Sent → Told → Type 0
IsComplete None looked sent told = Unit {0}
IsComplete (Some (seq task)) looked sent told =
    (tree : Program) (numbers : List ℤ) → HoldsProgram looked task.file tree → HoldsInput looked task.input numbers
    → IsCalm looked sent told → EndsWhole (DueOfSeq tree (meaning_of tree numbers task.turns) task.memory) sent told
IsComplete (Some (check file)) looked sent told =
    (tree : Program) → HoldsProgram looked file tree → IsCalm looked sent told → EndsWhole (DueOfCheck tree) sent told
IsComplete (Some (replay task)) looked sent told =
    (tree : Program) (numbers : List ℤ) (lead : Lead) → HoldsProgram looked task.run.file tree
    → HoldsInput looked task.run.input numbers → HoldsLead looked task.links task.leader lead → IsCalm looked sent told
    → EndsWhole (DueOfTask tree numbers lead task) sent told
IsComplete (Some (trial number)) looked sent told = IsCalm looked sent told → EndsWhole (DueOfTrial number) sent told
