-- What is due of a command.
use Rattle.std.specs.Prelude.{◌≡◌, ◌≤◌, ℕ, Bool, if◌then◌else◌, ℤ, List, [], ◌++◌, length, None, Some}
use Rattle.std.specs.declared.option.Option.{Option}
use Rattle.nona_tree.specs.declared.trees.Program.{Program}
use Rattle.nona_tree.specs.Memory.{Memory, Extends}
use Rattle.nona_tree.specs.Run.{Ran, meaning_of}
use Rattle.morta_task.specs.Entries.{EntryView}
use Rattle.nona_gen.specs.OfSeen.{planned_image}
use Rattle.morta_task.specs.LogView.{LogView, empty_log}
use Rattle.morta_task.specs.Legal.{EndsAll, last_in}
use Rattle.nona_stages.specs.Seen.{seen_of}
use Rattle.nona_report.specs.Report.{report_text}
use Rattle.morta_text.specs.Texts.{number_lines, outcome_text, memory_text, log_text}
use Rattle.morta_exec.specs.Places.{most, IsBehind, StartsNext}
use Rattle.parcae.specs.declared.refusal.Refusal.TheVariants.{Usage}
use Rattle.parcae.specs.declared.refusal.Source.TheVariants as source
use Rattle.parcae.specs.declared.status.Status.TheVariants as status
use Rattle.parcae.specs.Words.{ReplayTask, Command, seq, check, replay, trial}
use Rattle.fate_io.specs.Outside.{Outside}
use Rattle.parcae.specs.Texts.{full_line}
use Rattle.parcae.specs.Told.{bare, logged, finished}
use Rattle.parcae.specs.Ends.{Way, Whole, Early, Unbegun}
use Rattle.parcae.specs.Files.{DueOf, IsBad, GivesProgram, GivesInput, NoInput, GivesLead, NoLead, refusing}
use Rattle.parcae.specs.Entered.{entries_in}
use Rattle.parcae.specs.Leads.{Lead, IsLedReplay}
use Rattle.parcae.specs.Trials.{DueOfTrial}

-- a text, where it is asked for
abbrev pub where_asked : Bool → List ℕ → List ℕ
where_asked asked text = if asked then text else []

-- what a run writes behind its printed numbers: its outcome, its memory where that is asked for, and the text of its log
abbrev pub behind_numbers : Program → Ran → Bool → List ℕ → List ℕ
behind_numbers tree ran memory log = outcome_text ran.end ++ (where_asked memory (memory_text tree ran.store) ++ log)

-- what is due of a run in one thread: its sequential meaning
pub data DueOfSeq (tree : Program) (ran : Ran) (memory : Bool) : Way → Type 0 where
  seq_ran : DueOfSeq tree ran memory (Whole (finished ran empty_log) (number_lines ran.store.printed) (behind_numbers tree ran memory []))
  seq_broken : DueOfSeq tree ran memory (Early empty_log (number_lines ran.store.printed))
  seq_unbegun : DueOfSeq tree ran memory (Unbegun empty_log)

-- What is due of a run in intervals with these entries, whose log stands: the sequential meaning and the whole log, which
-- isn't more than full; or, where the log is full and one more interval would start, the numbers printed up to there; or,
-- where something fails before, a front of the numbers printed at a place behind the log's intervals, which the sequential
-- meaning prints too.
pub data DueOfDrive (tree : Program) (es : List EntryView) (ran : Ran) (stands : LogView → Type 0) (memory log : Bool) : Way → Type 0 where
  drive_ran : (l : LogView) → stands l → EndsAll es (last_in l.intervals) → length l.intervals ≤ most
      → DueOfDrive tree es ran stands memory log
      (Whole (finished ran l) (number_lines ran.store.printed) (behind_numbers tree ran memory (where_asked log (log_text l))))
  drive_full : (l : LogView) (m : Memory) → stands l → length l.intervals ≡ most → StartsNext es l.intervals m
      → Extends m.printed ran.store.printed
      → DueOfDrive tree es ran stands memory log (Whole (logged status.LogFull l) (number_lines m.printed) full_line)
  drive_broken : (l : LogView) (m : Memory) → stands l → length l.intervals ≤ most → IsBehind es ran.store l.intervals m
      → Extends m.printed ran.store.printed → DueOfDrive tree es ran stands memory log (Early l (number_lines m.printed))
  drive_unbegun : DueOfDrive tree es ran stands memory log (Unbegun empty_log)

-- What is due of a replay over a program and an input that is led so, with loops of at most so many turns and links that
-- hold so many messages: the log stands where it is that of the replay.
abbrev pub DueOfReplay : Program → List ℤ → Lead → (turns links : ℕ) → (memory log : Bool) → Way → Type 0
DueOfReplay tree numbers lead turns links =
    DueOfDrive tree (entries_in (planned_image tree) tree numbers turns) (meaning_of tree numbers turns)
    (IsLedReplay lead links (entries_in (planned_image tree) tree numbers turns))

-- the same, with what a replay takes
abbrev pub DueOfTask : Program → List ℤ → Lead → ReplayTask → Way → Type 0
DueOfTask tree numbers lead task = DueOfReplay tree numbers lead task.run.turns task.links task.run.memory task.log

-- what is due of the report on the loops of a program: the whole report, of which nothing but a status is told
pub data DueOfCheck (tree : Program) : Way → Type 0 where
  check_ran : DueOfCheck tree (Whole (bare status.Done) [] (report_text (seen_of tree)))
  check_unbegun : DueOfCheck tree (Unbegun empty_log)

-- all files were read, and none of the reads failed
abbrev pub AllRead : (Way → Type 0) → List (List ℕ) → Way → Type 0
AllRead due added way = (added ≡ []) × due way

-- what is due of a replay once its program and its input are read: what leads comes next
abbrev pub DueOfLed : Outside → ReplayTask → Program → List ℤ → List (List ℕ) → Way → Type 0
DueOfLed outside task tree numbers =
    DueOf (NoLead outside task.leader) (GivesLead outside task.links task.leader) (λ lead. AllRead (DueOfTask tree numbers lead task))

-- what is due of a command: the program comes first, then the input, then what leads
abbrev pub DueOfCommand : Outside → Option Command → List (List ℕ) → Way → Type 0
DueOfCommand outside None added way = (added ≡ []) × (way ≡ refusing Usage)
DueOfCommand outside (Some (seq task)) added way =
    DueOf (IsBad source.Program outside task.file) (GivesProgram outside task.file) (λ tree.
    DueOf (NoInput outside task.input) (GivesInput outside task.input) (λ numbers.
    AllRead (DueOfSeq tree (meaning_of tree numbers task.turns) task.memory))) added way
DueOfCommand outside (Some (check file)) added way =
    DueOf (IsBad source.Program outside file) (GivesProgram outside file) (λ tree. AllRead (DueOfCheck tree)) added way
DueOfCommand outside (Some (replay task)) added way =
    DueOf (IsBad source.Program outside task.run.file) (GivesProgram outside task.run.file) (λ tree.
    DueOf (NoInput outside task.run.input) (GivesInput outside task.run.input) (DueOfLed outside task tree)) added way
DueOfCommand outside (Some (trial number)) added way = AllRead (DueOfTrial number) added way
