-- The trial of a number: its program is replayed over its numbers, a controller asks for the intervals, and a summary is written.
use Rattle.std.specs.Prelude.{◌≡◌, ℕ, ◌≤◌, List, [], length}
use Rattle.nona_tree.specs.Memory.{Memory}
use Rattle.nona_tree.specs.Run.{Ran, meaning_of}
use Rattle.nona_gen.specs.OfSeen.{planned_image}
use Rattle.morta_task.specs.Entries.{EntryView}
use Rattle.morta_task.specs.Legal.{EndsAll, last_in}
use Rattle.morta_task.specs.LogView.{LogView, empty_log}
use Rattle.morta_exec.specs.declared.fault.DriveFault.{DriveFault}
use Rattle.morta_exec.specs.declared.fault.DriveFault.TheVariants.{WriteFailed, LogFull, NoMemory}
use Rattle.morta_exec.specs.Places.{most, StartsNext}
use Rattle.trial.specs.Numbers.{trial_numbers}
use Rattle.trial.specs.Tree.{trial_tree}
use Rattle.parcae.specs.declared.status.Status.TheVariants as status
use Rattle.parcae.specs.declared.trials.TheConstants.{TRIAL_WORKERS}
use Rattle.parcae.specs.declared.words.TheConstants.{DEFAULT_LINKS, DEFAULT_TURNS}
use Rattle.parcae.specs.Ends.{Way, Whole, Unbegun}
use Rattle.parcae.specs.Entered.{entries_in}
use Rattle.parcae.specs.Leads.{control_leads, IsLedReplay}
use Rattle.parcae.specs.Summary.{summary_text}
use Rattle.parcae.specs.Texts.{full_line}
use Rattle.parcae.specs.Told.{logged, finished}

-- what the program of the trials comes to over the numbers of the trial of a number
abbrev pub trial_run : ℕ → Ran
trial_run n = meaning_of trial_tree (trial_numbers n) DEFAULT_TURNS

-- the entries of that run
abbrev pub trial_entries : ℕ → List EntryView
trial_entries n = entries_in (planned_image trial_tree) trial_tree (trial_numbers n) DEFAULT_TURNS

-- a log is that of its replay under a controller, up to its last interval
abbrev pub IsTrialLog : ℕ → LogView → Type 0
IsTrialLog n = IsLedReplay (control_leads TRIAL_WORKERS) DEFAULT_LINKS (trial_entries n)

-- why the replay stopped short behind its log: one more interval would start though the log is full; or memory ran out
abbrev pub StopsTrial : ℕ → LogView → DriveFault → Type 0
StopsTrial n log WriteFailed = ⊥
StopsTrial n log LogFull = (length log.intervals ≡ most) × (m : Memory) × StartsNext (trial_entries n) log.intervals m
StopsTrial n log NoMemory = Unit {0}

-- What is due of the trial of a number: what its run comes to, the whole log, and the summary of both, and nothing of the
-- numbers that the program prints; or, where the log is full and one more interval would start, the line of that; or, where
-- memory runs out in the run or before it, nothing.
pub data DueOfTrial (n : ℕ) : Way → Type 0 where
  trial_ran : (l : LogView) → IsTrialLog n l → EndsAll (trial_entries n) (last_in l.intervals) → length l.intervals ≤ most
      → DueOfTrial n (Whole (finished (trial_run n) l) [] (summary_text n (trial_run n).store l))
  trial_full : (l : LogView) → IsTrialLog n l → StopsTrial n l LogFull → DueOfTrial n (Whole (logged status.LogFull l) [] full_line)
  trial_short : (l : LogView) → IsTrialLog n l → length l.intervals ≤ most → DueOfTrial n (Unbegun l)
  trial_unbegun : DueOfTrial n (Unbegun empty_log)
