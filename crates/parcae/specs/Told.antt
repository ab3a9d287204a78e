-- A report as plain values.
use Rattle.std.specs.Prelude.{◌≡◌, None, Some, Ok, Err}
use Rattle.std.specs.declared.option.Option.{Option}
use Rattle.std.specs.declared.result.Result.{Result}
use Rattle.fate_io.specs.declared.sending.SendFault.{SendFault}
use Rattle.fate_io.specs.declared.sending.SendFault.TheVariants as fault
use Rattle.nona_tree.specs.declared.outcomes.Outcome.{Outcome}
use Rattle.nona_tree.specs.declared.outcomes.Outcome.TheVariants as outcome
use Rattle.nona_tree.specs.Memory.{Memory}
use Rattle.nona_tree.specs.Run.{Ran}
use Rattle.morta_task.specs.LogView.{LogView, empty_log}
use Rattle.nona_store.specs.declared.ended.Ended.{Ended}
use Rattle.parcae.specs.declared.status.Status.{Status}
use Rattle.parcae.specs.declared.status.Status.TheVariants as status
use Rattle.parcae.specs.declared.report.Report.{Report}

-- what a report tells: its status, the outcome and the store of a run, and the intervals that were logged
pub record Told : Type 0 where
  pub status : Status
  pub outcome : Option Outcome
  pub store : Option Memory
  pub log : LogView

-- a report, as contracts see it
abbrev pub told_of : Report → Told
told_of r = record { status = r.status; outcome = r.outcome; store = r.store; log = r.log }

-- a run that ended, as the meaning of programs has it
abbrev pub ran_of : Ended → Ran
ran_of run = record { store = run.store; end = run.outcome }

-- nothing but a status and a log
abbrev pub logged : Status → LogView → Told
logged s log = record { status = s; outcome = None; store = None; log = log }

-- nothing but a status
abbrev pub bare : Status → Told
bare s = logged s empty_log

-- the status of a run that ended so
abbrev pub status_of : Outcome → Status
status_of outcome.Done = status.Done
status_of (outcome.Trap t) = status.Trap
status_of (outcome.OutOfTurns at) = status.OutOfTurns

-- a run that ended, with its log
abbrev pub finished : Ran → LogView → Told
finished ran log = record { status = status_of ran.end; outcome = Some ran.end; store = Some ran.store; log = log }

-- the status of a call that a fault broke off
abbrev pub broken_status : SendFault → Status
broken_status fault.WriteFailed = status.WriteFailed
broken_status fault.NoMemory = status.NoMemory

-- a report, once what stands behind the printed numbers was sent with this result: a fault changes its status alone
abbrev pub once_sent : {T : Type 0} → Result T SendFault → Told → Told
once_sent (Ok x) report = report
once_sent (Err f) report = record report { status = broken_status f }

-- neither outcome nor store
pub record IsBare (told : Told) : Type 0 where
  pub outcome : told.outcome ≡ None
  pub store : told.store ≡ None

-- the outcome, the store and the log of another report
pub record Keeps (report told : Told) : Type 0 where
  pub outcome : told.outcome ≡ report.outcome
  pub store : told.store ≡ report.store
  pub log : told.log ≡ report.log
