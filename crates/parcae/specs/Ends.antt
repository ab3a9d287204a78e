-- How a call ends: with a text that was due, whole or broken off.
use Rattle.std.specs.Prelude.{◌≡◌, ℕ, List, [], ◌++◌}
use Rattle.std.specs.declared.result.Result.{Result}
use Rattle.std.specs.Io.KnownBytes.{Appends}
use Rattle.fate_io.specs.Causes.{Rose}
use Rattle.fate_io.specs.Sending.{Sent, Sends}
use Rattle.fate_io.specs.declared.sending.SendFault.{SendFault}
use Rattle.morta_task.specs.LogView.{LogView}
use Rattle.morta_exec.specs.declared.fault.DriveFault.{DriveFault}
use Rattle.morta_exec.specs.declared.fault.DriveFault.TheVariants as drive
use Rattle.parcae.specs.declared.status.Status.TheVariants as status
use Rattle.parcae.specs.declared.refusal.Stop.{Stop}
use Rattle.parcae.specs.declared.refusal.Stop.TheVariants as stop
use Rattle.parcae.specs.Texts.{refusal_line, refusal_status, full_line}
use Rattle.parcae.specs.Told.{Told, bare, logged, once_sent, IsBare, Keeps}

-- What may be due of a call. Where nothing outside fails, a whole text: the lines of printed numbers, and then what stands
-- behind them, with a report. Where something fails within the lines of printed numbers, a front of these lines, with a log.
-- Where memory runs out before anything is written, nothing, with the log so far.
pub data Way : Type 0 where
  Whole : (report : Told) → (printed behind : List ℕ) → Way
  Early : (log : LogView) → (printed : List ℕ) → Way
  Unbegun : (log : LogView) → Way

-- A call was broken off: a front of the lines of printed numbers was written, and the report has neither outcome nor store;
-- or all of these lines and a front of what was due behind them, and the report keeps what is due.
pub data Breaks (due : Way → Type 0) (sent : Sent) (told : Told) : Type 0 where
  within : (printed written rest : List ℕ) → due (Early told.log printed) → printed ≡ written ++ rest
      → Appends sent.before sent.after written → IsBare told → Breaks due sent told
  behind : (report : Told) → (printed later written rest : List ℕ) → due (Whole report printed later) → later ≡ written ++ rest
      → Appends sent.before sent.after (printed ++ written) → Keeps report told → Breaks due sent told

-- A call ends with a report and a text that were due; or is broken off by the sink, whose count of faults rose, or for want
-- of memory; or memory runs out before anything is written.
pub data Ends (due : Way → Type 0) (sent : Sent) (told : Told) : Type 0 where
  whole : (printed later : List ℕ) → due (Whole told printed later) → Appends sent.before sent.after (printed ++ later) → Ends due sent told
  write_failed : told.status ≡ status.WriteFailed → Breaks due sent told → Rose sent.faults_before sent.faults → Ends due sent told
  no_memory : told.status ≡ status.NoMemory → Breaks due sent told → Ends due sent told
  unbegun : told.status ≡ status.NoMemory → due (Unbegun told.log) → Appends sent.before sent.after [] → IsBare told → Ends due sent told

-- a text was sent behind the printed numbers with some result, and the report is this one, or has the status of the fault
abbrev pub SendsReport : Sent → Told → List ℕ → Told → Type 0
SendsReport sent report text told =
    (result : Result (Unit {0}) SendFault) × Sends sent text result × (told ≡ once_sent result report)

-- what a call does whose files give nothing: it sends the line of the refusal; or memory ran out, and nothing is written
abbrev pub GivesUp : Stop → Sent → Told → Type 0
GivesUp (stop.Refused r) sent told = SendsReport sent (bare (refusal_status r)) (refusal_line r) told
GivesUp stop.NoMemory sent told = (told ≡ bare status.NoMemory) × Appends sent.before sent.after []

-- nothing was written, and no put failed
pub record IsStill (sent : Sent) : Type 0 where
  pub written : sent.after ≡ sent.before
  pub faults : sent.faults ≡ sent.faults_before

-- What a call does behind a run that stopped short with this log: it sends the line of a full log; or nothing, where the sink
-- failed or memory ran out. It reports why.
abbrev pub EndsShort : DriveFault → LogView → Sent → Told → Type 0
EndsShort drive.WriteFailed log sent told = (told ≡ logged status.WriteFailed log) × IsStill sent
EndsShort drive.LogFull log sent told = SendsReport sent (logged status.LogFull log) full_line told
EndsShort drive.NoMemory log sent told = (told ≡ logged status.NoMemory log) × IsStill sent
