-- How a drive stops short.
use Rattle.std.specs.Prelude.{◌≡◌, length, List}
use Rattle.std.specs.Io.KnownBytes.{Appends}
use Rattle.nona_tree.specs.Memory.{Memory, Extends}
use Rattle.fate_io.specs.Causes.{Rose}
use Rattle.fate_io.specs.Putting.{AppendsFront}
use Rattle.fate_io.specs.Sending.{Sent}
use Rattle.morta_task.specs.declared.intervals.Interval.{Interval}
use Rattle.morta_task.specs.ImageView.{ImageView}
use Rattle.morta_task.specs.Entries.{EntryView}
use Rattle.morta_exec.specs.declared.fault.DriveFault.{DriveFault}
use Rattle.morta_exec.specs.declared.fault.DriveFault.TheVariants.{WriteFailed, LogFull, NoMemory}
use Rattle.morta_exec.specs.declared.start.Beginning.{Beginning}
use Rattle.morta_exec.specs.Began.{entries_from, run_from}
use Rattle.morta_text.specs.Texts.{number_lines}
use Rattle.morta_exec.specs.Places.{most, IsBehind, StartsNext}

-- The cause of a fault: the sink's count of faults rose; or the log is full, the next interval would start in this store,
-- and exactly the numbers printed up to there were put; want of memory has none.
abbrev pub HasCauseOf : DriveFault → List EntryView → List Interval → Memory → Sent → Type 0
HasCauseOf WriteFailed es is m sent = Rose sent.faults_before sent.faults
HasCauseOf LogFull es is m sent =
    (length is ≡ most) × StartsNext es is m × Appends sent.before sent.after (number_lines m.printed)
HasCauseOf NoMemory es is m sent = Unit {0}

-- A run with these entries and this store at its end stopped short behind these intervals: a front of the lines of the
-- numbers that are printed at a place behind them was put, and at the end of the run these are printed, and maybe more.
pub record StopsShort (es : List EntryView) (end : Memory) (is : List Interval) (sent : Sent) (fault : DriveFault) : Type 0 where
  pub place : Memory
  pub behind : IsBehind es end is place
  pub put : AppendsFront sent.before sent.after (number_lines place.printed)
  pub printed : Extends place.printed end.printed
  pub cause : HasCauseOf fault es is place sent

-- the run of an image from a beginning stopped short
abbrev pub RunStops : ImageView → Beginning → List Interval → Sent → DriveFault → Type 0
RunStops image from = StopsShort (entries_from image from) (run_from image from).store
